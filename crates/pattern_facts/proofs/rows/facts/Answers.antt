use Rattle.std.proofs.Common.{subst}
use Rattle.fancy_syntax.specs.View.{view}
use Rattle.pattern_facts.specs.Known.{Adds}
use Rattle.pattern_facts.specs.Nodes.{nodes_of}
use Rattle.pattern_facts.proofs.MatchLemmas.{rows_of_facts}
use Rattle.pattern_facts.proofs.RowLemmas.{adds_all}
use Rattle.pattern_facts.proofs.rows.facts.Goals as goal

pub returns : goal.returns
returns c =
    let nodes = nodes_of (view c.args.tree.now) in
    let rows = c.add_node.new.rows.items in
    rows_of_facts c.args.unicode nodes rows
    (adds_all c.args.unicode nodes rows
    (subst (λ old. Adds c.args.unicode nodes old rows) c.new-rows.ensures.items c.in_ok-add_node.ensures.rows))
