use Rattle.std.proofs.Common.{arith, string_bytes}
use Rattle.fancy_syntax.specs.View.{view}
use Rattle.fancy_c.proofs.FactLemmas.{facts_of_tree}
use Rattle.fancy_c.proofs.facts.facts_of_tree.Goals as goal

pub returns : goal.returns
returns c =
    facts_of_tree c.args.unicode (view c.args.tree.now) c.in_ok-rows.rows.items c.in_ok-prefix.prefix
    (string_bytes c.in_ok-text.text) _ _ _ _ _ c.in_ok-rows.ensures c.in_ok-prefix.ensures c.in_ok-text.ensures
    (omega (arith, c.len.ensures, c.in_ok-rows.rows.ok.0)) (omega (arith, c.len-2.ensures)) c.is_some.ensures
    c.is_whole.ensures c.is_easy.ensures
