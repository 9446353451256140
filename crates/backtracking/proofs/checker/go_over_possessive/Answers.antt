use Rattle.std.proofs.Common.{drop, ◌∙◌}
use Rattle.std.proofs.lemmas.List.{take_rest}
use Rattle.fancy_syntax.specs.View.{view}
use Rattle.backtracking.specs.TwoWays.{IsLongest}
use Rattle.backtracking.proofs.WayLemmas.{at_some, went_possessive}
use Rattle.backtracking.proofs.checker.go_over_possessive.Goals as goal

pub returns : goal.returns
returns c =
    let text = c.args.from.text.now in
    went_possessive c.args.unicode (view c.args.tree.now) c.in-Some.count c.args.lo c.args.hi c.args.from.decisions.now text
    c.in-Some-get.text.now (c.in-Some-get.ensures.lookup.0.2 ∙ take_rest text c.in-Some.count)
    (at_some (λ n. IsLongest c.args.unicode (view c.args.tree.now) n text (drop n text)) _ c.in-Some.count c.in-Some.is c.in_ok-count.ensures)
    c.if-count-lo.false c.if-count-hi.false
