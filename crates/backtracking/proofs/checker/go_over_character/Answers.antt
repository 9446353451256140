use Rattle.std.proofs.Common.{true}
use Rattle.fancy_syntax.specs.View.{view}
use Rattle.backtracking.proofs.WayLemmas.{known, went_one}
use Rattle.backtracking.proofs.checker.go_over_character.Goals as goal

pub returns : goal.returns
returns c =
    went_one c.args.unicode (view c.args.tree.now) c.in-Some.c.now c.args.from.decisions.now c.args.from.text.now c.in-Some.text.now
    c.in-Some.ensures.cases.0 (known _ _ c.in-Some.c.now _ c.in-Some-true.field-0 true c.in-Some-true.is c.in-Some-true.field-0-test c.in_ok-may_match.ensures)
