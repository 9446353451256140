use Rattle.std.proofs.Common.{length, refl, sym, ◌∙◌}
use Rattle.std.proofs.lemmas.Bool.{ltb-true}
use Rattle.std.proofs.lemmas.Option.{slice_get_read}
use Rattle.patterns_lint.proofs.EmptyLemmas.{everywhere_at}
use Rattle.patterns_lint.proofs.branches.Earlier.matching_everywhere.Goals as goal

pub returns-then-matches_everywhere-clause-matches :
    goal.returns-then-matches_everywhere-clause-matches
returns-then-matches_everywhere-clause-matches c = λ u.
    let es = c.args.earlier.now in
    let i = c.in_ok-i.i in
    let one = c.in_ok-one.one.now in
    let read = c.in_ok-one.ensures.lookup in
    everywhere_at u es i one (slice_get_read es (length es) i one refl (ltb-true i (length es) (sym read.0)) read.1)
    (sym c.matches_everywhere.ensures ∙ c.if-matches_everywhere.true)
