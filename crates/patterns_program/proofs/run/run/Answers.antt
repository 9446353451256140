use Rattle.std.proofs.Common.{◌≡◌, refl, sym, subst, Bool, true, false, not, List, length, ◌==◌, chars, All, IsTrue}
use Rattle.std.specs.Cmp.{unsigned_Decides}
use Rattle.std.specs.List.{AllWithin}
use Rattle.std.proofs.lemmas.List.Elements.{AllWithin-none, All-from_all_within}
use Rattle.fancy_lex.specs.Flags.{flags_of}
use Rattle.fancy_syntax.specs.InfoViews.{HasTree}
use Rattle.patterns_program.proofs.run.run.Goals as goal

-- P holds of each element, if it does where there are some
if_some : {X : Type 0} (P : X → Type 0) (xs : List X) (is_empty : Bool) → is_empty ≡ (length xs == 0) →
    (IsTrue (not is_empty) → All P xs) → All P xs
if_some P xs true e h =
    All-from_all_within P xs
    (subst (AllWithin P xs 0) (sym ((unsigned_Decides (length xs) 0).0 (sym e))) (AllWithin-none P xs 0))
if_some P xs false e h = h refl

pub returns-in-Ok-clause-accepted : goal.returns-in-Ok-clause-accepted
returns-in-Ok-clause-accepted g c = λ zero is_check has_flags.
    if_some (λ pattern. HasTree (flags_of c.args.job.choices.flags) (chars pattern.now)) c.args.job.patterns.now
    c.is_empty.result c.is_empty.ensures
    (λ there. c.run_plan.ensures.accepted (c.in-Ok.ensures.arguments (c.run_plan.ensures.complete zero) there) zero
    is_check has_flags)
