-- What holds of every name and reference in the opening of a group: the rest of the text is a suffix after some
-- characters, and the error is at the start of the text, or one byte before it.
use Rattle.std.proofs.Common.{◌≡◌, ℕ, ◌+◌, true, false, [], ◌∷◌, Option, Some, None, option_map, refl, arith}
use Rattle.std.proofs.lemmas.Bool.{cond_both}
use Prim.Native.Char.{code}
use Rattle.fancy_lex.specs.Characters.{◌∈◌}
use Rattle.fancy_lex.specs.Delimited.{name_before}
use Rattle.fancy_lex.specs.Referred.{name_reading, target_of_name}
use Rattle.fancy_lex.specs.Text.{Text, strip, reach_of}
use Rattle.fancy_lex.proofs.TextLemmas.{strip_is}
use Rattle.fancy_lex.proofs.ReferenceLaws.{takes_name, takes_delimited_name, takes_by_name, takes_reference_by_name}
use Rattle.fancy_lex.proofs.ReferencePositions.{IfGives, ReferenceAt, CallAt, named_at, call_to_at, reference_by_name_at}
use Rattle.fancy_lex.proofs.TakeLaws.{Takes, TakesSome, TakesOrFails, takes, fails_at, takes_on}
use Rattle.fancy_lex.proofs.TakeLaws.{takes_less_some}
use Rattle.fancy_lex.specs.GroupName.{group_name}
use Rattle.fancy_lex.specs.GroupReference.{named_reference, call_of, named_call, condition_name, with_close_paren}
use Rattle.fancy_lex.specs.GroupReference.{condition_target}

pub takes_strip : (c : ℕ) (t u : Text) → strip c t ≡ Some u → Takes 1 t u
takes_strip c t u e = record { word = c ∷ []; cut = strip_is c t u e; long = omega arith }

-- the closing parenthesis after a name
takes_close_paren : (t : Text) (o : Option (Text × Text)) → TakesSome 3 t o → TakesSome 4 t (with_close_paren o)
takes_close_paren t None h = tt
takes_close_paren t (Some (w, u)) h = at (strip (code ")") u) refl where
  at : (o : Option Text) → strip (code ")") u ≡ o → TakesSome 4 t (option_map (λ v. (w, v)) o)
  at None e = tt
  at (Some v) e = takes_on (omega arith) h (takes_strip (code ")") u v e)

pub takes_condition_name : (t : Text) → TakesSome 2 t (condition_name t)
unfolding condition_name
takes_condition_name [] = tt
takes_condition_name (c ∷ t) =
    cond_both (c ∈ "'<") _ _ (TakesSome 2 (c ∷ t))
    (λ _. takes_less_some 2 4 (c ∷ t) _ (omega arith) (takes_close_paren (c ∷ t) _ (takes_delimited_name (c ∷ t))))
    (λ _. takes_name (code ")") (c ∷ t))

pub takes_group_name : (delimiter : ℕ) (t u : Text) → TakesOrFails (reach_of t + 1) 2 u (group_name delimiter t u)
unfolding group_name
takes_group_name delimiter t u = at (name_before delimiter u) (takes_name delimiter u) where
  at : (o : Option (Text × Text)) → TakesSome 2 u o →
      TakesOrFails (reach_of t + 1) 2 u (name_reading (reach_of t + 1) o)
  at None h = fails_at refl
  at (Some p) h = takes h

pub takes_named_reference : (t : Text) → TakesOrFails (reach_of t) 2 t (named_reference t)
unfolding named_reference
takes_named_reference t = takes_reference_by_name 2 t false (name_before (code ")") t) (takes_name (code ")") t)

pub takes_named_call : (t : Text) → TakesOrFails (reach_of t) 2 t (named_call t)
unfolding named_call
takes_named_call t =
    takes_by_name 2 t t (call_of (reach_of t)) (name_before (code ")") t) (takes_name (code ")") t)

pub takes_condition_target : (t : Text) → TakesOrFails (reach_of t) 2 t (condition_target t)
unfolding condition_target
takes_condition_target t = takes_reference_by_name 2 t true (condition_name t) (takes_condition_name t)

module _ (t : Text) where
  pub named_reference_at : IfGives (ReferenceAt (reach_of t)) (named_reference t)
  unfolding named_reference
  named_reference_at = reference_by_name_at (reach_of t) false (name_before (code ")") t)

  pub named_call_at : IfGives (CallAt (reach_of t)) (named_call t)
  unfolding named_call
  named_call_at =
      let p = reach_of t in
      named_at p (CallAt p) (call_of p) (name_before (code ")") t) (λ w. call_to_at p (Some (target_of_name w)))

  pub condition_target_at : IfGives (ReferenceAt (reach_of t)) (condition_target t)
  unfolding condition_target
  condition_target_at = reference_by_name_at (reach_of t) true (condition_name t)
