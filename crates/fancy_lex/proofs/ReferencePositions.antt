-- The positions of references and calls: at the start of what their readers read.
use Rattle.std.proofs.Common.{◌≡◌, ℕ, Bool, Option, Some, None, option_map, refl}
use Rattle.std.proofs.lemmas.Bool.{cond_both}
use Rattle.fancy_lex.specs.Delimited.{delimited_name, of_name}
use Rattle.fancy_lex.specs.EscapeReference.{group_number, numbered_reference, back_reference, call_target, written_call}
use Rattle.fancy_lex.specs.EscapeReference.{delimited_call, numbered_call, subroutine_call}
use Rattle.fancy_lex.specs.IdReference.{IdReference, id_alone, id_and_amount, amount_alone, id_reference}
use Rattle.fancy_lex.specs.Number.{at_digit}
use Rattle.fancy_lex.specs.Reading.{Reading, gives, fails, ◌>=>◌}
use Rattle.fancy_lex.specs.Referred.{Reference, Call, call_to, reference_to, reference_of, written_reference}
use Rattle.fancy_lex.specs.Referred.{name_reading, reference_by_name}
use Rattle.fancy_lex.specs.Target.{Target, by_number}
use Rattle.fancy_lex.specs.Text.{Text, reach_of}

-- P holds of the value of the reading
abbrev pub IfGives : {A : Type 0} → (A → Type 0) → Reading A → Type 0
IfGives P (gives a u) = P a
IfGives P (fails e) = Unit {0}

-- P holds of the value, since it holds of each value
if_gives : {A B : Type 0} (P : B → Type 0) (f : A → B) (o : Reading A) → ((a : A) → P (f a)) →
    IfGives P (o >=> (λ a u. gives (f a) u))
if_gives P f (gives a u) h = h a
if_gives P f (fails e) h = tt

module _ (p : ℕ) where
  abbrev pub ReferenceAt : Reference → Type 0
  ReferenceAt r = r.reach ≡ p

  abbrev pub CallAt : Call → Type 0
  CallAt c = c.reach ≡ p

  reference_of_at : (w : IdReference) → ReferenceAt (reference_of p w)
  unfolding reference_of
  reference_of_at (id_alone w) = refl
  reference_of_at (id_and_amount w z) = refl
  reference_of_at (amount_alone z) = refl

  -- the same for the value of a name
  pub named_at : {A : Type 0} (P : A → Type 0) (f : Text → Option A) (o : Option (Text × Text)) →
      ((w : Text) (a : A) → f w ≡ Some a → P a) → IfGives P (name_reading p (of_name f o))
  named_at P f None h = tt
  named_at {A} P f (Some (w, u)) h = at (f w) refl where
    at : (a : Option A) → f w ≡ a → IfGives P (name_reading p (option_map (λ a. (a, u)) a))
    at None e = tt
    at (Some a) e = h w a e

  written_at : (amounts : Bool) (w : Text) (r : Reference) → written_reference p amounts w ≡ Some r → ReferenceAt r
  unfolding written_reference
  written_at amounts w r e = at (id_reference amounts w) e where
    at : (o : Option IdReference) → option_map (reference_of p) o ≡ Some r → ReferenceAt r
    at None e = absurd cc
    at (Some i) e = let same : reference_of p i ≡ r = cc in rw (← same) (reference_of_at i)

  pub reference_by_name_at : (amounts : Bool) (o : Option (Text × Text)) →
      IfGives ReferenceAt (reference_by_name p amounts o)
  unfolding reference_by_name
  reference_by_name_at amounts o = named_at ReferenceAt (written_reference p amounts) o (written_at amounts)

  pub call_to_at : (g : Option Target) (c : Call) → option_map (call_to p) g ≡ Some c → CallAt c
  call_to_at None c e = absurd cc
  call_to_at (Some g) c e = let same : call_to p g ≡ c = cc in rw (← same) refl

  written_call_at : (w : Text) (c : Call) → written_call p w ≡ Some c → CallAt c
  unfolding written_call
  written_call_at w c e = call_to_at (call_target w) c e

  delimited_call_at : (t : Text) → IfGives CallAt (name_reading p (delimited_call p t))
  unfolding delimited_call
  delimited_call_at t = named_at CallAt (written_call p) (delimited_name t) written_call_at

module _ (t : Text) where
  pub numbered_reference_at : IfGives (ReferenceAt (reach_of t)) (numbered_reference t)
  unfolding numbered_reference
  numbered_reference_at =
      if_gives (ReferenceAt (reach_of t)) (λ k. reference_to (reach_of t) (by_number k) None) (group_number t)
      (λ k. refl)

  pub back_reference_at : IfGives (ReferenceAt (reach_of t)) (back_reference t)
  unfolding back_reference
  back_reference_at = reference_by_name_at (reach_of t) _ (delimited_name t)

  numbered_call_at : IfGives (CallAt (reach_of t)) (numbered_call t)
  unfolding numbered_call
  numbered_call_at = if_gives (CallAt (reach_of t)) (λ k. call_to (reach_of t) (by_number k)) (group_number t)
      (λ k. refl)

  pub subroutine_call_at : IfGives (CallAt (reach_of t)) (subroutine_call t)
  unfolding subroutine_call
  subroutine_call_at =
      cond_both (at_digit t) _ _ (IfGives (CallAt (reach_of t))) (λ _. numbered_call_at)
      (λ _. delimited_call_at (reach_of t) t)
