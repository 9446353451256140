-- What holds of every name and reference: the rest of the text is a suffix after some characters, and the error is at
-- the start of the text.
use Rattle.std.proofs.Common.{Bool, ◌≡◌, ℕ, ◌^◌, nat_lt, true, ◌==◌, [], ◌∷◌, ◌++◌, length-append}
use Rattle.std.proofs.Common.{append_assoc, Option, Some, None, IfSome, option_map, refl, ap, sym, ◌∙◌, arith, false}
use Rattle.std.proofs.Common.{if◌then◌else◌}
use Rattle.std.specs.Option.{option_and_then}
use Rattle.std.proofs.lemmas.Bool.Decides.{nat_tests}
use Rattle.fancy_lex.specs.Id.{nonempty_front}
use Rattle.std.proofs.lemmas.Bool.{cond_both}
use Prim.Native.Char.{code}
use Rattle.fancy_lex.specs.Delimited.{name_before, delimited_name, of_name}
use Rattle.fancy_lex.specs.EscapeReference.{number_reading, group_number, numbered_reference, back_reference}
use Rattle.fancy_lex.specs.EscapeReference.{written_call, delimited_call, numbered_call, subroutine_call}
use Rattle.fancy_lex.specs.ErrorTable.{number_too_great}
use Rattle.fancy_lex.specs.Number.{number, at_digit}
use Rattle.fancy_lex.specs.Reading.{fails, choose}
use Rattle.fancy_lex.specs.Referred.{call_to, reference_to, name_reading, reference_by_name, written_reference}
use Rattle.fancy_lex.specs.Target.{by_number}
use Rattle.fancy_lex.specs.Text.{Text, cut_at, reach_of}
use Rattle.fancy_lex.proofs.NumberLemmas.{digits_of, number_taken}
use Rattle.fancy_lex.proofs.TakeLaws.{Takes, TakesSome, TakesOrFails, takes, fails_at, takes_on, takes_one, takes_if}
use Rattle.fancy_lex.proofs.TakeLaws.{takes_as, takes_less}

-- the text is the text before the delimiter, the delimiter, and the text after it
abbrev pub IsCut : ℕ → Text → Option (Text × Text) → Type 0
IsCut delimiter t o = IfSome o (λ p. t ≡ p.0 ++ delimiter ∷ p.1)

pub cut_is : (delimiter : ℕ) (t : Text) → IsCut delimiter t (cut_at delimiter t)
cut_is delimiter [] = tt
cut_is delimiter (c ∷ t) = at (c == delimiter) refl (cut_at delimiter t) (cut_is delimiter t) where
  at : (b : Bool) → (c == delimiter) ≡ b → (o : Option (Text × Text)) → IsCut delimiter t o →
      IsCut delimiter (c ∷ t) (if b then Some ([], t) else option_map (λ p. (c ∷ p.0, p.1)) o)
  at true s o h = let same : c ≡ delimiter = grind (arith, nat_tests) in ap (λ d. d ∷ t) same
  at false s None h = tt
  at false s (Some p) h = ap (λ u. c ∷ u) h

-- a name and its closing delimiter
pub takes_name : (delimiter : ℕ) (t : Text) → TakesSome 2 t (name_before delimiter t)
unfolding name_before
takes_name delimiter t = at (cut_at delimiter t) (cut_is delimiter t) where
  at : (o : Option (Text × Text)) → IsCut delimiter t o → TakesSome 2 t (option_and_then nonempty_front o)
  at None e = tt
  at (Some ([], v)) e = tt
  at (Some (c ∷ w, v)) e = record {
    word = c ∷ w ++ delimiter ∷ [];
    cut = e ∙ sym (append_assoc (c ∷ w) (delimiter ∷ []) v);
    long = omega (arith, length-append w (delimiter ∷ []));
  }

-- the same after an opening delimiter
past_delimiter : (c delimiter : ℕ) (t : Text) → TakesSome 3 (c ∷ t) (name_before delimiter t)
past_delimiter c delimiter t = at (name_before delimiter t) (takes_name delimiter t) where
  at : (o : Option (Text × Text)) → TakesSome 2 t o → TakesSome 3 (c ∷ t) o
  at None h = tt
  at (Some p) h = takes_on (omega arith) (takes_one c t) h

pub takes_delimited_name : (t : Text) → TakesSome 3 t (delimited_name t)
unfolding delimited_name
takes_delimited_name [] = tt
takes_delimited_name (c ∷ t) =
    cond_both (c == code "<") _ _ (TakesSome 3 (c ∷ t)) (λ _. past_delimiter c (code ">") t)
    (λ _. cond_both (c == code "'") _ _ (TakesSome 3 (c ∷ t)) (λ _. past_delimiter c (code "'") t) (λ _. tt))

-- the value of a name is read from as many characters as the name
module _ {A : Type 0} (k : ℕ) (t : Text) (f : Text → Option A) where
  takes_written : (u : Text) (a : Option A) → Takes k t u → TakesSome k t (option_map (λ a. (a, u)) a)
  takes_written u None h = tt
  takes_written u (Some a) h = h

  pub takes_of_name : (o : Option (Text × Text)) → TakesSome k t o → TakesSome k t (of_name f o)
  takes_of_name None h = tt
  takes_of_name (Some (w, u)) h = takes_written u (f w) h

pub takes_name_reading : {A : Type 0} (k : ℕ) (t u : Text) (o : Option (A × Text)) → TakesSome k t o →
    TakesOrFails (reach_of u) k t (name_reading (reach_of u) o)
takes_name_reading k t u None h = fails_at refl
takes_name_reading k t u (Some p) h = takes h

-- the reference or call by a name
pub takes_by_name : {A : Type 0} (k : ℕ) (t u : Text) (f : Text → Option A) (o : Option (Text × Text)) →
    TakesSome k t o → TakesOrFails (reach_of u) k t (name_reading (reach_of u) (of_name f o))
takes_by_name k t u f o h = takes_name_reading k t u (of_name f o) (takes_of_name k t f o h)

pub takes_reference_by_name : (k : ℕ) (t : Text) (amounts : Bool) (o : Option (Text × Text)) → TakesSome k t o →
    TakesOrFails (reach_of t) k t (reference_by_name (reach_of t) amounts o)
unfolding reference_by_name
takes_reference_by_name k t amounts o h = takes_by_name k t t (written_reference (reach_of t) amounts) o h

pub takes_number : (t : Text) → TakesOrFails (reach_of t) 1 t (group_number t)
unfolding group_number
takes_number t = at (number t) refl where
  fails_here : {A : Type 0} → TakesOrFails {A = A} (reach_of t) 1 t (fails (number_too_great t))
  fails_here = fails_at refl

  at : (o : Option (ℕ × Text)) → number t ≡ o →
      TakesOrFails (reach_of t) 1 t
      (choose o (number_reading (number_too_great t)) (fails (number_too_great t)))
  at None e = fails_here
  at (Some (k, u)) e =
      let taken = number_taken t u k e in
      let word : Takes 1 t u = record { word = digits_of t; cut = taken.cut; long = omega (arith, taken.some) } in
      takes_if (reach_of t) 1 t (nat_lt k (2 ^ 64)) (takes word) fails_here

pub takes_numbered_reference : (t : Text) → TakesOrFails (reach_of t) 1 t (numbered_reference t)
unfolding numbered_reference
takes_numbered_reference t = takes_as (reach_of t) 1 t (λ k. reference_to (reach_of t) (by_number k) None)
    (takes_number t)

pub takes_back_reference : (t : Text) → TakesOrFails (reach_of t) 3 t (back_reference t)
unfolding back_reference
takes_back_reference t = takes_reference_by_name 3 t true (delimited_name t) (takes_delimited_name t)

takes_numbered_call : (t : Text) → TakesOrFails (reach_of t) 1 t (numbered_call t)
unfolding numbered_call
takes_numbered_call t = takes_as (reach_of t) 1 t (λ k. call_to (reach_of t) (by_number k)) (takes_number t)

takes_delimited_call : (t : Text) → TakesOrFails (reach_of t) 3 t
    (name_reading (reach_of t) (delimited_call (reach_of t) t))
unfolding delimited_call
takes_delimited_call t = takes_by_name 3 t t (written_call (reach_of t)) (delimited_name t) (takes_delimited_name t)

pub takes_subroutine_call : (t : Text) → TakesOrFails (reach_of t) 1 t (subroutine_call t)
unfolding subroutine_call
takes_subroutine_call t =
    takes_if (reach_of t) 1 t (at_digit t) (takes_numbered_call t)
    (takes_less (reach_of t) 3 t (omega arith) (takes_delimited_call t))
