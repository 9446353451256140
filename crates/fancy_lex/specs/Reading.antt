-- The results of readers that can return an error.
use Rattle.std.specs.Prelude.{◌≡◌, ℕ, true, List, chars, Option, Some, None, Result, MatchResult, ⊤}
use Rattle.std.specs.Borrow.{Bor}
use Rattle.fancy_lex.specs.Text.{Text}
use Rattle.fancy_lex.specs.Located.{Located, Kind, carries_text}
use Rattle.fancy_lex.specs.ErrorViews.{MatchReadError}
use Rattle.fancy_lex.specs.ErrorTable.{comment_not_closed}
use Rattle.fancy_lex.specs.LayoutSteps.{Skipped, rest, failed}
use Rattle.fancy_lex.specs.declared.error.ReadError.{ReadError}

-- a value and the rest of the text, or an error
pub data Reading (A : Type 0) : Type 0 where
  gives : A → Text → Reading A
  fails : Located → Reading A

-- the error of this kind at this reach
abbrev pub error_at : {A : Type 0} → ℕ → Kind → Reading A
error_at p k = fails (record { reach = p; kind = k })

-- one step after another
infixl 10 ◌>=>◌
abbrev pub ◌>=>◌ : {A B : Type 0} → Reading A → (A → Text → Reading B) → Reading B
gives a t >=> f = f a t
fails e >=> f = fails e

-- f of the value if there is one, and otherwise b
abbrev pub choose : {A B : Type 0} → Option A → (A → B) → B → B
choose (Some a) f b = f a
choose None f b = b

-- the value and the rest of the text, or the error if there is no value
abbrev pub read_or : {A : Type 0} → Located → Option (A × Text) → Reading A
read_or e o = choose o (λ q. gives q.0 q.1) (fails e)

-- the result of reading layout: an unclosed comment is an error of the pattern
abbrev pub layout_reading : Skipped → Reading (Unit {0})
layout_reading (rest t) = gives tt t
layout_reading (failed p) = fails (comment_not_closed p)

-- the reading is an error that carries a text
abbrev pub CarriesText : {A : Type 0} → Reading A → Type 0
CarriesText (gives a t) = ⊥
CarriesText (fails e) = carries_text e.kind ≡ true

-- the relation holds of the code's result, with its value mapped by f, or memory ran out and M holds
abbrev pub IsRead : {A B : Type 0} → Type 0 → (A → B) → Result (A × Bor (List ℕ)) ReadError → (Reading B → Type 0) → Type 0
IsRead M f r R = MatchResult r (λ p. R (gives (f p.0) (chars p.1.now))) (λ e. MatchReadError e M (λ k p. R (error_at p k)))

-- the code's result is the reading, with its value mapped by f
abbrev pub Reads : {A B : Type 0} → (A → B) → Result (A × Bor (List ℕ)) ReadError → Reading B → Type 0
Reads f r o = IsRead ⊥ f r (λ q. o ≡ q)

-- the same; memory can only run out for the text of an error
abbrev pub Returns : {A B : Type 0} → (A → B) → Result (A × Bor (List ℕ)) ReadError → Reading B → Type 0
Returns f r o = IsRead (CarriesText o) f r (λ q. o ≡ q)

-- the relation holds of the code's result, with its value mapped by f, unless memory ran out
abbrev pub Derives : {A B : Type 0} → (A → B) → Result (A × Bor (List ℕ)) ReadError → (Reading B → Type 0) → Type 0
Derives f r R = IsRead ⊤ f r R

-- the code's error is that of the reading
abbrev pub Says : {A : Type 0} → ReadError → Reading A → Type 0
Says e o = MatchReadError e ⊥ (λ k p. o ≡ error_at p k)

-- the code's result, which has no value, is the reading
abbrev pub ReadsRest : Result (Bor (List ℕ)) ReadError → Reading (Unit {0}) → Type 0
ReadsRest r o = MatchResult r (λ t. o ≡ gives tt (chars t.now)) (λ e. Says e o)

-- the code's error is that of the reading, or memory ran out for the text that this error carries
abbrev pub Reports : {A : Type 0} → ReadError → Reading A → Type 0
Reports e o = MatchReadError e (CarriesText o) (λ k p. o ≡ error_at p k)
