-- One reading after another, and the code's results.
use Rattle.std.proofs.Common.{◌≡◌, ℕ, List, Option, Some, None, Result, Ok, Err, refl, subst}
use Rattle.std.specs.Borrow.{Bor}
use Rattle.fancy_lex.specs.Text.{Text}
use Rattle.fancy_lex.specs.ErrorViews.{IfFailed}
use Rattle.fancy_lex.specs.Reading.{Reading, gives, fails, error_at, CarriesText, Says, Reads, Reports, Returns}
use Rattle.fancy_lex.specs.Reading.{Derives, choose, ◌>=>◌}
use Rattle.fancy_lex.specs.declared.error.ReadError.{ReadError}
use Rattle.fancy_lex.specs.declared.error.ReadError.TheVariants.{At, OutOfMemory}

-- what holds in both cases holds for `choose`
pub choose_both : {A B : Type 0} (P : B → Type 0) (o : Option A) (f : A → B) (b : B) →
    ((a : A) → o ≡ Some a → P (f a)) → P b → P (choose o f b)
choose_both P (Some a) f b g h = g a refl
choose_both P None f b g h = h

module _ {A B : Type 0} (o : Reading A) (f : A → Text → Reading B) where
  -- the error of the first step is the error of both
  pub says_first : (b : ReadError) → Says b o → Says b (o >=> f)
  says_first (At p k) e = rw e refl
  says_first OutOfMemory e = absurd e

  pub reports_first : (b : ReadError) → Reports b o → Reports b (o >=> f)
  reports_first (At p k) e = rw e refl
  reports_first OutOfMemory e = carried o e where
    carried : (q : Reading A) → CarriesText q → CarriesText (q >=> f)
    carried (gives a t) h = absurd h
    carried (fails d) h = h

-- the error is that of the reading, unless memory ran out
pub report_fails : {A : Type 0} (b : ReadError) (o : Reading A) → Reports b o → IfFailed b (λ k p. o ≡ error_at p k)
report_fails (At p k) o e = e
report_fails OutOfMemory o e = tt

-- a reading whose error the code returns has no value
pub reports_no_value : {A : Type 0} (b : ReadError) (o : Reading A) → Reports b o → (a : A) (t : Text) →
    o ≡ gives a t → ⊥
reports_no_value (At p k) o e a t g = cc
reports_no_value {A} OutOfMemory o e a t g = carried o e g
  where
    carried : (q : Reading A) → CarriesText q → q ≡ gives a t → ⊥
    carried (gives b u) h g = h
    carried (fails d) h g = cc

-- a reading that equals the function's result is the code's result
pub only_returned : {A B : Type 0} (f : A → B) (r : Result (A × Bor (List ℕ)) ReadError) (o q : Reading B) → o ≡ q →
    Returns f r o → Returns f r q
only_returned f r o q e g = subst (Returns f r) e g

-- the code's result is the reading, unless memory ran out
pub returns_gives : {A B : Type 0} (f : A → B) (r : Result (A × Bor (List ℕ)) ReadError) (o : Reading B) → Returns f r o →
    Derives f r (λ q. o ≡ q)
returns_gives f (Ok p) o g = g
returns_gives f (Err e) o g = report_fails e o g

-- if the relation holds of the function's result, it holds of the code's result
pub derives_given : {A B : Type 0} (f : A → B) (r : Result (A × Bor (List ℕ)) ReadError) (R : Reading B → Type 0)
    (o : Reading B) → R o → Derives f r (λ q. o ≡ q) → Derives f r R
derives_given f (Ok p) R o h g = subst R g h
derives_given f (Err OutOfMemory) R o h g = tt
derives_given f (Err (At p k)) R o h g = subst R g h

pub derives_returned : {A B : Type 0} (f : A → B) (r : Result (A × Bor (List ℕ)) ReadError) (R : Reading B → Type 0)
    (o : Reading B) → R o → Returns f r o → Derives f r R
derives_returned f r R o h g = derives_given f r R o h (returns_gives f r o g)

pub reads_returns : {A B : Type 0} (f : A → B) (r : Result (A × Bor (List ℕ)) ReadError) (o : Reading B) → Reads f r o →
    Returns f r o
reads_returns f (Ok p) o g = g
reads_returns f (Err OutOfMemory) o g = absurd g
reads_returns f (Err (At p k)) o g = g
