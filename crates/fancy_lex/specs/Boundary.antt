-- Word boundaries after `\b` and `\B`.
use Rattle.std.specs.Prelude.{◌≡◌, ◌≢◌, ℕ, Bool, true, false, ◌||◌, ◌==◌, if◌then◌else◌, List, [], ◌∷◌, codes, Option}
use Rattle.std.specs.Prelude.{Some, None}
use Rattle.std.specs.Map.{lookup}
use Rattle.std.specs.Str.{bytes_eq}
use Rattle.std.specs.Char.{is_ascii_digit}
use Prim.Native.Char.{code}
use Rattle.fancy_lex.specs.declared.escape.Assertion.{Assertion}
use Rattle.fancy_lex.specs.declared.escape.Assertion.TheVariants.{LeftWordBoundary, RightWordBoundary}
use Rattle.fancy_lex.specs.declared.escape.Assertion.TheVariants.{LeftWordHalfBoundary, RightWordHalfBoundary}
use Rattle.fancy_lex.specs.declared.escape.Assertion.TheVariants.{WordBoundary, NotWordBoundary}
use Rattle.fancy_lex.specs.Escaped.{Escape, assertion}
use Rattle.fancy_lex.specs.Located.{Located}
use Rattle.fancy_lex.specs.ErrorTable.{comment_not_closed, boundary_not_closed, name_of_no_boundary}
use Rattle.fancy_lex.specs.Layout.{Before, Unclosed}
use Rattle.fancy_lex.specs.Reading.{Reading, gives, fails, ◌>=>◌}
use Rattle.fancy_lex.specs.Text.{Text, strip}

-- the boundaries that have a name
abbrev pub boundary_names : List (Text × Assertion)
boundary_names =
    (codes "start", LeftWordBoundary)
    ∷ (codes "end", RightWordBoundary)
    ∷ (codes "start-half", LeftWordHalfBoundary)
    ∷ (codes "end-half", RightWordHalfBoundary) ∷ []

-- the boundary with this name after `\b`; None after `\B`, which is negated
abbrev pub boundary_of_name : Bool → Text → Option Assertion
boundary_of_name negated name = if negated then None else lookup (λ w. bytes_eq name w) boundary_names

-- the boundary with no name
abbrev pub unnamed_boundary : Bool → Escape
unnamed_boundary negated = assertion (if negated then NotWordBoundary else WordBoundary)

-- whether the count of a repeat begins here, after a brace and layout
abbrev pub at_count : Text → Bool
at_count [] = false
at_count (c ∷ t) = is_ascii_digit c || c == code ","

-- the name after the opening brace: up to the first closing brace outside layout, with layout taken out; x says whether
-- blanks and line comments are layout, and p is the reach of the escape's backslash
pub data BracedName (x : Bool) (p : ℕ) : Text → Reading Text → Type 0 where
  close : {t v : Text} → Before x t (code "}" ∷ v) → BracedName x p t (gives [] v)
  character : {c : ℕ} {t u : Text} {o : Reading Text} → c ≢ code "}" → Before x t (c ∷ u) → BracedName x p u o →
      BracedName x p t (o >=> (λ w v. gives (c ∷ w) v))
  open_layout : {q : ℕ} {t : Text} → Unclosed x t q → BracedName x p t (fails (comment_not_closed q))
  no_end : {t : Text} → Before x t [] → BracedName x p t (fails (boundary_not_closed p))

-- after layout there is a brace with `u` after it; `counts` says whether `u`, after layout, begins the count of a
-- repeat
abbrev pub Braces : Bool → Text → Text → Bool → Type 0
Braces x t u counts = Before x t (code "{" ∷ u) × (v : Text) × Before x u v × (at_count v ≡ counts)

-- a boundary after its letter: braces belong to it unless they begin the count of a repeat
pub data Boundary (x : Bool) (p : ℕ) (negated : Bool) : Text → Reading Escape → Type 0 where
  no_brace : {t u : Text} → Before x t u → strip (code "{") u ≡ None →
      Boundary x p negated t (gives (unnamed_boundary negated) t)
  count : {t u : Text} → Braces x t u true → Boundary x p negated t (gives (unnamed_boundary negated) t)
  known : {t u v w : Text} {a : Assertion} → Braces x t u false → BracedName x p u (gives w v) →
      boundary_of_name negated w ≡ Some a → Boundary x p negated t (gives (assertion a) v)
  unknown : {t u v w : Text} → Braces x t u false → BracedName x p u (gives w v) → boundary_of_name negated w ≡ None →
      Boundary x p negated t (fails (name_of_no_boundary p negated w))
  name_error : {t u : Text} {e : Located} → Braces x t u false → BracedName x p u (fails e) →
      Boundary x p negated t (fails e)
  comment_open_before : {q : ℕ} {t : Text} → Unclosed x t q → Boundary x p negated t (fails (comment_not_closed q))
  comment_open_inside : {q : ℕ} {t u : Text} → Before x t (code "{" ∷ u) → Unclosed x u q →
      Boundary x p negated t (fails (comment_not_closed q))
