-- Quantifiers: how often a piece repeats.
use Rattle.std.specs.Prelude.{ℕ, ◌-◌, ◌^◌, ◌==◌, Bool, true, false, nat_lt, if◌then◌else◌, [], ◌∷◌, Option, Some, None}
use Rattle.std.specs.Prelude.{option_map, option_and_then, unwrap_or}
use Prim.Native.Char.{code}
use Rattle.fancy_lex.specs.Text.{Text, strip}
use Rattle.fancy_lex.specs.LayoutSteps.{past_layout}
use Rattle.fancy_lex.specs.Number.{number}
use Rattle.fancy_lex.specs.Reading.{choose}
use Rattle.fancy_lex.specs.declared.counts.Counts.{Counts}

-- the greatest count, which stands for no limit
abbrev pub most : ℕ
most = 2 ^ 64 - 1

-- one step after another, each of which can fail
infixl 10 ◌>>=◌
abbrev pub ◌>>=◌ : {A B : Type 0} → Option A → (A → Option B) → Option B
o >>= f = option_and_then f o

-- the count at the front, which is None if there is no digit; a number above the greatest count gives no result
unfoldable pub count : Text → Option (Option ℕ × Text)
count t = choose (number t) (λ (n, u). if nat_lt n (2 ^ 64) then Some (Some n, u) else None) (Some (None, t))

-- a count with layout around it
unfoldable pub spaced_count : Bool → Text → Option (Option ℕ × Text)
spaced_count x t = past_layout x t >>= λ u. count u >>= λ (n, v). option_map (λ w. (n, w)) (past_layout x v)

-- these counts in braces
abbrev pub in_braces : ℕ → ℕ → Counts
in_braces low high = record { low = low; high = high; braces = true }

-- the counts of a quantifier's operator
abbrev pub as_operator : ℕ → ℕ → Counts
as_operator low high = record { low = low; high = high; braces = false }

-- after the comma: a count or nothing, and the closing brace
unfoldable pub counts_from : Bool → ℕ → Text → Option (Counts × Text)
counts_from x low t =
    spaced_count x t >>= λ (high, u). option_map (λ v. (in_braces low (unwrap_or high most), v)) (strip (code "}") u)

-- after the first count: the closing brace, if there was a count, or a comma
abbrev pub exact_or_range : Bool → Option ℕ → Text → Option Text → Option (Counts × Text)
exact_or_range x low t (Some v) = option_map (λ n. (in_braces n n, v)) low
exact_or_range x low t None = strip (code ",") t >>= counts_from x (unwrap_or low 0)

-- the counts after the opening brace, and the text after the closing brace
unfoldable pub braced_counts : Bool → Text → Option (Counts × Text)
braced_counts x t = spaced_count x t >>= λ (low, u). exact_or_range x low u (strip (code "}") u)

-- The counts of the quantifier at the front, and the text after its operator or closing brace. None if there is no
-- quantifier, for example if braces do not parse as counts. The flag says whether blanks are layout.
unfoldable pub counts : Bool → Text → Option (Counts × Text)
counts x [] = None
counts x (c ∷ t) =
    if c == code "?" then Some (as_operator 0 1, t)
    else if c == code "*" then Some (as_operator 0 most, t)
    else if c == code "+" then Some (as_operator 1 most, t)
    else if c == code "{" then braced_counts x t
    else None
