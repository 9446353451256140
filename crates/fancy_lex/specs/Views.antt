-- The results of readers in code, as the definitions have them.
use Rattle.std.specs.Prelude.{◌≡◌, ℕ, List, Option, Some, None, option_map, MatchOption, Result, Ok, Err, chars}
use Rattle.std.specs.Prelude.{MatchResult}
use Rattle.std.specs.Borrow.{Bor}
use Rattle.fancy_lex.specs.LayoutSteps.{Skipped, rest, failed}
use Rattle.fancy_lex.specs.Number.{number, IsWord}
use Rattle.fancy_lex.specs.Text.{Text}
use Rattle.fancy_lex.specs.declared.error.ReadError.{ReadError}
use Rattle.fancy_lex.specs.declared.error.ReadError.TheVariants.{At}
use Rattle.fancy_lex.specs.declared.error.ParseError.TheVariants.{UnclosedOpenParen}

-- the text after layout, or the reach of the error
abbrev pub skipped_of : Result (Bor (List ℕ)) ℕ → Skipped
skipped_of (Ok r) = rest (chars r.now)
skipped_of (Err p) = failed p

-- the text after layout, or the error of an unclosed comment in it
abbrev pub Skips : Result (Bor (List ℕ)) ReadError → Skipped → Type 0
Skips r s =
    MatchResult r (λ t. s ≡ rest (chars t.now))
    (λ e. (p : ℕ) × (e ≡ At p UnclosedOpenParen) × (s ≡ failed p))

-- two parts of a text
abbrev pub parts : Option (Bor (List ℕ) × Bor (List ℕ)) → Option (Text × Text)
parts = option_map (λ p. (chars p.0.now, chars p.1.now))

-- a value mapped by f, and the rest of the text
abbrev pub view_read : {A B : Type 0} → (A → B) → A × Bor (List ℕ) → B × Text
view_read f p = (f p.0, chars p.1.now)

-- the number at the front of the text t, if it fits in a word, and the rest of the text
abbrev pub GivesNumber : Text → Option (Option ℕ × Bor (List ℕ)) → Type 0
GivesNumber t r = MatchOption r (number t ≡ None) (λ p. (n : ℕ) × (number t ≡ Some (n, chars p.1.now)) × IsWord p.0 n)
