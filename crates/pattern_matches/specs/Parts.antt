-- Positions in texts, and parts of texts.
use Rattle.std.specs.Prelude.{◌≡◌, ℕ, zero, suc, ◌<◌, ◌≤◌, [], ◌∷◌}
use Rattle.fancy_lex.specs.Quantifier.{most}
use Rattle.fancy_lex.specs.Text.{Text}

-- a position in a text, by the characters before it, the nearest first, and those after it
pub record Position : Type 0 where
  pub before : Text
  pub after : Text

abbrev pub at : Text → Text → Position
at b a = record { before = b; after = a }

-- the text that the position is in
abbrev pub joined : Text → Text → Text
joined [] a = a
joined (c ∷ b) a = joined b (c ∷ a)

abbrev pub text_of : Position → Text
text_of p = joined p.before p.after

-- a set of parts of texts: P p q says that the part from p to q is in it
abbrev pub Parts : Type 1
Parts = Position → Position → Type 0

-- one character that has the property
pub data One (Has : ℕ → Type 0) : Position → Position → Type 0 where
  one : {c b a : _} → Has c → One Has (at b (c ∷ a)) (at (c ∷ b) a)

-- a part of P, and then one of Q
pub record Then (P Q : Parts) (p q : Position) : Type 0 where
  pub middle : Position
  pub first : P p middle
  pub second : Q middle q

-- n parts of P, one after another
abbrev pub Times : Parts → ℕ → Position → Position → Type 0
Times P zero p q = p ≡ q
Times P (suc n) p q = Then P (Times P n) p q

-- at least lo parts of P and at most hi, one after another, each of which may be empty; `most` is no limit
pub record Repeated (P : Parts) (lo hi : ℕ) (p q : Position) : Type 0 where
  pub count : ℕ
  pub enough : lo ≤ count
  pub few : hi < most → count ≤ hi
  pub turns : Times P count p q
