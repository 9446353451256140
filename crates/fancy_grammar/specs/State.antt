-- The state of the parser, and the outcome of a part.
use Rattle.std.specs.Prelude.{Bool, true, [], ◌∷◌}
use Rattle.fancy_lex.specs.Characters.{◌∈◌}
use Rattle.fancy_lex.specs.Located.{Located}
use Rattle.fancy_lex.specs.ErrorTable.{comment_not_closed}
use Rattle.fancy_lex.specs.LayoutSteps.{layout, Skipped, rest, failed as open_comment}
use Rattle.fancy_lex.specs.Text.{Text}
use Rattle.fancy_lex.specs.declared.flags.Flags.{Flags}

-- the flags that hold, and the text that is not read yet
pub record State : Type 0 where
  pub flags : Flags
  pub rest : Text

-- the same flags at a later text
abbrev pub at : State → Text → State
at s t = record s { rest = t }

-- the layout at the front of the state's text
abbrev pub skipped : State → Skipped
skipped s = layout s.flags.ignore_space s.rest

-- f of the text after the layout, or g of the error of an unclosed comment
abbrev pub after_skipped : {B : Type 0} → Skipped → (Text → B) → (Located → B) → B
after_skipped (rest t) f g = f t
after_skipped (open_comment p) f g = g (comment_not_closed p)

-- a branch ends here: at the end, a bar or a closing parenthesis
abbrev pub ends : Text → Bool
ends [] = true
ends (c ∷ t) = c ∈ "|)"

-- what is read, with the state after it; or the error that ends the reading
pub data Outcome (A : Type 0) : Type 0 where
  done : A → State → Outcome A
  failed : Located → Outcome A

-- one part after another: an error of the first is the error of both
abbrev pub and_then : {A B : Type 0} → Outcome A → (A → State → Outcome B) → Outcome B
and_then (done a s) f = f a s
and_then (failed e) f = failed e

-- the outcome with f applied to what is read
abbrev pub mapped : {A B : Type 0} → (A → B) → Outcome A → Outcome B
mapped f o = and_then o (λ a s. done (f a) s)
