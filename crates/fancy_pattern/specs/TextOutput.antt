-- The output that a text is written to, piece by piece.
use Rattle.std.specs.Prelude.{◌≡◌, ℕ, ◌||◌, Bool, ◌++◌, codes, nat_eq}
use Rattle.std.specs.List.{starts_with}
use Rattle.std.specs.Str.{bytes_eq}
use Rattle.fancy_lex.specs.Number.{at_digit}
use Rattle.fancy_lex.specs.Text.{Text, text_of, bytes}
use Rattle.fancy_lex.specs.GroupReference.{begins_target}
use Rattle.fancy_grammar.specs.Pattern.{separated_if}
use Rattle.fancy_pattern.specs.declared.output.TextOutput.{TextOutput}
use Rattle.fancy_pattern.specs.declared.separator.Separator.{Separator}
use Rattle.fancy_pattern.specs.declared.separator.Separator.TheVariants.{Number, Condition, Absent}

-- the text was added after what was written before
pub record Added (old new : TextOutput) (text : Text) : Type 0 where
  pub after : text_of new.text ≡ text_of old.text ++ text

-- the text would be read together with what is before it
abbrev pub needs_separator : Separator → Text → Bool
needs_separator Number t = at_digit t
needs_separator Condition t = begins_target t || bytes_eq t (codes "DEFINE")
needs_separator Absent t = starts_with nat_eq t (codes "|")

-- what was written from the position on is changed in this way, and what is before the position stays as it was
pub record Changed (old new : TextOutput) (position : ℕ) (change : Text → Text) : Type 0 where
  pub changes : (t u : Text) → text_of old.text ≡ t ++ u → position ≡ bytes t → text_of new.text ≡ t ++ change u

-- the text with a separator before it, if it would be read together with what is before it
abbrev pub separated : Separator → Text → Text
separated separator t = separated_if (needs_separator separator t) t
