-- The results of reading flag letters, in code.
use Rattle.std.specs.Prelude.{◌≡◌, ◌++◌, chars}
use Rattle.fancy_lex.specs.ErrorTable.{comment_not_closed, no_flag_letter, mode_changed}
use Rattle.fancy_lex.specs.Located.{Located}
use Rattle.fancy_lex.specs.Reading.{Reading, fails}
use Rattle.fancy_lex.specs.Text.{Text}
use Rattle.fancy_lex.specs.FlagLetters as spec
use Rattle.fancy_lex.specs.LetterSteps.{letters_before}
use Rattle.fancy_lex.specs.declared.group_starts.letters.Letters as code
use Rattle.fancy_lex.specs.declared.group_starts.letters.Letters.TheVariants.{InlineFlags, FlagGroup}
use Rattle.fancy_lex.specs.declared.group_starts.letters.LetterStep as code_step
use Rattle.fancy_lex.specs.declared.group_starts.letters.LetterStep.TheVariants.{Ends, GoesOn}
use Rattle.fancy_lex.specs.declared.group_starts.letters.LetterError.{LetterError}
use Rattle.fancy_lex.specs.declared.group_starts.letters.LetterError.TheVariants.{NoFlag, ModeChanged, Unclosed}

-- the letters of the code's value
abbrev pub letters_of : code.Letters → spec.Letters
letters_of (InlineFlags f) = spec.inline_flags f
letters_of (FlagGroup f) = spec.flag_group f

-- the step of the code's value
abbrev pub step_of : code_step.LetterStep → spec.LetterStep
step_of (Ends l) = spec.flags_end (letters_of l)
step_of (GoesOn clears f) = spec.flags_go_on clears f

-- the error of the code's value; `t` is the text that begins with the letters
abbrev pub error_of : Text → LetterError → Located
error_of t (NoFlag u) = no_flag_letter t (letters_before t (chars u.now))
error_of t (ModeChanged u) = mode_changed (chars u.now)
error_of t (Unclosed p) = comment_not_closed p

-- a step that fails with this error
abbrev pub failed_step : Text → LetterError → Reading spec.LetterStep
failed_step t e = fails (error_of t e)

-- `t` ends with the text after a character that is no flag letter
abbrev pub IsErrorIn : Text → LetterError → Type 0
IsErrorIn t (NoFlag u) = (w : Text) × (t ≡ w ++ chars u.now)
IsErrorIn t _ = Unit {0}
