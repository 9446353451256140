-- What is changed in a file for a pattern that becomes another text.
use Rattle.std.specs.Prelude.{◌≡◌, ℕ, List, ⊤, string_bytes}
use Rattle.fancy_lex.specs.declared.flags.Flags.{Flags}
use Rattle.pattern_files.specs.Spelled.{IsSpelled}
use Rattle.pattern_files.specs.declared.entry.Entry.{Entry}
use Rattle.pattern_files.specs.declared.spelling.SpelledIn.{SpelledIn}
use Rattle.pattern_files.specs.declared.spelling.SpelledIn.TheVariants.{Lines, Json}
use Rattle.pattern_format.specs.Formatted.{IsFormatted}
use Rattle.patterns_program.specs.Line.{Changes}
use Rattle.patterns_program.specs.declared.changes.PatternChange.{PatternChange}
use Rattle.patterns_program.specs.declared.changes.PatternChange.TheVariants.{InFile, InSource}
use Rattle.patterns_program.specs.declared.rewriting.PatternForm.{PatternForm}
use Rattle.patterns_program.specs.declared.rewriting.PatternForm.TheVariants.{Written, Canonical}
use Rattle.patterns_text.specs.declared.position.Spot.{Spot}
use Rattle.patterns_text.specs.declared.position.Spot.TheVariants as spots
use Rattle.source_literals.specs.declared.replaced.Replacement.{Replacement}

-- how a file spells its patterns, if it has no records
abbrev pub form_at : Spot → SpelledIn
form_at (spots.Line number) = Lines
form_at spot = Json

-- the part has the text in the place of the pattern, as its file spells it
abbrev pub IsReplaced : Entry → List ℕ → Replacement → Type 0
IsReplaced entry w part =
    (part.span ≡ entry.span) × IsSpelled (form_at entry.spot) entry.pattern.now w (string_bytes part.text)

-- the part has a text there for which P holds
abbrev pub Replaces : Entry → (List ℕ → Type 0) → Replacement → Type 0
Replaces entry P part = (w : List ℕ) × P w × IsReplaced entry w part

-- P holds of the part that is changed, if that is one of the file
abbrev pub IfInFile : (Replacement → Type 0) → PatternChange → Type 0
IfInFile P (InFile part) = P part
IfInFile P (InSource moved) = ⊤

-- the bytes are the pattern in the form
abbrev pub IsInForm : PatternForm → Flags → List ℕ → List ℕ → Type 0
IsInForm (Written style) f pattern w = IsFormatted style f pattern w
IsInForm (Canonical comments) f pattern w = Changes f pattern w
