-- What becomes of a pattern that is fixed or formatted.
use Rattle.std.specs.Prelude.{ℕ, List, ⊤, string_bytes}
use Rattle.patterns_program.specs.declared.outcome.Outcome.{Outcome}
use Rattle.patterns_program.specs.declared.rewriting.Rewriting.{Rewriting}
use Rattle.patterns_program.specs.declared.rewriting.Rewriting.TheVariants.{Stays, Changed}

-- P holds of the bytes of the text that the pattern becomes, if it becomes another
abbrev pub IfChanged : (List ℕ → Type 0) → Rewriting → Type 0
IfChanged P (Changed text) = P (string_bytes text)
IfChanged P (Stays outcome) = ⊤

-- the pattern stays as it is, and P holds of its outcome
abbrev pub StaysWith : (Outcome → Type 0) → Rewriting → Type 0
StaysWith P (Stays outcome) = P outcome
StaysWith P (Changed text) = ⊥
