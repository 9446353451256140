-- Parts of a pattern that reports name.
use Rattle.std.specs.Prelude.{◌≡◌, ◌⊎◌, List, Some, Contains}
use Rattle.fancy_syntax.specs.declared.span.Span.{Span}
use Rattle.lint_rules.specs.declared.problem.Found.{Found}

-- the report is on the part, or names it as a further one
abbrev pub Names : Found → Span → Type 0
Names f span = (f.span ≡ span) ⊎ Contains f.others.named (Some span)

-- one of the reports names the part
abbrev pub IsNamed : List Found → Span → Type 0
IsNamed found span = (f : Found) × Contains found f × Names f span
