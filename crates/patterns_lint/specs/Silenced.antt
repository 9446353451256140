-- What a comment in a pattern changes in the levels of the rules.
use Rattle.std.specs.Prelude.{◌≡◌, ◌⊎◌}
use Rattle.lint_rules.specs.declared.chosen.Level.{Level}
use Rattle.lint_rules.specs.declared.chosen.Level.TheVariants.{Allow}

-- a level stays as it was, or its rule is silent
abbrev pub IsSameOrSilent : Level → Level → Type 0
IsSameOrSilent before after = after ≡ before ⊎ after ≡ Allow
