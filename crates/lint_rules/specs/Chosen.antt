-- The levels of the rules.
use Rattle.std.specs.Prelude.{ℕ, Bool, List, slice_index_or, if◌then◌else◌}
use denote.Enum.Declared.{tag_of}
use Rattle.lint_rules.specs.declared.chosen.Level.{Level}
use Rattle.lint_rules.specs.declared.chosen.Level.TheVariants.{Allow, Warn, Deny}
use Rattle.lint_rules.specs.declared.rule.Rule.{Rule}
use Rattle.lint_rules.specs.declared.rule.Rule.TheVariants as rule
use Rattle.lint_rules.specs.contracts.rule.Rule.{the_type}

-- the number of a rule, in the order of the rules, from 0
abbrev pub number : Rule → ℕ
number rule = tag_of the_type rule

-- the level of a rule among those of all, which are in the order of the rules
abbrev pub level_of : List Level → Rule → Level
level_of levels rule = slice_index_or levels (number rule) Warn

-- the level of a rule by default; of patterns of JSON the level is another one
abbrev pub default_level : Bool → Rule → Level
default_level is_json rule.MissingGroup = Deny
default_level is_json rule.UnresolvedCall = Deny
default_level is_json rule.NumberedReference = Deny
default_level is_json rule.InvalidQuantifier = Deny
default_level is_json rule.InvalidClass = Deny
default_level is_json rule.UnusedCapturingGroup = Allow
default_level is_json rule.CharactersInEscape = Allow
default_level is_json rule.SuspiciousRange = Allow
default_level is_json rule.DialectDifference = Allow
default_level is_json rule.PolynomialBacktracking = Allow
default_level is_json rule.QuadraticSearch = Allow
default_level is_json rule.UselessFlag = if is_json then Allow else Warn
default_level is_json _ = Warn

-- the level of a rule where all become warnings: an error by default that still is one stays an error
abbrev pub warned : Level → Level → Level
warned Deny Deny = Deny
warned _ _ = Warn
