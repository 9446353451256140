-- The levels of rules that a configuration and the arguments give: of several for one rule, the last one counts.
use Rattle.std.specs.Prelude.{◌≡◌, ◌≢◌, ℕ, Bool, true, false, ◌||◌, ◌&&◌, not, List, [], ◌∷◌, ◌++◌, map, String, string_bytes}
use Rattle.std.specs.List.{flat_map}
use Rattle.std.specs.declared.alloc.Global.{Global}
use Rattle.pattern_files.specs.declared.form.FileFormat.{FileFormat}
use Rattle.pattern_files.specs.declared.form.FileFormat.TheVariants as form
use Rattle.lint_rules.specs.Chosen.{default_level, warned}
use Rattle.lint_rules.specs.Rules.{rule_name}
use Rattle.lint_rules.specs.declared.chosen.Level.{Level}
use Rattle.lint_rules.specs.declared.chosen.Level.TheVariants.{Allow, Warn, Deny}
use Rattle.lint_rules.specs.declared.rule.Rule.{Rule}
use Rattle.patterns_config.specs.FileSettings.{is_json}
use Rattle.patterns_config.specs.declared.choices.Choices.{Choices}
use Rattle.patterns_config.specs.declared.choices.RuleLevel.{RuleLevel}
use Rattle.patterns_config.specs.declared.options.FileOption.{FileOption}
use Rattle.patterns_config.specs.declared.options.FileOption.TheVariants as option

-- the level of a rule that gets a level with all others: a warning lowers no rule that is an error by default
abbrev pub level_with_all : Level → Rule → Level → Level
level_with_all Warn rule before = warned (default_level false rule) before
level_with_all level rule before = level

-- what the level of a rule is after a level was given to a name: to the rule of the name, or to all if no rule has it
pub data GivesLevel (name : List ℕ) (level : Level) (rule : Rule) (before : Level) : Level → Type 0 where
  own : rule_name rule ≡ name → GivesLevel name level rule before level
  other : (named : Rule) → rule_name named ≡ name → (rule ≡ named → ⊥) → GivesLevel name level rule before before
  all : ((named : Rule) → rule_name named ≢ name) → GivesLevel name level rule before (level_with_all level rule before)

-- a name and the level that is given to it
pub record Given : Type 0 where
  pub name : List ℕ
  pub level : Level

-- what the level of a rule is after levels were given to names, one after another
pub data GiveLevels (rule : Rule) : List Given → Level → Level → Type 0 where
  none : {level : Level} → GiveLevels rule [] level level
  next : {given : Given} {others : List Given} {before between after : Level} → GivesLevel given.name given.level rule before between →
      GiveLevels rule others between after → GiveLevels rule (given ∷ others) before after

-- the level is given to each of the names
abbrev pub levels_of_names : Level → List (String Global) → List Given
levels_of_names level names = map (λ name. record { name = string_bytes name; level = level }) names

-- what an option gives
abbrev pub levels_of_option : FileOption → List Given
levels_of_option (option.Rules level names) = levels_of_names level names.items
levels_of_option _ = []

-- what options give, in their order
abbrev pub levels_of_options : List FileOption → List Given
levels_of_options options = flat_map levels_of_option options

-- what arguments give, in their order
abbrev pub levels_of_arguments : List RuleLevel → List Given
levels_of_arguments arguments = map (λ one. record { name = one.name.now; level = one.level }) arguments

-- whether the arguments say that texts of JSON are patterns
abbrev pub is_values : FileFormat → Bool
is_values (form.Values _) = true
is_values _ = false

-- whether the patterns of a file are texts of JSON: the arguments say so, or the options where they leave it open
abbrev pub is_json_file : Choices → List FileOption → Bool
is_json_file choices options = is_values choices.form || (not choices.has_form && is_json options)
