use Rattle.std.proofs.Common.{sym, subst}
use Rattle.lint_rules.specs.Chosen.{level_of}
use Rattle.patterns_config.specs.Levels.{GiveLevels}
use Rattle.patterns_config.proofs.LevelsLemmas.{no_levels}
use Rattle.patterns_config.proofs.file_settings.set_option.Goals as goal

pub returns-in_default : goal.returns-in_default
returns-in_default c rule =
    subst (λ given. GiveLevels rule given (level_of c.args.chosen.now.levels rule) (level_of c.args.chosen.now.levels rule))
    (sym (no_levels c.args.option.now c.in_default.not-Rules)) GiveLevels.none
