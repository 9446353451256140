use Rattle.std.proofs.Common.{◌≡◌, drop, map, None}
use Rattle.patterns_config.specs.FileSettings.{options_of, dialect_after}
use Rattle.patterns_config.proofs.file_settings.FileSettings.dialect.Given as goal

abbrev pub invariant-loop-option : goal.invariant-loop-option
invariant-loop-option l = dialect_after None (options_of l.self) ≡ dialect_after l.dialect (map (λ option. option.now) (drop l.option-index l.self.found.items))
