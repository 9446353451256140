use Rattle.std.proofs.Common.{◌≡◌, drop, map, None}
use Rattle.patterns_config.specs.FileSettings.{options_of, width_after}
use Rattle.patterns_config.proofs.file_settings.FileSettings.width.Given as goal

abbrev pub invariant-loop-option : goal.invariant-loop-option
invariant-loop-option l = width_after None (options_of l.self) ≡ width_after l.width (map (λ option. option.now) (drop l.option-index l.self.found.items))
