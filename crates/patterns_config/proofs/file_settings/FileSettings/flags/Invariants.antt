use Rattle.std.proofs.Common.{◌≡◌, drop, map, None}
use Rattle.patterns_config.specs.FileSettings.{options_of, flags_after}
use Rattle.patterns_config.proofs.file_settings.FileSettings.flags.Given as goal

abbrev pub invariant-loop-option : goal.invariant-loop-option
invariant-loop-option l = flags_after None (options_of l.self) ≡ flags_after l.flags (map (λ option. option.now) (drop l.option-index l.self.found.items))
