use Rattle.std.proofs.Common.{◌≡◌, drop, map, None}
use Rattle.patterns_config.specs.FileSettings.{options_of, style_after}
use Rattle.patterns_config.proofs.file_settings.FileSettings.style.Given as goal

abbrev pub invariant-loop-option : goal.invariant-loop-option
invariant-loop-option l = style_after None (options_of l.self) ≡ style_after l.style (map (λ option. option.now) (drop l.option-index l.self.found.items))
