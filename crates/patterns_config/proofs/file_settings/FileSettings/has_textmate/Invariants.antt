use Rattle.std.proofs.Common.{◌≡◌, drop, map, false}
use Rattle.patterns_config.specs.FileSettings.{options_of, textmate_after}
use Rattle.patterns_config.proofs.file_settings.FileSettings.has_textmate.Given as goal

abbrev pub invariant-loop-option : goal.invariant-loop-option
invariant-loop-option l = textmate_after false (options_of l.self) ≡ textmate_after l.has_textmate (map (λ option. option.now) (drop l.option-index l.self.found.items))
