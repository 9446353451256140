use Rattle.std.proofs.Common.{◌≡◌, drop, map, []}
use Rattle.patterns_config.specs.FileSettings.{options_of, keys_after}
use Rattle.patterns_config.proofs.file_settings.FileSettings.other_keys.Given as goal

abbrev pub invariant-loop-option : goal.invariant-loop-option
invariant-loop-option l = keys_after [] (options_of l.self) ≡ keys_after l.keys (map (λ option. option.now) (drop l.option-index l.self.found.items))
