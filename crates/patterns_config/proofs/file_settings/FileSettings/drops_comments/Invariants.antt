use Rattle.std.proofs.Common.{◌≡◌, drop, map, false}
use Rattle.patterns_config.specs.FileSettings.{options_of, drops_after}
use Rattle.patterns_config.proofs.file_settings.FileSettings.drops_comments.Given as goal

abbrev pub invariant-loop-option : goal.invariant-loop-option
invariant-loop-option l = drops_after false (options_of l.self) ≡ drops_after l.drops_comments (map (λ option. option.now) (drop l.option-index l.self.found.items))
