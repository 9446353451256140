use Rattle.lint_rules.specs.Chosen.{level_of}
use Rattle.patterns_lint.proofs.SilencedLemmas.{silent_after, silent_one}
use Rattle.patterns_lint.proofs.silenced.silence.Goals as goal

pub loop-name-preserved-in-Some-named : goal.loop-name-preserved-in-Some-named
loop-name-preserved-in-Some-named c rule =
    silent_after (c.loop-name.invariant rule) (silent_one c.loop-name.chosen.levels _ rule _ c.set.ensures.given c.set.ensures.others)
