use Rattle.pattern_fixes.proofs.FixedLemmas.{if_true}
use Rattle.pattern_fixes.specs.Fixed as fixed
use Rattle.pattern_fixes.proofs.tree.is_fixed_leaf.Goals as goal

pub returns-then-is_same_but_for_positions : goal.returns-then-is_same_but_for_positions
returns-then-is_same_but_for_positions c =
    λ _. fixed.same (c.is_same_but_for_positions.ensures.0 c.if-is_same_but_for_positions.true)

pub returns : goal.returns
returns c = if_true c.has_same_characters.result fixed.class c.has_same_characters.ensures
