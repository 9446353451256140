use Rattle.std.proofs.Common.{sym}
use Rattle.backtracking.proofs.RegularShapeLemmas.{not_passed}
use Rattle.backtracking.proofs.passed.may_be_passed.Goals as goal

pub returns-in_default : goal.returns-in_default
returns-in_default c =
    let others = c.in_default in
    sym (not_passed c.args.node.now others.not-Assertion others.not-Backref others.not-BackrefWithRelativeRecursionLevel others.not-KeepOut
    others.not-ContinueFromPreviousMatchEnd others.not-BackrefExistsCondition others.not-LookAround others.not-Conditional)
