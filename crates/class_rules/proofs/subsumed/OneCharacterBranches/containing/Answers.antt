use Rattle.class_rules.proofs.BranchLemmas.{contained}
use Rattle.class_rules.proofs.subsumed.OneCharacterBranches.containing.Goals as goal

pub returns-then-branch-clause-contained : goal.returns-then-branch-clause-contained
returns-then-branch-clause-contained c node are is =
    contained c.args.known.now.flags c.loop-other.known.flags node c.args.self.now.branches.items c.args.branch c.in-Some.class _ _ _ c.loop-other.invariant are is
    (rw c.deref.ensures.value at c.in-Some.ensures) (c.in_ok-is_contained.ensures.within c.if-branch.true)
    c.saturating_add.ensures c.span.ensures
