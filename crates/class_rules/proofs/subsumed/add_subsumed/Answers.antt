use Rattle.std.proofs.Common.{sym, ◌∙◌}
use Rattle.fancy_lex.specs.Flags.{flags_of}
use Rattle.fancy_syntax.specs.Spanned.{spanned_of}
use Rattle.class_rules.proofs.BranchLemmas.{few_branches, branch_problem}
use Rattle.class_rules.proofs.FindingLemmas.{keeps_of_branch}
use Rattle.class_rules.proofs.subsumed.add_subsumed.Goals as goal

pub loop-position-preserved : goal.loop-position-preserved
loop-position-preserved c =
    let node = spanned_of c.args.node in
    let flags = c.args.known.now.flags in
    let is = sym c.expr.ensures ∙ c.in-Alt.is in
    record {
      flags = c.containing.ensures.flags ∙ c.loop-position.invariant.flags;
      kept = keeps_of_branch (flags_of flags) c.args.pattern.now node _ _ _ _ c.in_ok-push.ensures.items c.loop-position.invariant.kept
          (branch_problem flags c.loop-position.known.flags node _ c.in_ok-branches.branches.items _ _ _ c.loop-position.invariant.flags is (c.in_ok-branches.ensures (few_branches node _ is))
          (rw c.deref-in-loop-position.ensures.value at c.in-Some.ensures) c.span.ensures (rw c.in-Some-2.is at c.in_ok-problem.ensures.contained));
    }
