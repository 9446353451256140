use Rattle.std.proofs.Common.{arith}
use Rattle.std.proofs.lemmas.List.Elements.{All-push}
use Rattle.fancy_syntax.specs.Spanned.{spanned_of}
use Rattle.class_rules.specs.Branches.{IsBranchOf}
use Rattle.class_rules.proofs.NodeLemmas.{left_child, left_inside, left_next}
use Rattle.class_rules.proofs.subsumed.one_character_branches.Goals as goal

pub loop-node-preserved-then-not-is_one_character : goal.loop-node-preserved-then-not-is_one_character
loop-node-preserved-then-not-is_one_character c =
    let node = spanned_of c.args.alternation in
    let child = spanned_of c.in-Some.node in
    let index = c.loop-node.index in
    record {
      left = λ few.
          let here = c.loop-node.invariant.left few in
          left_next node child index _ _ _ here c.in-Some.ensures.steps
          (omega (arith, c.saturating_add-index.ensures, left_inside node child index _ _ here c.in-Some.ensures.steps, few));
      branches = c.loop-node.invariant.branches;
    }

pub loop-node-preserved : goal.loop-node-preserved
loop-node-preserved c =
    let node = spanned_of c.args.alternation in
    let child = spanned_of c.in-Some.node in
    let index = c.loop-node.index in
    record {
      left = λ few.
          let here = c.loop-node.invariant.left few in
          left_next node child index _ _ _ here c.in-Some.ensures.steps
          (omega (arith, c.saturating_add-index.ensures, left_inside node child index _ _ here c.in-Some.ensures.steps, few));
      branches = λ few. rw c.in_ok-push.ensures.items (All-push (IsBranchOf node) _ _ (c.loop-node.invariant.branches few)
          (left_child node child index _ _ (c.loop-node.invariant.left few) c.in-Some.ensures.steps));
    }
