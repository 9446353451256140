use Rattle.std.proofs.Common.{◌≡◌, ◌≤◌, ap, ◌∙◌, sym, arith, eqb-true}
use Rattle.fancy_grammar.specs.Label as label
use Rattle.fancy_grammar.specs.Tree.{levels, levels_all, trees_of}
use Rattle.fancy_syntax.proofs.Descents.{levels_item}
use Rattle.fancy_syntax.proofs.ShapeLemmas.{same_label}
use Rattle.fancy_syntax.specs.Shape.{label_of}
use Rattle.fancy_syntax.specs.View.{view, views}
use Rattle.pattern_fixes.proofs.FixedLemmas.{over_case, once_case, row_case, last_of_two, last_of_three, branches_case, one_branch_case, fixed_next, fixed_end, kept_next, left_out_next, branches_end}
use Rattle.pattern_fixes.proofs.tree.+is_fixed.Goals as goal

pub are_branches-loop-i-preserved-in-loop-i : goal.are_branches-loop-i-preserved-in-loop-i
are_branches-loop-i-preserved-in-loop-i t c =
    kept_next c.args.unicode c.args.old.now c.loop-i.i c.index-old-i.result c.loop-i.rest.now c.in-Some.first.now
    c.in-Some.more.now (omega arith) c.index-old-i.is (rw c.in-Some.is at c.split_first.ensures.cases).0
    (c.in_ok-is_fixed.ensures c.if-branch.true) c.loop-i.invariant

pub are_branches-loop-i-preserved : goal.are_branches-loop-i-preserved
are_branches-loop-i-preserved t c =
    left_out_next c.args.unicode c.args.old.now c.loop-i.i c.index-old-i.result c.loop-i.rest.now (omega arith)
    c.index-old-i.is (c.contains.ensures c.if-not-contains.false) c.loop-i.invariant

pub are_branches-returns : goal.are_branches-returns
are_branches-returns t c =
    λ empty. branches_end c.args.unicode c.args.old.now c.loop-i.i c.loop-i.rest.now (omega arith)
    (eqb-true _ 0 (sym c.is_empty.ensures ∙ empty)) c.loop-i.invariant

pub are_fixed-loop-tree-preserved : goal.are_fixed-loop-tree-preserved
are_fixed-loop-tree-preserved t c =
    fixed_next c.args.unicode c.args.old.now c.loop-tree.tree-index c.tree-item.result c.loop-tree.rest.now
    c.in-Some.first.now c.in-Some.more.now c.loop-tree-test.true c.tree-item.is
    (rw c.in-Some.is at c.split_first.ensures.cases).0 (c.in_ok-is_fixed.ensures c.if-not-branch.false)
    c.loop-tree.invariant

pub are_fixed-returns : goal.are_fixed-returns
are_fixed-returns t c =
    λ empty. fixed_end c.args.unicode c.args.old.now c.loop-tree.tree-index c.loop-tree.rest.now c.loop-tree-test.false
    (eqb-true _ 0 (sym c.is_empty.ensures ∙ empty)) c.loop-tree.invariant

pub are_branches-is_fixed-requires : goal.are_branches-is_fixed-requires
are_branches-is_fixed-requires t c =
    let low : levels (view c.index-old-i.result) ≤ levels_all (trees_of (views c.args.old.now)) =
    levels_item c.args.old.now c.loop-i.i c.index-old-i.result (omega arith) c.index-old-i.is in
    (omega (arith, low), tt)

pub are_fixed-is_fixed-requires : goal.are_fixed-is_fixed-requires
are_fixed-is_fixed-requires t c =
    let low : levels (view c.tree-item.result) ≤ levels_all (trees_of (views c.args.old.now)) =
    levels_item c.args.old.now c.loop-tree.tree-index c.tree-item.result c.loop-tree-test.true c.tree-item.is in
    (omega (arith, low), tt)

pub is_fixed-returns-in-Concat-shape : goal.is_fixed-returns-in-Concat-shape
is_fixed-returns-in-Concat-shape t c =
    row_case c.are_fixed.result c.args.unicode label.concat _ _ _ _ c.in-Concat.ensures.node
    c.in-Concat-shape.ensures.node c.are_fixed.ensures

pub is_fixed-returns-else-not-branch : goal.is_fixed-returns-else-not-branch
is_fixed-returns-else-not-branch t c =
    last_of_two c.is_fixed-in-Expression.result c.args.unicode _ _ _ _ _ _ c.in-Expression.ensures.node
    c.in-Expression-shape.ensures.node (c.in_ok-is_fixed-in-Expression.ensures c.if-not-branch.false)
    c.is_fixed-in-Expression.ensures

pub is_fixed_conditional-returns : goal.is_fixed_conditional-returns
is_fixed_conditional-returns t c =
    last_of_three c.is_fixed-3.result c.args.unicode _ _ _ _ _ _ _ c.in-Conditional.ensures.node
    (c.in_ok-is_fixed.ensures c.if-not-branch.false) (c.in_ok-is_fixed-2.ensures c.if-not-branch-2.false)
    c.is_fixed-3.ensures

pub is_fixed_around-returns : goal.is_fixed_around-returns
is_fixed_around-returns t c =
    over_case c.is_fixed.result c.args.unicode _ _ _ _ _
    (same_label c.args.wrap c.in-Around.other_wrap (sym c.eq.ensures ∙ c.if-eq.true)) c.in-Around.ensures.node
    c.is_fixed.ensures

pub is_fixed_around-returns-in-Repeat-eq1-eq1-default : goal.is_fixed_around-returns-in-Repeat-eq1-eq1-default
is_fixed_around-returns-in-Repeat-eq1-eq1-default t c =
    let once = c.in-Repeat-eq1-eq1-default in
    let is : label_of c.args.wrap ≡ label.repeat once.lo once.hi once.greedy = ap label_of once.is in
    once_case c.is_fixed-in-Repeat-eq1-eq1-default.result c.args.unicode once.greedy _ _ _ (cc)
    c.is_fixed-in-Repeat-eq1-eq1-default.ensures

pub is_fixed_alternation-returns-in-Alt : goal.is_fixed_alternation-returns-in-Alt
is_fixed_alternation-returns-in-Alt t c =
    branches_case c.are_branches.result c.args.unicode c.args.new.now c.in-Alt.branches c.args.old.now _ c.in-Alt.is
    c.deref.ensures.value c.are_branches.ensures

pub is_fixed_alternation-returns : goal.is_fixed_alternation-returns
is_fixed_alternation-returns t c =
    one_branch_case c.are_branches-2.result c.args.unicode c.args.new.now c.args.old.now _
    c.from_ref.ensures.value c.are_branches-2.ensures
