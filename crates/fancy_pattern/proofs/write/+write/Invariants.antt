use Rattle.std.proofs.Common.{◌+◌, ◌*◌, max, false}
use Rattle.fancy_grammar.specs.GroupInfo.{GroupInfo}
use Rattle.fancy_grammar.specs.Tree.{trees_of}
use Rattle.fancy_syntax.specs.View.{views}
use Rattle.fancy_syntax.specs.declared.expr.Expr.{size-Expr}
use Rattle.fancy_pattern.specs.ContextViews.{AreGroupNames}
use Rattle.fancy_syntax.proofs.PrintLemmas.{left}
use Rattle.fancy_pattern.proofs.RowLemmas.{WritesOn, pieces_left, all_branches, barred_left}
use Rattle.fancy_pattern.proofs.write.+write.Given as goal

abbrev pub invariant-put_pieces-loop-piece : goal.invariant-put_pieces-loop-piece
invariant-put_pieces-loop-piece l = (m : GroupInfo) → AreGroupNames l.names m →
    WritesOn l.initial.out l.out l.initial.context l.context
    (pieces_left m l.after_digits (left l.pieces l.piece-index)) (pieces_left m false (left l.pieces 0))

abbrev pub invariant-put_branches-loop-branch : goal.invariant-put_branches-loop-branch
invariant-put_branches-loop-branch l = (m : GroupInfo) → AreGroupNames l.names m →
    WritesOn l.fn.out l.out l.fn.context l.context
    (barred_left m (left l.others l.branch-index)) (all_branches m (trees_of (views l.branches)))

-- Each call that goes down to a child loses a depth, and so six; a call with the same tree loses what is added.

abbrev pub decreases-put_settled : goal.decreases-put_settled
decreases-put_settled l = 6 * size-Expr l.tree.now

abbrev pub decreases-put_tree : goal.decreases-put_tree
decreases-put_tree l = 6 * size-Expr l.tree.now + 2

abbrev pub decreases-put_node : goal.decreases-put_node
decreases-put_node l = 6 * size-Expr l.tree.now + 1

abbrev pub decreases-put_pieces : goal.decreases-put_pieces
decreases-put_pieces l = 6 * goal.size-put_pieces l + 3

abbrev pub decreases-put_concat : goal.decreases-put_concat
decreases-put_concat l = 6 * goal.size-put_concat l + 4

abbrev pub decreases-put_branches : goal.decreases-put_branches
decreases-put_branches l = 6 * goal.size-put_branches l + 3

abbrev pub decreases-put_alt : goal.decreases-put_alt
decreases-put_alt l = 6 * goal.size-put_alt l + 4

abbrev pub decreases-put_in_group : goal.decreases-put_in_group
decreases-put_in_group l = 6 * size-Expr l.child.now + 3

abbrev pub decreases-put_look_around : goal.decreases-put_look_around
decreases-put_look_around l = 6 * size-Expr l.child.now + 4

abbrev pub decreases-put_group : goal.decreases-put_group
decreases-put_group l = 6 * size-Expr l.child.now + 3

abbrev pub decreases-put_quantified : goal.decreases-put_quantified
decreases-put_quantified l = 6 * size-Expr l.child.now + 3

abbrev pub decreases-put_quantified_in_group : goal.decreases-put_quantified_in_group
decreases-put_quantified_in_group l = 6 * size-Expr l.child.now + 4

abbrev pub decreases-put_repeat : goal.decreases-put_repeat
decreases-put_repeat l = 6 * size-Expr l.child.now + 5

abbrev pub decreases-put_atomic : goal.decreases-put_atomic
decreases-put_atomic l = 6 * size-Expr l.child.now + 4

abbrev pub decreases-put_condition : goal.decreases-put_condition
decreases-put_condition l = 6 * size-Expr l.condition.now + 3

abbrev pub decreases-put_choice : goal.decreases-put_choice
decreases-put_choice l = 6 * max (size-Expr l.true_branch.now) (size-Expr l.false_branch.now) + 3

abbrev pub decreases-put_conditional : goal.decreases-put_conditional
decreases-put_conditional l =
    6 * max (size-Expr l.condition.now) (max (size-Expr l.true_branch.now) (size-Expr l.false_branch.now)) + 4

abbrev pub decreases-put_repeater : goal.decreases-put_repeater
decreases-put_repeater l = 6 * size-Expr l.child.now + 3

abbrev pub decreases-put_expression : goal.decreases-put_expression
decreases-put_expression l = 6 * max (size-Expr l.absent.now) (size-Expr l.exp.now) + 3

abbrev pub decreases-put_stopper : goal.decreases-put_stopper
decreases-put_stopper l = 6 * size-Expr l.child.now + 3
