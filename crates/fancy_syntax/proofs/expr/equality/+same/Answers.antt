use Rattle.std.proofs.Common.{arith, rules, ap, ◌∙◌}
use Rattle.fancy_syntax.proofs.ApartLemmas.{apart}
use Rattle.fancy_syntax.proofs.SameLemmas.{same_all_lengths, same_all_here, same_all_all, same_all_more}
use Rattle.fancy_syntax.specs.declared.expr.Expr.{out-Expr}
use Rattle.fancy_syntax.specs.declared.expr.Expr.TheVariants as variant
use Rattle.fancy_syntax.proofs.expr.equality.+same.Goals as goal

pub is_same_list-returns-then-trees-others : goal.is_same_list-returns-then-trees-others
is_same_list-returns-then-trees-others t c = same_all_lengths c.args.with_positions c.args.trees.now c.args.others.now
    c.if-trees-others.true

pub is_same_list-returns-then-not-is_same_piece : goal.is_same_list-returns-then-not-is_same_piece
is_same_list-returns-then-not-is_same_piece t c =
    same_all_here c.args.with_positions c.args.trees.now c.args.others.now c.loop-i.i c.index-trees-i.result
    c.index-others-i.result
    (omega arith) (omega arith) c.index-trees-i.is c.index-others-i.is (search rules)

pub is_same_list-loop-i-preserved : goal.is_same_list-loop-i-preserved
is_same_list-loop-i-preserved t c =
    same_all_more c.args.with_positions c.args.trees.now c.args.others.now c.loop-i.i c.index-trees-i.result
    c.index-others-i.result
    (omega arith) (omega arith) c.index-trees-i.is c.index-others-i.is c.loop-i.invariant (search rules)

pub is_same_list-returns : goal.is_same_list-returns
is_same_list-returns t c = same_all_all c.args.with_positions c.args.trees.now c.args.others.now c.loop-i.i
    (omega arith) (omega arith)
    c.loop-i.invariant

pub is_same-returns-in_default : goal.is_same-returns-in_default
is_same-returns-in_default t c = apart c.args.with_positions _ _ _ (ap out-Expr c.in-Empty.is ∙ variant.outs-Empty)
    c.in_default.not-Empty

pub is_same-returns-in_default-other : goal.is_same-returns-in_default-other
is_same-returns-in_default-other t c = apart c.args.with_positions _ _ _ (ap out-Expr c.in-Any.is ∙ variant.outs-Any _ _)
    c.in_default-other.not-Any

pub is_same-returns-in_default-other-2 : goal.is_same-returns-in_default-other-2
is_same-returns-in_default-other-2 t c = apart c.args.with_positions _ _ _
    (ap out-Expr c.in-Assertion.is ∙ variant.outs-Assertion _)
    c.in_default-other-2.not-Assertion

pub is_same-returns-in_default-other-3 : goal.is_same-returns-in_default-other-3
is_same-returns-in_default-other-3 t c = apart c.args.with_positions _ _ _
    (ap out-Expr c.in-GeneralNewline.is ∙ variant.outs-GeneralNewline _) c.in_default-other-3.not-GeneralNewline

pub is_same-returns-in_default-other-4 : goal.is_same-returns-in_default-other-4
is_same-returns-in_default-other-4 t c = apart c.args.with_positions _ _ _
    (ap out-Expr c.in-Literal.is ∙ variant.outs-Literal _ _)
    c.in_default-other-4.not-Literal

pub is_same-returns-in_default-other-5 : goal.is_same-returns-in_default-other-5
is_same-returns-in_default-other-5 t c = apart c.args.with_positions _ _ _
    (ap out-Expr c.in-LiteralBytes.is ∙ variant.outs-LiteralBytes _)
    c.in_default-other-5.not-LiteralBytes

pub is_same-returns-in_default-other-6 : goal.is_same-returns-in_default-other-6
is_same-returns-in_default-other-6 t c = apart c.args.with_positions _ _ _
    (ap out-Expr c.in-Concat.is ∙ variant.outs-Concat _)
    c.in_default-other-6.not-Concat

pub is_same-returns-in_default-other-7 : goal.is_same-returns-in_default-other-7
is_same-returns-in_default-other-7 t c = apart c.args.with_positions _ _ _ (ap out-Expr c.in-Alt.is ∙ variant.outs-Alt _)
    c.in_default-other-7.not-Alt

pub is_same-returns-in_default-other-8 : goal.is_same-returns-in_default-other-8
is_same-returns-in_default-other-8 t c = apart c.args.with_positions _ _ _
    (ap out-Expr c.in-Group.is ∙ variant.outs-Group _)
    c.in_default-other-8.not-Group

pub is_same-returns-in_default-other-9 : goal.is_same-returns-in_default-other-9
is_same-returns-in_default-other-9 t c = apart c.args.with_positions _ _ _
    (ap out-Expr c.in-LookAround.is ∙ variant.outs-LookAround _ _)
    c.in_default-other-9.not-LookAround

pub is_same-returns-in_default-other-10 : goal.is_same-returns-in_default-other-10
is_same-returns-in_default-other-10 t c = apart c.args.with_positions _ _ _
    (ap out-Expr c.in-Repeat.is ∙ variant.outs-Repeat _ _ _ _)
    c.in_default-other-10.not-Repeat

pub is_same-returns-in_default-other-11 : goal.is_same-returns-in_default-other-11
is_same-returns-in_default-other-11 t c = apart c.args.with_positions _ _ _
    (ap out-Expr c.in-Delegate.is ∙ variant.outs-Delegate _ _)
    c.in_default-other-11.not-Delegate

pub is_same-returns-in_default-other-12 : goal.is_same-returns-in_default-other-12
is_same-returns-in_default-other-12 t c = apart c.args.with_positions _ _ _
    (ap out-Expr c.in-Backref.is ∙ variant.outs-Backref _ _)
    c.in_default-other-12.not-Backref

pub is_same-returns-in_default-other-13 : goal.is_same-returns-in_default-other-13
is_same-returns-in_default-other-13 t c = apart c.args.with_positions _ _ _
    (ap out-Expr c.in-BackrefWithRelativeRecursionLevel.is ∙ variant.outs-BackrefWithRelativeRecursionLevel _ _ _)
    c.in_default-other-13.not-BackrefWithRelativeRecursionLevel

pub is_same-returns-in_default-other-14 : goal.is_same-returns-in_default-other-14
is_same-returns-in_default-other-14 t c = apart c.args.with_positions _ _ _
    (ap out-Expr c.in-AtomicGroup.is ∙ variant.outs-AtomicGroup _)
    c.in_default-other-14.not-AtomicGroup

pub is_same-returns-in_default-matches : goal.is_same-returns-in_default-matches
is_same-returns-in_default-matches t c = apart c.args.with_positions _ _ _
    (ap out-Expr c.in-KeepOut.is ∙ variant.outs-KeepOut)
    c.in_default-matches.not-KeepOut

pub is_same-returns-in_default-matches-2 : goal.is_same-returns-in_default-matches-2
is_same-returns-in_default-matches-2 t c =
    apart c.args.with_positions _ _ _ (ap out-Expr c.in-ContinueFromPreviousMatchEnd.is ∙
    variant.outs-ContinueFromPreviousMatchEnd)
    c.in_default-matches-2.not-ContinueFromPreviousMatchEnd

pub is_same-returns-in_default-other-15 : goal.is_same-returns-in_default-other-15
is_same-returns-in_default-other-15 t c = apart c.args.with_positions _ _ _
    (ap out-Expr c.in-BackrefExistsCondition.is ∙ variant.outs-BackrefExistsCondition _ _)
    c.in_default-other-15.not-BackrefExistsCondition

pub is_same-returns-in_default-other-16 : goal.is_same-returns-in_default-other-16
is_same-returns-in_default-other-16 t c = apart c.args.with_positions _ _ _
    (ap out-Expr c.in-Conditional.is ∙ variant.outs-Conditional _ _ _)
    c.in_default-other-16.not-Conditional

pub is_same-returns-in_default-other-17 : goal.is_same-returns-in_default-other-17
is_same-returns-in_default-other-17 t c = apart c.args.with_positions _ _ _
    (ap out-Expr c.in-SubroutineCall.is ∙ variant.outs-SubroutineCall _) c.in_default-other-17.not-SubroutineCall

pub is_same-returns-in_default-other-18 : goal.is_same-returns-in_default-other-18
is_same-returns-in_default-other-18 t c = apart c.args.with_positions _ _ _
    (ap out-Expr c.in-BacktrackingControlVerb.is ∙ variant.outs-BacktrackingControlVerb _)
    c.in_default-other-18.not-BacktrackingControlVerb

pub is_same-returns-in_default-other-19 : goal.is_same-returns-in_default-other-19
is_same-returns-in_default-other-19 t c = apart c.args.with_positions _ _ _
    (ap out-Expr c.in-Absent.is ∙ variant.outs-Absent _)
    c.in_default-other-19.not-Absent

pub is_same-returns-in_default-other-20 : goal.is_same-returns-in_default-other-20
is_same-returns-in_default-other-20 t c = apart c.args.with_positions _ _ _
    (ap out-Expr c.in-DefineGroup.is ∙ variant.outs-DefineGroup _)
    c.in_default-other-20.not-DefineGroup

pub is_same-returns-in_default-other-21 : goal.is_same-returns-in_default-other-21
is_same-returns-in_default-other-21 t c = apart c.args.with_positions _ _ _
    (ap out-Expr c.in-AstNode.is ∙ variant.outs-AstNode _ _)
    c.in_default-other-21.not-AstNode
