use Rattle.std.proofs.Common.{◌≡◌, ◌+◌, true, false, [], chars, codes, sym, ap, ◌∙◌, subst, refl, rules, if◌then◌else◌}
use Rattle.fancy_grammar.specs.Label as label
use Rattle.fancy_grammar.specs.Pattern.{written, written_all, written_branches, condition_text, after, verb_text}
use Rattle.fancy_grammar.specs.Pattern.{in_parens, past_groups, group_count, look_opening, repeated}
use Rattle.fancy_grammar.specs.PatternNeeds.{first, needs}
use Rattle.fancy_grammar.specs.PatternQuantifier.{quantifier_text}
use Rattle.fancy_grammar.specs.PatternReference.{target_text}
use Rattle.fancy_grammar.specs.PatternWalk.{needs_listed}
use Rattle.fancy_grammar.specs.Tree.{group, look_around, repeat, atomic_group, define_group, repeater, stopper, expression}
use Rattle.fancy_grammar.specs.Tree.{conditional, concat, alt, empty, literal, backref_exists, verb, is_leaf, trees_of}
use Rattle.fancy_grammar.specs.declared.precedence.Precedence.TheVariants.{Whole}
use Rattle.fancy_pattern.specs.TextOutput.{Added}
use Rattle.fancy_pattern.specs.Writers.{Writes, WritesTree, WritesSettled, takes_inline_flags}
use Rattle.fancy_syntax.specs.View.{view, views}
use Rattle.fancy_syntax.specs.declared.expr.Absent as absent_type
use Rattle.fancy_syntax.specs.declared.expr.Expr.{the_lemmas}
use Rattle.fancy_syntax.proofs.PrintLemmas.{left, left_step, left_end}
use Rattle.fancy_pattern.proofs.OutputLemmas.{added_as}
use Rattle.fancy_pattern.proofs.WritesLemmas.{on_then, parens_writes, changed_writes, past_writes}
use Rattle.fancy_pattern.proofs.SettledLemmas.{leaf_writes, literal_writes, settled_writes, empty_writes}
use Rattle.fancy_pattern.proofs.SettledLemmas.{flag_group_writes}
use Rattle.fancy_pattern.proofs.RowLemmas.{pieces_left, all_branches, barred_left, on_starts, on_as, on_piece}
use Rattle.fancy_pattern.proofs.RowLemmas.{pieces_end, on_first, on_branch, branches_end, no_branches, first_branch}
use Rattle.fancy_pattern.proofs.NodeLemmas.{look_writes, last_writes, group_writes}
use Rattle.fancy_pattern.proofs.NodeLemmas.{quantified_writes, atomic_writes, atomic_in_group, word_writes}
use Rattle.fancy_pattern.proofs.NodeLemmas.{condition_writes, choice_writes, conditional_writes}
use Rattle.fancy_pattern.proofs.NodeLemmas.{expression_writes, settled_group, settled_look, settled_repeat}
use Rattle.fancy_pattern.proofs.NodeLemmas.{settled_define, settled_repeater, settled_stopper}
use Rattle.fancy_pattern.proofs.NodeLemmas.{pieces_writes, branches_writes, concat_in_flag_group}
use Rattle.fancy_pattern.proofs.NodeLemmas.{alt_in_flag_group}
use Rattle.fancy_pattern.proofs.write.+write.Goals as goal

-- ---- groups

pub put_in_group-returns : goal.put_in_group-returns
put_in_group-returns t c = λ m names. on_then _ _ _ c.close.ensures
    (λ closed. parens_writes _ _ _ _ _ _ _ _ _ _ _ _ c.in_ok-open.ensures.0
    c.in_ok-open.ensures.1 (c.in_ok-put_tree.ensures m names) closed.0 closed.1)

pub put_quantified_in_group-returns : goal.put_quantified_in_group-returns
put_quantified_in_group-returns t c = λ m names. on_then _ _ _ c.close.ensures
    (λ closed. parens_writes _ _ _ _ _ _ _ _ _ _ _ _ c.in_ok-open.ensures.0
    c.in_ok-open.ensures.1 (c.in_ok-put_quantified.ensures m names) closed.0 closed.1)

pub put_look_around-returns-then-is_operand : goal.put_look_around-returns-then-is_operand
put_look_around-returns-then-is_operand t c = λ m names.
    let child = view c.args.child.now in
    let inner = in_parens (look_opening c.args.look) (written m child Whole) in
    let w = subst (λ x. Writes c.open.new.out c.put_in_group.new.out c.open.new.context
    c.put_in_group.new.context
    (λ o. needs_listed o child) (in_parens x (written m child Whole)) (past_groups (group_count child)))
    (sym c.look_opening.ensures.text) (c.in_ok-put_in_group.ensures m names) in
    on_then _ _ _ c.close.ensures
    (λ closed. look_writes _ _ _ _ child c.args.look c.args.precedence (λ o. needs_listed o child)
    inner
    (past_groups (group_count child)) true (sym c.if-is_operand.true ∙ c.is_operand.ensures)
    (parens_writes _ _ _ _ _ _ _ _ _ _ _ _ c.in_ok-open.ensures.0 c.in_ok-open.ensures.1 w closed.0
    closed.1))

pub put_look_around-returns : goal.put_look_around-returns
put_look_around-returns t c = λ m names. on_then _ _ _ (c.put_in_group-2.ensures m names)
    (λ w. look_writes _ _ _ _ (view c.args.child.now) c.args.look c.args.precedence _ _ _ false
    (sym c.if-is_operand.false ∙ c.is_operand.ensures)
    (subst (λ x. Writes c.args.out.now c.put_in_group-2.new.out c.args.context.now
    c.put_in_group-2.new.context
    (λ o. needs_listed o (view c.args.child.now)) (in_parens x (written m (view c.args.child.now) Whole))
    (past_groups (group_count (view c.args.child.now)))) (sym c.look_opening-2.ensures.text) w))

pub put_group-returns : goal.put_group-returns
put_group-returns t c = λ m names. on_then _ _ _ c.close.ensures
    (λ closed. group_writes _ _ _ _ _ _ _ _ _ _ m _ c.in_ok-open.ensures.0 c.in_ok-open.ensures.1
    c.in_ok-count_opening.ensures (c.in_ok-put_group_opening.ensures m names) (c.in_ok-put_tree.ensures m names) closed.0
    closed.1)

pub put_repeater-returns : goal.put_repeater-returns
put_repeater-returns t c = λ m names. on_then _ _ _ c.close.ensures
    (λ closed. parens_writes _ _ _ _ _ _ _ _ _ _ _ _ c.in_ok-open.ensures.0
    c.in_ok-open.ensures.1
    (changed_writes _ _ _ _ _ _ _ _ _ _ c.len-position.ensures (c.in_ok-put_tree.ensures m names)
    c.in_ok-separate.ensures)
    closed.0 closed.1)

pub put_stopper-returns : goal.put_stopper-returns
put_stopper-returns t c = λ m names. on_then _ _ _ c.close.ensures
    (λ closed. parens_writes _ _ _ _ _ _ _ _ _ _ _ _ c.in_ok-open.ensures.0
    c.in_ok-open.ensures.1
    (changed_writes _ _ _ _ _ _ _ _ _ _ c.len-position.ensures (c.in_ok-put_tree.ensures m names)
    c.in_ok-fill.ensures)
    closed.0 closed.1)

pub put_expression-returns : goal.put_expression-returns
put_expression-returns t c = λ m p names. on_then _ _ _ c.close.ensures
    (λ closed. expression_writes _ _ _ _ _ _ _ _ _ _ _ m _ _ p c.in_ok-open.ensures.0 c.in_ok-open.ensures.1
    (c.in_ok-put_tree.ensures m names) c.in_ok-put.ensures (c.in_ok-put_tree-2.ensures m names)
    closed.0 closed.1)

pub put_conditional-returns : goal.put_conditional-returns
put_conditional-returns t c = λ m p names. on_then _ _ _ c.close.ensures
    (λ closed. conditional_writes _ _ _ _ _ _ _ _ _ _ _ m _ _ _ p c.in_ok-open.ensures.0 c.in_ok-open.ensures.1
    (c.in_ok-put_condition.ensures m names) c.in_ok-put.ensures (c.in_ok-put_choice.ensures m names)
    closed.0 closed.1)

-- ---- quantifiers

pub put_quantified-returns : goal.put_quantified-returns
put_quantified-returns t c = λ m names.
    let q = c.args.quantifier in
    on_then _ _ _ c.put_quantifier.ensures
    (λ added. quantified_writes _ _ _ _ _ _ m (view c.args.child.now) c.args.precedence
    q.possessive q.lo q.hi q.greedy
    c.allowed-allowed.result c.allowed-allowed.ensures (c.in_ok-put_tree.ensures m names)
    (subst (λ b. Added c.put_tree.new.out c.put_quantifier.new.out
    (quantifier_text c.args.context.now.flags q.possessive b q.lo q.hi q.greedy)) c.is_adjacent-adjacent.ensures added)
    c.leave.ensures)

pub put_repeat-returns-then-is_last_operand : goal.put_repeat-returns-then-is_last_operand
put_repeat-returns-then-is_last_operand t c = λ m names.
    let child = view c.args.child.now in
    let q = c.args.quantifier in
    let text = repeated q.possessive child q.lo q.hi q.greedy (written m child) in
    on_then c.put_quantified_in_group.result
    (Writes c.args.out.now c.put_quantified_in_group.new.out c.args.context.now
    c.put_quantified_in_group.new.context (λ o. needs_listed o child) (in_parens (codes "?:") (text Whole))
    (past_groups (group_count child)))
    _ (c.put_quantified_in_group.ensures m names)
    (λ w. last_writes c.args.out.now c.put_quantified_in_group.new.out c.args.context.now
    c.put_quantified_in_group.new.context c.args.precedence (codes "?:") (λ o. needs_listed o child) text
    (past_groups (group_count child)) true (sym c.if-is_last_operand.true ∙ c.is_last_operand.ensures) w)

pub put_repeat-returns : goal.put_repeat-returns
put_repeat-returns t c = λ m names.
    let child = view c.args.child.now in
    let q = c.args.quantifier in
    let text = repeated q.possessive child q.lo q.hi q.greedy (written m child) in
    on_then c.put_quantified.result
    (Writes c.args.out.now c.put_quantified.new.out c.args.context.now c.put_quantified.new.context
    (λ o. needs_listed o child) (text c.args.precedence) (past_groups (group_count child)))
    _ (c.put_quantified.ensures m names)
    (λ w. last_writes c.args.out.now c.put_quantified.new.out c.args.context.now
    c.put_quantified.new.context c.args.precedence (codes "?:") (λ o. needs_listed o child) text
    (past_groups (group_count child)) false (sym c.if-is_last_operand.false ∙ c.is_last_operand.ensures) w)

pub put_atomic-returns-in_default : goal.put_atomic-returns-in_default
put_atomic-returns-in_default t c = λ m names. on_then _ _ _ (c.put_in_group.ensures m names)
    (λ w. atomic_in_group _ _ _ _ m (view c.args.child.now) c.args.precedence
    (search (rules, the_lemmas)) w)

pub put_atomic-returns-then-grouped : goal.put_atomic-returns-then-grouped
put_atomic-returns-then-grouped t c = λ m names.
    let repeated = view c.deref.result.now in
    let is : view c.args.child.now ≡ repeat repeated c.in-Repeat.lo c.in-Repeat.hi c.in-Repeat.greedy
    = search (rules, the_lemmas) in
    on_then _ _ _ (c.put_quantified_in_group.ensures m names)
    (λ w. subst (λ x. WritesSettled c.args.out.now c.put_quantified_in_group.new.out
    c.args.context.now c.put_quantified_in_group.new.context m (atomic_group x)
    c.args.precedence) (sym is)
    (atomic_writes _ _ _ _ m repeated c.in-Repeat.lo c.in-Repeat.hi c.in-Repeat.greedy
    c.args.precedence true
    (sym c.if-grouped.true ∙ c.needs_atomic_group-grouped.ensures)
    (past_writes _ _ _ _ _ (λ o. needs first o repeated) _ _ _ c.pass_node.ensures w)))

pub put_atomic-returns : goal.put_atomic-returns
put_atomic-returns t c = λ m names.
    let repeated = view c.deref-2.result.now in
    let is : view c.args.child.now ≡ repeat repeated c.in-Repeat.lo c.in-Repeat.hi c.in-Repeat.greedy
    = search (rules, the_lemmas) in
    on_then _ _ _ (c.put_quantified.ensures m names)
    (λ w. subst (λ x. WritesSettled c.args.out.now c.put_quantified.new.out c.args.context.now
    c.put_quantified.new.context m (atomic_group x)
    c.args.precedence) (sym is)
    (atomic_writes _ _ _ _ m repeated c.in-Repeat.lo c.in-Repeat.hi c.in-Repeat.greedy
    c.args.precedence false
    (sym c.if-grouped.false ∙ c.needs_atomic_group-grouped.ensures)
    (past_writes _ _ _ _ _ (λ o. needs first o repeated) _ _ _ c.pass_node.ensures w)))

-- ---- conditionals

pub put_condition-returns-in-BackrefExistsCondition : goal.put_condition-returns-in-BackrefExistsCondition
put_condition-returns-in-BackrefExistsCondition t c = λ m names.
    let n = c.in-BackrefExistsCondition.group in
    let level = c.in-BackrefExistsCondition.relative_recursion_level in
    let is : view c.args.condition.now ≡ backref_exists n level = search (rules, the_lemmas) in
    on_then _ _ _ (c.put_target.ensures m names)
    (λ w. subst (λ x. Writes c.args.out.now c.put_target.new.out c.args.context.now
    c.pass_node.new.self
    (λ o. needs_listed o x) (λ h. condition_text m x (written m x Whole h)) (after x Whole)) (sym is)
    (word_writes _ _ _ _ m (label.backref_exists n level) (target_text m n level) refl (λ x. refl) w
    c.pass_node.ensures))

pub put_condition-returns-in-BacktrackingControlVerb : goal.put_condition-returns-in-BacktrackingControlVerb
put_condition-returns-in-BacktrackingControlVerb t c = λ m names.
    let v = c.in-BacktrackingControlVerb.verb in
    let is : view c.args.condition.now ≡ verb v = search (rules, the_lemmas) in
    on_then _ _ _ c.put_verb_text.ensures
    (λ w. subst (λ x. Writes c.args.out.now c.put_verb_text.new.out c.args.context.now
    c.pass_node-in-BacktrackingControlVerb.new.self (λ o. needs_listed o x)
    (λ h. condition_text m x (written m x Whole h)) (after x Whole)) (sym is)
    (word_writes _ _ _ _ m (label.verb v) (verb_text v) refl (λ x. refl) w
    c.pass_node-in-BacktrackingControlVerb.ensures))

pub put_condition-returns-in_ok-put_tree-in-Empty : goal.put_condition-returns-in_ok-put_tree-in-Empty
put_condition-returns-in_ok-put_tree-in-Empty t c = λ m names. on_then _ _ _ c.separate.ensures
    (λ w. condition_writes _ _ _ _ m (view c.args.condition.now) (search (rules, the_lemmas))
    (changed_writes _ _ _ _ _ _ _ _ _ _ c.len-position.ensures
    (c.in_ok-put_tree-in-Empty.ensures m names) w))

pub put_choice-returns : goal.put_choice-returns
put_choice-returns t c = λ m names. on_then _ _ _ (c.put_tree-2.ensures m names)
    (λ w. choice_writes _ _ _ _ _ _ _ _ m _ _ c.in_ok-put_empty_choice.ensures (c.in_ok-put_tree.ensures m names)
    (added_as _ _ _ _ c.in_ok-put_if.ensures (ap (λ b. if b then codes "|" else []) c.needs_bar.ensures)) w)

-- ---- rows

pub put_pieces-loop-piece-init : goal.put_pieces-loop-piece-init
put_pieces-loop-piece-init t c = λ m names. on_starts _ _ _

pub put_pieces-loop-piece-preserved : goal.put_pieces-loop-piece-preserved
put_pieces-loop-piece-preserved t c = λ m names.
    let pieces = c.args.pieces.now in
    let i = c.loop-piece.piece-index in
    let step = left_step pieces i c.piece-item.result c.loop-piece-test.true c.piece-item.is in
    on_as _ _ _ _ _ _ _ (ap (λ b. pieces_left m b (left pieces (i + 1)))
    (sym (c.is_in_digits-after_digits.ensures m names)))
    (on_piece _ _ _ _ _ _ _ m c.loop-piece.after_digits c.len-position.result
    (view c.piece-item.result)
    (left pieces (i + 1)) _ c.len-position.ensures
    (on_as _ _ _ _ _ _ _ (ap (pieces_left m c.loop-piece.after_digits) step)
    (c.loop-piece.invariant m names))
    (c.in_ok-put_tree.ensures m names) c.in_ok-separate_after_digits.ensures)

pub put_pieces-returns : goal.put_pieces-returns
put_pieces-returns t c = λ m names.
    let none = left_end c.args.pieces.now c.loop-piece.piece-index c.loop-piece-test.false in
    pieces_end _ _ _ _ m c.loop-piece.after_digits _
    (on_as _ _ _ _ _ _ _ (ap (pieces_left m c.loop-piece.after_digits) none)
    (c.loop-piece.invariant m names))

pub put_branches-loop-branch-init : goal.put_branches-loop-branch-init
put_branches-loop-branch-init t c = λ m names.
    let is = first_branch c.args.branches.now c.first-item.result c.in-len1-up.len_at_least c.first-item.is in
    on_first _ _ _ _ _ _ m (view c.first-item.result) _ _
    (on_as _ _ _ _ _ _ _ (ap (all_branches m) is) (on_starts _ _ _))
    (c.in_ok-put_tree.ensures m names)

pub put_branches-loop-branch-preserved : goal.put_branches-loop-branch-preserved
put_branches-loop-branch-preserved t c = λ m names.
    let step = left_step _ c.loop-branch.branch-index c.branch-item.result c.loop-branch-test.true c.branch-item.is in
    on_branch _ _ _ _ _ _ _ m (view c.branch-item.result) _ _
    (on_as _ _ _ _ _ _ _ (ap (barred_left m) step) (c.loop-branch.invariant m names))
    c.in_ok-put.ensures
    (c.in_ok-put_tree-2.ensures m names)

pub put_branches-returns-in_default : goal.put_branches-returns-in_default
put_branches-returns-in_default t c = λ m names. no_branches _ _ m c.args.branches.now
    c.in_default.len_below

pub put_branches-returns : goal.put_branches-returns
put_branches-returns t c = λ m names.
    let none = left_end _ c.loop-branch.branch-index c.loop-branch-test.false in
    branches_end _ _ _ _ m _
    (on_as _ _ _ _ _ _ _ (ap (barred_left m) none) (c.loop-branch.invariant m names))

pub put_concat-returns-then-takes_pieces : goal.put_concat-returns-then-takes_pieces
put_concat-returns-then-takes_pieces t c = λ m names. on_then _ _ _ (c.put_pieces.ensures m names)
    (λ w. pieces_writes _ _ _ _ _ m (trees_of (views c.args.pieces.now)) c.args.precedence
    (sym c.takes_pieces.ensures ∙ c.if-takes_pieces.true) c.pass_node.ensures w)

pub put_concat-returns : goal.put_concat-returns
put_concat-returns t c = λ m names.
    let ts = trees_of (views c.args.pieces.now) in
    on_then _ _ _ c.close.ensures
    (λ closed. concat_in_flag_group _ _ _ _ m ts c.args.precedence
    (sym c.takes_pieces.ensures ∙ c.if-takes_pieces.false)
    (flag_group_writes _ _ _ _ _ _ _ _ label.concat ts (written_all m false ts) _ c.in_ok-open_flag_group.ensures
    (c.in_ok-put_pieces.ensures m names) closed.0 closed.1))

pub put_alt-returns-then-takes_branches : goal.put_alt-returns-then-takes_branches
put_alt-returns-then-takes_branches t c = λ m names. on_then _ _ _ (c.put_branches.ensures m names)
    (λ w. branches_writes _ _ _ _ _ m (trees_of (views c.args.branches.now)) c.args.precedence
    (sym c.takes_branches.ensures ∙ c.if-takes_branches.true) c.pass_node.ensures w)

pub put_alt-returns : goal.put_alt-returns
put_alt-returns t c = λ m names.
    let ts = trees_of (views c.args.branches.now) in
    on_then _ _ _ c.close.ensures
    (λ closed. alt_in_flag_group _ _ _ _ m ts c.args.precedence
    (sym c.takes_branches.ensures ∙ c.if-takes_branches.false)
    (flag_group_writes _ _ _ _ _ _ _ _ label.alt ts (written_branches m ts) _ c.in_ok-open_flag_group.ensures
    (c.in_ok-put_branches.ensures m names) closed.0 closed.1))

-- ---- any tree

pub put_settled-returns-in-Group : goal.put_settled-returns-in-Group
put_settled-returns-in-Group t c = λ m names.
    let is : view c.args.tree.now ≡ group (view c.deref.result.now) = search (rules, the_lemmas) in
    on_then _ _ _ (c.put_group.ensures m names)
    (λ w. subst (λ x. WritesSettled c.args.out.now c.put_group.new.out c.args.context.now
    c.put_group.new.context m x c.args.precedence) (sym is)
    (settled_group _ _ _ _ m _ c.args.precedence w))

pub put_settled-returns-in-LookAround : goal.put_settled-returns-in-LookAround
put_settled-returns-in-LookAround t c = λ m names.
    let is : view c.args.tree.now ≡ look_around (view c.deref-in-LookAround.result.now) c.in-LookAround.look = search
    (rules, the_lemmas) in
    on_then _ _ _ (c.put_look_around.ensures m names)
    (λ w. subst (λ x. WritesSettled c.args.out.now c.put_look_around.new.out c.args.context.now
    c.put_look_around.new.context m x c.args.precedence) (sym is)
    (settled_look _ _ _ _ m _ _ c.args.precedence w))

pub put_settled-returns-in-Repeat : goal.put_settled-returns-in-Repeat
put_settled-returns-in-Repeat t c = λ m names.
    let is : view c.args.tree.now ≡ repeat (view c.deref-in-Repeat.result.now) c.in-Repeat.lo c.in-Repeat.hi
    c.in-Repeat.greedy = search (rules, the_lemmas) in
    on_then _ _ _ (c.put_repeat.ensures m names)
    (λ w. subst (λ x. WritesSettled c.args.out.now c.put_repeat.new.out c.args.context.now
    c.put_repeat.new.context m x c.args.precedence) (sym is)
    (settled_repeat _ _ _ _ m _ _ _ _ c.args.precedence w))

pub put_settled-returns-in-AtomicGroup : goal.put_settled-returns-in-AtomicGroup
put_settled-returns-in-AtomicGroup t c = λ m names.
    let is : view c.args.tree.now ≡ atomic_group (view c.deref-in-AtomicGroup.result.now) = search (rules, the_lemmas) in
    on_then _ _ _ (c.put_atomic.ensures m names)
    (λ w. subst (λ x. WritesSettled c.args.out.now c.put_atomic.new.out c.args.context.now
    c.put_atomic.new.context m x c.args.precedence) (sym is)
    (w))

pub put_settled-returns-in-DefineGroup : goal.put_settled-returns-in-DefineGroup
put_settled-returns-in-DefineGroup t c = λ m names.
    let is : view c.args.tree.now ≡ define_group (view c.deref-in-DefineGroup.result.now) = search (rules, the_lemmas) in
    on_then _ _ _ (c.put_in_group.ensures m names)
    (λ w. subst (λ x. WritesSettled c.args.out.now c.put_in_group.new.out c.args.context.now
    c.put_in_group.new.context m x c.args.precedence) (sym is)
    (settled_define _ _ _ _ m _ c.args.precedence w))

pub put_settled-returns-in-Conditional : goal.put_settled-returns-in-Conditional
put_settled-returns-in-Conditional t c = λ m names.
    let is : view c.args.tree.now ≡ conditional (view c.deref-in-Conditional.result.now)
    (view c.deref-in-Conditional-2.result.now) (view c.deref-in-Conditional-3.result.now) = search (rules, the_lemmas) in
    on_then _ _ _ (c.put_conditional.ensures m c.args.precedence names)
    (λ w. subst (λ x. WritesSettled c.args.out.now c.put_conditional.new.out c.args.context.now
    c.put_conditional.new.context m x c.args.precedence) (sym is) w)

pub put_settled-returns-in-Absent-Repeater : goal.put_settled-returns-in-Absent-Repeater
put_settled-returns-in-Absent-Repeater t c = λ m names.
    let is : view c.args.tree.now ≡ repeater (view c.deref-in-Absent-Repeater.result.now) = search (rules, the_lemmas) in
    on_then _ _ _ (c.put_repeater.ensures m names)
    (λ w. subst (λ x. WritesSettled c.args.out.now c.put_repeater.new.out c.args.context.now
    c.put_repeater.new.context m x c.args.precedence) (sym is)
    (settled_repeater _ _ _ _ m _ c.args.precedence w))

pub put_settled-returns-in-Absent-Expression : goal.put_settled-returns-in-Absent-Expression
put_settled-returns-in-Absent-Expression t c = λ m names.
    let is : view c.args.tree.now ≡ expression (view c.deref-in-Absent-Expression.result.now)
    (view c.deref-in-Absent-Expression-2.result.now) = search (rules, the_lemmas) in
    on_then _ _ _ (c.put_expression.ensures m c.args.precedence names)
    (λ w. subst (λ x. WritesSettled c.args.out.now c.put_expression.new.out c.args.context.now
    c.put_expression.new.context m x c.args.precedence) (sym is) w)

pub put_settled-returns-in-Absent-Stopper : goal.put_settled-returns-in-Absent-Stopper
put_settled-returns-in-Absent-Stopper t c = λ m names.
    let is : view c.args.tree.now ≡ stopper (view c.deref-in-Absent-Stopper.result.now) = search (rules, the_lemmas) in
    on_then _ _ _ (c.put_stopper.ensures m names)
    (λ w. subst (λ x. WritesSettled c.args.out.now c.put_stopper.new.out c.args.context.now
    c.put_stopper.new.context m x c.args.precedence) (sym is)
    (settled_stopper _ _ _ _ m _ c.args.precedence w))

pub put_settled-returns-in-Any : goal.put_settled-returns-in-Any
put_settled-returns-in-Any t c = λ m names.
    let is : is_leaf (view c.args.tree.now) ≡ true = search (rules, the_lemmas, absent_type.the_lemmas) in
    on_then _ _ _ (c.put_leaf_at.ensures m names)
    (λ w. leaf_writes _ _ _ _ m (view c.args.tree.now) c.args.precedence is c.requires w)

pub put_node-returns-in-Empty : goal.put_node-returns-in-Empty
put_node-returns-in-Empty t c = λ m names.
    let is : view c.args.tree.now ≡ empty = search (rules, the_lemmas) in
    on_then _ _ _ c.put_empty.ensures
    (λ w. subst (λ x. WritesTree c.args.out.now c.put_empty.new.out c.args.context.now c.pass_node.new.self m x
    c.args.precedence) (sym is) (empty_writes _ _ _ _ m c.args.precedence c.pass_node.ensures w))

pub put_node-returns-in-Concat : goal.put_node-returns-in-Concat
put_node-returns-in-Concat t c = λ m names.
    let is : view c.args.tree.now ≡ concat (trees_of (views c.deref.result.now)) = search (rules, the_lemmas) in
    on_then _ _ _ (c.put_concat.ensures m names)
    (λ w. subst (λ x. WritesTree c.args.out.now c.put_concat.new.out c.args.context.now c.put_concat.new.context m x
    c.args.precedence) (sym is) w)

pub put_node-returns-in-Alt : goal.put_node-returns-in-Alt
put_node-returns-in-Alt t c = λ m names.
    let is : view c.args.tree.now ≡ alt (trees_of (views c.deref-in-Alt.result.now)) = search (rules, the_lemmas) in
    on_then _ _ _ (c.put_alt.ensures m names)
    (λ w. subst (λ x. WritesTree c.args.out.now c.put_alt.new.out c.args.context.now c.put_alt.new.context m x
    c.args.precedence) (sym is) w)

pub put_node-returns-in_ok-settle-in-Any : goal.put_node-returns-in_ok-settle-in-Any
put_node-returns-in_ok-settle-in-Any t c = λ m names.
    let takes : takes_inline_flags (view c.args.tree.now) ≡ true = search (rules, the_lemmas) in
    on_then _ _ _ (c.put_settled.ensures m names)
    (λ w. settled_writes _ _ _ _ _ _ m (view c.args.tree.now) c.args.precedence takes c.in_ok-settle-in-Any.ensures w)

pub put_tree-returns-in-Literal : goal.put_tree-returns-in-Literal
put_tree-returns-in-Literal t c = λ m names.
    let is : view c.args.tree.now ≡ literal (chars c.as_str.result.now) c.in-Literal.casei = search
    (rules, the_lemmas, c.as_str.ensures.value) in
    on_then _ _ _ c.put_literal.ensures
    (λ w. subst (λ x. WritesTree c.args.out.now c.put_literal.new.out c.args.context.now c.settle.new.context m x
    c.args.precedence) (sym is)
    (literal_writes _ _ _ _ _ m _ c.in-Literal.casei c.args.precedence c.in_ok-settle.ensures w))
