use Rattle.std.proofs.Common.{arith, rules, ◌≡◌, ◌+◌, ◌++◌, get_or, length, sym, ap, ◌∙◌, ◌<◌, ◌≢◌, length-set}
use Rattle.std.proofs.Common.{get_or-set_other, refl, set, take, []}
use Rattle.std.proofs.lemmas.List.{set-get_or}
use Rattle.std.specs.Prelude.{chars}
use Rattle.fancy_lex.specs.NameViews.{view_target}
use Rattle.fancy_lex.specs.Text.{bytes}
use Rattle.fancy_grammar.specs.Items.{items, openings_in}
use Rattle.fancy_syntax.specs.WalkViews.{scope_of, progress_of}
use Rattle.fancy_syntax.specs.Regrouped.{raw}
use Rattle.fancy_syntax.specs.View.{view, views}
use Rattle.fancy_grammar.specs.Walk.{progress_after}
use Rattle.fancy_syntax.specs.declared.expr.Expr.{Expr, the_lemmas}
use Rattle.fancy_syntax.proofs.NoItems.{resolved_same}
use Rattle.fancy_syntax.proofs.PartLemmas.{two_parts, three_borrowed, two_count, three_count, two_recorded, three_recorded}
use Rattle.fancy_syntax.proofs.PartLemmas.{third_recorded, three_error, third_error, two_resolved, three_resolved}
use Rattle.fancy_syntax.proofs.WalkLemmas.{recorded_append, recorded_le, error_kept, count_two, rest, rest_next, rest_none}
use Rattle.fancy_syntax.proofs.WalkLemmas.{resolved_list, front_resolved, rest_resolved, each_resolved}
use Rattle.fancy_syntax.proofs.resolve.rewrite.+rewrite.Goals as goal
use Rattle.fancy_syntax.proofs.resolve.rewrite.+rewrite.Goals.{rewrite_all-then-may_hold_items+in_ok-rewrite}
use Rattle.fancy_syntax.proofs.resolve.rewrite.+rewrite.Goals.{rewrite_all-else-may_hold_items}

pub rewrite-rewrite_child-requires-in-Conditional : goal.rewrite-rewrite_child-requires-in-Conditional
rewrite-rewrite_child-requires-in-Conditional t c =
    let is = c.in-Conditional in
    let parts = three_borrowed is.is is.condition-is is.true_branch-is is.false_branch-is in
    let count = three_count parts in
    (search (rules, the_lemmas), omega arith)

pub rewrite-rewrite_child-requires-in-Conditional-2 : goal.rewrite-rewrite_child-requires-in-Conditional-2
rewrite-rewrite_child-requires-in-Conditional-2 t c =
    let is = c.in-Conditional in
    let parts = three_borrowed is.is is.condition-is is.true_branch-is is.false_branch-is in
    let first = c.in_ok-rewrite_child-in-Conditional.ensures in
    let bound = three_recorded (scope_of c.args.scope.now) _ _ parts first.1 in
    (search (rules, the_lemmas), omega arith)

pub rewrite-rewrite_child-requires-in-Conditional-3 : goal.rewrite-rewrite_child-requires-in-Conditional-3
rewrite-rewrite_child-requires-in-Conditional-3 t c =
    let is = c.in-Conditional in
    let parts = three_borrowed is.is is.condition-is is.true_branch-is is.false_branch-is in
    let first = c.in_ok-rewrite_child-in-Conditional.ensures in let second =
    c.in_ok-rewrite_child-in-Conditional-2.ensures in
    let bound = third_recorded (scope_of c.args.scope.now) _ _ _ parts first.1 second.1 in
    (search (rules, the_lemmas), omega arith)

pub rewrite_absent-rewrite_child-requires-in-Expression : goal.rewrite_absent-rewrite_child-requires-in-Expression
rewrite_absent-rewrite_child-requires-in-Expression t c =
    let parts = two_parts c.in-Expression.is refl refl in
    let count = two_count parts in
    (search (rules, the_lemmas), omega arith)

pub rewrite_absent-rewrite_child-requires-in-Expression-2 : goal.rewrite_absent-rewrite_child-requires-in-Expression-2
rewrite_absent-rewrite_child-requires-in-Expression-2 t c =
    let parts = two_parts c.in-Expression.is refl refl in
    let bound = two_recorded (scope_of c.args.scope.now) _ _ parts c.in_ok-rewrite_child-in-Expression.ensures.1 in
    (search (rules, the_lemmas), omega arith)

pub rewrite_all-rewrite-requires : goal.rewrite_all-rewrite-requires
rewrite_all-rewrite-requires t c =
    let es = c.args.trees.now.items in let i = c.loop-i.i in let e = c.index_mut.result.now in
    let same = c.loop-i.invariant.0.1 i e (omega arith) in
    let tree : e ≡ get_or es i e = cc in
    let step : rest es i ≡ items (raw e) ++ rest es (i + 1) = rest_next es i e (omega arith) tree in (
      search (rules, the_lemmas),
      omega
          (arith, count_two (rest es i) (items (raw e)) (rest es (i + 1)) step, c.loop-i.invariant.2),
    )

-- a tree that can contain no item is skipped: it stays, and so does what is recorded
pub rewrite_all-loop-i-preserved : goal.rewrite_all-loop-i-preserved
rewrite_all-loop-i-preserved t c =
    let es = c.args.trees.now.items in let i = c.loop-i.i in let now = c.loop-i.trees.items in
    let k = scope_of c.args.scope.now in
    let all = resolved_list k c.args.progress.now.passed (views es) in
    let s = progress_of c.loop-i.progress in
    let lengths = c.loop-i.invariant.0.0 in
    let below : i < length es = omega arith in
    elim c.if-may_hold_items.branch [
      | rewrite_all-then-may_hold_items+in_ok-rewrite w ↦
          let e = w.index_mut.result.now in
          let same = c.loop-i.invariant.0.1 i e (omega arith) in
          let tree : e ≡ get_or es i e = cc in
          let step : rest es i ≡ items (raw e) ++ rest es (i + 1) = rest_next es i e below tree in
          let now_is = w.in_ok-rewrite.ensures in
          rw (w.trees-is, w.progress-is) (
            (
              omega (arith, length-set {A = Expr}),
              λ j d h.
                  let apart : j ≢ i = omega arith in rw get_or-set_other (c.loop-i.invariant.0.1 j d (omega arith)),
            ),
            rw now_is.1
                (sym (recorded_append k s (items (raw e)) (rest es (i + 1))) ∙ ap (progress_after k s) (sym step)
                ∙ c.loop-i.invariant.1),
            let passed = recorded_le k s (progress_of w.rewrite.new.progress) (items (raw e)) now_is.1 in
                omega (
                  arith,
                  count_two (rest es i) (items (raw e)) (rest es (i + 1)) step,
                  passed,
                  c.loop-i.invariant.2,
                ),
            front_resolved k s.passed es now all i e w.rewrite.new.tree lengths below tree now_is.0 c.loop-i.invariant.3
                c.loop-i.invariant.4,
            rest_resolved k s (progress_of w.rewrite.new.progress) es all i e below tree now_is.1
                c.loop-i.invariant.4,
          )
      | rewrite_all-else-may_hold_items w ↦
          let e = c.index.result.now in
          let same = c.loop-i.invariant.0.1 i e (omega arith) in
          let tree : e ≡ get_or es i e = cc in
          let none : items (raw e) ≡ [] = c.may_hold_items.ensures w.if-may_hold_items.false in
          let step : rest es i ≡ rest es (i + 1) = rest_next es i e below tree ∙ ap (λ l. l ++ rest es (i + 1)) none in
          let put : set now i e ≡ now = ap (set now i) c.index.ensures ∙ set-get_or now i e in
          rw (w.trees-is, w.progress-is) (
            (lengths, λ j d h. c.loop-i.invariant.0.1 j d (omega arith)),
            ap (progress_after k s) (sym step) ∙ c.loop-i.invariant.1,
            omega (arith, ap (λ l. length (openings_in l)) step, c.loop-i.invariant.2),
            ap (λ l. views (take (i + 1) l)) (sym put)
                ∙ front_resolved k s.passed es now all i e e lengths below tree
                (sym (resolved_same k (view e) none s.passed))
                c.loop-i.invariant.3 c.loop-i.invariant.4,
            rest_resolved k s s es all i e below tree (ap (progress_after k s) (sym none)) c.loop-i.invariant.4,
          )
    ]

pub rewrite_all-returns : goal.rewrite_all-returns
rewrite_all-returns t c =
    let k = scope_of c.args.scope.now in let s = progress_of c.args.progress.now in
    let p = progress_of c.loop-i.progress in
    let es = c.args.trees.now.items in let i = c.loop-i.i in (
      each_resolved k s.passed es c.loop-i.trees.items i c.loop-i.invariant.0.0 (omega arith) c.loop-i.invariant.3,
      ap (progress_after k p) (sym (rest_none es i (omega arith))) ∙ c.loop-i.invariant.1,
    )

-- a part after others is resolved after their groups

pub rewrite-returns-in_ok-rewrite_child-in-Conditional-2 :
    goal.rewrite-returns-in_ok-rewrite_child-in-Conditional-2
rewrite-returns-in_ok-rewrite_child-in-Conditional-2 t c =
    let is = c.in-Conditional in let one = c.rewrite_child-in-Conditional in
    let two = c.rewrite_child-in-Conditional-2 in let three = c.rewrite_child-in-Conditional-3 in
    let first = c.in_ok-rewrite_child-in-Conditional.ensures in
    let second = c.in_ok-rewrite_child-in-Conditional-2.ensures in
    three_resolved (scope_of c.args.scope.now) (progress_of c.args.progress.now) (progress_of one.new.progress)
    (progress_of two.new.progress) three.result three.new.progress one.new.child two.new.child three.new.child
    is.is is.condition-is is.true_branch-is is.false_branch-is first.1 second.1 first.0 second.0 three.ensures

pub rewrite_absent-returns-in_ok-rewrite_child-in-Expression :
    goal.rewrite_absent-returns-in_ok-rewrite_child-in-Expression
rewrite_absent-returns-in_ok-rewrite_child-in-Expression t c =
    let one = c.rewrite_child-in-Expression in let two = c.rewrite_child-in-Expression-2 in
    let first = c.in_ok-rewrite_child-in-Expression.ensures in
    two_resolved (scope_of c.args.scope.now) (progress_of c.args.progress.now) (progress_of one.new.progress)
    two.result
    two.new.progress one.new.child two.new.child c.in-Expression.is first.1 first.0 two.ensures

-- the walk stops at the first error, which is that of the walk over all the parts

pub rewrite-returns-in_err-rewrite_child-in-Conditional :
    goal.rewrite-returns-in_err-rewrite_child-in-Conditional
rewrite-returns-in_err-rewrite_child-in-Conditional t c =
    let is = c.in-Conditional in
    let parts = three_borrowed is.is is.condition-is is.true_branch-is is.false_branch-is in
    let error = c.in_err-rewrite_child-in-Conditional.ensures in
    let kept = three_error (scope_of c.args.scope.now) (progress_of c.args.progress.now) _ parts error in
    search rules

pub rewrite-returns-in_err-rewrite_child-in-Conditional-2 :
    goal.rewrite-returns-in_err-rewrite_child-in-Conditional-2
rewrite-returns-in_err-rewrite_child-in-Conditional-2 t c =
    let is = c.in-Conditional in
    let parts = three_borrowed is.is is.condition-is is.true_branch-is is.false_branch-is in
    let first = c.in_ok-rewrite_child-in-Conditional.ensures in
    let error = c.in_err-rewrite_child-in-Conditional-2.ensures in
    let kept = third_error (scope_of c.args.scope.now) _ _ _ parts first.1 error in
    search rules

pub rewrite_absent-returns-in_err-rewrite_child-in-Expression :
    goal.rewrite_absent-returns-in_err-rewrite_child-in-Expression
rewrite_absent-returns-in_err-rewrite_child-in-Expression t c =
    let is = c.in-Expression in let s = progress_of c.args.progress.now in
    let kept = error_kept (scope_of c.args.scope.now) s _ (items (raw is.absent.value)) (items (raw is.exp.value))
    c.in_err-rewrite_child-in-Expression.ensures in
    search (rules, the_lemmas)

pub rewrite_all-returns-in_err-rewrite : goal.rewrite_all-returns-in_err-rewrite
rewrite_all-returns-in_err-rewrite t c =
    let k = scope_of c.args.scope.now in let s = progress_of c.loop-i.progress in
    let es = c.args.trees.now.items in let i = c.loop-i.i in let e = c.index_mut.result.now in
    let same = c.loop-i.invariant.0.1 i e (omega arith) in
    let tree : e ≡ get_or es i e = cc in
    let step : rest es i ≡ items (raw e) ++ rest es (i + 1) = rest_next es i e (omega arith) tree in
    let kept = error_kept k s _ (items (raw e)) (rest es (i + 1)) c.in_err-rewrite.ensures in
    let all = rw (← step, c.loop-i.invariant.1) at kept in
    search rules

pub resolve_node-returns-in-AstGroup : goal.resolve_node-returns-in-AstGroup
resolve_node-returns-in-AstGroup t c =
    let is = c.resolve_group.ensures c.args.reach in search (rules, the_lemmas)

pub resolve_node-returns-in-Some : goal.resolve_node-returns-in-Some
resolve_node-returns-in-Some t c =
    let pattern = bytes (chars c.args.scope.now.pattern.now) in
    let is = c.backref.ensures pattern (view_target c.in-Backref.target) c.args.reach in
    search (rules, the_lemmas)
