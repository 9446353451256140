use Rattle.std.proofs.Common.{◌≡◌, ◌<◌, refl, sym, ap, ◌∙◌, subst, arith, rules}
use Rattle.std.proofs.lemmas.Bool.{OnTrue_at}
use Rattle.std.specs.Bool.{Decides}
use Rattle.std.specs.List.{flat_map}
use Rattle.fancy_grammar.specs.Label as label
use Rattle.fancy_grammar.specs.PatternNeeds.{with_needs}
use Rattle.fancy_grammar.specs.PatternWalk.{needs_listed, all_listed}
use Rattle.fancy_grammar.specs.Tree.{concat, levels, trees_of}
use Rattle.fancy_pattern.specs.ContextViews.{AreMet}
use Rattle.fancy_syntax.specs.View.{view, views}
use Rattle.fancy_syntax.specs.declared.expr.Expr.{the_lemmas}
use Rattle.fancy_syntax.proofs.Descents.{within_first, within_next, levels_of_given}
use Rattle.fancy_syntax.proofs.PrintLemmas.{left_step}
use Rattle.fancy_pattern.proofs.NeedsWalk.{leaf_decides, row_decides, tree_met, children_met, met_next, met_ends, met_here}
use Rattle.fancy_pattern.proofs.NeedsWalk.{levels_of_piece}
use Rattle.fancy_pattern.proofs.needs.+are_met.Goals as goal

-- ---- any tree

pub are_met_by_any-returns-then-is_leaf_node : goal.are_met_by_any-returns-then-is_leaf_node
are_met_by_any-returns-then-is_leaf_node t c =
    let f = c.args.flags.now in
    leaf_decides f f.oniguruma_mode _ (view c.args.tree.now) (OnTrue_at c.if-is_leaf_node.true c.is_leaf_node.ensures.childless)
    (subst (λ n. Decides c.are_met.result (with_needs f n ≡ f)) c.leaf_needs.ensures c.are_met.ensures)

pub are_met_by_any-returns-in-Concat : goal.are_met_by_any-returns-in-Concat
are_met_by_any-returns-in-Concat t c =
    let f = c.args.flags.now in
    let o = f.oniguruma_mode in
    let ts = trees_of (views c.deref-in-Concat.result.now) in
    let is : view c.args.tree.now ≡ concat ts = search (rules, the_lemmas) in
    subst (λ x. Decides c.are_met_by_all.result (AreMet f (needs_listed o x))) (sym is)
    (row_decides f o _ label.concat ts c.are_met_by_all.ensures)

pub are_met_by_any-are_met_by_leaves-requires-in-Some : goal.are_met_by_any-are_met_by_leaves-requires-in-Some
are_met_by_any-are_met_by_leaves-requires-in-Some t c =
    let tree = c.args.tree.now in
    let child = c.in-Some.child.now in
    let less : levels (view child) < levels (view tree) =
    levels_of_given tree child _ c.children_iter-children.ensures.values c.children_iter-children.ensures.trees
    (within_first tree child _ _ c.loop-child.invariant.within c.in-Some.ensures.steps) in
    (omega (arith, less), tt)

pub are_met_by_any-loop-child-preserved : goal.are_met_by_any-loop-child-preserved
are_met_by_any-loop-child-preserved t c =
    let f = c.args.flags.now in
    let o = f.oniguruma_mode in
    let child = c.in-Some.child.now in
    let steps = c.in-Some.ensures.steps in
    record {
      within = within_next c.args.tree.now child _ _ c.loop-child.invariant.within steps;
      met = met_next f o _ (needs_listed o (view child)) _ _ c.loop-child.invariant.met
          (ap (λ es. flat_map (needs_listed o) (views es)) steps) (c.if-not-are_met_by_leaves.ensures.0 refl);
    }

pub are_met_by_any-returns-then-not-are_met_by_leaves : goal.are_met_by_any-returns-then-not-are_met_by_leaves
are_met_by_any-returns-then-not-are_met_by_leaves t c =
    let f = c.args.flags.now in
    let o = f.oniguruma_mode in (
      λ e. absurd cc,
      λ p. c.if-not-are_met_by_leaves.ensures.1 (met_here f o _ (needs_listed o (view c.in-Some.child.now)) _ _
          c.loop-child.invariant.met (ap (λ es. flat_map (needs_listed o) (views es)) c.in-Some.ensures.steps)
          (children_met f o (view c.args.tree.now) p)),
    )

pub are_met_by_any-returns : goal.are_met_by_any-returns
are_met_by_any-returns t c =
    let f = c.args.flags.now in
    let o = f.oniguruma_mode in (
      λ e. tree_met f o (view c.args.tree.now) (sym c.is_leaf_node.ensures.value ∙ c.if-is_leaf_node.false)
          (met_ends f o _ _ c.loop-child.invariant.met
          (ap (λ es. flat_map (needs_listed o) (views es)) c.in_default-next.ensures.steps.0)),
      λ p. refl,
    )

-- ---- the trees of a list

pub are_met_by_all-are_met_by_leaves-requires : goal.are_met_by_all-are_met_by_leaves-requires
are_met_by_all-are_met_by_leaves-requires t c =
    let less =
    levels_of_piece c.args.trees.now c.loop-tree.tree-index c.tree-item.result c.loop-tree-test.true c.tree-item.is in
    (omega (arith, less), tt)

pub are_met_by_all-loop-tree-preserved : goal.are_met_by_all-loop-tree-preserved
are_met_by_all-loop-tree-preserved t c =
    let f = c.args.flags.now in
    let o = f.oniguruma_mode in
    let step = left_step c.args.trees.now c.loop-tree.tree-index c.tree-item.result c.loop-tree-test.true c.tree-item.is in
    met_next f o _ (needs_listed o (view c.tree-item.result)) _ _ c.loop-tree.invariant (ap (all_listed o) step)
    (c.if-not-are_met_by_leaves.ensures.0 refl)

pub are_met_by_all-returns-then-not-are_met_by_leaves : goal.are_met_by_all-returns-then-not-are_met_by_leaves
are_met_by_all-returns-then-not-are_met_by_leaves t c =
    let f = c.args.flags.now in
    let o = f.oniguruma_mode in
    let step = left_step c.args.trees.now c.loop-tree.tree-index c.tree-item.result c.loop-tree-test.true c.tree-item.is in (
      λ e. absurd cc,
      λ p. c.if-not-are_met_by_leaves.ensures.1 (met_here f o _ (needs_listed o (view c.tree-item.result)) _ _
          c.loop-tree.invariant (ap (all_listed o) step) p),
    )
