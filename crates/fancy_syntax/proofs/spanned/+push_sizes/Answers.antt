use Rattle.std.proofs.Common.{◌≡◌, ◌<◌, ◌-◌, ◌∙◌, sym, ap, arith, length}
use Rattle.std.proofs.Math.ListN.{set}
use Rattle.fancy_grammar.specs.Tree.{levels}
use Rattle.fancy_syntax.specs.View.{view, views}
use Rattle.fancy_syntax.proofs.Descents.{within_start, within_first, within_next, levels_of_child}
use Rattle.fancy_syntax.proofs.SpannedLemmas.{counting_starts, counting_next, counting_complete}
use Rattle.fancy_syntax.proofs.spanned.+push_sizes.Goals as goal

pub push_sizes-requires : goal.push_sizes-requires
push_sizes-requires t c =
    let less : levels (view c.in-Some.child.now) < levels (view c.args.tree.now) =
    levels_of_child c.args.tree.now c.in-Some.child.now
    (ap views (sym c.children_iter-children.ensures.values) ∙ c.children_iter-children.ensures.trees)
    (within_first c.args.tree.now c.in-Some.child.now _ _ c.loop-child.invariant.within c.in-Some.ensures.steps) in
    (omega (arith, less), tt)

pub loop-child-init : goal.loop-child-init
loop-child-init t c = record {
  within = within_start c.args.tree.now _ c.children_iter-children.ensures.values;
  counting = counting_starts (view c.args.tree.now) c.args.sizes.now.items _ _ c.in_ok-push.ensures.items
      c.children_iter-children.ensures.trees;
}

pub loop-child-preserved : goal.loop-child-preserved
loop-child-preserved t c =
    let child = c.in-Some.child.now in
    let steps = c.in-Some.ensures.steps in
    record {
      within = within_next c.args.tree.now child _ _ c.loop-child.invariant.within steps;
      counting = counting_next (view c.args.tree.now) c.args.sizes.now.items _ _ child _ _
          c.loop-child.invariant.counting steps c.in_ok-push_sizes.ensures;
    }

pub returns-in-Some-get_mut : goal.returns-in-Some-get_mut
returns-in-Some-get_mut t c =
    let none = c.in_default.ensures.steps.0 in
    let long : c.len-at.result ≡ length c.args.sizes.now.items = omega (arith, c.args.sizes.now.ok.0) in
    let many : c.saturating_sub.result ≡ length c.loop-child.sizes.items - length c.args.sizes.now.items =
    omega (arith, long, c.loop-child.sizes.ok.0) in
    ap (λ k. set c.loop-child.sizes.items k c.saturating_sub.result) long
    ∙ counting_complete (view c.args.tree.now) c.args.sizes.now.items _ _ _ c.loop-child.invariant.counting none many
