use Rattle.std.proofs.Common.{◌≡◌, ◌<◌, ◌∙◌, ap, arith, length}
use Rattle.std.proofs.Math.ListN.{set}
use Rattle.std.proofs.lemmas.Bool.{OnTrue_at}
use Rattle.fancy_pattern.proofs.NeedsLemmas.{first_joins, both_joins}
use Rattle.fancy_grammar.specs.PatternNeeds.{first, both, needs}
use Rattle.fancy_grammar.specs.Tree.{levels}
use Rattle.fancy_syntax.specs.View.{view}
use Rattle.fancy_syntax.proofs.Descents.{within_start, within_first, within_next, levels_of_given}
use Rattle.fancy_pattern.proofs.NeedsWalk.{joining_starts, joining_next, joining_ends, listing_starts, listing_next}
use Rattle.fancy_pattern.proofs.NeedsWalk.{table_complete, leaf_joins, leaf_table}
use Rattle.fancy_pattern.proofs.needs.+push_needs.Goals as goal

pub push_needs-requires : goal.push_needs-requires
push_needs-requires t c =
    let less : levels (view c.in-Some.child.now) < levels (view c.args.tree.now) =
    levels_of_given c.args.tree.now c.in-Some.child.now _ c.children_iter-children.ensures.values
    c.children_iter-children.ensures.trees
    (within_first c.args.tree.now c.in-Some.child.now _ _ c.loop-child.invariant.within c.in-Some.ensures.steps) in
    (omega (arith, less), tt)

pub loop-child-init : goal.loop-child-init
loop-child-init t c = record {
  within = within_start c.args.tree.now _ c.children_iter-children.ensures.values;
  joining = joining_starts first first_joins c.args.oniguruma_mode (view c.args.tree.now) _ _
      c.leaf_needs-alone.ensures c.children_iter-children.ensures.trees;
  common = joining_starts both both_joins c.args.oniguruma_mode (view c.args.tree.now) _ _
      c.leaf_needs-alone.ensures c.children_iter-children.ensures.trees;
  listing = listing_starts c.args.oniguruma_mode (view c.args.tree.now) c.args.list.now.items _ _ _
      c.leaf_needs-alone.ensures c.in_ok-push.ensures.items c.children_iter-children.ensures.trees;
}

pub loop-child-preserved : goal.loop-child-preserved
loop-child-preserved t c =
    let child = c.in-Some.child.now in
    let steps = c.in-Some.ensures.steps in
    record {
      within = within_next c.args.tree.now child _ _ c.loop-child.invariant.within steps;
      joining = joining_next first first_joins c.args.oniguruma_mode (view c.args.tree.now) _ _ _ child _ _
          c.loop-child.invariant.joining steps c.join.ensures.first c.in_ok-below.ensures.first;
      common = joining_next both both_joins c.args.oniguruma_mode (view c.args.tree.now) _ _ _ child _ _
          c.loop-child.invariant.common steps c.join.ensures.common c.in_ok-below.ensures.common;
      listing = listing_next c.args.oniguruma_mode (view c.args.tree.now) c.args.list.now.items _ _ child _ _
          c.loop-child.invariant.listing steps c.in_ok-below.ensures.list;
    }

pub returns-then-is_leaf_node-clause-first : goal.returns-then-is_leaf_node-clause-first
returns-then-is_leaf_node-clause-first t c =
    leaf_joins first first_joins _ _ _ c.leaf_needs-alone.ensures
    (OnTrue_at c.if-is_leaf_node.true c.is_leaf_node.ensures.childless)

pub returns-then-is_leaf_node-clause-common : goal.returns-then-is_leaf_node-clause-common
returns-then-is_leaf_node-clause-common t c =
    leaf_joins both both_joins _ _ _ c.leaf_needs-alone.ensures
    (OnTrue_at c.if-is_leaf_node.true c.is_leaf_node.ensures.childless)

pub returns-then-is_leaf_node-clause-list : goal.returns-then-is_leaf_node-clause-list
returns-then-is_leaf_node-clause-list t c =
    let none = OnTrue_at c.if-is_leaf_node.true c.is_leaf_node.ensures.childless in
    leaf_table _ _ c.args.list.now.items _ _
    (leaf_joins first first_joins c.args.oniguruma_mode (view c.args.tree.now) _ c.leaf_needs-alone.ensures none) none
    c.in_ok-push.ensures.items

pub returns-in-Some-get_mut-clause-first : goal.returns-in-Some-get_mut-clause-first
returns-in-Some-get_mut-clause-first t c =
    joining_ends first first_joins _ _ _ _ c.loop-child.invariant.joining c.in_default.ensures.steps.0

pub returns-in-Some-get_mut-clause-common : goal.returns-in-Some-get_mut-clause-common
returns-in-Some-get_mut-clause-common t c =
    joining_ends both both_joins _ _ _ _ c.loop-child.invariant.common c.in_default.ensures.steps.0

pub returns-in-Some-get_mut-clause-list : goal.returns-in-Some-get_mut-clause-list
returns-in-Some-get_mut-clause-list t c =
    let none = c.in_default.ensures.steps.0 in
    let whole : c.loop-child.needs.first ≡ needs first c.args.oniguruma_mode (view c.args.tree.now) =
    joining_ends first first_joins _ _ _ _ c.loop-child.invariant.joining none in
    let long : c.len-at.result ≡ length c.args.list.now.items = omega (arith, c.args.list.now.ok.0) in
    ap (λ k. set c.loop-child.list.items k c.loop-child.needs.first) long
    ∙ table_complete _ _ c.args.list.now.items _ _ _ c.loop-child.invariant.listing none whole
