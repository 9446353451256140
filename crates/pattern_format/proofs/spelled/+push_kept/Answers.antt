use Rattle.std.proofs.Common.{◌≡◌, ◌<◌, ◌++◌, ◌∷◌, [], ◌∙◌, sym, ap, arith}
use Rattle.fancy_grammar.specs.Tree.{levels}
use Rattle.fancy_syntax.specs.View.{view, views}
use Rattle.fancy_syntax.proofs.Descents.{within_start, within_first, within_next, levels_of_child}
use Rattle.pattern_format.proofs.SpelledLemmas.{keeping_starts, keeping_next, keeping_ends}
use Rattle.pattern_format.proofs.spelled.+push_kept.Goals as goal

pub push_kept-requires : goal.push_kept-requires
push_kept-requires t c =
    let less : levels (view c.in-Some.child.now) < levels (view c.args.tree.now) =
    levels_of_child c.args.tree.now c.in-Some.child.now
    (ap views (sym c.children_iter-children.ensures.values) ∙ c.children_iter-children.ensures.trees)
    (within_first c.args.tree.now c.in-Some.child.now _ _ c.loop-child.invariant.within c.in-Some.ensures.steps) in
    (omega (arith, less), tt)

pub loop-child-init : goal.loop-child-init
loop-child-init t c = record {
  within = within_start c.args.tree.now _ c.children_iter-children.ensures.values;
  keeping = keeping_starts (view c.args.tree.now) c.args.kept.now.items _ _
      (c.in_ok-push.ensures.items ∙ ap (λ k. c.args.kept.now.items ++ k ∷ []) c.kept_of.ensures)
      c.children_iter-children.ensures.trees;
}

pub loop-child-preserved : goal.loop-child-preserved
loop-child-preserved t c =
    let child = c.in-Some.child.now in
    let steps = c.in-Some.ensures.steps in
    record {
      within = within_next c.args.tree.now child _ _ c.loop-child.invariant.within steps;
      keeping = keeping_next (view c.args.tree.now) c.args.kept.now.items _ _ child _ _
          c.loop-child.invariant.keeping steps c.in_ok-push_kept.ensures;
    }

pub returns : goal.returns
returns t c =
    keeping_ends (view c.args.tree.now) c.args.kept.now.items _ _ c.loop-child.invariant.keeping c.in_default.ensures.steps.0
