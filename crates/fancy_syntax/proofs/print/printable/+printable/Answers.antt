use Rattle.std.proofs.Common.{◌+◌, ◌≤◌, ◌&&◌, ap, sym, ◌∙◌, arith}
use Rattle.std.proofs.lemmas.Bool.{or_parts}
use Rattle.fancy_grammar.specs.HasDelegate.{any_has_delegate}
use Rattle.fancy_grammar.specs.Printable.{all_printable}
use Rattle.fancy_grammar.specs.Tree.{levels, levels_all, trees_of}
use Rattle.fancy_syntax.specs.View.{view, views}
use Rattle.fancy_syntax.proofs.Descents.{levels_item}
use Rattle.fancy_syntax.proofs.PrintLemmas.{left, left_step}
use Rattle.fancy_syntax.proofs.print.printable.+printable.Goals as goal

pub are_printable-is_printable-requires : goal.are_printable-is_printable-requires
are_printable-is_printable-requires t c =
    let low : levels (view c.tree-item.result) ≤ levels_all (trees_of (views c.args.trees.now)) =
    levels_item c.args.trees.now c.loop-tree.tree-index c.tree-item.result c.loop-tree-test.true c.tree-item.is in
    (omega (arith, low), tt)

pub are_printable-loop-tree-preserved : goal.are_printable-loop-tree-preserved
are_printable-loop-tree-preserved t c =
    let trees = c.args.trees.now in let i = c.loop-tree.tree-index in
    let step = left_step trees i c.tree-item.result c.loop-tree-test.true c.tree-item.is in
    let first = sym c.in_ok-is_printable.ensures.exact ∙ c.if-not-branch.false in
    record {
      same = c.loop-tree.invariant.same ∙ ap all_printable step
          ∙ ap (λ b. b && all_printable (left trees (i + 1))) first;
      without_delegate = λ none.
          (or_parts _ _ (sym (ap any_has_delegate step) ∙ c.loop-tree.invariant.without_delegate none)).1;
    }
