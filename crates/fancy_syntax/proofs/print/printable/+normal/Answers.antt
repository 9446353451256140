use Rattle.std.proofs.Common.{◌≡◌, ◌≤◌, false, rules, sym, ◌∙◌, arith}
use Rattle.fancy_grammar.specs.Join.{is_empty}
use Rattle.fancy_grammar.specs.Normal.{normal}
use Rattle.fancy_grammar.specs.Tree.{levels, levels_all, trees_of}
use Rattle.fancy_syntax.specs.View.{view, views}
use Rattle.fancy_syntax.proofs.Descents.{levels_item}
use Rattle.fancy_syntax.proofs.PrintLemmas.{left}
use Rattle.fancy_grammar.proofs.PrintableLemmas.{items_join_empty}
use Rattle.fancy_syntax.proofs.EmptyLemmas.{empties_stop, empties_end, alt_several}
use Rattle.fancy_syntax.proofs.print.printable.+normal.Goals as goal

pub are_empty_in_normal_form-is_empty_in_normal_form-requires :
    goal.are_empty_in_normal_form-is_empty_in_normal_form-requires
are_empty_in_normal_form-is_empty_in_normal_form-requires t c =
    let low : levels (view c.tree-item.result) ≤ levels_all (trees_of (views c.args.trees.now)) =
    levels_item c.args.trees.now c.loop-tree.tree-index c.tree-item.result c.loop-tree-test.true c.tree-item.is in
    (omega (arith, low), tt)

pub are_empty_in_normal_form-returns-then-not-is_empty_in_normal_form :
    goal.are_empty_in_normal_form-returns-then-not-is_empty_in_normal_form
are_empty_in_normal_form-returns-then-not-is_empty_in_normal_form t c =
    let trees = c.args.trees.now in
    let solid : is_empty (normal false (view c.tree-item.result)) ≡ false = search rules in
    sym (items_join_empty (left trees 0) ∙ c.loop-tree.invariant
    ∙ empties_stop trees c.loop-tree.tree-index c.tree-item.result c.loop-tree-test.true c.tree-item.is solid)

pub are_empty_in_normal_form-returns : goal.are_empty_in_normal_form-returns
are_empty_in_normal_form-returns t c =
    let trees = c.args.trees.now in
    sym (items_join_empty (left trees 0) ∙ c.loop-tree.invariant
    ∙ empties_end trees c.loop-tree.tree-index c.loop-tree-test.false)

pub is_empty_in_normal_form-returns-in_default-trees : goal.is_empty_in_normal_form-returns-in_default-trees
is_empty_in_normal_form-returns-in_default-trees t c =
    sym (alt_several (view c.args.tree.now) c.in-Alt.trees.now c.in-Alt.ensures.node c.in_default-trees.len_at_least)
