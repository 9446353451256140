use Rattle.std.proofs.Common.{◌≡◌, ◌+◌, ◌*◌}
use Rattle.fancy_grammar.specs.Tree.{levels, levels_all, trees_of}
use Rattle.fancy_syntax.proofs.PrintLemmas.{left}
use Rattle.fancy_syntax.specs.View.{view, views}
use Rattle.pattern_facts.specs.Easy.{are_easy}
use Rattle.pattern_facts.proofs.easy.+easy.Given as goal

abbrev pub decreases-is_easy_tree : goal.decreases-is_easy_tree
decreases-is_easy_tree l = 2 * levels (view l.tree.now)

abbrev pub decreases-are_easy : goal.decreases-are_easy
decreases-are_easy l = 2 * levels_all (trees_of (views l.trees.now)) + 1

abbrev pub invariant-are_easy-loop-tree : goal.invariant-are_easy-loop-tree
invariant-are_easy-loop-tree l = are_easy (trees_of (views l.trees)) ≡ are_easy (left l.trees l.tree-index)
