use Rattle.std.proofs.Common.{◌+◌, ◌*◌, List, Option}
use Rattle.fancy_grammar.specs.Tree.{levels, levels_all, trees_of}
use Rattle.fancy_syntax.proofs.PrintLemmas.{left}
use Rattle.fancy_syntax.specs.View.{view, views}
use Rattle.pattern_facts.specs.Known.{Adds}
use Rattle.pattern_facts.specs.Lists.{IsTaken}
use Rattle.pattern_facts.specs.Nodes.{nodes_of_all}
use Rattle.pattern_facts.specs.declared.node_facts.Facts.{Facts}
use Rattle.pattern_facts.proofs.rows.+facts.Given as goal

abbrev pub decreases-add_node : goal.decreases-add_node
decreases-add_node l = 3 * levels (view l.tree.now) + 1

abbrev pub decreases-add_below : goal.decreases-add_below
decreases-add_below l = 3 * levels (view l.tree.now)

abbrev pub decreases-add_list : goal.decreases-add_list
decreases-add_list l = 3 * levels_all (trees_of (views l.trees.now)) + 2

-- with the rows of the trees that are left, the rows of all are added
abbrev pub invariant-add_list-loop-tree : goal.invariant-add_list-loop-tree
invariant-add_list-loop-tree l = record {
  rows : (new : List (Option Facts)) → Adds l.unicode (nodes_of_all (left l.more l.tree-index)) l.rows.items new →
      Adds l.unicode (nodes_of_all (trees_of (views l.trees))) l.fn.rows.items new;
  taken : IsTaken l.unicode l.kind (trees_of (views l.trees)) (left l.more l.tree-index) l.all;
}
