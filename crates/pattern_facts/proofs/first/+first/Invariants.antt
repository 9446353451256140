use Rattle.std.proofs.Common.{◌≡◌, ◌+◌, ◌*◌, true}
use Rattle.fancy_grammar.specs.Tree.{levels, levels_all, trees_of}
use Rattle.fancy_syntax.proofs.PrintLemmas.{left}
use Rattle.fancy_syntax.specs.View.{view, views}
use Rattle.pattern_matches.specs.Defined.{AreDefined}
use Rattle.pattern_facts.specs.First.{IsBegun}
use Rattle.pattern_facts.proofs.first.+first.Given as goal

abbrev pub decreases-beginning_of : goal.decreases-beginning_of
decreases-beginning_of l = 2 * levels (view l.tree.now)

abbrev pub decreases-beginning_of_list : goal.decreases-beginning_of_list
decreases-beginning_of_list l = 2 * levels_all (trees_of (views l.trees.now)) + 1

abbrev pub invariant-beginning_of_list-loop-tree : goal.invariant-beginning_of_list-loop-tree
invariant-beginning_of_list-loop-tree l = record {
  begun : IsBegun l.unicode l.kind (trees_of (views l.trees)) (left l.more l.tree-index) l.all;
  defined : l.is_known ≡ true → AreDefined l.unicode (left l.more l.tree-index);
}
