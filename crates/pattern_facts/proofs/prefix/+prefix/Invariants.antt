use Rattle.std.proofs.Common.{◌≡◌, ◌+◌, ◌*◌, true}
use Rattle.fancy_grammar.specs.Tree.{levels, levels_all, trees_of}
use Rattle.fancy_syntax.proofs.PrintLemmas.{left}
use Rattle.fancy_syntax.specs.View.{view, views}
use Rattle.pattern_matches.specs.Defined.{AreDefined}
use Rattle.pattern_facts.specs.Prefix.{IsPrefixed}
use Rattle.pattern_facts.proofs.prefix.+prefix.Given as goal

abbrev pub decreases-prefix_of : goal.decreases-prefix_of
decreases-prefix_of l = 2 * levels (view l.tree.now)

abbrev pub decreases-prefix_of_list : goal.decreases-prefix_of_list
decreases-prefix_of_list l = 2 * levels_all (trees_of (views l.trees.now)) + 1

abbrev pub invariant-prefix_of_list-loop-tree : goal.invariant-prefix_of_list-loop-tree
invariant-prefix_of_list-loop-tree l = record {
  prefixed : IsPrefixed l.unicode l.kind (trees_of (views l.trees)) (left l.more l.tree-index) l.all;
  defined : l.is_known ≡ true → AreDefined l.unicode (left l.more l.tree-index);
}
