use Rattle.std.proofs.Common.{◌+◌, ◌*◌, length}
use Rattle.fancy_grammar.specs.Tree.{levels, children}
use Rattle.fancy_syntax.specs.Children.{remaining_children}
use Rattle.fancy_syntax.specs.View.{view, views}
use Rattle.fancy_syntax.proofs.Descents.{Sweep}
use Rattle.fancy_c.specs.Node.{listed_each, span_at}
use Rattle.fancy_c.proofs.RowLemmas.{Putting}
use Rattle.fancy_c.proofs.rows.+put.Given as goal

abbrev pub decreases-put_tree : goal.decreases-put_tree
decreases-put_tree l = 3 * levels (view l.tree.now) + 1

abbrev pub decreases-put_children : goal.decreases-put_children
decreases-put_children l = 3 * levels (view l.tree.now)

abbrev pub decreases-put_child : goal.decreases-put_child
decreases-put_child l = 3 * levels (view l.tree.now) + 2

abbrev pub invariant-put_children-loop-child : goal.invariant-put_children-loop-child
invariant-put_children-loop-child l = record {
  sweep : Sweep (λ _. Unit {0}) l.tree (remaining_children l.children);
  putting : Putting (span_at l.spans) l.initial.nodes l.nodes l.initial.bytes l.bytes
      l.fn.before.rows l.fn.before.text l.after.rows l.after.text
      (listed_each (children (view l.tree))) (listed_each (views (remaining_children l.children)));
}

abbrev pub decreases-put_children-loop-child : goal.decreases-put_children-loop-child
decreases-put_children-loop-child l = length (remaining_children l.children)
