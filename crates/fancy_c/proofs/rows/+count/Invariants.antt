use Rattle.std.proofs.Common.{◌+◌, ◌*◌, length}
use Rattle.fancy_grammar.specs.Tree.{levels}
use Rattle.fancy_syntax.specs.Children.{remaining_children}
use Rattle.fancy_syntax.specs.View.{view, views}
use Rattle.fancy_syntax.proofs.Descents.{Sweep}
use Rattle.fancy_c.specs.Node.{listed, listed_each}
use Rattle.fancy_c.proofs.RowLemmas.{CountingRows}
use Rattle.fancy_c.proofs.rows.+count.Given as goal

abbrev pub decreases-count : goal.decreases-count
decreases-count l = 2 * levels (view l.tree.now)

abbrev pub decreases-count_child : goal.decreases-count_child
decreases-count_child l = 2 * levels (view l.tree.now) + 1

abbrev pub invariant-count-loop-child : goal.invariant-count-loop-child
invariant-count-loop-child l = record {
  sweep : Sweep (λ _. Unit {0}) l.tree (remaining_children l.children);
  counting : CountingRows l.fn.before.rows l.fn.before.text l.after.rows l.after.text (listed (view l.tree))
      (listed_each (views (remaining_children l.children)));
}

abbrev pub decreases-count-loop-child : goal.decreases-count-loop-child
decreases-count-loop-child l = length (remaining_children l.children)
