use Rattle.fancy_grammar.specs.Tree.{levels}
use Rattle.fancy_syntax.specs.View.{view}
use Rattle.backtracking.proofs.sequences.+repeated_part.Given as goal

abbrev pub decreases-repeated_part : goal.decreases-repeated_part
decreases-repeated_part l = levels (view l.tree.now)
