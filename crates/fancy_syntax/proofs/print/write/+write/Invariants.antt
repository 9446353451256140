use Rattle.fancy_syntax.proofs.SinkLemmas.{Taking}
use Rattle.fancy_grammar.specs.Printed.{printed_all}
use Rattle.fancy_syntax.proofs.PrintLemmas.{left, branches}
use Rattle.fancy_syntax.proofs.print.write.+write.Given as goal

abbrev pub invariant-put_all-loop-tree : goal.invariant-put_all-loop-tree
invariant-put_all-loop-tree g l = Taking g.S.Sink.holds g.S.Sink.limit l.initial.sink l.sink
    (printed_all (left l.trees l.tree-index)) (printed_all (left l.trees 0))

abbrev pub invariant-put_branches-loop-i : goal.invariant-put_branches-loop-i
invariant-put_branches-loop-i g l = Taking g.S.Sink.holds g.S.Sink.limit l.initial.sink l.sink
    (branches l.trees l.i) (branches l.trees 0)
