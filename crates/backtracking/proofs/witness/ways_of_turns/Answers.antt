use Rattle.fancy_syntax.specs.View.{view}
use Rattle.backtracking.proofs.ManyLemmas.{many_ways_of}
use Rattle.backtracking.proofs.witness.ways_of_turns.Goals as goal

pub returns-then-branch-clause-exponential : goal.returns-then-branch-clause-exponential
returns-then-branch-clause-exponential c =
    let w = c.in-Found.witness in
    many_ways_of c.args.unicode (view c.args.tree.now) c.deref.result.now w.word.items c.deref-2.result.now w.first.items
    c.deref-3.result.now w.second.items c.deref.ensures.value c.deref-2.ensures.value c.deref-3.ensures.value
    (c.in_ok-are_two_ways.ensures c.if-branch.true)
