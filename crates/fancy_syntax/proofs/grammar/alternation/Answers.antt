use Rattle.std.proofs.Common.{ap, arith, length}
use Rattle.std.proofs.lemmas.List.{length-map}
use Rattle.std.proofs.lemmas.Result.{err_from_is_err_and}
use Rattle.fancy_syntax.specs.Decided.{decided}
use Rattle.fancy_syntax.specs.Log.{started}
use Rattle.fancy_syntax.specs.Parsed.{state}
use Rattle.fancy_syntax.proofs.TreesLemmas.{holds_below, views_length}
use Rattle.fancy_syntax.proofs.grammar.alternation.Goals as goal

pub loop-parser-init : goal.loop-parser-init
loop-parser-init g c =
    let r = c.in_ok-parser.ensures in
    record {
      reading = λ none. (none, r.reading none, λ n. n);
      depth = r.depth;
      reserved = r.reserved;
      count = rw r.current (omega (arith, r.count));
    }

pub returns-in_err-add_leaf-clause-value : goal.returns-in_err-add_leaf-clause-value
returns-in_err-add_leaf-clause-value g c none =
    let e = err_from_is_err_and c.from_residual-in_err-add_leaf.result c.from_residual-in_err-add_leaf.ensures.1 in
    let (l, h, n) = c.loop-parser.invariant.reading none in
    rw (e.1, e.2) (c.in_err-add_leaf.ensures.reading _ _ l h)

pub returns-in_err-step-clause-value : goal.returns-in_err-step-clause-value
returns-in_err-step-clause-value g c none =
    let e = err_from_is_err_and c.from_residual-in_err-step.result c.from_residual-in_err-step.ensures.1 in
    let (l, h, n) = c.loop-parser.invariant.reading none in
    let (m, r, k) = c.in_ok-add_leaf.ensures.reading _ _ l h in
    rw (e.1, e.2) (c.in_err-step.ensures.reading _ _ m r)

pub step-requires-clause-reserved : goal.step-requires-clause-reserved
step-requires-clause-reserved g c =
    let (l, h, n) = c.loop-parser.invariant.reading (started 0) in
    let (m, r, k) = c.in_ok-add_leaf.ensures.reading _ _ l h in
    (state c.args.start, started 0, m, r, rw c.in_ok-add_leaf.ensures.stack c.loop-parser.invariant.reserved)

pub bar-requires-clause-pieces : goal.bar-requires-clause-pieces
bar-requires-clause-pieces g c =
    let (l, h, n) = c.loop-parser.invariant.reading (started 0) in
    let (m, r, k) = c.in_ok-add_leaf.ensures.reading _ _ l h in
    let h = holds_below c.add_leaf.new.self.frame r.running.below r.running.branches r.running.pieces r.running.holds in
    omega (
      arith,
      h.1,
      c.add_leaf.new.self.trees.ok.0,
      views_length c.add_leaf.new.self.trees.items,
      ap length r.same,
      length-map r.trees (decided c.args.start.flags.ignore_numbered_groups),
    )

pub close-requires-clause-branches : goal.close-requires-clause-branches
close-requires-clause-branches g c =
    let (l, h, n) = c.loop-parser.invariant.reading (started 0) in
    let (m, r, k) = c.in_ok-add_leaf.ensures.reading _ _ l h in
    (holds_below c.add_leaf.new.self.frame r.running.below r.running.branches r.running.pieces r.running.holds).0

pub close-requires-clause-pieces : goal.close-requires-clause-pieces
close-requires-clause-pieces g c =
    let (l, h, n) = c.loop-parser.invariant.reading (started 0) in
    let (m, r, k) = c.in_ok-add_leaf.ensures.reading _ _ l h in
    let h = holds_below c.add_leaf.new.self.frame r.running.below r.running.branches r.running.pieces r.running.holds in
    omega (
      arith,
      h.1,
      c.add_leaf.new.self.trees.ok.0,
      views_length c.add_leaf.new.self.trees.items,
      ap length r.same,
      length-map r.trees (decided c.args.start.flags.ignore_numbered_groups),
    )

pub returns-in-Some-2-clause-value : goal.returns-in-Some-2-clause-value
returns-in-Some-2-clause-value g c none =
    let (l, h, n) = c.loop-parser.invariant.reading none in
    let (m, r, k) = c.in_ok-add_leaf.ensures.reading _ _ l h in
    let (tree, j, a, i, same, found) = rw c.in-Some-2.is at (c.in_ok-tree.ensures.reading _ _ m r) in
    (tree, j, a, λ x. i (k (n x)), same, found)

pub returns-in_err-bar-clause-value : goal.returns-in_err-bar-clause-value
returns-in_err-bar-clause-value g c none =
    let e = err_from_is_err_and c.from_residual-in_err-bar.result c.from_residual-in_err-bar.ensures.1 in
    let (l, h, n) = c.loop-parser.invariant.reading none in
    let (m, r, k) = c.in_ok-add_leaf.ensures.reading _ _ l h in
    rw (e.1, e.2) (c.in_err-bar.ensures.reading _ _ m r)

pub returns-in_err-tree-clause-value : goal.returns-in_err-tree-clause-value
returns-in_err-tree-clause-value g c none =
    let e = err_from_is_err_and c.from_residual-in_err-tree.result c.from_residual-in_err-tree.ensures.1 in
    let (l, h, n) = c.loop-parser.invariant.reading none in
    let (m, r, k) = c.in_ok-add_leaf.ensures.reading _ _ l h in
    rw (e.1, e.2) (c.in_err-tree.ensures.reading _ _ m r)

pub loop-parser-preserved-then-branch : goal.loop-parser-preserved-then-branch
loop-parser-preserved-then-branch g c =
    record {
      reading = λ none.
          let (l, h, n) = c.loop-parser.invariant.reading none in
          let (m, r, k) = c.in_ok-add_leaf.ensures.reading _ _ l h in (m, r, λ x. k (n x));
      depth = rw c.in_ok-add_leaf.ensures.stack c.loop-parser.invariant.depth;
      reserved = rw c.in_ok-add_leaf.ensures.stack c.loop-parser.invariant.reserved;
      count = omega (
        arith,
        c.loop-parser.invariant.count,
        c.in_ok-add_leaf.ensures.count,
        c.in_ok-add_leaf.ensures.within,
      );
    }

pub loop-parser-preserved-in-Continue-branch-3 : goal.loop-parser-preserved-in-Continue-branch-3
loop-parser-preserved-in-Continue-branch-3 g c =
    record {
      reading = λ none.
          let (l, h, n) = c.loop-parser.invariant.reading none in
          let (m, r, k) = c.in_ok-add_leaf.ensures.reading _ _ l h in
          let (j, a, i) = c.in_ok-step.ensures.reading _ _ m r in (j, a, λ x. i (k (n x)));
      depth = c.in_ok-step.ensures.depth;
      reserved = rw (c.in_ok-step.ensures.capacity, c.in_ok-add_leaf.ensures.stack) c.loop-parser.invariant.reserved;
      count = omega (
        arith,
        c.loop-parser.invariant.count,
        c.in_ok-add_leaf.ensures.count,
        c.in_ok-add_leaf.ensures.within,
        c.in_ok-step.ensures.count,
      );
    }

pub loop-parser-preserved-in-Continue-branch-4 : goal.loop-parser-preserved-in-Continue-branch-4
loop-parser-preserved-in-Continue-branch-4 g c =
    record {
      reading = λ none.
          let (l, h, n) = c.loop-parser.invariant.reading none in
          let (m, r, k) = c.in_ok-add_leaf.ensures.reading _ _ l h in
          let (j, a, i) = c.in_ok-bar.ensures.reading _ _ m r in (j, a, λ x. i (k (n x)));
      depth = rw (c.in_ok-bar.ensures.stack, c.in_ok-add_leaf.ensures.stack) c.loop-parser.invariant.depth;
      reserved = rw (c.in_ok-bar.ensures.stack, c.in_ok-add_leaf.ensures.stack) c.loop-parser.invariant.reserved;
      count = rw (c.in_ok-bar.ensures.rest, c.in_ok-bar.ensures.found) (omega (
        arith,
        c.loop-parser.invariant.count,
        c.in_ok-add_leaf.ensures.count,
        c.in_ok-add_leaf.ensures.within,
        c.in-Some.ensures.shorter,
      ));
    }

pub loop-parser-preserved : goal.loop-parser-preserved
loop-parser-preserved g c =
    record {
      reading = λ none.
          let (l, h, n) = c.loop-parser.invariant.reading none in
          let (m, r, k) = c.in_ok-add_leaf.ensures.reading _ _ l h in
          let (j, a, i) = rw c.in_default-2.is at (c.in_ok-tree.ensures.reading _ _ m r) in (j, a, λ x. i (k (n x)));
      depth = c.in_ok-tree.ensures.depth;
      reserved = rw (c.in_ok-tree.ensures.capacity, c.in_ok-add_leaf.ensures.stack) c.loop-parser.invariant.reserved;
      count = rw c.in_ok-tree.ensures.found (omega (
        arith,
        c.loop-parser.invariant.count,
        c.in_ok-add_leaf.ensures.count,
        c.in_ok-add_leaf.ensures.within,
        rw c.in_default-2.is at c.in_ok-tree.ensures.shorter,
      ));
    }
