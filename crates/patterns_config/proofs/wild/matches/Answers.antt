use Rattle.std.proofs.lemmas.Bool.{false≢true}
use Rattle.patterns_config.proofs.WildLemmas.{star_same, strips_same, end_same}
use Rattle.patterns_config.proofs.wild.matches.Goals as goal

pub loop-after-init : goal.loop-after-init
loop-after-init g c = record {
  same = strips_same g.P.Piece.star g.P.Piece.accepted c.args.pieces.now c.args.items.now c.in-Some.left.now c.in-Some.rest.now
      c.in-Some.ensures.cases;
  ends = c.in-Some.ensures.ends;
}

pub returns-in_default-find : goal.returns-in_default-find
returns-in_default-find g c =
    let after = star_same g.P.Piece.star g.P.Piece.accepted c.loop-after.left.now c.loop-after.rest.now
    c.in-Some-split_first.field-0-0.now c.in-Some-split_first.after.now c.loop-after.invariant.ends
    c.in-Some-split_first.ensures.cases.0 in
    let none = rw c.in_default-find.is at c.find.ensures.cases in
    (λ t. absurd (false≢true t), λ w. absurd (none (after.0 (c.loop-after.invariant.same.0 w))))

pub loop-after-preserved : goal.loop-after-preserved
loop-after-preserved g c =
    let after = star_same g.P.Piece.star g.P.Piece.accepted c.loop-after.left.now c.loop-after.rest.now
    c.in-Some-split_first.field-0-0.now c.in-Some-split_first.after.now c.loop-after.invariant.ends
    c.in-Some-split_first.ensures.cases.0 in
    let found = c.in-Some-find.ensures.cases in
    record {
      same = (
        λ w. found.0 (after.0 (c.loop-after.invariant.same.0 w)),
        λ w. c.loop-after.invariant.same.1 (after.1 (found.1 w)),
      );
      ends = c.in-Some-find.ensures.ends;
    }

pub returns : goal.returns
returns g c =
    let now = end_same g.P.Piece.star g.P.Piece.accepted c.is_empty.result c.loop-after.left.now c.loop-after.rest.now
    (rw c.in_default-split_first.is at c.split_first.ensures.cases) c.is_empty.ensures in
    (λ t. c.loop-after.invariant.same.1 (now.0 t), λ w. now.1 (c.loop-after.invariant.same.0 w))
