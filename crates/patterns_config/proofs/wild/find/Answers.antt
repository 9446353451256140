use Rattle.std.proofs.Common.{length, inl, inr}
use Rattle.patterns_config.proofs.WildLemmas.{not_empty, is_empty, found_same, skip_same, none_after, strips_short}
use Rattle.patterns_config.proofs.wild.find.Goals as goal
use Rattle.patterns_config.proofs.wild.find.Goals.{then-not-is_empty-via-then-not-is_empty}
use Rattle.patterns_config.proofs.wild.find.Goals.{then-not-is_empty-via-else-not-is_empty+then-is_empty}
use Rattle.patterns_config.proofs.wild.find.Goals.{in-Some+else-not-is_empty+else-is_empty, in_default}

pub returns-then-not-is_empty-clause-cases : goal.returns-then-not-is_empty-clause-cases
returns-then-not-is_empty-clause-cases g c =
    let now = found_same g.P.Piece.star g.P.Piece.accepted c.args.pieces.now c.loop-left.rest.now
    c.in-Some.left.now c.in-Some.others.now c.in-Some.ensures.cases c.in-Some.ensures.ends
    (elim c.then-not-is_empty.branch [
      | then-not-is_empty-via-then-not-is_empty w ↦
          inl (not_empty c.is_empty.result (length c.in-Some.left.now) c.is_empty.ensures w.if-not-is_empty.true)
      | then-not-is_empty-via-else-not-is_empty+then-is_empty w ↦
          inr (is_empty w.is_empty-else-not-is_empty.result (length c.in-Some.others.now) w.is_empty-else-not-is_empty.ensures
          w.if-is_empty.true)
    ]) in
    (λ found. now.0 (c.loop-left.invariant.0 found), λ w. c.loop-left.invariant.1 (now.1 w))

pub returns-in_default-split_first-clause-cases : goal.returns-in_default-split_first-clause-cases
returns-in_default-split_first-clause-cases g c = λ found.
    none_after g.P.Piece.star g.P.Piece.accepted c.args.pieces.now c.loop-left.rest.now
    (elim c.match-strip.branch [
      | in-Some+else-not-is_empty+else-is_empty w ↦
          strips_short g.P.Piece.star g.P.Piece.accepted c.args.pieces.now c.loop-left.rest.now
          w.in-Some.left.now w.in-Some.others.now w.in-Some.ensures.cases
          (is_empty w.is_empty.result (length w.in-Some.left.now) w.is_empty.ensures w.if-not-is_empty.false)
          (not_empty w.is_empty-else-not-is_empty.result (length w.in-Some.others.now) w.is_empty-else-not-is_empty.ensures
          w.if-is_empty.false)
      | in_default w ↦ rw w.in_default.is at c.strip.ensures.cases
    ])
    (rw c.in_default-split_first.is at c.split_first.ensures.cases)
    (c.loop-left.invariant.0 found)

pub loop-left-preserved : goal.loop-left-preserved
loop-left-preserved g c =
    let now = skip_same g.P.Piece.star g.P.Piece.accepted c.args.pieces.now c.loop-left.rest.now
    c.in-Some-split_first.field-0-0.now c.in-Some-split_first.others.now
    (elim c.match-strip.branch [
      | in-Some+else-not-is_empty+else-is_empty w ↦
          strips_short g.P.Piece.star g.P.Piece.accepted c.args.pieces.now c.loop-left.rest.now
          w.in-Some.left.now w.in-Some.others.now w.in-Some.ensures.cases
          (is_empty w.is_empty.result (length w.in-Some.left.now) w.is_empty.ensures w.if-not-is_empty.false)
          (not_empty w.is_empty-else-not-is_empty.result (length w.in-Some.others.now) w.is_empty-else-not-is_empty.ensures
          w.if-is_empty.false)
      | in_default w ↦ rw w.in_default.is at c.strip.ensures.cases
    ])
    c.in-Some-split_first.ensures.cases.0 in
    (λ found. now.0 (c.loop-left.invariant.0 found), λ found. c.loop-left.invariant.1 (now.1 found))
