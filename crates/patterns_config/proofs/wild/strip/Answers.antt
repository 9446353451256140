use Rattle.std.proofs.Common.{sym, ◌∙◌, arith}
use Rattle.std.proofs.lemmas.Bool.{false≢true}
use Rattle.patterns_config.specs.Wild.{begin}
use Rattle.patterns_config.proofs.WildLemmas.{ends_star, ends_nothing, strips_next, strips_nothing, strips_other}
use Rattle.patterns_config.proofs.wild.strip.Goals as goal
use Rattle.patterns_config.proofs.wild.strip.Goals.{in-Some+then-is_star, in_default}

pub loop-piece-init : goal.loop-piece-init
loop-piece-init g c = record { strips = begin; shorter = omega arith }

pub returns-in_default-split_first-clause-cases : goal.returns-in_default-split_first-clause-cases
returns-in_default-split_first-clause-cases g c =
    strips_nothing g.P.Piece.star g.P.Piece.accepted c.args.pieces.now c.args.items.now c.loop-piece.left.now c.loop-piece.rest.now
    c.in-Some.piece.now c.in-Some.after.now c.loop-piece.invariant.strips c.in-Some.ensures.cases.0
    (rw c.in_default-split_first.is at c.split_first-in-Some.ensures.cases)
    (λ s. false≢true (sym c.if-is_star.false ∙ c.is_star.ensures.1 s))

pub returns-then-not-accepts-clause-cases : goal.returns-then-not-accepts-clause-cases
returns-then-not-accepts-clause-cases g c =
    strips_other g.P.Piece.star g.P.Piece.accepted c.args.pieces.now c.args.items.now c.loop-piece.left.now c.loop-piece.rest.now
    c.in-Some.piece.now c.in-Some.after.now c.in-Some-split_first.item.now c.in-Some-split_first.others.now
    c.loop-piece.invariant.strips c.in-Some.ensures.cases.0 c.in-Some-split_first.ensures.cases.0
    (λ s. false≢true (sym c.if-is_star.false ∙ c.is_star.ensures.1 s))
    (λ a. false≢true (sym c.if-not-accepts.true ∙ c.accepts.ensures.1 a))

pub loop-piece-preserved : goal.loop-piece-preserved
loop-piece-preserved g c = record {
  strips =
      strips_next g.P.Piece.star g.P.Piece.accepted c.args.pieces.now c.args.items.now c.loop-piece.left.now c.loop-piece.rest.now
      c.in-Some.piece.now c.in-Some.after.now c.in-Some-split_first.item.now c.in-Some-split_first.others.now
      c.loop-piece.invariant.strips c.in-Some.ensures.cases.0 c.in-Some-split_first.ensures.cases.0
      (λ s. false≢true (sym c.if-is_star.false ∙ c.is_star.ensures.1 s))
      (c.accepts.ensures.0 c.if-not-accepts.false);
  shorter = omega (arith, c.in-Some.ensures.cases.1, c.loop-piece.invariant.shorter);
}

pub returns-clause-ends : goal.returns-clause-ends
returns-clause-ends g c = elim c.match-split_first.branch [
  | in-Some+then-is_star w ↦ ends_star g.P.Piece.star c.loop-piece.left.now w.in-Some.piece.now w.in-Some.after.now
      w.in-Some.ensures.cases.0 (w.is_star.ensures.0 w.if-is_star.true)
  | in_default w ↦ ends_nothing g.P.Piece.star c.loop-piece.left.now (rw w.in_default.is at c.split_first.ensures.cases)
]
