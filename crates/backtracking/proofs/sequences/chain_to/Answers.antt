use Rattle.std.proofs.Common.{sym, ◌∙◌, subst, arith}
use Rattle.std.specs.Cmp.Lexicographic.{same_text}
use Rattle.backtracking.proofs.SequenceLemmas.{chain_of, pair_at}
use Rattle.backtracking.specs.Chain.{start}
use Rattle.backtracking.specs.SlowSequences.{IsChain, one, IsSlowAcross}
use Rattle.backtracking.proofs.sequences.chain_to.Goals.{then-pair-index+then-pair-longest+then-eq, else-pair-index}
use Rattle.backtracking.proofs.sequences.chain_to.Goals as goal

pub loop-pair-init : goal.loop-pair-init
loop-pair-init c unicode trees spans part k all = (start part, one k, omega arith)

pub loop-pair-preserved : goal.loop-pair-preserved
loop-pair-preserved c unicode trees spans part k all =
    let pair = c.pair-item.result in
    let slow = pair_at (IsSlowAcross unicode trees spans) c.args.pairs.now c.loop-pair.pair-index pair c.loop-pair-test.true c.pair-item.is
    all in
    elim c.if-pair-index.branch [
      | then-pair-index+then-pair-longest+then-eq w ↦
          let (chain, is_chain, degree) = chain_of unicode trees spans pair slow in (
            chain,
            subst (λ i. IsChain unicode trees c.args.word.now chain i) w.if-pair-index.true
                (subst (λ word. IsChain unicode trees word chain pair.last)
                (sym w.deref.ensures.value ∙ same_text _ _ (sym w.if-eq.true ∙ w.eq.ensures)) is_chain),
            w.longest-is ∙ degree,
          )
      | else-pair-index w ↦
          let (chain, is_chain, degree) = c.loop-pair.invariant unicode trees spans part k all in
          (chain, is_chain, w.longest-is ∙ degree)
    ]
