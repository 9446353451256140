use Rattle.std.proofs.Common.{◌≡◌, ◌+◌, ◌-◌, sym, ◌∙◌, arith, subst}
use Rattle.std.proofs.lemmas.Result.{err_from_is_err_and}
use Rattle.fancy_syntax.specs.Parsed.{state}
use Rattle.fancy_grammar.specs.Quantified.{quant, adjacent, max_adjacent}
use Rattle.fancy_grammar.specs.State.{done, failed}
use Rattle.fancy_syntax.specs.View.{view}
use Rattle.fancy_grammar.proofs.OutcomeLemmas.{IsErrorAmong-map}
use Rattle.fancy_grammar.proofs.QuantLemmas.{adjacent_error, adjacent_ends, adjacent_stops, adjacent_counts}
use Rattle.fancy_grammar.proofs.QuantLemmas.{some_may_count, unmoved_is, moved_is, from_start}
use Rattle.fancy_syntax.proofs.RecordingLemmas.{recorded_ends, recorded_counts}
use Rattle.fancy_syntax.proofs.grammar.quantified.quantify_adjacent.Goals as goal

pub returns-in_err-quantify_once-clause-value : goal.returns-in_err-quantify_once-clause-value
returns-in_err-quantify_once-clause-value g c =
    let e = err_from_is_err_and c.from_residual.result c.from_residual.ensures.1 in
    rw (e.1, e.2)
    (IsErrorAmong-map (λ o. quant c.byte_len-before.result (view c.loop-past.tree)
    (state c.loop-past.current) ≡ o)
    (λ o. adjacent max_adjacent c.args.depth (view c.args.tree.now) (state c.args.current.now) ≡ o)
    c.in_err-quantify_once.field-0.0
    (λ f h. c.loop-past.invariant.value
    ∙ adjacent_error _ _ _ _ (from_start _ _ _ (failed f) c.byte_len-before.ensures h))
    c.in_err-quantify_once.ensures.value)

pub returns-then-byte_len-before-clause-value : goal.returns-then-byte_len-before-clause-value
returns-then-byte_len-before-clause-value g c =
    let once = from_start c.byte_len-before.result (view c.loop-past.tree) (state c.loop-past.current)
    (done (view c.quantify_once.new.tree) (state c.quantify_once.new.current)) c.byte_len-before.ensures
    c.in_ok-quantify_once.ensures.value in
    c.loop-past.invariant.value
    ∙ adjacent_ends _ _ _ _ once (unmoved_is _ _ _ (sym c.byte_len.ensures ∙ c.if-byte_len-before.true)
    (sym c.byte_len-before.ensures))

pub returns-then-byte_len-before-clause-spans : goal.returns-then-byte_len-before-clause-spans
returns-then-byte_len-before-clause-spans g c m h =
    let (n, k, e) = c.loop-past.invariant.spans m h in
    let once = from_start c.byte_len-before.result (view c.loop-past.tree) (state c.loop-past.current)
    (done (view c.quantify_once.new.tree) (state c.quantify_once.new.current)) c.byte_len-before.ensures
    c.in_ok-quantify_once.ensures.value in
    subst (g.S.Spanning.records c.quantify_once.new.spans)
    (sym (e ∙ recorded_ends c.loop-past.more _ _ n once (unmoved_is _ _ _ (sym c.byte_len.ensures
    ∙ c.if-byte_len-before.true) (sym c.byte_len-before.ensures)))) (c.in_ok-quantify_once.ensures.spans n k)

pub returns-then-not-may_count-clause-value : goal.returns-then-not-may_count-clause-value
returns-then-not-may_count-clause-value g c =
    let once = from_start c.byte_len-before.result (view c.loop-past.tree) (state c.loop-past.current)
    (done (view c.quantify_once.new.tree) (state c.quantify_once.new.current)) c.byte_len-before.ensures
    c.in_ok-quantify_once.ensures.value in
    c.loop-past.invariant.value
    ∙ rw c.reach-past.ensures (adjacent_stops _ _ _ _ once
    (moved_is _ _ _ _ (sym c.byte_len.ensures) (sym c.byte_len-before.ensures) c.if-byte_len-before.false)
    (sym c.may_count.ensures ∙ c.if-not-may_count.true))

pub loop-past-preserved : goal.loop-past-preserved
loop-past-preserved g c =
    let once = from_start c.byte_len-before.result (view c.loop-past.tree) (state c.loop-past.current)
    (done (view c.quantify_once.new.tree) (state c.quantify_once.new.current)) c.byte_len-before.ensures
    c.in_ok-quantify_once.ensures.value in
    let counts = sym c.may_count.ensures ∙ c.if-not-may_count.false in
    let some = some_may_count c.loop-past.more c.loop-past.depth counts in
    let one : c.loop-past.more ≡ (c.loop-past.more - 1) + 1 = omega (arith, some.0) in
    record {
      value = c.loop-past.invariant.value
          ∙ adjacent_counts c.loop-past.more (c.loop-past.more - 1) _ _ _ once
          (moved_is _ _ _ _ (sym c.byte_len.ensures) (sym c.byte_len-before.ensures) c.if-byte_len-before.false) counts
          one;
      deep = some.1;
      within = omega (arith, c.loop-past.invariant.within, c.in_ok-quantify_once.ensures.within);
      spans = λ m h.
          let (n, k, e) = c.loop-past.invariant.spans m h in (
            _,
            c.in_ok-quantify_once.ensures.spans n k,
            e ∙ recorded_counts c.loop-past.more (c.loop-past.more - 1) _ _ n once
                (moved_is _ _ _ _ (sym c.byte_len.ensures) (sym c.byte_len-before.ensures) c.if-byte_len-before.false) one,
          );
    }
