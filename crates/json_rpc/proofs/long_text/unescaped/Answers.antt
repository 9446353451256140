use Rattle.std.proofs.Common.{◌≡◌, ◌+◌, ◌≤◌, ◌<◌, ◌∙◌, arith, inl, rules, subst, sym, take, slice_range}
use Rattle.json_rpc.specs.LongText.{SpellsInParts}
use Rattle.json_rpc.proofs.PartLemmas.{later_same, no_parts, one_more_part, last_part}
use Rattle.json_rpc.proofs.long_text.unescaped.Goals as goal

pub loop-start-init : goal.loop-start-init
loop-start-init c = record {
  begun = omega arith;
  within = search rules;
  front = omega arith;
  rest = search rules;
  parts = no_parts c.args.message.items c.args.message.items c.args.text.start;
}

pub loop-start-preserved : goal.loop-start-preserved
loop-start-preserved c =
    let old = c.args.message.items in
    let now = c.loop-start.message.items in
    let new = c.move_piece.new.message.items in
    let end = c.piece_end-end.result in
    let more = c.in-Some.written in
    let passed : c.loop-start.start < end = c.piece_end-end.ensures.later c.loop-start-test.true in
    let short : c.loop-start.length + more ≤ end = rw c.in-Some.is at c.in_ok-written.ensures.within in
    let (text, spells, moved) = rw c.in-Some.is at c.in_ok-written.ensures.moved in
    let sum : c.loop-start.length + more ≡ c.saturating_add-length.result = omega arith in
    record {
      begun = omega arith;
      within = inl c.piece_end-end.ensures.within;
      front = omega arith;
      rest = c.in_ok-written.ensures.rest ∙ later_same now old c.loop-start.start end (omega arith) c.loop-start.invariant.rest;
      parts =
          subst (λ n. SpellsInParts (slice_range old c.args.text.start end) (take n new)) sum
          (one_more_part old now new text c.args.text.start c.loop-start.start end c.loop-start.length more c.loop-start.invariant.begun
          (omega arith) c.loop-start.invariant.rest c.loop-start.invariant.parts spells moved);
    }
