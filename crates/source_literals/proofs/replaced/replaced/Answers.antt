use Rattle.std.proofs.Common.{◌≡◌, ◌∙◌, ◌≤◌, ◌++◌, ◌∷◌, ◌+◌, ap, subst, arith, length, drop, slice_range, string_bytes}
use Rattle.source_literals.specs.Replaced as spec
use Rattle.source_literals.specs.Replaced.{AreInOrder}
use Rattle.source_literals.proofs.ReplacedLemmas.{not_after, one_more, rest_is, rest_ordered}
use Rattle.source_literals.proofs.replaced.replaced.Goals as goal

pub slice_bounds-extend_from_slice-end : goal.slice_bounds-extend_from_slice-end
slice_bounds-extend_from_slice-end c =
    let p = c.part-item.result in
    let i = c.loop-part.part-index in
    let ps = c.args.parts.now in
    let n = length c.args.bytes.now in
    let h : AreInOrder c.loop-part.done (p ∷ drop (i + 1) ps) n =
    rest_ordered ps i p c.loop-part.done n c.loop-part-test.true c.part-item.is c.loop-part.invariant.ordered in
    let within : p.span.end ≤ n = not_after p.span.end (drop (i + 1) ps) n h.2 in
    omega (arith, within, h.1)

pub loop-part-preserved : goal.loop-part-preserved
loop-part-preserved c =
    let p = c.part-item.result in
    let i = c.loop-part.part-index in
    let ps = c.args.parts.now in
    let w = c.args.bytes.now in
    let d = c.loop-part.done in
    let rest = drop (i + 1) ps in
    let h : AreInOrder d (p ∷ rest) (length w) =
    rest_ordered ps i p d (length w) c.loop-part-test.true c.part-item.is c.loop-part.invariant.ordered in
    let written : c.loop-part.new.items ++ drop d (spec.replaced w (p ∷ rest)) ≡ spec.replaced w ps =
    subst (λ x. c.loop-part.new.items ++ drop d (spec.replaced w x) ≡ spec.replaced w ps)
    (rest_is ps i p c.loop-part-test.true c.part-item.is) c.loop-part.invariant.written in
    let items : c.extend_from_slice-in-loop-part.new.self.items ≡
    (c.loop-part.new.items ++ slice_range w d p.span.start) ++ string_bytes p.text =
    cc (c.in_ok-extend_from_slice.ensures.items, c.in_ok-extend_from_slice-2.ensures.items, c.as_bytes.ensures.value) in
    record {
      ordered = h.2;
      written = ap (λ x. x ++ drop p.span.end (spec.replaced w rest)) items
          ∙ one_more w c.loop-part.new.items (spec.replaced w ps) d p rest h written;
    }
