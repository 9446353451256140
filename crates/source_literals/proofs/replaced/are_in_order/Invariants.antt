use Rattle.std.proofs.Common.{◌↔◌, drop}
use Rattle.source_literals.specs.Replaced.{AreInOrder}
use Rattle.source_literals.proofs.replaced.are_in_order.Given as goal

-- whether the parts are in order is whether the rest of them is
abbrev pub invariant-loop-part : goal.invariant-loop-part
invariant-loop-part l =
    AreInOrder 0 l.parts l.fn.end ↔ AreInOrder l.done (drop l.part-index l.parts) l.fn.end
