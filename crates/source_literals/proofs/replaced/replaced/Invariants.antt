use Rattle.std.proofs.Common.{◌≡◌, ◌++◌, drop, length}
use Rattle.source_literals.specs.Replaced.{AreInOrder}
use Rattle.source_literals.specs.Replaced as spec
use Rattle.source_literals.proofs.replaced.replaced.Given as goal

-- the rest of the parts is in order, and what they leave past the last one is what is still to be written
abbrev pub invariant-loop-part : goal.invariant-loop-part
invariant-loop-part l = record {
  ordered : AreInOrder l.done (drop l.part-index l.parts) (length l.bytes);
  written : l.new.items ++ drop l.done (spec.replaced l.bytes (drop l.part-index l.parts)) ≡ spec.replaced l.bytes l.parts;
}
