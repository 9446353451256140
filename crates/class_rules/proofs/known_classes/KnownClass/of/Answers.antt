use Rattle.class_rules.proofs.known_classes.KnownClass.of.Goals as goal

pub invariant_of-result : goal.invariant_of-result
invariant_of-result c = record {
  right =
      ∣ rw (c.in_ok-from_str.ensures.ok, c.in_ok-from_str-2.ensures.ok) (rw c.from_bits.ensures at c.in_ok-set.ensures) ∣₁;
}
