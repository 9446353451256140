-- Sets that contain each other.
use Rattle.std.proofs.Common.{◌≡◌, Bool, true, false, refl}
use Rattle.std.specs.Prelude.{IsTrue}

pub same_if_each : (a b : Bool) → (IsTrue a → IsTrue b) → (IsTrue b → IsTrue a) → a ≡ b
same_if_each true true h k = refl
same_if_each true false h k = let e = h refl in cc
same_if_each false true h k = let e = k refl in cc
same_if_each false false h k = refl
