-- What a reference refers to, with texts as lists of characters.
use Rattle.std.specs.Prelude.{◌≡◌, ℕ, ℤ, Bool, true, false, nat_eq, refl}
use Rattle.std.specs.Ordering.{int_eq}
use Rattle.std.specs.Bool.{Decides}
use Rattle.std.specs.Str.{bytes_eq}
use Rattle.std.specs.Cmp.{IsEquivalence, decided, unsigned_Decides, signed_Decides}
use Rattle.std.specs.Cmp.Lexicographic.{bytes_decides}
use mathlib.Core.Bool.{false≢true}
use mathlib.Core.Path.{subst}
use Rattle.fancy_lex.specs.Text.{Text}

-- a group by its number, by its name, or by its distance in groups
pub data Target : Type 0 where
  by_number : ℕ → Target
  by_name : Text → Target
  relative : ℤ → Target

-- whether the target is a name; only the clone of a name allocates
abbrev pub is_by_name : Target → Bool
is_by_name (by_name s) = true
is_by_name _ = false

-- whether two targets are the same
abbrev pub same_target : Target → Target → Bool
same_target (by_number m) (by_number n) = nat_eq m n
same_target (by_name s) (by_name t) = bytes_eq s t
same_target (relative y) (relative z) = int_eq y z
same_target _ _ = false

pub same_target-true : (s t : Target) → same_target s t ≡ true → s ≡ t
same_target-true (by_number m) (by_number n) h = λ i. by_number ((unsigned_Decides m n).0 h i)
same_target-true (by_name s) (by_name t) h = λ i. by_name ((bytes_decides s t).0 h i)
same_target-true (relative y) (relative z) h = λ i. relative ((signed_Decides y z).0 h i)
same_target-true _ _ h = absurd (false≢true h)

pub same_target-refl : (t : Target) → same_target t t ≡ true
same_target-refl (by_number n) = (unsigned_Decides n n).1 refl
same_target-refl (by_name s) = (bytes_decides s s).1 refl
same_target-refl (relative z) = (signed_Decides z z).1 refl

pub same_target-Decides : (s t : Target) → Decides (same_target s t) (s ≡ t)
same_target-Decides s t = (same_target-true s t, λ e. subst (λ u. same_target s u ≡ true) e (same_target-refl s))

pub same_target-equiv : IsEquivalence same_target
same_target-equiv = decided same_target same_target-Decides
