-- The greatest lengths, as code keeps them.
use Rattle.std.proofs.Common.{◌≡◌, ℕ, Bool, true, false, nat_lt, if◌then◌else◌, Option, None, Some, sym, ap}
use Rattle.fancy_lex.specs.Quantifier.{most}
use Rattle.pattern_facts.specs.Lengths.{limit_of}
use Rattle.pattern_facts.specs.declared.lengths.MaxLength.{MaxLength}
use Rattle.pattern_facts.specs.declared.lengths.MaxLength.TheVariants.{AtMost, Unlimited}

number : MaxLength → ℕ
number (AtMost n) = n
number Unlimited = 0

value_if : (b : Bool) (n m : ℕ) → AtMost n ≡ (if b then Unlimited else AtMost m) → m ≡ n
unfolding number
value_if true n m h = let e = h in cc
value_if false n m h = sym (ap number h)

pub value_of : (o : Option ℕ) (n : ℕ) → AtMost n ≡ limit_of o → o ≡ Some n
value_of None n h = let e = h in cc
value_of (Some m) n h = ap Some (value_if (nat_lt most m) n m h)
