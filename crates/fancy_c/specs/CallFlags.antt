-- The flags that a call takes.
use Rattle.std.specs.Prelude.{◌≡◌, ℕ, ◌+◌, bit_and}
use Rattle.fancy_lex.specs.Flags.{bits_of, flags_of}
use Rattle.fancy_c.specs.declared.call_flags.TheConstants.{FLAG_WITHOUT_SPANS}

-- the word is the sum of the numbers of its flags of a pattern, so that no other bit is set
abbrev pub AreFlags : ℕ → Type 0
AreFlags bits = bits ≡ bits_of (flags_of bits)

-- the same, but the bit that leaves the spans out may be set too
abbrev pub AreTreeFlags : ℕ → Type 0
AreTreeFlags bits = bits ≡ bits_of (flags_of bits) + bit_and bits FLAG_WITHOUT_SPANS
