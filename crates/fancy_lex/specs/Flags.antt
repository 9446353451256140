-- The flags as a set, and as bits.
use Rattle.std.specs.Prelude.{ℕ, ◌+◌, Bool, if◌then◌else◌}
use Rattle.fancy_lex.specs.Bits.{has_bit}
use Rattle.fancy_lex.specs.declared.flags.Flags.{Flags}

-- the flags whose bits are set in the word; callers pass the nine flags as these numbers
abbrev pub flags_of : ℕ → Flags
flags_of bits = record {
  casei = has_bit bits 1;
  multi = has_bit bits 2;
  dotnl = has_bit bits 4;
  swap_greed = has_bit bits 8;
  ignore_space = has_bit bits 16;
  unicode = has_bit bits 32;
  crlf = has_bit bits 64;
  oniguruma_mode = has_bit bits 128;
  ignore_numbered_groups = has_bit bits 256;
}

-- the flag's number if the flag is set
abbrev pub bit_of : Bool → ℕ → ℕ
bit_of set flag = if set then flag else 0

-- the sum of the numbers of the flags that are set
abbrev pub bits_of : Flags → ℕ
bits_of f =
    bit_of f.casei 1 + bit_of f.multi 2 + bit_of f.dotnl 4 + bit_of f.swap_greed 8 + bit_of f.ignore_space 16
    + bit_of f.unicode 32 + bit_of f.crlf 64 + bit_of f.oniguruma_mode 128 + bit_of f.ignore_numbered_groups 256

-- no flag
abbrev pub no_flag : Flags
no_flag = flags_of 0

-- only FLAG_UNICODE
abbrev pub unicode_alone : Flags
unicode_alone = flags_of 32
