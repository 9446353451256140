-- Flags as bits.
use Rattle.std.proofs.Common.{◌≡◌, ℕ, suc, ◌+◌, ◌*◌, ◌^◌, ◌%◌, ◌<◌, ◌≤◌, Bool, true, false, bit_and, bit_or, refl, ap}
use Rattle.std.proofs.Common.{◌∙◌, arith}
use Rattle.std.proofs.lemmas.Grind.{or_numeral, low_zeros}
use Rattle.std.proofs.lemmas.Nat.Bits.{and_pow}
use Rattle.std.specs.Int.Bits.{or_zero_r}
use Rattle.std.specs.Int.{bit_at}
use Rattle.std.specs.Prelude.{not, ◌==◌}
use Rattle.fancy_lex.specs.Bits.{has_bit}
use Rattle.fancy_lex.specs.Flags.{flags_of, bit_of, bits_of}
use Rattle.fancy_lex.specs.declared.flags.Flags.{Flags}

-- ---- the bits joined are the sum

at_most : (b : Bool) (m : ℕ) → bit_of b m ≤ m
at_most true m = omega arith
at_most false m = omega arith

-- a bit above all the others is added
joined : (x y m : ℕ) (b : Bool) → y ≡ bit_of b (suc m) → suc m % 2 ^ low_zeros 128 (suc m) ≡ 0 →
    x < 2 ^ low_zeros 128 (suc m) → bit_or x y ≡ x + y
joined x y m true is whole below = ap (bit_or x) is ∙ or_numeral x m whole below ∙ omega (arith, is)
joined x y m false is whole below = ap (bit_or x) is ∙ or_zero_r x ∙ omega (arith, is)

pub all_joined : (f : Flags) (a b c d e g h i j : ℕ) → a ≡ bit_of f.casei 1 → b ≡ bit_of f.multi 2 → c ≡ bit_of f.dotnl 4 →
    d ≡ bit_of f.swap_greed 8 → e ≡ bit_of f.ignore_space 16 → g ≡ bit_of f.unicode 32 → h ≡ bit_of f.crlf 64 →
    i ≡ bit_of f.oniguruma_mode 128 → j ≡ bit_of f.ignore_numbered_groups 256 →
    bit_or (bit_or (bit_or (bit_or (bit_or (bit_or (bit_or (bit_or a b) c) d) e) g) h) i) j ≡ bits_of f
all_joined f a b c d e g h i j a_is b_is c_is d_is e_is g_is h_is i_is j_is =
    let ab : bit_or a b ≡ a + b = joined a b 1 f.multi b_is refl (omega (arith, a_is, at_most f.casei 1)) in
    let ab_few : bit_or a b < 4 = omega (arith, ab, a_is, b_is, at_most f.casei 1, at_most f.multi 2) in
    let x3 = bit_or (bit_or a b) c in
    let c_ends : x3 ≡ bit_or a b + c = joined _ c 3 f.dotnl c_is refl ab_few in
    let c_few : x3 < 8 = omega (arith, c_ends, ab_few, c_is, at_most f.dotnl 4) in
    let x4 = bit_or x3 d in
    let d_ends : x4 ≡ x3 + d = joined x3 d 7 f.swap_greed d_is refl c_few in
    let d_few : x4 < 16 = omega (arith, d_ends, c_few, d_is, at_most f.swap_greed 8) in
    let x5 = bit_or x4 e in
    let e_ends : x5 ≡ x4 + e = joined x4 e 15 f.ignore_space e_is refl d_few in
    let e_few : x5 < 32 = omega (arith, e_ends, d_few, e_is, at_most f.ignore_space 16) in
    let x6 = bit_or x5 g in
    let g_ends : x6 ≡ x5 + g = joined x5 g 31 f.unicode g_is refl e_few in
    let g_few : x6 < 64 = omega (arith, g_ends, e_few, g_is, at_most f.unicode 32) in
    let x7 = bit_or x6 h in
    let h_ends : x7 ≡ x6 + h = joined x6 h 63 f.crlf h_is refl g_few in
    let h_few : x7 < 128 = omega (arith, h_ends, g_few, h_is, at_most f.crlf 64) in
    let x8 = bit_or x7 i in
    let i_ends : x8 ≡ x7 + i = joined x7 i 127 f.oniguruma_mode i_is refl h_few in
    let i_few : x8 < 256 = omega (arith, i_ends, h_few, i_is, at_most f.oniguruma_mode 128) in
    let j_ends : bit_or x8 j ≡ x8 + j = joined x8 j 255 f.ignore_numbered_groups j_is refl i_few in
    omega (
      arith,
      ab,
      c_ends,
      d_ends,
      e_ends,
      g_ends,
      h_ends,
      i_ends,
      j_ends,
      a_is,
      b_is,
      c_is,
      d_is,
      e_is,
      g_is,
      h_is,
      i_is,
      j_is,
    )

-- ---- each flag is read from its bit of the sum

scaled : (b : Bool) (m : ℕ) → bit_of b m ≡ bit_of b 1 * m
scaled true m = omega arith
scaled false m = omega arith

bit_is : (n k : ℕ) (b : Bool) → not (2 ^ k == 0) ≡ true → bit_at n k ≡ bit_of b 1 → has_bit n (2 ^ k) ≡ b
bit_is n k true set is =
    let whole : bit_and n (2 ^ k) ≡ 2 ^ k = and_pow n k ∙ ap (λ d. d * 2 ^ k) is ∙ omega arith in
    ap (λ v. not (v == 0)) whole ∙ set
bit_is n k false set is =
    let none : bit_and n (2 ^ k) ≡ 0 = and_pow n k ∙ ap (λ d. d * 2 ^ k) is ∙ omega arith in
    ap (λ v. not (v == 0)) none

pub flags_back : (f : Flags) → flags_of (bits_of f) ≡ f
flags_back f =
    let n = bits_of f in
    let s1 = scaled f.multi 2 in
    let s2 = scaled f.dotnl 4 in
    let s3 = scaled f.swap_greed 8 in
    let s4 = scaled f.ignore_space 16 in
    let s5 = scaled f.unicode 32 in
    let s6 = scaled f.crlf 64 in
    let s7 = scaled f.oniguruma_mode 128 in
    let s8 = scaled f.ignore_numbered_groups 256 in
    let m0 = at_most f.casei 1 in
    let m1 = at_most f.multi 1 in
    let m2 = at_most f.dotnl 1 in
    let m3 = at_most f.swap_greed 1 in
    let m4 = at_most f.ignore_space 1 in
    let m5 = at_most f.unicode 1 in
    let m6 = at_most f.crlf 1 in
    let m7 = at_most f.oniguruma_mode 1 in
    let m8 = at_most f.ignore_numbered_groups 1 in
    let b0 : has_bit n 1 ≡ f.casei = bit_is n 0 f.casei refl (omega (arith, s1, s2, s3, s4, s5, s6, s7, s8, m0)) in
    let b1 : has_bit n 2 ≡ f.multi = bit_is n 1 f.multi refl (omega (arith, s1, s2, s3, s4, s5, s6, s7, s8, m0, m1)) in
    let b2 : has_bit n 4 ≡ f.dotnl = bit_is n 2 f.dotnl refl (omega (arith, s1, s2, s3, s4, s5, s6, s7, s8, m0, m1, m2)) in
    let b3 : has_bit n 8 ≡ f.swap_greed =
    bit_is n 3 f.swap_greed refl (omega (arith, s1, s2, s3, s4, s5, s6, s7, s8, m0, m1, m2, m3)) in
    let b4 : has_bit n 16 ≡ f.ignore_space =
    bit_is n 4 f.ignore_space refl (omega (arith, s1, s2, s3, s4, s5, s6, s7, s8, m0, m1, m2, m3, m4)) in
    let b5 : has_bit n 32 ≡ f.unicode =
    bit_is n 5 f.unicode refl (omega (arith, s1, s2, s3, s4, s5, s6, s7, s8, m0, m1, m2, m3, m4, m5)) in
    let b6 : has_bit n 64 ≡ f.crlf =
    bit_is n 6 f.crlf refl (omega (arith, s1, s2, s3, s4, s5, s6, s7, s8, m0, m1, m2, m3, m4, m5, m6)) in
    let b7 : has_bit n 128 ≡ f.oniguruma_mode =
    bit_is n 7 f.oniguruma_mode refl (omega (arith, s1, s2, s3, s4, s5, s6, s7, s8, m0, m1, m2, m3, m4, m5, m6, m7)) in
    let b8 : has_bit n 256 ≡ f.ignore_numbered_groups =
    bit_is n 8 f.ignore_numbered_groups refl
    (omega (arith, s1, s2, s3, s4, s5, s6, s7, s8, m0, m1, m2, m3, m4, m5, m6, m7, m8)) in
    rw (b0, b1, b2, b3, b4, b5, b6, b7, b8) refl
