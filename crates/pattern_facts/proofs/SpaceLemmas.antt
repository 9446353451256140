-- The characters of `\s` have at most three bytes.
use Rattle.std.proofs.Common.{◌≡◌, ℕ, ◌≤◌, Bool, true, false, ◌&&◌, nat_le, List, [], ◌∷◌, refl, arith}
use Rattle.std.proofs.lemmas.Bool.Decides.{nat_tests}
use Rattle.std.proofs.lemmas.Bool.{false≢true}
use Rattle.std.specs.Char.{len_utf8}
use Rattle.ucd_perl.specs.Perl.{is_space_char}
use Rattle.ucd_props.specs.Binary.{is_white_space}
use Rattle.ucd_props.specs.Ranges.{white_space_ranges}
use Rattle.ucd_table.specs.Rows.{Range, in_ranges}

end_by : ℕ → List Range → Bool
end_by n [] = true
end_by n (r ∷ rs) = nat_le r.1 n && end_by n rs

inside_by : (n : ℕ) (rs : List Range) (c : ℕ) → end_by n rs ≡ true → in_ranges rs c ≡ true → c ≤ n
unfolding in_ranges end_by
inside_by n [] c e h = absurd (false≢true h)
inside_by n (r ∷ rs) c e h = let rest = inside_by n rs c in grind (arith, nat_tests, rest)

pub space_small : (c : ℕ) → is_space_char c ≡ true → c ≤ 0x3000
unfolding is_space_char is_white_space white_space_ranges end_by
space_small c h = inside_by 0x3000 white_space_ranges c refl h

pub space_bytes : (c : ℕ) → is_space_char c ≡ true → len_utf8 c ≤ 3
space_bytes c h = let small = space_small c h in grind (arith, nat_tests)

pub space_low : is_space_char 0x20 ≡ true
unfolding is_space_char is_white_space white_space_ranges in_ranges
space_low = refl

pub space_high : is_space_char 0x3000 ≡ true
unfolding is_space_char is_white_space white_space_ranges in_ranges
space_high = refl

pub letter_no_space : is_space_char 0x61 ≡ false
unfolding is_space_char is_white_space white_space_ranges in_ranges
letter_no_space = refl
