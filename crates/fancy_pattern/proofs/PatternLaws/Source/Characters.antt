-- Characters and escapes that a class writes unchanged, and invisible characters.
use Rattle.std.proofs.Common.{◌≡◌, None, ℕ, Bool, true, false, [], ◌∷◌, codes, refl, ◌/◌, ◌%◌, nat_lt, arith}
use Rattle.std.proofs.lemmas.Bool.{cond_both}
use Rattle.std.proofs.lemmas.Bool.Decides.{nat_tests}
use Prim.Native.Char.{code}
use Rattle.fancy_lex.specs.Characters.{◌∈◌}
use Rattle.fancy_lex.specs.Class.{escape_in_class, is_negated, needs_backslash_in_class, upper_hex_digit}
use Rattle.fancy_lex.specs.Escape.{letter_of, escape, escape_at, lone_escape}
use Rattle.fancy_lex.specs.Escaped.{Escape}
use Rattle.fancy_lex.specs.Reading.{gives}
use Rattle.fancy_lex.specs.Text.{Text}
use Rattle.fancy_lex.specs.declared.flags.Flags.{Flags}
use Rattle.fancy_lex.proofs.ReadingLemmas.{choose_both}
use Rattle.fancy_grammar.specs.PatternLetters.{is_unseen, by_letter_or, coded}
use Rattle.fancy_grammar.proofs.ReadBack.ClearLemmas.{apart, Each, no_more, also, each_among}
use Rattle.fancy_pattern.proofs.PatternLaws.Characters.{EscapesIn, escapes_letter, reads_small, reads_large, unseen_small}

-- ---- visible characters

pub no_letter : (c : ℕ) → is_unseen c ≡ false → letter_of c ≡ None
no_letter c h =
    let is_not = apart is_unseen c h in
    rw (
      is_not (code "\n") refl,
      is_not (code "\t") refl,
      is_not (code "\r") refl,
      is_not (code "\u{c}") refl,
      is_not (code "\u{b}") refl,
      is_not (code "\u{7}") refl,
      is_not (code "\u{1b}") refl,
    ) refl

-- ---- escapes in a class that are written unchanged

-- no row of the replaced texts begins with it, and the class writes it unchanged
pub record IsKeptEscape (c : ℕ) : Type 0 where
  pub no_row : c ∈ "pPxt" ≡ false
  pub reads : (f : Flags) (v : Text) → (e : Escape) × (escape f true (c ∷ v) ≡ gives e v)
      × (escape_in_class false e ≡ code "\\" ∷ c ∷ []) × (is_negated e ≡ false)

kept_escapes : Each IsKeptEscape (codes "dDsSwW\\.+*?()|[]{}^$#&-~")
unfolding escape_at lone_escape
kept_escapes =
    also (letter (code "d") refl (λ f v. (_, refl, refl, refl)))
    (also (letter (code "D") refl (λ f v. (_, refl, refl, refl)))
    (also (letter (code "s") refl (λ f v. (_, refl, refl, refl)))
    (also (letter (code "S") refl (λ f v. (_, refl, refl, refl)))
    (also (letter (code "w") refl (λ f v. (_, refl, refl, refl)))
    (also (letter (code "W") refl (λ f v. (_, refl, refl, refl)))
    (also (letter (code "\\") refl (λ f v. (_, refl, refl, refl)))
    (also (letter (code ".") refl (λ f v. (_, refl, refl, refl)))
    (also (letter (code "+") refl (λ f v. (_, refl, refl, refl)))
    (also (letter (code "*") refl (λ f v. (_, refl, refl, refl)))
    (also (letter (code "?") refl (λ f v. (_, refl, refl, refl)))
    (also (letter (code "(") refl (λ f v. (_, refl, refl, refl)))
    (also (letter (code ")") refl (λ f v. (_, refl, refl, refl)))
    (also (letter (code "|") refl (λ f v. (_, refl, refl, refl)))
    (also (letter (code "[") refl (λ f v. (_, refl, refl, refl)))
    (also (letter (code "]") refl (λ f v. (_, refl, refl, refl)))
    (also (letter (code "{") refl (λ f v. (_, refl, refl, refl)))
    (also (letter (code "}") refl (λ f v. (_, refl, refl, refl)))
    (also (letter (code "^") refl (λ f v. (_, refl, refl, refl)))
    (also (letter (code "$") refl (λ f v. (_, refl, refl, refl)))
    (also (letter (code "#") refl (λ f v. (_, refl, refl, refl)))
    (also (letter (code "&") refl (λ f v. (_, refl, refl, refl)))
    (also (letter (code "-") refl (λ f v. (_, refl, refl, refl)))
    (also (letter (code "~") refl (λ f v. (_, refl, refl, refl))) no_more)))))))))))))))))))))))
  where
    letter : (c : ℕ) → c ∈ "pPxt" ≡ false →
        ((f : Flags) (v : Text) → (e : Escape) × (escape f true (c ∷ v) ≡ gives e v)
        × (escape_in_class false e ≡ code "\\" ∷ c ∷ []) × (is_negated e ≡ false)) → IsKeptEscape c
    letter c n r = record { no_row = n; reads = r }

pub kept_escape : (c : ℕ) → c ∈ "dDsSwW\\.+*?()|[]{}^$#&-~" ≡ true → IsKeptEscape c
kept_escape c h = each_among IsKeptEscape (codes "dDsSwW\\.+*?()|[]{}^$#&-~") c kept_escapes h

-- ---- invisible characters, in a class

-- no metacharacter, and none that follows a backslash
pub unseen_plain : (c : ℕ) → is_unseen c ≡ true → (needs_backslash_in_class c ≡ false) × (c ∈ "\\[]^" ≡ false)
unseen_plain c h = (grind (arith, nat_tests), grind (arith, nat_tests))

-- an escape that the class reads as the character, and writes as the character itself
pub record IsUnseenEscape (c : ℕ) (t : Text) : Type 0 where
  pub after : Text
  pub is : t ≡ code "\\" ∷ after
  pub reads : (f : Flags) → (casei : Bool) × EscapesIn true f casei c after

pub unseen_escape : (c : ℕ) → is_unseen c ≡ true → IsUnseenEscape c (by_letter_or c (coded c))
unseen_escape c h =
    choose_both (IsUnseenEscape c) (letter_of c) _ _
    (λ d e. record { after = d ∷ []; is = refl; reads = λ f. (false, escapes_letter true f c d e) })
    (cond_both (nat_lt c 0x80) _ _ (IsUnseenEscape c)
    (λ e. record {
      after = code "x" ∷ upper_hex_digit (c / 16) ∷ upper_hex_digit (c % 16) ∷ [];
      is = refl;
      reads = λ f. (f.casei, reads_small true f c (grind (arith, nat_tests)));
    })
    (λ e. let (a, b) = unseen_small c h in record {
      after =
          code "u" ∷ upper_hex_digit (c / 4096) ∷ upper_hex_digit (c / 256 % 16) ∷ upper_hex_digit
          (c / 16 % 16) ∷ upper_hex_digit (c % 16) ∷ [];
      is = refl;
      reads = λ f. (f.casei, reads_large true f c a b);
    }))
