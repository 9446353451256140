-- The text of a class has at most six bytes for each byte that is read.
use Rattle.std.proofs.Common.{◌≡◌, ℕ, zero, suc, ◌+◌, ◌-◌, ◌*◌, ◌/◌, ◌%◌, ◌≤◌, ◌==◌, Bool, true, false, ◌&&◌, ◌||◌}
use Rattle.std.proofs.Common.{[], ◌∷◌, ◌++◌, Option, Some, None, refl, ap, arith}
use Rattle.std.proofs.lemmas.Bool.{cond_both}
use Rattle.std.proofs.lemmas.Str.{len_utf8_ascii, len_utf8_bounds}
use Rattle.std.specs.Char.{len_utf8}
use Rattle.std.specs.Prelude.{nat_lt}
use Prim.Native.Char.{code}
use Rattle.fancy_lex.proofs.EscapeLaws.{leaves_escape}
use Rattle.fancy_lex.proofs.EscapeSound.{Sound, sound_escape}
use Rattle.fancy_lex.proofs.LeaveLaws.{Leaves, leaves}
use Rattle.fancy_lex.proofs.TextLemmas.{bytes-append, strip_is}
use Rattle.fancy_lex.specs.Class.{class, class_from, class_start, with_symbol, escape_in_class, joint, is_negated}
use Rattle.fancy_lex.specs.Class.{char_text, byte_text, upper_hex_digit, needs_backslash_in_class}
use Rattle.fancy_lex.specs.Escape.{escape}
use Rattle.fancy_lex.specs.Escaped.{Escape, literal, literal_bytes}
use Rattle.fancy_lex.specs.Escaped.{delegate}
use Rattle.fancy_lex.specs.Property.{is_negated_set}
use Rattle.fancy_lex.specs.Reading.{Reading, gives, fails, choose, ◌>=>◌}
use Rattle.fancy_lex.specs.Text.{Text, bytes, strip}
use Rattle.fancy_lex.specs.declared.flags.Flags.{Flags}
use Rattle.fancy_c.proofs.EscapeCosts.{IsPaidIn, escape_paid}

digit_size : (d : ℕ) → d ≤ 15 → len_utf8 (upper_hex_digit d) ≡ 1
digit_size d l =
    cond_both (nat_lt d 10) _ _ (λ c. len_utf8 c ≡ 1) (λ e. len_utf8_ascii (code "0" + d) (omega (arith, l)))
    (λ _. len_utf8_ascii (code "A" + (d - 10)) (omega (arith, l)))

byte_size : (b : ℕ) → b ≤ 0xFF → bytes (byte_text b) ≡ 4
unfolding bytes
byte_size b l =
    omega (arith, digit_size (b / 16) (omega (arith, l)), digit_size (b % 16) (omega (arith, l)))

char_size : (c : ℕ) → bytes (char_text c) ≤ 5
unfolding bytes
char_size c =
    cond_both (needs_backslash_in_class c) _ _ (λ t. bytes t ≤ 5) (λ _. omega (arith, (len_utf8_bounds c).1))
    (λ _. omega (arith, (len_utf8_bounds c).1))

joint_none : (b : Bool) → bytes (joint (b && false)) ≡ 0
unfolding bytes
joint_none true = refl
joint_none false = refl

joint_less : (b c : Bool) → bytes (joint (b && c)) ≤ bytes (joint c)
unfolding bytes
joint_less true c = omega arith
joint_less false c = omega arith

-- what is written for an escape of t, with the text u after it
abbrev IsWritten : Text → Reading Escape → Type 0
IsWritten t (gives e u) = (seen : Bool) → bytes (escape_in_class seen e) + 6 * bytes u ≤ 6 * (bytes t + 1)
IsWritten t (fails e) = Unit {0}

escape_written : (t : Text) (p : ℕ) (o : Reading Escape) → Leaves p t o → Sound t o → IsPaidIn t o → IsWritten t o
unfolding bytes
escape_written t p (gives e u) (leaves (w, cut)) s h = λ seen.
    omega (arith, shorter, text seen e s h)
  where
    shorter : bytes u ≤ bytes t
    shorter = omega (arith, ap bytes cut, bytes-append w u)

    none : (seen : Bool) → bytes (joint (seen && false) ++ []) + 6 * bytes u ≤ 6 * (bytes t + 1)
    none seen = omega (arith, shorter, joint_none seen, bytes-append (joint (seen && false)) [])

    text : (seen : Bool) (e : Escape) → Sound t (gives e u) → IsPaidIn t (gives e u) →
        bytes (escape_in_class seen e) + 6 * bytes u ≤ 6 * (bytes t + 1)
    text seen (literal c casei) s h =
        omega (arith, shorter, joint_none seen, char_size c, bytes-append (joint (seen && false)) (char_text c))
    text seen (literal_bytes b) s h =
        omega (arith, shorter, joint_none seen, byte_size b s.1, bytes-append (joint (seen && false)) (byte_text b))
    text seen (delegate w casei) s h =
        omega (arith, h, joint_less seen (is_negated_set w), bytes-append (joint (seen && is_negated_set w)) w)
    text seen e s h = none seen
escape_written t p (fails e) l s h = tt

-- ---- classes

symbol_size : (m : ℕ) (p : Text × Text) → bytes (with_symbol m p).0 + 6 * bytes (with_symbol m p).1 ≤ bytes p.0 + 6 * bytes p.1
unfolding bytes
symbol_size m p = by_strip (strip m p.1) refl
  where
    by_strip : (o : Option Text) → strip m p.1 ≡ o →
        bytes (choose {B = Text × Text} o (λ u. (p.0 ++ m ∷ [], u)) p).0
        + 6 * bytes (choose {B = Text × Text} o (λ u. (p.0 ++ m ∷ [], u)) p).1 ≤ bytes p.0 + 6 * bytes p.1
    by_strip None e = omega arith
    by_strip (Some u) e = omega (arith, ap bytes (strip_is m p.1 u e), bytes-append p.0 (m ∷ []))

start_size : (out t : Text) → bytes (class_start out t).0 + 6 * bytes (class_start out t).1 ≤ bytes out + 1 + 6 * bytes t
unfolding bytes class_start
start_size out t =
    let start : Text × Text = (out ++ code "[" ∷ [], t) in
    omega (
      arith,
      symbol_size (code "^") start,
      symbol_size (code "]") (with_symbol (code "^") start),
      bytes-append out (code "[" ∷ []),
      len_utf8_ascii (code "[") (omega arith),
    )

-- the text of the class, with six bytes for each byte after it, is at most this long
abbrev pub IsClassWithin : ℕ → Reading Text → Type 0
IsClassWithin n (gives w u) = bytes w + 6 * bytes u ≤ n
IsClassWithin n (fails e) = Unit {0}

less : (m n : ℕ) (o : Reading Text) → m ≤ n → IsClassWithin m o → IsClassWithin n o
less m n (gives w u) l h = omega (arith, l, h)
less m n (fails e) l h = tt

module _ (f : Flags) where
  items_within : (k outer : ℕ) (seen : Bool) (out t : Text) →
      IsClassWithin (bytes out + 6 * bytes t) (class_from f k outer seen out t)
  unfolding class_from bytes
  items_within zero outer seen out t = tt
  items_within (suc k) outer seen out [] = tt
  items_within (suc k) outer seen out (c ∷ t) =
      let P = IsClassWithin (bytes out + 6 * bytes (c ∷ t)) in
      let one = (len_utf8_bounds c).0 in
      let plain = bytes-append out (c ∷ []) in
      cond_both (c == code "\\") _ _ P
      (λ _. by_escape (items_within k outer) (escape f true t)
      (escape_written t _ (escape f true t) (leaves_escape f true t) (sound_escape f true t) (escape_paid f true t))) (λ _.
      cond_both (c == code "[") _ _ P
      (λ _. less _ _ _ (omega (arith, start_size out t, one))
      (items_within k (outer + 1) seen (class_start out t).0 (class_start out t).1)) (λ _.
      cond_both (c == code "]") _ _ P
      (λ _. cond_both (outer == 0) _ _ P (λ _. omega (arith, plain))
      (λ _. less _ _ _ (omega (arith, plain)) (items_within k (outer - 1) seen (out ++ c ∷ []) t)))
      (λ _. less _ _ _ (omega (arith, plain)) (items_within k outer seen (out ++ c ∷ []) t))))
    where
      by_escape : ((seen : Bool) (out t : Text) → IsClassWithin (bytes out + 6 * bytes t) (class_from f k outer seen out t)) →
          (o : Reading Escape) → IsWritten t o → IsClassWithin (bytes out + 6 * bytes (c ∷ t))
          (o >=> (λ e u. class_from f k outer (seen || is_negated e) (out ++ escape_in_class seen e) u))
      by_escape more (gives e u) h =
          less _ _ _ (omega (arith, h seen, (len_utf8_bounds c).0, bytes-append out (escape_in_class seen e)))
          (more (seen || is_negated e) (out ++ escape_in_class seen e) u)
      by_escape more (fails e) h = tt

  -- the class after its bracket
  pub class_within : (t : Text) → IsClassWithin (6 * bytes t + 1) (class f t)
  unfolding class bytes
  class_within t =
      less _ _ _ (omega (arith, start_size [] t))
      (items_within (suc (bytes t)) 0 false (class_start [] t).0 (class_start [] t).1)
