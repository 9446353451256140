-- What is written for each escape in a class is read again there.
use Rattle.std.proofs.Common.{◌≡◌, ℕ, ◌+◌, ◌*◌, ◌/◌, ◌%◌, ◌<◌, Bool, true, false, not, ◌&&◌, ◌==◌, nat_le}
use Rattle.std.proofs.Common.{if◌then◌else◌, [], ◌∷◌, ◌++◌, codes, Option, Some, None, option_map, refl, sym, ap, ◌∙◌}
use Rattle.std.proofs.Common.{subst, arith, rules, append_assoc, lt-ltb}
use Rattle.std.proofs.lemmas.Bool.{not-true, cond-false, cond_both, and_from, and_parts}
use Rattle.std.proofs.lemmas.Bool.Decides.{nat_tests}
use Rattle.std.specs.Char.{IsScalar, digit_value, is_ascii_digit, to_ascii_lowercase}
use Rattle.std.specs.Cmp.{first_so, second_so}
use Rattle.std.specs.List.{list_all, AllByRecursion}
use Rattle.std.specs.Str.{all_scalars, bytes_eq}
use Prim.Native.Char.{code}
use Rattle.fancy_lex.specs.Characters.{◌∈◌}
use Rattle.fancy_lex.specs.Class.{class_start, is_plain_in_class, byte_text, upper_hex_digit}
use Rattle.fancy_lex.specs.Escape.{escape, escape_at, number_escape, property, lone_escape}
use Rattle.fancy_lex.specs.Escaped.{Escape, literal, literal_bytes, delegate}
use Rattle.fancy_lex.specs.Located.{invalid_class, invalid_codepoint_value, unclosed_unicode_name}
use Rattle.fancy_lex.specs.Hex as hexes
use Rattle.fancy_lex.specs.Hex.{hex, value, leaf_of_value, is_scalar, fixed_digits}
use Rattle.fancy_lex.specs.LayoutSteps.{layout}
use Rattle.fancy_lex.specs.Property.{Property, PropertyName, single, braced, read_property, name_at, property_text}
use Rattle.fancy_lex.specs.Property.{Form, set, pair, form, form_text, look_up, lowercase, without_caret, letter}
use Rattle.fancy_lex.specs.Reading.{Reading, gives, fails, error_at, choose, layout_reading, ◌>=>◌}
use Rattle.fancy_lex.specs.EscapeReference.{group_number}
use Rattle.fancy_lex.specs.declared.flags.Flags.{Flags}
use Rattle.fancy_lex.specs.Text.{Text, reach_of, strip, cut_at}
use Rattle.fancy_lex.proofs.LoneLemmas.{of_lone}
use Rattle.fancy_lex.proofs.ReadingLemmas.{choose_both}
use Rattle.fancy_grammar.specs.Normal.{unicode_flags, case_flags}
use Rattle.fancy_grammar.proofs.ReadBack.ClearLemmas.{Each, no_more, also, each_among, not_open, no_layout}
use Rattle.fancy_grammar.proofs.ReadBack.ScalarLemmas.{scalars_append}
use Rattle.fancy_grammar.proofs.ReadBack.ClassChunks.{Goes, ClassGoes, pass_close, pass_plain, pass_escape, pass_nested}
use Rattle.fancy_grammar.proofs.ReadBack.ClassChunks.{pass_class, Chunk, Fine, both_chunk}

-- ---- plain words, and classes in classes

abbrev pub all_plain : Text → Bool
all_plain [] = true
all_plain (c ∷ w) = is_plain_in_class c && all_plain w

word_goes : (w : Text) → all_plain w ≡ true → (s v : Text) → Goes s v → Goes (w ++ s) v
word_goes [] h s v g = g
word_goes (c ∷ w) h s v g =
    pass_plain c (w ++ s) v (first_so (is_plain_in_class c) _ h)
    (word_goes w (second_so (is_plain_in_class c) _ h) s v g)

pub word_chunk : (c : ℕ) (w : Text) → all_plain (c ∷ w) ≡ true → (c == code "^") ≡ false → (c == code "]") ≡ false →
    all_scalars (c ∷ w) ≡ true → Chunk (c ∷ w)
word_chunk c w h a b k =
    record { goes = word_goes (c ∷ w) h; no_caret = λ s. rw a refl; no_close = λ s. rw b refl; scalars = k }

pub open_plain : (t : Text) → strip (code "^") t ≡ None → strip (code "]") t ≡ None →
    ◌≡◌ {A = Text × Text} (class_start [] t) (code "[" ∷ [], t)
unfolding class_start
open_plain t a b = rw (a, b) refl

pub open_caret : (t : Text) → strip (code "]") t ≡ None →
    ◌≡◌ {A = Text × Text} (class_start [] (code "^" ∷ t)) (code "[" ∷ code "^" ∷ [], t)
unfolding class_start
open_caret t b = rw b refl

pub bracket_goes : (w : Text) → Chunk w → (s : Text) → ClassGoes ((w ++ code "]" ∷ []) ++ s) s
bracket_goes w c s =
    subst (λ z. ClassGoes z s) (sym (append_assoc w (code "]" ∷ []) s))
    (pass_class (w ++ code "]" ∷ s) (code "[" ∷ []) (w ++ code "]" ∷ s) s (open_plain _ (c.no_caret _) (c.no_close _))
    (c.goes (code "]" ∷ s) s (pass_close s)))

pub caret_goes : (w : Text) → Chunk w → (s : Text) → ClassGoes (code "^" ∷ ((w ++ code "]" ∷ []) ++ s)) s
caret_goes w c s =
    subst (λ z. ClassGoes (code "^" ∷ z) s) (sym (append_assoc w (code "]" ∷ []) s))
    (pass_class (code "^" ∷ (w ++ code "]" ∷ s)) (code "[" ∷ code "^" ∷ []) (w ++ code "]" ∷ s) s
    (open_caret _ (c.no_close _))
    (c.goes (code "]" ∷ s) s (pass_close s)))

pub bracket_chunk : (w : Text) → Chunk w → Chunk (code "[" ∷ (w ++ code "]" ∷ []))
bracket_chunk w c = record {
  goes = λ s v g. pass_nested ((w ++ code "]" ∷ []) ++ s) s v (bracket_goes w c s) g;
  no_caret = λ s. refl;
  no_close = λ s. refl;
  scalars = scalars_append w (code "]" ∷ []) c.scalars refl;
}

pub caret_chunk : (w : Text) → Chunk w → Chunk (code "[" ∷ code "^" ∷ (w ++ code "]" ∷ []))
caret_chunk w c = record {
  goes = λ s v g. pass_nested (code "^" ∷ ((w ++ code "]" ∷ []) ++ s)) s v (caret_goes w c s) g;
  no_caret = λ s. refl;
  no_close = λ s. refl;
  scalars = scalars_append w (code "]" ∷ []) c.scalars refl;
}

-- an escape that is read whatever follows it
escape_chunk : (w : Text) (e : Escape) → all_scalars w ≡ true →
    ((s : Text) → escape (unicode_flags false) true (w ++ s) ≡ gives e s) → Chunk (code "\\" ∷ w)
escape_chunk w e k h = record {
  goes = λ s v g. pass_escape (w ++ s) s v e (h s) g;
  no_caret = λ s. refl;
  no_close = λ s. refl;
  scalars = k;
}

-- ---- properties

-- a name in braces: scalar values, and no closing brace
abbrev pub IsName : Text → Type 0
IsName [] = Unit {0}
IsName (c ∷ w) = ((c == code "}") ≡ false) × (IsScalar c × IsName w)

abbrev is_braced_name : Text → Bool
is_braced_name w = list_all (λ c. not (c == code "}")) w && all_scalars w

-- a name that is written out
pub name_of : (w : Text) → is_braced_name w ≡ true → IsName w
name_of [] h = tt
name_of (c ∷ w) h =
    let (braces, scalars) = and_parts _ (all_scalars (c ∷ w)) h in
    let (a, more) = and_parts (not (c == code "}")) _ braces in
    let (b, rest) = and_parts _ (all_scalars w) scalars in
    (not-true (c == code "}") a, (b, name_of w (and_from _ _ more rest)))

pub name_scalars : (w : Text) → IsName w → all_scalars w ≡ true
name_scalars [] h = refl
name_scalars (c ∷ w) h = and_from _ _ h.1.0 (name_scalars w h.1.1)

-- the name of a property
abbrev pub NameOk : PropertyName → Type 0
NameOk (single c) = ((c == code "{") ≡ false) × IsScalar c
NameOk (braced s) = IsName s

abbrev CutOk : Option (Text × Text) → Type 0
CutOk (Some p) = IsName p.0
CutOk None = Unit {0}

cut_more : (c : ℕ) (o : Option (Text × Text)) → (c == code "}") ≡ false → IsScalar c → CutOk o →
    CutOk (option_map (λ p. (c ∷ p.0, p.1)) o)
cut_more c (Some p) e k h = (e, (k, h))
cut_more c None e k h = tt

cut_ok : (t : Text) → all_scalars t ≡ true → CutOk (cut_at (code "}") t)
cut_ok [] h = tt
cut_ok (c ∷ t) h =
    let (a, b) = and_parts _ (all_scalars t) h in
    cond_both (c == code "}") _ _ CutOk (λ e. tt) (λ e. cut_more c (cut_at (code "}") t) e a (cut_ok t b))

abbrev pub NameSome : Option (PropertyName × Text) → Type 0
NameSome (Some p) = NameOk p.0
NameSome None = Unit {0}

name_braced : (o : Option (Text × Text)) → CutOk o → NameSome (option_map (λ p. (braced p.0, p.1)) o)
name_braced (Some p) h = h
name_braced None h = tt

pub name_ok : (c : ℕ) (t : Text) → all_scalars (c ∷ t) ≡ true → NameSome (name_at (c ∷ t))
unfolding name_at
name_ok c t h =
    let (a, b) = and_parts _ (all_scalars t) h in
    cond_both (c == code "{") _ _ NameSome (λ e. name_braced (cut_at (code "}") t) (cut_ok t b)) (λ e. (e, a))

lower_brace : (c : ℕ) → (c == code "}") ≡ false → (to_ascii_lowercase c == code "}") ≡ false
lower_brace c h = grind (arith, nat_tests)

lower_scalar : (c : ℕ) → IsScalar c → IsScalar (to_ascii_lowercase c)
lower_scalar c h = grind (arith, nat_tests)

pub lowercase_ok : (w : Text) → IsName w → IsName (lowercase w)
lowercase_ok [] h = tt
lowercase_ok (c ∷ w) h = (lower_brace c h.0, (lower_scalar c h.1.0, lowercase_ok w h.1.1))

pub without_caret_ok : (b : Bool) (w : Text) → IsName w → IsName (without_caret b w).1
without_caret_ok b [] h = tt
without_caret_ok b (c ∷ w) h = by_test (c == code "^")
  where
    by_test : (x : Bool) → IsName (if◌then◌else◌ {A = Bool × Text} x (not b, w) (b, c ∷ w)).1
    by_test true = h.1.1
    by_test false = h

abbrev cut_found : Text → Text → Option (Text × Text)
cut_found w s = Some (w, s)

-- it contains no closing brace
abbrev pub HasNoBrace : Text → Type 0
HasNoBrace w = AllByRecursion (λ c. (c == code "}") ≡ false) w

pub no_brace : (w : Text) → IsName w → HasNoBrace w
no_brace [] h = tt
no_brace (c ∷ w) h = (h.0, no_brace w h.1.1)

pub cut_back : (w s : Text) → HasNoBrace w → cut_at (code "}") (w ++ code "}" ∷ s) ≡ cut_found w s
cut_back [] s h = refl
cut_back (c ∷ w) s h = cond-false _ _ _ h.0 ∙ ap (option_map (λ p. (c ∷ p.0, p.1))) (cut_back w s h.1)

abbrev pub prop : Bool → PropertyName → Property
prop b name = record { negated = b; name = name }

-- in a class or outside
module _ (f : Flags) (inside : Bool) where
  pub single_small : (c : ℕ) (s : Text) → (c == code "{") ≡ false →
      escape f inside (code "p" ∷ c ∷ s) ≡ gives
      (delegate (property_text f.unicode inside (prop false (single c))) f.casei) s
  unfolding escape_at property read_property name_at
  single_small c s h = rw h refl

  pub single_large : (c : ℕ) (s : Text) → (c == code "{") ≡ false →
      escape f inside (code "P" ∷ c ∷ s) ≡ gives
      (delegate (property_text f.unicode inside (prop true (single c))) f.casei) s
  unfolding escape_at property read_property name_at
  single_large c s h = rw h refl

  pub braced_small : (w s : Text) → HasNoBrace w →
      escape f inside (code "p" ∷ code "{" ∷ (w ++ code "}" ∷ s)) ≡ gives
      (delegate (property_text f.unicode inside (prop false (braced w))) f.casei) s
  unfolding escape_at property read_property name_at
  braced_small w s h = rw (cut_back w s h) refl

  pub braced_large : (w s : Text) → HasNoBrace w →
      escape f inside (code "P" ∷ code "{" ∷ (w ++ code "}" ∷ s)) ≡ gives
      (delegate (property_text f.unicode inside (prop true (braced w))) f.casei) s
  unfolding escape_at property read_property name_at
  braced_large w s h = rw (cut_back w s h) refl

single_chunk : (b : Bool) (c : ℕ) → (c == code "{") ≡ false → IsScalar c → Chunk (letter b ++ c ∷ [])
single_chunk false c h k = escape_chunk (code "p" ∷ c ∷ []) _ (and_from _ true k refl)
    (λ s. single_small (unicode_flags false) true c s h)
single_chunk true c h k = escape_chunk (code "P" ∷ c ∷ []) _ (and_from _ true k refl)
    (λ s. single_large (unicode_flags false) true c s h)

small_chunk : (w : Text) → IsName w → Chunk (code "\\" ∷ code "p" ∷ code "{" ∷ (w ++ code "}" ∷ []))
small_chunk w h =
    escape_chunk (code "p" ∷ code "{" ∷ (w ++ code "}" ∷ [])) _
    (scalars_append w (code "}" ∷ []) (name_scalars w h) refl)
    (λ s. ap (λ z. escape (unicode_flags false) true (code "p" ∷ code "{" ∷ z))
    (append_assoc w (code "}" ∷ []) s)
    ∙ braced_small (unicode_flags false) true w s (no_brace w h))

large_chunk : (w : Text) → IsName w → Chunk (code "\\" ∷ code "P" ∷ code "{" ∷ (w ++ code "}" ∷ []))
large_chunk w h =
    escape_chunk (code "P" ∷ code "{" ∷ (w ++ code "}" ∷ [])) _
    (scalars_append w (code "}" ∷ []) (name_scalars w h) refl)
    (λ s. ap (λ z. escape (unicode_flags false) true (code "P" ∷ code "{" ∷ z))
    (append_assoc w (code "}" ∷ []) s)
    ∙ braced_large (unicode_flags false) true w s (no_brace w h))

-- closed escapes
letter_chunks : Each (λ c. Chunk (code "\\" ∷ c ∷ [])) (codes "dDsSwWtnvfr")
unfolding escape_at lone_escape
letter_chunks =
    also (escape_chunk (code "d" ∷ []) _ refl (λ s. refl))
    (also (escape_chunk (code "D" ∷ []) _ refl (λ s. refl))
    (also (escape_chunk (code "s" ∷ []) _ refl (λ s. refl))
    (also (escape_chunk (code "S" ∷ []) _ refl (λ s. refl))
    (also (escape_chunk (code "w" ∷ []) _ refl (λ s. refl))
    (also (escape_chunk (code "W" ∷ []) _ refl (λ s. refl))
    (also (escape_chunk (code "t" ∷ []) _ refl (λ s. refl))
    (also (escape_chunk (code "n" ∷ []) _ refl (λ s. refl))
    (also (escape_chunk (code "v" ∷ []) _ refl (λ s. refl))
    (also (escape_chunk (code "f" ∷ []) _ refl (λ s. refl))
    (also (escape_chunk (code "r" ∷ []) _ refl (λ s. refl)) no_more))))))))))

pub letter_chunk : (c : ℕ) → c ∈ "dDsSwWtnvfr" ≡ true → Chunk (code "\\" ∷ c ∷ [])
letter_chunk c h = each_among (λ c. Chunk (code "\\" ∷ c ∷ [])) (codes "dDsSwWtnvfr") c letter_chunks h

-- a byte
pub hex_value : (d : ℕ) → d < 16 → digit_value (upper_hex_digit d) ≡ d
hex_value d h = grind (arith, nat_tests)

hex_scalar : (d : ℕ) → d < 16 → IsScalar (upper_hex_digit d)
hex_scalar d h = grind (arith, nat_tests)

pub hex_paren : (d : ℕ) → d < 16 → (upper_hex_digit d == code "(") ≡ false
hex_paren d h = grind (arith, nat_tests)

small_scalar : (v : ℕ) → v < 256 → is_scalar v ≡ true
small_scalar v h = grind (arith, nat_tests)

coded_some : (h v : ℕ) (s : Text) → v < 256 → (e : Escape) × (leaf_of_value (unicode_flags false) 2 h v s ≡ gives e s)
unfolding leaf_of_value
coded_some h v s l =
    by_tests (2 == 2 && not false && nat_le 0x80 v && nat_le v 0xFF) (is_scalar v) (small_scalar v l) where
      by_tests : (b c : Bool) → c ≡ true →
          (e : Escape) × ((if b then gives (literal_bytes v) s else if c then gives
          (literal v false) s else error_at h invalid_codepoint_value) ≡ gives e s)
      by_tests true c k = (_, refl)
      by_tests false true k = (_, refl)
      by_tests false false k = absurd cc

pub digits_read : (a b : ℕ) (s : Text) → a < 16 → b < 16 →
    fixed_digits 2 0 (upper_hex_digit a ∷ upper_hex_digit b ∷ s) ≡ Some ((0 * 16 + a) * 16 + b, s)
unfolding fixed_digits hexes.hex_digit
digits_read a b s h k = rw (hex_value a h, lt-ltb a 16 h, hex_value b k, lt-ltb b 16 k) refl

hex_some : (a b : ℕ) (s : Text) → a < 16 → b < 16 →
    (e : Escape) × (hex (unicode_flags false) 2 (upper_hex_digit a ∷ upper_hex_digit b ∷ s) ≡ gives e s)
unfolding hex value
hex_some a b s h k =
    let t = upper_hex_digit a ∷ upper_hex_digit b ∷ s in
    let (e, q) = coded_some (reach_of t) ((0 * 16 + a) * 16 + b) s (omega arith) in
    (e, rw (no_layout t (not_open _ _ (hex_paren a h)), digits_read a b s h k) q)

hex_escape : (t : Text) → escape (unicode_flags false) true (code "x" ∷ t) ≡ hex (unicode_flags false) 2 t
unfolding escape_at
hex_escape t = refl

pub byte_chunk : (v : ℕ) → nat_le v 0xFF ≡ true → Chunk (byte_text v)
byte_chunk v h =
    let small : v < 256 = grind (arith, nat_tests) in
    let a : v / 16 < 16 = omega arith in
    let b : v % 16 < 16 = omega arith in
    record {
      goes =
          λ s r g. let (e, q) = hex_some (v / 16) (v % 16) s a b in
          pass_escape (code "x" ∷ upper_hex_digit (v / 16) ∷ upper_hex_digit (v % 16) ∷ s) s r e
          (hex_escape _ ∙ q) g;
      no_caret = λ s. refl;
      no_close = λ s. refl;
      scalars = and_from _ _ (hex_scalar (v / 16) a) (and_from _ true (hex_scalar (v % 16) b) refl);
    }

-- ---- the table of property names

-- the parts of a form: items of a set, or two texts of which P holds
abbrev pub FormOf : (Text → Type 0) → Form → Type 0
FormOf P (set items) = Chunk items
FormOf P (pair a b) = P a × P b

pub word_class : (c : ℕ) (w : Text) → all_plain (c ∷ w) ≡ true → (c == code "^") ≡ false → (c == code "]") ≡ false →
    all_scalars (c ∷ w) ≡ true → Chunk (code "[" ∷ ((c ∷ w) ++ code "]" ∷ []))
word_class c w h a b k = bracket_chunk (c ∷ w) (word_chunk c w h a b k)

pub alpha_digit : Chunk (codes "\\p{alpha}\\p{digit}")
alpha_digit =
    both_chunk (codes "\\p{alpha}") (codes "\\p{digit}") (small_chunk (codes "alpha") (name_of (codes "alpha") refl))
    (small_chunk (codes "digit") (name_of (codes "digit") refl))

pub blank_chunk : Chunk (codes "\\p{Zs}\\x09")
blank_chunk =
    both_chunk (codes "\\p{Zs}") (codes "\\x09") (small_chunk (codes "Zs") (name_of (codes "Zs") refl))
    (byte_chunk 9 refl)

pub controls : Chunk (codes "\\x00-\\x1F\\x7F-\\x9F")
controls =
    let minus = word_chunk (code "-") [] refl refl refl refl in
    both_chunk (codes "\\x00") (codes "-\\x1F\\x7F-\\x9F") (byte_chunk 0 refl)
    (both_chunk (codes "-") (codes "\\x1F\\x7F-\\x9F") minus
    (both_chunk (codes "\\x1F") (codes "\\x7F-\\x9F") (byte_chunk 0x1F refl)
    (both_chunk (codes "\\x7F") (codes "-\\x9F") (byte_chunk 0x7F refl)
    (both_chunk (codes "-") (codes "\\x9F") minus (byte_chunk 0x9F refl)))))

pub space_other : Chunk (codes "\\p{White_Space}\\p{C}")
space_other =
    both_chunk (codes "\\p{White_Space}") (codes "\\p{C}")
    (small_chunk (codes "White_Space") (name_of (codes "White_Space") refl))
    (small_chunk (codes "C") (name_of (codes "C") refl))

pub unprinted : Chunk (codes "\\p{C}\\t\\n\\v\\f\\r")
unprinted =
    both_chunk (codes "\\p{C}") (codes "\\t\\n\\v\\f\\r") (small_chunk (codes "C") (name_of (codes "C") refl))
    (both_chunk (codes "\\t") (codes "\\n\\v\\f\\r") (letter_chunk (code "t") refl)
    (both_chunk (codes "\\n") (codes "\\v\\f\\r") (letter_chunk (code "n") refl)
    (both_chunk (codes "\\v") (codes "\\f\\r") (letter_chunk (code "v") refl)
    (both_chunk (codes "\\f") (codes "\\r") (letter_chunk (code "f") refl) (letter_chunk (code "r") refl)))))

blank_set : Chunk (codes "\\t ")
blank_set =
    both_chunk (codes "\\t") (codes " ") (letter_chunk (code "t") refl) (word_chunk (code " ") [] refl refl refl refl)

word_set : Chunk (codes "_[:alnum:]")
word_set =
    both_chunk (codes "_") (codes "[:alnum:]") (word_chunk (code "_") [] refl refl refl refl)
    (word_class (code ":") (codes "alnum:") refl refl refl refl)

-- P holds for the pairs of texts in the table
pub record Pairs (P : Text → Type 0) : Type 0 where
  pub word : P (codes "\\w") × P (codes "\\W")
  pub graph : P (codes "[^\\p{White_Space}\\p{C}]") × P (codes "[\\p{White_Space}\\p{C}]")
  pub print : P (codes "[^\\p{C}\\t\\n\\v\\f\\r]") × P (codes "[\\p{C}\\t\\n\\v\\f\\r]")
  pub small : (w : Text) → IsName w → P (code "\\" ∷ code "p" ∷ code "{" ∷ (w ++ code "}" ∷ []))
  pub large : (w : Text) → IsName w → P (code "\\" ∷ code "P" ∷ code "{" ∷ (w ++ code "}" ∷ []))

-- the tests of the table, one by one, for any name
module _ (P : Text → Type 0) (ps : Pairs P) (name : Text) (h : IsName name) where
  surrogates : P (codes "\\P{any}") × P (codes "\\p{any}")
  surrogates =
      (ps.large (codes "any") (name_of (codes "any") refl), ps.small (codes "any") (name_of (codes "any") refl))

  pub form_of : (u : Bool) → FormOf P (form u (look_up name) name)
  form_of true =
      cond_both (bytes_eq name (codes "alnum")) _ _ (λ k. FormOf P (form true k name)) (λ _. alpha_digit)
      (λ _. cond_both (bytes_eq name (codes "blank")) _ _ (λ k. FormOf P (form true k name)) (λ _. blank_chunk)
      (λ _. cond_both (bytes_eq name (codes "cntrl")) _ _ (λ k. FormOf P (form true k name)) (λ _. controls)
      (λ _. cond_both (bytes_eq name (codes "word")) _ _ (λ k. FormOf P (form true k name)) (λ _. ps.word)
      (λ _. cond_both (bytes_eq name (codes "graph")) _ _ (λ k. FormOf P (form true k name)) (λ _. ps.graph)
      (λ _. cond_both (bytes_eq name (codes "print")) _ _ (λ k. FormOf P (form true k name)) (λ _. ps.print)
      (λ _. cond_both (bytes_eq name (codes "cs")) _ _ (λ k. FormOf P (form true k name)) (λ _. surrogates)
      (λ _. (ps.small name h, ps.large name h))))))))
  form_of false =
      cond_both (bytes_eq name (codes "alnum")) _ _ (λ k. FormOf P (form false k name))
      (λ _. word_class (code ":") (codes "alnum:") refl refl refl refl)
      (λ _. cond_both (bytes_eq name (codes "blank")) _ _ (λ k. FormOf P (form false k name)) (λ _. blank_set)
      (λ _. cond_both (bytes_eq name (codes "cntrl")) _ _ (λ k. FormOf P (form false k name))
      (λ _. word_class (code ":") (codes "cntrl:") refl refl refl refl)
      (λ _. cond_both (bytes_eq name (codes "word")) _ _ (λ k. FormOf P (form false k name)) (λ _. word_set)
      (λ _. cond_both (bytes_eq name (codes "graph")) _ _ (λ k. FormOf P (form false k name))
      (λ _. word_class (code ":") (codes "graph:") refl refl refl refl)
      (λ _. cond_both (bytes_eq name (codes "print")) _ _ (λ k. FormOf P (form false k name))
      (λ _. word_class (code ":") (codes "print:") refl refl refl refl)
      (λ _. cond_both (bytes_eq name (codes "cs")) _ _ (λ k. FormOf P (form false k name)) (λ _. surrogates)
      (λ _. (ps.small name h, ps.large name h))))))))

chunk_pairs : Pairs Chunk
chunk_pairs = record {
  word = (letter_chunk (code "w") refl, letter_chunk (code "W") refl);
  graph = (
    caret_chunk (codes "\\p{White_Space}\\p{C}") space_other,
    bracket_chunk (codes "\\p{White_Space}\\p{C}") space_other,
  );
  print = (
    caret_chunk (codes "\\p{C}\\t\\n\\v\\f\\r") unprinted,
    bracket_chunk (codes "\\p{C}\\t\\n\\v\\f\\r") unprinted,
  );
  small = small_chunk;
  large = large_chunk;
}

form_chunk : (b : Bool) (f : Form) → FormOf Chunk f → Chunk (form_text true b f)
form_chunk true (set items) h = caret_chunk items h
form_chunk false (set items) h = h
form_chunk true (pair x y) h = h.1
form_chunk false (pair x y) h = h.0

pub property_chunk : (u b : Bool) (name : PropertyName) → NameOk name → Chunk (property_text u true (prop b name))
unfolding property_text
property_chunk u b (single c) h = single_chunk b c h.0 h.1
property_chunk u b (braced s) h =
    let p = without_caret b s in
    let ok = lowercase_ok p.1 (without_caret_ok b s h) in
    form_chunk p.0 (form u (look_up (lowercase p.1)) (lowercase p.1)) (form_of Chunk chunk_pairs (lowercase p.1) ok u)

-- ---- what an escape in a class is read as

abbrev pub FineOf : Reading Escape → Type 0
FineOf (gives e t) = Fine e
FineOf (fails x) = Unit {0}

fine_if : (b : Bool) (p q : Reading Escape) → (b ≡ true → FineOf p) → FineOf q → FineOf (if b then p else q)
fine_if true p q h k = h refl
fine_if false p q h k = k

fine_then : {A : Type 0} (o : Reading A) (k : A → Text → Reading Escape) → ((a : A) (t : Text) → FineOf (k a t)) →
    FineOf (o >=> k)
fine_then (gives a t) k h = h a t
fine_then (fails e) k h = tt

number_escape_fine : (p : ℕ) (f : Flags) (t : Text) → FineOf (number_escape f true p t)
unfolding number_escape
number_escape_fine p f t = by_number (group_number t)
  where
    by_number : (o : Reading ℕ) → FineOf (o >=> (λ k u. error_at p invalid_class))
    by_number (gives k u) = tt
    by_number (fails e) = tt

scalar_is : (v : ℕ) → is_scalar v ≡ true → IsScalar v
scalar_is v h = grind (arith, nat_tests)

coded_fine : (u i : Bool) (w h v : ℕ) (t : Text) → FineOf (leaf_of_value (case_flags u i) w h v t)
unfolding leaf_of_value
coded_fine u i w h v t =
    fine_if (w == 2 && not u && nat_le 0x80 v && nat_le v 0xFF) (gives (literal_bytes v) t)
    (if is_scalar v then gives (literal v i) t else error_at h invalid_codepoint_value)
    (λ e. second_so (w == 2 && not u && nat_le 0x80 v) _ e)
    (fine_if (is_scalar v) (gives (literal v i) t) (error_at h invalid_codepoint_value) (scalar_is v) tt)

hex_fine : (u i : Bool) (w : ℕ) (t : Text) → FineOf (hex (case_flags u i) w t)
unfolding hex
hex_fine u i w t =
    fine_then (layout_reading (layout false t)) _
    (λ _ v. fine_then (value false (reach_of v) w v) _ (λ a r. coded_fine u i w (reach_of v) a r))

read_fine : (u i : Bool) (p : ℕ) (b : Bool) (o : Option (PropertyName × Text)) → NameSome o
    → FineOf (choose (option_map {T = PropertyName × Text} {U = Property × Text} (λ q. (prop b q.0, q.1)) o)
    (λ q. gives (delegate (property_text u true q.0) i) q.1) (error_at p unclosed_unicode_name))
read_fine u i p b None h = tt
read_fine u i p b (Some q) h = property_chunk u b q.0 h

property_fine : (u i : Bool) (p c : ℕ) (t : Text) → all_scalars t ≡ true →
    FineOf (property (case_flags u i) true p c t)
unfolding property read_property
property_fine u i p c [] h = tt
property_fine u i p c (d ∷ t) h = read_fine u i p (c ∈ "P") (name_at (d ∷ t)) (name_ok d t h)

set_letter : (c : ℕ) → c ∈ "dDsSwW" ≡ true → c ∈ "dDsSwWtnvfr" ≡ true
set_letter c h = grind (arith, nat_tests)

pub hex_word : Chunk (codes "0-9A-Fa-f")
hex_word = word_chunk (code "0") (codes "-9A-Fa-f") refl refl refl refl

lone_fine : (u i : Bool) (c : ℕ) → IsScalar c → (e : Escape) → lone_escape (case_flags u i) true c ≡ Some e → Fine e
lone_fine u i c here =
    let set : c ∈ "dDsSwW" ≡ true → Chunk (code "\\" ∷ c ∷ []) = λ e. letter_chunk c (set_letter c e) in
    let digit : Chunk (codes "[0-9A-Fa-f]") = bracket_chunk (codes "0-9A-Fa-f") hex_word in
    let no_digit : Chunk (codes "[^0-9A-Fa-f]") = caret_chunk (codes "0-9A-Fa-f") hex_word in
    of_lone Fine (case_flags u i) true c (λ _. here) (search rules) (search rules)

pub escape_fine : (u i : Bool) (t : Text) → all_scalars t ≡ true → FineOf (escape (case_flags u i) true t)
unfolding escape_at
escape_fine u i [] k = tt
escape_fine u i (c ∷ t) k =
    let p = reach_of (c ∷ t) + 1 in
    let (here, more) = and_parts _ (all_scalars t) k in
    fine_if (is_ascii_digit c) _ _ (λ _. number_escape_fine p (case_flags u i) (c ∷ t))
    (fine_if (c ∈ "x") (hex (case_flags u i) 2 t) _ (λ _. hex_fine u i 2 t)
    (fine_if (c ∈ "u") (hex (case_flags u i) 4 t) _ (λ _. hex_fine u i 4 t)
    (fine_if (c ∈ "U") (hex (case_flags u i) 8 t) _ (λ _. hex_fine u i 8 t)
    (fine_if (c ∈ "pP") (property (case_flags u i) true p c t) _ (λ _. property_fine u i p c t more)
    (choose_both FineOf (lone_escape (case_flags u i) true c) _ _ (lone_fine u i c here) tt)))))
