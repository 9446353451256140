-- What a class writes for an escape is read as what the class wrote.
use Rattle.std.proofs.Common.{◌≡◌, ℕ, ◌+◌, ◌<◌, ◌≤◌, ◌/◌, ◌%◌, Bool, true, false, not, ◌&&◌, ◌==◌, nat_le}
use Rattle.std.proofs.Common.{[], ◌∷◌, ◌++◌, codes, Option, Some, None, option_map, refl, ap, ◌∙◌, sym, subst, arith}
use Rattle.std.proofs.lemmas.Bool.{cond_both}
use Rattle.std.proofs.lemmas.Bool.Decides.{nat_tests}
use Rattle.std.specs.Char.{is_ascii_digit}
use Prim.Native.Char.{code}
use Rattle.fancy_lex.specs.Characters.{◌∈◌}
use Rattle.fancy_lex.specs.Class.{joint, escape_in_class, is_negated, needs_backslash_in_class, upper_hex_digit}
use Rattle.fancy_lex.specs.Class.{byte_text}
use Rattle.fancy_lex.specs.Escape.{escape, escape_at, number_escape, property, lone_escape, lone_anywhere}
use Rattle.fancy_lex.specs.EscapeReference.{group_number}
use Rattle.fancy_lex.specs.Escaped as leaves
use Rattle.fancy_lex.specs.Escaped.{Escape, hex_class, negated_hex_class}
use Rattle.fancy_lex.specs.ErrorTable.{property_not_closed}
use Rattle.fancy_lex.specs.Hex.{hex, value, leaf_of_value, is_scalar}
use Rattle.fancy_lex.specs.LayoutSteps.{layout}
use Rattle.fancy_lex.specs.Property.{Property, PropertyName, braced, read_property, name_at, property_text}
use Rattle.fancy_lex.specs.Reading.{Reading, gives, fails, choose, layout_reading, ◌>=>◌}
use Rattle.fancy_lex.specs.Text.{Text, strip, cut_at, reach_of}
use Rattle.fancy_lex.specs.declared.flags.Flags.{Flags}
use Rattle.fancy_lex.proofs.LoneLemmas.{AtRows, of_lone}
use Rattle.fancy_lex.proofs.ReadingLemmas.{choose_both}
use Rattle.fancy_grammar.specs.PatternLetters.{is_unseen}
use Rattle.fancy_grammar.specs.PatternSource.{part, part_at, source_from}
use Rattle.fancy_grammar.proofs.ReadBack.ChunkLemmas.{HasNoBrace, prop}
use Rattle.fancy_grammar.proofs.ReadBack.ClearLemmas.{apart}
use Rattle.fancy_pattern.proofs.PatternLaws.Characters.{reads_byte}
use Rattle.fancy_pattern.proofs.PatternLaws.Source.Steps.{NoProperty, part_on, char_source, CharSource, itself}
use Rattle.fancy_pattern.proofs.PatternLaws.Source.Steps.{by_escape, char_source_is}
use Rattle.fancy_pattern.proofs.PatternLaws.Source.Parts.{Reads, char_read, shown_source, word_read, single_read, SetItems}
use Rattle.fancy_pattern.proofs.PatternLaws.Source.Parts.{bracket_read, negated_read}
use Rattle.fancy_pattern.proofs.PatternLaws.Source.Items.{Front, InClass, InText, IsBelow, in_by, unjoined, front_escape}
use Rattle.fancy_pattern.proofs.PatternLaws.Source.Items.{front_char, front_bracket, front_set, opens_by, kept_in}
use Rattle.fancy_pattern.proofs.PatternLaws.Source.Rows.{IsFree, property_in}

-- ---- characters

pub char_no_caret : (c : ℕ) → (c == code "^") ≡ false → (v : Text) → strip (code "^") (char_source c ++ v) ≡ None
char_no_caret c h v = from (char_source c) (char_source_is c)
  where
    from : (s : Text) → CharSource c s → strip (code "^") (s ++ v) ≡ None
    from _ itself = rw h refl
    from _ (by_escape {after} hidden reads) = refl

pub char_no_close : (c : ℕ) → (c == code "]") ≡ false → (v : Text) → strip (code "]") (char_source c ++ v) ≡ None
char_no_close c h v = from (char_source c) (char_source_is c)
  where
    from : (s : Text) → CharSource c s → strip (code "]") (s ++ v) ≡ None
    from _ itself = rw h refl
    from _ (by_escape {after} hidden reads) = refl

-- an item before which no `&&` is written
without_joint : (u b σ : Bool) (x : Text) → InClass u b σ false x → InClass u b σ false (joint (b && false) ++ x)
without_joint u true σ x i = i
without_joint u false σ x i = i

escaped_kept : (c : ℕ) → needs_backslash_in_class c ≡ true → c ∈ "dDsSwW\\.+*?()|[]{}^$#&-~" ≡ true
escaped_kept c h = grind (arith, nat_tests)

escaped_other : (c : ℕ) → needs_backslash_in_class c ≡ true → (c == code "p") ≡ false
escaped_other c h = grind (arith, nat_tests)

unescaped_plain : (c : ℕ) → needs_backslash_in_class c ≡ false → c ∈ "\\[]" ≡ false
unescaped_plain c h = grind (arith, nat_tests)

pub literal_in : (u b σ : Bool) (c : ℕ) (casei : Bool) → IsBelow σ b →
    InClass u b σ false (escape_in_class b (leaves.literal c casei))
literal_in u b σ c casei below =
    without_joint u b σ _
    (cond_both (needs_backslash_in_class c) _ _ (InClass u b σ false)
    (λ h. kept_in u b σ false c below (escaped_kept c h) (escaped_other c h))
    (λ h. let is_not = apart needs_backslash_in_class c h in
    in_by u b σ false (c ∷ []) (char_source c) below
    (char_read u σ c (unescaped_plain c h) (is_not (code "&") refl))
    (front_char b c [] (is_not (code "\\") refl) (is_not (code "[") refl) (is_not (code "&") refl)
    (is_not (code "^") refl))
    (record {
      no_caret = char_no_caret c (is_not (code "^") refl);
      no_close = char_no_close c (is_not (code "]") refl);
    })))

-- ---- bytes

digit_plain : (d : ℕ) → d < 16 → upper_hex_digit d ∈ "\\[]" ≡ false
digit_plain d h = grind (arith, nat_tests)

digit_joint : (d : ℕ) → d < 16 → (upper_hex_digit d == code "&") ≡ false
digit_joint d h = grind (arith, nat_tests)

digit_seen : (d : ℕ) → d < 16 → is_unseen (upper_hex_digit d) ≡ false
digit_seen d h = grind (arith, nat_tests)

digit_on : (u σ : Bool) (d : ℕ) (t : Text) → d < 16 →
    source_from u σ (upper_hex_digit d ∷ t) ≡ upper_hex_digit d ∷ source_from u σ t
digit_on u σ d t h =
    (char_read u σ (upper_hex_digit d) (digit_plain d h) (digit_joint d h)).is t
    ∙ ap (λ s. s ++ source_from u σ t) (shown_source (upper_hex_digit d) (digit_seen d h))

byte_read : (σ : Bool) (v : ℕ) → 0x80 ≤ v → v ≤ 0xFF → Reads false σ σ (byte_text v) (byte_text v)
byte_read σ v l h =
    single_read false σ (byte_text v) (code "x" ∷ upper_hex_digit (v / 16) ∷ upper_hex_digit (v % 16) ∷ [])
    (λ z. part_on false σ (code "\\") (code "x" ∷ upper_hex_digit (v / 16) ∷ upper_hex_digit (v % 16) ∷ z) (codes "\\x")
    (upper_hex_digit (v / 16) ∷ upper_hex_digit (v % 16) ∷ z) (at σ _)
    ∙ ap (λ s. codes "\\x" ++ s)
    (digit_on false σ (v / 16) (upper_hex_digit (v % 16) ∷ z) (omega arith)
    ∙ ap (λ s. upper_hex_digit (v / 16) ∷ s) (digit_on false σ (v % 16) z (omega arith))))
    (λ g like s. (leaves.literal_bytes v, reads_byte true g v s like l h, refl, refl))
  where
    at : (σ : Bool) (t : Text) → part_at false σ (code "\\") (code "x" ∷ t) ≡ part (codes "\\x") t
    at true t = refl
    at false t = refl

byte_in : (u b σ : Bool) (v : ℕ) → u ≡ false → 0x80 ≤ v → v ≤ 0xFF → IsBelow σ b →
    InClass u b σ false (escape_in_class b (leaves.literal_bytes v))
byte_in u b σ v none l h below =
    subst (λ u. InClass u b σ false (escape_in_class b (leaves.literal_bytes v))) (sym none)
    (without_joint false b σ (byte_text v)
    (in_by false b σ false (byte_text v) (byte_text v) below (byte_read σ v l h) (front_escape b (code "x") _ refl)
    (opens_by (code "\\") _ refl refl)))

-- ---- the hex classes

pub hex_items : (u σ : Bool) → SetItems u σ (codes "0-9A-Fa-f") (codes "0-9A-Fa-f")
hex_items u σ = record {
  read = word_read u σ (codes "0-9A-Fa-f") refl;
  no_property = λ z. record { space = refl; control = refl };
  no_caret_text = λ z. refl;
  no_caret = λ v. refl;
  no_close = λ v. refl;
}

front_negated : (b : Bool) (r : Text) → ((z : Text) → NoProperty (r ++ z)) → Front b (codes "[^" ++ r)
front_negated true r h = front_set true false r h
front_negated false r h = front_set false false r h

hex_in : (u b σ : Bool) → IsBelow σ b → InText u b σ hex_class
hex_in u b σ below =
    unjoined u b σ hex_class refl
    (in_by u b σ _ hex_class hex_class below (bracket_read u σ (codes "0-9A-Fa-f") (codes "0-9A-Fa-f") (hex_items u σ))
    (front_bracket b (code "0") _ refl) (opens_by (code "[") _ refl refl))

negated_hex_in : (u b σ : Bool) → IsBelow σ b → InText u b σ negated_hex_class
negated_hex_in u b σ below =
    unjoined u b σ negated_hex_class refl
    (in_by u b σ _ negated_hex_class negated_hex_class below
    (negated_read u σ (codes "0-9A-Fa-f") (codes "0-9A-Fa-f") (hex_items u σ))
    (front_negated b (codes "0-9A-Fa-f]") (λ z. record { space = refl; control = refl }))
    (opens_by (code "[") _ refl refl))

-- ---- the name of a property

abbrev IsCutFree : Option (Text × Text) → Type 0
IsCutFree (Some p) = HasNoBrace p.0
IsCutFree None = Unit {0}

cut_more : (c : ℕ) (o : Option (Text × Text)) → (c == code "}") ≡ false → IsCutFree o →
    IsCutFree (option_map (λ p. (c ∷ p.0, p.1)) o)
cut_more c (Some p) e h = (e, h)
cut_more c None e h = tt

cut_free : (t : Text) → IsCutFree (cut_at (code "}") t)
cut_free [] = tt
cut_free (c ∷ t) =
    cond_both (c == code "}") _ _ IsCutFree (λ e. tt) (λ e. cut_more c (cut_at (code "}") t) e (cut_free t))

abbrev pub IsNameFree : Option (PropertyName × Text) → Type 0
IsNameFree (Some p) = IsFree p.0
IsNameFree None = Unit {0}

braced_free : (o : Option (Text × Text)) → IsCutFree o → IsNameFree (option_map (λ p. (braced p.0, p.1)) o)
braced_free (Some p) h = h
braced_free None h = tt

pub name_free : (t : Text) → IsNameFree (name_at t)
unfolding name_at
name_free [] = tt
name_free (c ∷ t) =
    cond_both (c == code "{") _ _ IsNameFree (λ e. braced_free (cut_at (code "}") t) (cut_free t)) (λ e. e)

-- ---- escapes in a class

pub letter_kept : (c : ℕ) → c ∈ "dDsSwW" ≡ true → c ∈ "dDsSwW\\.+*?()|[]{}^$#&-~" ≡ true
letter_kept c h = grind (arith, nat_tests)

letter_other : (c : ℕ) → c ∈ "dDsSwW" ≡ true → (c == code "p") ≡ false
letter_other c h = grind (arith, nat_tests)

module _ (f : Flags) (b σ : Bool) (below : IsBelow σ b) where
  abbrev Item : Escape → Type 0
  Item e = InClass f.unicode b σ (is_negated e) (escape_in_class b e)

  abbrev ItemOf : Reading Escape → Type 0
  ItemOf (gives e t) = Item e
  ItemOf (fails x) = Unit {0}

  item_then : {A : Type 0} (o : Reading A) (k : A → Text → Reading Escape) → ((a : A) (t : Text) → ItemOf (k a t)) →
      ItemOf (o >=> k)
  item_then (gives a t) k h = h a t
  item_then (fails e) k h = tt

  number_item : (p : ℕ) (t : Text) → ItemOf (number_escape f true p t)
  unfolding number_escape
  number_item p t = item_then (group_number t) _ (λ k u. tt)

  byte_bounds : (width v : ℕ) → (width == 2 && not f.unicode && nat_le 0x80 v && nat_le v 0xFF) ≡ true →
      (f.unicode ≡ false) × (0x80 ≤ v) × (v ≤ 0xFF)
  byte_bounds width v e = high (width == 2) f.unicode refl e
    where
      high : (a u : Bool) → f.unicode ≡ u → (a && not u && nat_le 0x80 v && nat_le v 0xFF) ≡ true →
          (f.unicode ≡ false) × (0x80 ≤ v) × (v ≤ 0xFF)
      high true false same e = (same, grind (arith, nat_tests, e), grind (arith, nat_tests, e))
      high true true same e = absurd cc
      high false u same e = absurd cc

  coded_item : (width h v : ℕ) (t : Text) → ItemOf (leaf_of_value f width h v t)
  unfolding leaf_of_value
  coded_item width h v t =
      cond_both (width == 2 && not f.unicode && nat_le 0x80 v && nat_le v 0xFF) _ _ ItemOf
      (λ e. let (none, l, k) = byte_bounds width v e in byte_in f.unicode b σ v none l k below)
      (λ _. cond_both (is_scalar v) _ _ ItemOf (λ _. literal_in f.unicode b σ v f.casei below) (λ _. tt))

  hex_item : (width : ℕ) (t : Text) → ItemOf (hex f width t)
  unfolding hex
  hex_item width t =
      item_then (layout_reading (layout f.ignore_space t)) _
      (λ _ v. item_then (value f.ignore_space (reach_of v) width v) _ (λ a r. coded_item width (reach_of v) a r))

  property_item : (p c : ℕ) (t : Text) → ItemOf (property f true p c t)
  unfolding property read_property
  property_item p c [] = tt
  property_item p c (d ∷ t) = from (name_at (d ∷ t)) (name_free (d ∷ t))
    where
      from : (o : Option (PropertyName × Text)) → IsNameFree o →
          ItemOf (choose (option_map {T = PropertyName × Text} {U = Property × Text} (λ q. (prop (c ∈ "P") q.0, q.1)) o)
          (λ q. gives (leaves.delegate (property_text f.unicode true q.0) f.casei) q.1)
          (fails (property_not_closed p)))
      from None h = tt
      from (Some q) h = property_in f.unicode b σ (c ∈ "P") q.0 below h

  letter_item : (c : ℕ) → c ∈ "dDsSwW" ≡ true → Item (leaves.delegate (code "\\" ∷ c ∷ []) f.casei)
  letter_item c h =
      unjoined f.unicode b σ (code "\\" ∷ c ∷ []) refl
      (kept_in f.unicode b σ _ c below (letter_kept c h) (letter_other c h))

  literal_item : (c : ℕ) → Item (leaves.literal c false)
  literal_item c = literal_in f.unicode b σ c false below

  lone_item : (c : ℕ) → (e : Escape) → lone_escape f true c ≡ Some e → Item e
  lone_item c =
      of_lone Item f true c (λ _. literal_item c) anywhere (λ _. literal_item (code "\u{8}"), (λ _. literal_item c, tt))
    where
      anywhere : AtRows Item c (lone_anywhere f c)
      anywhere = (
        letter_item c,
        (
          λ _. hex_in f.unicode b σ below,
          (
            λ _. negated_hex_in f.unicode b σ below,
            (
              λ _. literal_item (code "\u{7}"),
              (
                λ _. literal_item (code "\u{c}"),
                (
                  λ _. literal_item (code "\n"),
                  (
                    λ _. literal_item (code "\r"),
                    (
                      λ _. literal_item (code "\t"),
                      (λ _. literal_item (code "\u{b}"), (λ _. literal_item (code "\u{1b}"), tt)),
                    ),
                  ),
                ),
              ),
            ),
          ),
        ),
      )

  escape_item_of : (t : Text) → ItemOf (escape f true t)
  unfolding escape_at
  escape_item_of [] = tt
  escape_item_of (c ∷ t) =
      let p = reach_of (c ∷ t) + 1 in
      cond_both (is_ascii_digit c) _ _ ItemOf (λ _. number_item p (c ∷ t)) (λ _.
      cond_both (c ∈ "x") _ _ ItemOf (λ _. hex_item 2 t) (λ _.
      cond_both (c ∈ "u") _ _ ItemOf (λ _. hex_item 4 t) (λ _.
      cond_both (c ∈ "U") _ _ ItemOf (λ _. hex_item 8 t) (λ _.
      cond_both (c ∈ "pP") _ _ ItemOf (λ _. property_item p c t) (λ _.
      choose_both ItemOf (lone_escape f true c) _ _ (λ e q. lone_item c e q) tt)))))

  -- what a class writes for an escape
  pub escape_in : (t u : Text) (e : Escape) → escape f true t ≡ gives e u →
      InClass f.unicode b σ (is_negated e) (escape_in_class b e)
  escape_in t u e q = subst ItemOf q (escape_item_of t)
