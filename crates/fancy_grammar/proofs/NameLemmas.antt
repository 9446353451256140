-- The numbers of names, in a map and in a list of entries.
use Rattle.std.proofs.Common.{◌≡◌, ℕ, List, [], ◌∷◌, ◌++◌, Bool, true, false, Some, None, refl, sym, ap, ◌∙◌, map}
use Rattle.std.proofs.Common.{chars, String, Global, Vec, string_bytes, bytes_eq, option_map, unwrap_or}
use Rattle.std.specs.BTreeMap.{insert_entry}
use Rattle.std.specs.Cmp.Lexicographic.{slice_cmp, nat_list_cmp_total}
use Rattle.std.specs.List.Sorted.{IsStrictlySortedBy}
use Rattle.std.specs.Map.{keys_of, lookup, set_value}
use Rattle.std.specs.Ordering.{is_eq, nat_cmp}
use Rattle.std.specs.Prelude.{encode_utf8_all}
use Rattle.std.specs.Str.{IsUtf8}
use Rattle.std.specs.String.{string_cmp}
use Rattle.std.specs.declared.cmp.Ordering.{Ordering}
use Rattle.std.specs.declared.cmp.Ordering.TheVariants.{Less, Equal, Greater}
use Rattle.std.proofs.lemmas.Map.Keys.{sorted_head, sorted_tail}
use Rattle.std.proofs.lemmas.Map.Text.{is_eq-slice_cmp}
use Rattle.std.proofs.lemmas.Str.{encodes-chars, IsUtf8-string_bytes}
use Rattle.fancy_lex.proofs.TextLemmas.{same_text}
use Rattle.fancy_lex.specs.Text.{text_of}
use Rattle.fancy_grammar.specs.Groups.{entry_of, numbers_under, with_number}
use Rattle.fancy_grammar.specs.Ranks.{name_cmp}

abbrev Entries : Type 0
Entries = List (String Global × Vec ℕ Global)

-- the order of a name, by its bytes, and a key
abbrev pub key_cmp : List ℕ → String Global → Ordering
key_cmp a k = slice_cmp nat_cmp a (string_bytes k)

-- it is the order by characters
key_name_cmp : (a : List ℕ) (k : String Global) → IsUtf8 a → key_cmp a k ≡ name_cmp (chars a) (text_of k)
key_name_cmp a k h =
    let x : encode_utf8_all (chars a) ≡ a = encodes-chars _ h in
    let y : encode_utf8_all (text_of k) ≡ string_bytes k = encodes-chars _ (IsUtf8-string_bytes k) in
    λ i. slice_cmp nat_cmp (sym x i) (sym y i)

string_name_cmp : (a k : String Global) → string_cmp a k ≡ name_cmp (text_of a) (text_of k)
string_name_cmp a k = key_name_cmp (string_bytes a) k (IsUtf8-string_bytes a)

-- the test of a key by its bytes is the test of its characters
key_test : (a : List ℕ) (k : String Global) → IsUtf8 a → is_eq (key_cmp a k) ≡ bytes_eq (chars a) (text_of k)
key_test a k h = is_eq-slice_cmp a (string_bytes k) ∙ same_text a (string_bytes k) h (IsUtf8-string_bytes k)

-- no key is this name, if the name comes before the first key
none_above : (a : List ℕ) (k : String Global) (es : Entries) → key_cmp a k ≡ Less →
    IsStrictlySortedBy string_cmp (k ∷ keys_of es) → lookup (λ k. is_eq (key_cmp a k)) es ≡ None
none_above a k [] less s = refl
none_above a k (e ∷ es) less s =
    let here : key_cmp a e.0 ≡ Less =
    nat_list_cmp_total.trans a (string_bytes k) (string_bytes e.0) less (sorted_head string_cmp k _ s).0 in
    rw here (none_above a e.0 es here (sorted_tail string_cmp k _ s))

pub found : (a : List ℕ) (es : Entries) → IsUtf8 a →
    numbers_under (map entry_of es) (chars a)
    ≡ unwrap_or (option_map (λ v. v.items) (lookup (λ k. is_eq (key_cmp a k)) es)) []
found a [] u = refl
found a (e ∷ es) u = by_test (is_eq (key_cmp a e.0)) refl (found a es u)
  where
    by_test : (b : Bool) → is_eq (key_cmp a e.0) ≡ b →
        numbers_under (map entry_of es) (chars a)
        ≡ unwrap_or (option_map (λ v. v.items) (lookup (λ k. is_eq (key_cmp a k)) es)) [] →
        numbers_under (map entry_of (e ∷ es)) (chars a)
        ≡ unwrap_or (option_map (λ v. v.items) (lookup (λ k. is_eq (key_cmp a k)) (e ∷ es))) []
    by_test true h i = let t : bytes_eq (chars a) (text_of e.0) ≡ true = sym (key_test a e.0 u) ∙ h in rw (h, t) refl
    by_test false h i = let t : bytes_eq (chars a) (text_of e.0) ≡ false = sym (key_test a e.0 u) ∙ h in rw (h, t) i

-- a name without an entry gets one at its position
pub put_new : (a : String Global) (es : Entries) (w : Vec ℕ Global) (n : ℕ) → w.items ≡ n ∷ [] →
    lookup (λ k. is_eq (string_cmp a k)) es ≡ None →
    map entry_of (insert_entry string_cmp es a w) ≡ with_number (text_of a) n (map entry_of es)
put_new a [] w n h k = rw h refl
put_new a (e ∷ es) w n h k = by_order (string_cmp a e.0) refl (put_new a es w n h)
  where
    by_order : (o : Ordering) → string_cmp a e.0 ≡ o →
        (lookup (λ k. is_eq (string_cmp a k)) es ≡ None →
        map entry_of (insert_entry string_cmp es a w) ≡ with_number (text_of a) n (map entry_of es)) →
        map entry_of (insert_entry string_cmp (e ∷ es) a w) ≡ with_number (text_of a) n (map entry_of (e ∷ es))
    by_order Less q i =
        let t : name_cmp (text_of a) (text_of e.0) ≡ Less = sym (string_name_cmp a e.0) ∙ q in rw (q, t, h) refl
    by_order Equal q i = let none : lookup (λ k. is_eq (string_cmp a k)) (e ∷ es) ≡ Some e.1 = rw q refl in absurd cc
    by_order Greater q i =
        let t : name_cmp (text_of a) (text_of e.0) ≡ Greater = sym (string_name_cmp a e.0) ∙ q in
        let none : lookup (λ k. is_eq (string_cmp a k)) (e ∷ es) ≡ lookup (λ k. is_eq (string_cmp a k)) es
        = rw q refl in
        rw (q, t) (ap (λ l. entry_of e ∷ l) (i (sym none ∙ k)))

-- a name with an entry keeps it, with the number added after the others
pub put_more : (a : List ℕ) (es : Entries) (v w : Vec ℕ Global) (n : ℕ) → IsUtf8 a → w.items ≡ v.items ++ (n ∷ []) →
    IsStrictlySortedBy string_cmp (keys_of es) → lookup (λ k. is_eq (key_cmp a k)) es ≡ Some v →
    map entry_of (set_value (λ k. is_eq (key_cmp a k)) es w) ≡ with_number (chars a) n (map entry_of es)
put_more a [] v w n u h s k = absurd cc
put_more a (e ∷ es) v w n u h s k =
    by_order (key_cmp a e.0) refl (put_more a es v w n u h (sorted_tail string_cmp e.0 (keys_of es) s))
  where
    by_order : (o : Ordering) → key_cmp a e.0 ≡ o →
        (lookup (λ k. is_eq (key_cmp a k)) es ≡ Some v →
        map entry_of (set_value (λ k. is_eq (key_cmp a k)) es w) ≡ with_number (chars a) n (map entry_of es)) →
        map entry_of (set_value (λ k. is_eq (key_cmp a k)) (e ∷ es) w) ≡ with_number (chars a) n
        (map entry_of (e ∷ es))
    by_order Less q i =
        let none : lookup (λ k. is_eq (key_cmp a k)) (e ∷ es) ≡ None
        = rw q (none_above a e.0 es q s) in absurd cc
    by_order Equal q i =
        let t : name_cmp (chars a) (text_of e.0) ≡ Equal = sym (key_name_cmp a e.0 u) ∙ q in
        let same : lookup (λ k. is_eq (key_cmp a k)) (e ∷ es) ≡ Some e.1 = rw q refl in
        let it : e.1 ≡ v = cc in
        rw (q, t)
        (ap (λ ns. (text_of e.0, ns) ∷ map entry_of es) (h ∙ ap (λ (x : Vec ℕ Global). x.items ++ (n ∷ [])) (sym it)))
    by_order Greater q i =
        let t : name_cmp (chars a) (text_of e.0) ≡ Greater = sym (key_name_cmp a e.0 u) ∙ q in
        let other : lookup (λ k. is_eq (key_cmp a k)) (e ∷ es) ≡ lookup (λ k. is_eq (key_cmp a k)) es
        = rw q refl in
        rw (q, t) (ap (λ l. entry_of e ∷ l) (i (sym other ∙ k)))

-- if the numbers of an entry are the same, so are all entries
pub put_same : (a : List ℕ) (es : Entries) (v w : Vec ℕ Global) → w.items ≡ v.items →
    lookup (λ k. is_eq (key_cmp a k)) es ≡ Some v →
    map entry_of (set_value (λ k. is_eq (key_cmp a k)) es w) ≡ map entry_of es
put_same a [] v w h k = refl
put_same a (e ∷ es) v w h k = by_test (is_eq (key_cmp a e.0)) refl (put_same a es v w h)
  where
    by_test : (b : Bool) → is_eq (key_cmp a e.0) ≡ b →
        (lookup (λ k. is_eq (key_cmp a k)) es ≡ Some v →
        map entry_of (set_value (λ k. is_eq (key_cmp a k)) es w) ≡ map entry_of es) →
        map entry_of (set_value (λ k. is_eq (key_cmp a k)) (e ∷ es) w) ≡ map entry_of (e ∷ es)
    by_test true t i =
        let same : lookup (λ k. is_eq (key_cmp a k)) (e ∷ es) ≡ Some e.1 = rw t refl in
        let it : e.1 ≡ v = cc in
        rw t (ap (λ ns. (text_of e.0, ns) ∷ map entry_of es) (h ∙ ap (λ (x : Vec ℕ Global). x.items) (sym it)))
    by_test false t i =
        let other : lookup (λ k. is_eq (key_cmp a k)) (e ∷ es) ≡ lookup (λ k. is_eq (key_cmp a k)) es
        = rw t refl in
        rw t (ap (λ l. entry_of e ∷ l) (i (sym other ∙ k)))
