-- When two trees have the same group information.
use Rattle.std.proofs.Common.{◌≡◌, ℕ, Bool, true, false, ◌&&◌, List, [], ◌∷◌, String, Global, Vec, string_bytes, chars}
use Rattle.std.proofs.Common.{refl, ap, sym, ◌∙◌, map, nat_eq, Option, Some, None, Decides}
use Rattle.std.specs.Prelude.{encode_utf8_all}
use Rattle.std.proofs.lemmas.Str.{encodes-chars, IsUtf8-string_bytes}
use Rattle.fancy_grammar.specs.GroupInfo.{GroupInfo}
use Rattle.std.specs.Cmp.{booleans_Decides, unsigned_Decides}
use Rattle.std.specs.Cmp.Lexicographic.{pointwise}
use Rattle.std.specs.Option.{option_eq}
use Rattle.std.proofs.lemmas.Bool.{false≢true}
use Rattle.std.proofs.lemmas.Slice.Eq.{bytes_eq-Decides}
use mathlib.Core.Bool.{beq}
use Rattle.fancy_lex.specs.Text.{Text}
use Rattle.fancy_grammar.specs.Groups.{entry_of}
use Rattle.fancy_syntax.specs.InfoViews.{info_of}
use Rattle.fancy_syntax.specs.declared.tree.ExprTree.{ExprTree}

both : (a b : Bool) → (a && b) ≡ true → (a ≡ true) × (b ≡ true)
both true b h = (refl, h)
both false b h = absurd (false≢true h)

chars_same : (a b : String Global) → chars (string_bytes a) ≡ chars (string_bytes b) → string_bytes a ≡ string_bytes b
chars_same a b e =
    sym (encodes-chars (string_bytes a) (IsUtf8-string_bytes a)) ∙ ap encode_utf8_all e
    ∙ encodes-chars (string_bytes b) (IsUtf8-string_bytes b)

all_true : (a b : Bool) → a ≡ true → b ≡ true → (a && b) ≡ true
all_true a b e f = rw (e, f) refl

abbrev same_names : List (String Global × Vec ℕ Global) → List (String Global × Vec ℕ Global) → Bool
same_names es fs =
    pointwise (λ p q. pointwise nat_eq (string_bytes p.0) (string_bytes q.0) && pointwise nat_eq p.1.items q.1.items)
    es fs

named_equal : (es fs : List (String Global × Vec ℕ Global)) → map entry_of es ≡ map entry_of fs →
    same_names es fs ≡ true
named_equal [] [] h = refl
named_equal (e ∷ es) (f ∷ fs) h =
    let same_entry : entry_of e ≡ entry_of f = cc in
    let first : chars (string_bytes e.0) ≡ chars (string_bytes f.0) = ap (λ (q : Text × List ℕ). q.0) same_entry in
    let second : e.1.items ≡ f.1.items = ap (λ (q : Text × List ℕ). q.1) same_entry in
    let rest : map entry_of es ≡ map entry_of fs = cc in
    all_true _ _
    (all_true _ _ ((bytes_eq-Decides _ _).1 (chars_same e.0 f.0 first)) ((bytes_eq-Decides _ _).1 second))
    (named_equal es fs rest)
named_equal [] (f ∷ fs) h = absurd cc
named_equal (e ∷ es) [] h = absurd cc

named_same : (es fs : List (String Global × Vec ℕ Global)) →
    pointwise (λ p q. pointwise nat_eq (string_bytes p.0) (string_bytes q.0) && pointwise nat_eq p.1.items q.1.items) es fs
    ≡ true → map entry_of es ≡ map entry_of fs
named_same [] [] h = refl
named_same (e ∷ es) (f ∷ fs) h =
    let (firsts, more) = both _ _ h in
    let (name, numbers) = both _ _ firsts in
    let first : chars (string_bytes e.0) ≡ chars (string_bytes f.0) = ap chars ((bytes_eq-Decides _ _).0 name) in
    let second : e.1.items ≡ f.1.items = (bytes_eq-Decides _ _).0 numbers in
    let rest = named_same es fs more in cc
named_same _ _ h = absurd (false≢true h)

pub names_Decides : (es fs : List (String Global × Vec ℕ Global)) →
    Decides (same_names es fs) (map entry_of es ≡ map entry_of fs)
names_Decides es fs = (named_same es fs, named_equal es fs)

numbers_same : (a b : Option ℕ) → a ≡ b → option_eq nat_eq a b ≡ true
numbers_same None None h = refl
numbers_same (Some x) (Some y) h = (unsigned_Decides x y).1 cc
numbers_same None (Some y) h = absurd cc
numbers_same (Some x) None h = absurd cc

number_same : (a b : Option ℕ) → option_eq nat_eq a b ≡ true → a ≡ b
number_same None None h = refl
number_same (Some x) (Some y) h = ap Some ((unsigned_Decides x y).0 h)
number_same _ _ h = absurd (false≢true h)

four : (p q r s : Bool) → true ≡ (p && q && r && s) → (p ≡ true) × (q ≡ true) × (r ≡ true) × (s ≡ true)
four true true true true h = (refl, refl, refl, refl)
four true true true false h = absurd (false≢true (sym h))
four true true false s h = absurd (false≢true (sym h))
four true false r s h = absurd (false≢true (sym h))
four false q r s h = absurd (false≢true (sym h))

pub info_same : (a b : ExprTree) → map entry_of a.named_groups.entries ≡ map entry_of b.named_groups.entries →
    a.backrefs.keys ≡ b.backrefs.keys
    → true ≡ (beq a.numeric_capture_group_references b.numeric_capture_group_references
    && beq a.contains_subroutines b.contains_subroutines && beq a.self_recursive b.self_recursive
    && beq a.numbered_groups_ignored b.numbered_groups_ignored)
    → true ≡ (nat_eq a.total_groups b.total_groups && option_eq nat_eq a.out_of_range_backref b.out_of_range_backref) →
    info_of a ≡ info_of b
info_same a b names keys flags numbers =
    let (numeric, calls, self, ignored) = four
    (beq a.numeric_capture_group_references b.numeric_capture_group_references)
    (beq a.contains_subroutines b.contains_subroutines) (beq a.self_recursive b.self_recursive)
    (beq a.numbered_groups_ignored b.numbered_groups_ignored) flags in
    let (total, above) = both (nat_eq a.total_groups b.total_groups)
    (option_eq nat_eq a.out_of_range_backref b.out_of_range_backref) (sym numbers) in
    λ i. record {
      backrefs = keys i;
      named_groups = names i;
      numeric_capture_group_references = (booleans_Decides a.numeric_capture_group_references
          b.numeric_capture_group_references).0 numeric i;
      contains_subroutines = (booleans_Decides a.contains_subroutines b.contains_subroutines).0 calls i;
      self_recursive = (booleans_Decides a.self_recursive b.self_recursive).0 self i;
      total_groups = (unsigned_Decides a.total_groups b.total_groups).0 total i;
      out_of_range_backref = number_same a.out_of_range_backref b.out_of_range_backref above i;
      numbered_groups_ignored = (booleans_Decides a.numbered_groups_ignored b.numbered_groups_ignored).0 ignored i;
    }

pub flags_equal : (a b : ExprTree) → info_of a ≡ info_of b →
    (beq a.numeric_capture_group_references b.numeric_capture_group_references
    && beq a.contains_subroutines b.contains_subroutines && beq a.self_recursive b.self_recursive
    && beq a.numbered_groups_ignored b.numbered_groups_ignored) ≡ true
flags_equal a b e =
    let numeric = (booleans_Decides a.numeric_capture_group_references b.numeric_capture_group_references).1
    (ap (λ (m : GroupInfo). m.numeric_capture_group_references) e) in
    let calls = (booleans_Decides a.contains_subroutines b.contains_subroutines).1
    (ap (λ (m : GroupInfo). m.contains_subroutines) e) in
    let self = (booleans_Decides a.self_recursive b.self_recursive).1 (ap (λ (m : GroupInfo). m.self_recursive) e) in
    let ignored = (booleans_Decides a.numbered_groups_ignored b.numbered_groups_ignored).1
    (ap (λ (m : GroupInfo). m.numbered_groups_ignored) e) in
    rw (numeric, calls, self, ignored) refl

pub numbers_equal : (a b : ExprTree) → info_of a ≡ info_of b →
    (nat_eq a.total_groups b.total_groups && option_eq nat_eq a.out_of_range_backref b.out_of_range_backref) ≡ true
numbers_equal a b e =
    all_true _ _
    ((unsigned_Decides a.total_groups b.total_groups).1 (ap (λ (m : GroupInfo). m.total_groups) e))
    (numbers_same a.out_of_range_backref b.out_of_range_backref (ap (λ (m : GroupInfo). m.out_of_range_backref) e))

-- if one of the compared things differs, not all are equal
pub differs : {P Q : Type 0} (r : Bool) → Decides r P → r ≡ false → (Q → P) → Decides false Q
differs r d e f = (λ h. absurd (false≢true h), λ q. sym e ∙ d.1 (f q))

pub contrary : {Q : Type 0} → (Q → false ≡ true) → Decides false Q
contrary f = (λ h. absurd (false≢true h), f)
