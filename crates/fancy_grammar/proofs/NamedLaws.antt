-- The groups added one after another are the groups with their names in order.
use Rattle.std.proofs.Common.{◌≡◌, ℕ, ◌+◌, List, [], ◌∷◌, ◌++◌, append_assoc, append-nil, Bool, true, false, Option}
use Rattle.std.proofs.Common.{Some, None, length}
use Rattle.std.proofs.Common.{refl, sym, ap, ◌∙◌, subst, arith, map, bytes_eq, if◌then◌else◌, ◌||◌}
use Rattle.std.specs.BTreeSet.{insert_key}
use Rattle.std.specs.Cmp.{IsTotalOrder, on_total}
use Rattle.std.specs.Cmp.Lexicographic.{nat_list_cmp_total, nat_list_eq_equiv}
use Rattle.std.specs.List.{AllByRecursion, cons_option, list_any}
use Rattle.std.specs.List.Sorted.{IsStrictlySortedBy}
use Rattle.std.specs.Ordering.{is_eq, ordering_reverse}
use Rattle.std.specs.Prelude.{encode_utf8_all, filter_map, fold}
use Rattle.std.specs.declared.cmp.Ordering.{Ordering}
use Rattle.std.specs.declared.cmp.Ordering.TheVariants.{Less, Equal, Greater}
use Rattle.std.proofs.Math.Utf8.{encode, encodes}
use Rattle.std.proofs.lemmas.Bool.Decides.{same_from_decides}
use Rattle.std.proofs.lemmas.List.Sums.{fold-append}
use Rattle.std.proofs.lemmas.Map.Keys.{sorted_head, sorted_tail}
use Rattle.std.proofs.lemmas.Map.Text.{is_eq-slice_cmp}
use Rattle.std.proofs.lemmas.Slice.Eq.{bytes_eq-Decides}
use Rattle.std.proofs.lemmas.Str.{encode_same, length-encode}
use Rattle.std.proofs.Common.{length-append}
use Rattle.std.proofs.lemmas.Str.{len_utf8_bounds}
use Rattle.fancy_lex.specs.Text.{Text}
use Rattle.fancy_grammar.specs.Groups.{Groups, no_groups, groups_in, openings_with, with_group, with_number}
use Rattle.fancy_grammar.specs.Groups.{numbers_under}
use Rattle.fancy_grammar.specs.Ranks.{Opening, name_cmp, names, numbers, numbers_from, named_groups, is_name}

-- ---- the order of names

no_character : (c : ℕ) (t : Text) → [] ≡ encodes (c ∷ t) → ⊥
no_character c t e =
    let none : 0 ≡ length (encode c ++ encodes t) = ap length e in
    omega (arith, length-append (encode c) (encodes t), length-encode c, (len_utf8_bounds c).0)

same_name : (t u : Text) → encodes t ≡ encodes u → t ≡ u
same_name [] [] e = refl
same_name [] (d ∷ u) e = absurd (no_character d u e)
same_name (c ∷ t) [] e = absurd (no_character c t (sym e))
same_name (c ∷ t) (d ∷ u) e =
    let h = encode_same c d (encodes t) (encodes u) e in let first = h.0 in let more = same_name t u h.1 in
    λ i. first i ∷ more i

equal_name : (t u : Text) → is_eq (name_cmp t u) ≡ bytes_eq u t
equal_name t u =
    is_eq-slice_cmp (encode_utf8_all t) (encode_utf8_all u)
    ∙ same_from_decides _ _ (bytes_eq-Decides (encodes t) (encodes u)) (
      λ e. ap encodes (sym ((bytes_eq-Decides u t).0 e)),
      λ e. (bytes_eq-Decides u t).1 (sym (same_name t u e)),
    )

name_total : IsTotalOrder name_cmp
name_total = on_total encode_utf8_all nat_list_cmp_total

abbrev Above : Text → List Text → Type 0
Above t ts = AllByRecursion (λ u. name_cmp t u ≡ Less) ts

above_all : (t x : Text) (ts : List Text) → name_cmp t x ≡ Less → Above x ts → Above t ts
above_all t x [] h a = tt
above_all t x (u ∷ ts) h a = (name_total.trans t x u h a.0, above_all t x ts h a.1)

-- none of the names is t
not_among : (t : Text) (ts : List Text) → Above t ts → list_any (λ u. bytes_eq u t) ts ≡ false
not_among t [] a = refl
not_among t (u ∷ ts) a =
    let apart : bytes_eq u t ≡ false = sym (equal_name t u) ∙ ap is_eq a.0 in rw apart (not_among t ts a.1)

-- ---- one more name

or_false : (a b : Bool) → (a || b) ≡ false → (a ≡ false) × (b ≡ false)
or_false true b h = absurd cc
or_false false b h = (refl, h)

-- f, with one more number for the name
abbrev with_one : Text → ℕ → (Text → List ℕ) → Text → List ℕ
with_one t n f u = if bytes_eq u t then f u ++ (n ∷ []) else f u

abbrev entries : (Text → List ℕ) → List Text → List (Text × List ℕ)
entries f ts = map (λ u. (u, f u)) ts

-- the entries of names other than t stay the same
others : (t : Text) (n : ℕ) (f : Text → List ℕ) (ts : List Text) → list_any (λ u. bytes_eq u t) ts ≡ false →
    entries (with_one t n f) ts ≡ entries f ts
others t n f [] h = refl
others t n f (u ∷ ts) h = by_test (bytes_eq u t) refl (others t n f ts)
  where
    by_test : (b : Bool) → bytes_eq u t ≡ b →
        (list_any (λ x. bytes_eq x t) ts ≡ false → entries (with_one t n f) ts ≡ entries f ts) →
        entries (with_one t n f) (u ∷ ts) ≡ entries f (u ∷ ts)
    by_test true e i = absurd cc
    by_test false e i =
        let rest : list_any (λ x. bytes_eq x t) ts ≡ false
        = subst (λ b. (b || list_any (λ x. bytes_eq x t) ts) ≡ false) e h in
        rw e (ap (λ l. (u, f u) ∷ l) (i rest))

numbered : (t : Text) (n : ℕ) (f : Text → List ℕ) (ts : List Text) → IsStrictlySortedBy name_cmp ts →
    (list_any (λ u. bytes_eq u t) ts ≡ false → f t ≡ []) →
    with_number t n (entries f ts) ≡ entries (with_one t n f) (insert_key name_cmp ts t)
numbered t n f [] s a =
    let is : bytes_eq t t ≡ true = (bytes_eq-Decides t t).1 refl in rw (is, a refl) refl
numbered t n f (u ∷ ts) s a = by_order (name_cmp t u) refl (numbered t n f ts (sorted_tail name_cmp u ts s))
  where
    by_order : (o : Ordering) → name_cmp t u ≡ o →
        ((list_any (λ x. bytes_eq x t) ts ≡ false → f t ≡ []) →
        with_number t n (entries f ts) ≡ entries (with_one t n f) (insert_key name_cmp ts t)) →
        with_number t n (entries f (u ∷ ts)) ≡ entries (with_one t n f) (insert_key name_cmp (u ∷ ts) t)
    by_order Less q i =
        let is : bytes_eq t t ≡ true = (bytes_eq-Decides t t).1 refl in
        let none = not_among t (u ∷ ts) (q, above_all t u ts q (sorted_head name_cmp u ts s)) in
        let mine : with_one t n f t ≡ n ∷ [] = rw (is, a none) refl in
        rw q (λ i. (t, sym mine i) ∷ sym (others t n f (u ∷ ts) none) i)
    by_order Equal q i =
        let is : bytes_eq u t ≡ true = sym (equal_name t u) ∙ ap is_eq q in
        let same : u ≡ t = (bytes_eq-Decides u t).0 is in
        let none = not_among t ts (subst (λ x. Above x ts) same (sorted_head name_cmp u ts s)) in
        let mine : with_one t n f u ≡ f u ++ (n ∷ []) = rw is refl in
        rw q (λ i. (u, sym mine i) ∷ sym (others t n f ts none) i)
    by_order Greater q i =
        let apart : bytes_eq u t ≡ false = sym (equal_name t u) ∙ ap is_eq q in
        let mine : with_one t n f u ≡ f u = rw apart refl in
        let more = i (λ h. a (rw apart h)) in
        rw q (λ i. (u, sym mine i) ∷ more i)

all_inserted : (x t : Text) (ts : List Text) → Above x ts → name_cmp x t ≡ Less → Above x (insert_key name_cmp ts t)
all_inserted x t [] a h = (h, tt)
all_inserted x t (u ∷ ts) a h = by_order (name_cmp t u) refl (all_inserted x t ts a.1 h)
  where
    by_order : (o : Ordering) → name_cmp t u ≡ o → Above x (insert_key name_cmp ts t) →
        Above x (insert_key name_cmp (u ∷ ts) t)
    by_order Less q i = rw q (h, a)
    by_order Equal q i = rw q a
    by_order Greater q i = rw q (a.0, i)

sorted_inserted : (t : Text) (ts : List Text) → IsStrictlySortedBy name_cmp ts →
    IsStrictlySortedBy name_cmp (insert_key name_cmp ts t)
unfolding IsStrictlySortedBy
sorted_inserted t [] s = (tt, tt)
sorted_inserted t (u ∷ ts) s = by_order (name_cmp t u) refl (sorted_inserted t ts s.1)
  where
    by_order : (o : Ordering) → name_cmp t u ≡ o → IsStrictlySortedBy name_cmp (insert_key name_cmp ts t) →
        IsStrictlySortedBy name_cmp (insert_key name_cmp (u ∷ ts) t)
    by_order Less q i = rw q ((q, above_all t u ts q s.0), s)
    by_order Equal q i = rw q s
    by_order Greater q i = rw q (all_inserted u t ts s.0 (name_total.antisymm u t ∙ ap ordering_reverse q), i)

-- a name that is not among the names with t added is not t, and was not among them before
not_inserted : (x t : Text) (ts : List Text) → list_any (λ u. bytes_eq u x) (insert_key name_cmp ts t) ≡ false →
    (bytes_eq x t ≡ false) × (list_any (λ u. bytes_eq u x) ts ≡ false)
not_inserted x t [] h = (nat_list_eq_equiv.symm x t ∙ (or_false (bytes_eq t x) false h).0, refl)
not_inserted x t (u ∷ ts) h = by_order (name_cmp t u) refl (not_inserted x t ts)
  where
    by_order : (o : Ordering) → name_cmp t u ≡ o →
        (list_any (λ u. bytes_eq u x) (insert_key name_cmp ts t) ≡ false →
        (bytes_eq x t ≡ false) × (list_any (λ u. bytes_eq u x) ts ≡ false)) →
        (bytes_eq x t ≡ false) × (list_any (λ y. bytes_eq y x) (u ∷ ts) ≡ false)
    by_order Less q i = let k = or_false (bytes_eq t x) _ (rw q at h) in (nat_list_eq_equiv.symm x t ∙ k.0, k.1)
    by_order Equal q i =
        let k : list_any (λ y. bytes_eq y x) (u ∷ ts) ≡ false = rw q at h in
        let same : u ≡ t = (bytes_eq-Decides u t).0 (sym (equal_name t u) ∙ ap is_eq q) in
        (nat_list_eq_equiv.symm x t ∙ subst (λ y. bytes_eq y x ≡ false) same (or_false (bytes_eq u x) _ k).0, k)
    by_order Greater q i =
        let k = or_false (bytes_eq u x) _ (rw q at h) in let m = i k.1 in
        (m.0, rw k.0 m.1)

-- ---- all groups, one after another

-- the entries are the names, in order, with their values under f, which has no numbers for any other name
record Lists (es : List (Text × List ℕ)) (ts : List Text) (f : Text → List ℕ) : Type 0 where
  is : es ≡ entries f ts
  sorted : IsStrictlySortedBy name_cmp ts
  absent : (u : Text) → list_any (λ x. bytes_eq x u) ts ≡ false → f u ≡ []

with_one_other : (t : Text) (n : ℕ) (f : Text → List ℕ) (u : Text) → bytes_eq u t ≡ false → with_one t n f u ≡ f u
with_one_other t n f u e = rw e refl

lists_more : (es : List (Text × List ℕ)) (ts : List Text) (f : Text → List ℕ) (t : Text) (n : ℕ) → Lists es ts f →
    Lists (with_number t n es) (insert_key name_cmp ts t) (with_one t n f)
lists_more es ts f t n h = record {
  is = ap (with_number t n) h.is ∙ numbered t n f ts h.sorted (h.absent t);
  sorted = sorted_inserted t ts h.sorted;
  absent = λ u a. let k = not_inserted u t ts a in with_one_other t n f u k.0 ∙ h.absent u k.1;
}

-- the groups, with the groups of the openings added
abbrev pub with_all : Groups → List Opening → Groups
with_all s l = fold (λ g o. with_group g o.name) s l

one_more : (ns ms : List ℕ) (n : ℕ) (b : Bool) →
    (if b then ns ++ (n ∷ []) else ns) ++ ms ≡ ns ++ (if b then n ∷ ms else ms)
one_more ns ms n true = append_assoc ns (n ∷ []) ms
one_more ns ms n false = refl

abbrev all_names : List Text → List Opening → List Text
all_names ts l = fold (insert_key name_cmp) ts (filter_map (λ o. o.name) l)

-- one more group, and then the others
lists_next : (s : Groups) (ts : List Text) (f : Text → List ℕ) (m : Option Text) (l : List Opening) →
    ((us : List Text) (g : Text → List ℕ) → Lists (with_group s m).names us g →
    Lists (with_all (with_group s m) l).names (all_names us l) (λ u. g u ++ numbers_from (s.total + 1) u l)) →
    Lists s.names ts f →
    Lists (with_all (with_group s m) l).names
    (fold (insert_key name_cmp) ts (cons_option m (filter_map (λ o. o.name) l)))
    (λ u. f u ++
    (if is_name u m then (s.total + 1) ∷ numbers_from (s.total + 1) u l else numbers_from (s.total + 1) u l))
lists_next s ts f None l i h = i ts f h
lists_next s ts f (Some t) l i h =
    let k = i (insert_key name_cmp ts t) (with_one t (s.total + 1) f) (lists_more s.names ts f t (s.total + 1) h) in
    subst (Lists (with_all (with_group s (Some t)) l).names (all_names (insert_key name_cmp ts t) l))
    (λ j u. one_more (f u) (numbers_from (s.total + 1) u l) (s.total + 1) (bytes_eq u t) j) k

lists_all : (s : Groups) (ts : List Text) (f : Text → List ℕ) (l : List Opening) → Lists s.names ts f →
    Lists (with_all s l).names (all_names ts l) (λ u. f u ++ numbers_from s.total u l)
lists_all s ts f [] h = subst (Lists s.names ts) (λ i u. sym (append-nil (f u)) i) h
lists_all s ts f (o ∷ l) h = lists_next s ts f o.name l (λ us g k. lists_all (with_group s o.name) us g l k) h

none_listed : Lists [] [] (λ u. [])
unfolding IsStrictlySortedBy
none_listed = record { is = refl; sorted = tt; absent = λ u a. refl }

lists_named : (l : List Opening) → Lists (with_all no_groups l).names (names l) (λ u. numbers u l)
lists_named l = lists_all no_groups [] (λ u. []) l none_listed

-- all groups, added to no groups
pub all_named : (l : List Opening) → (with_all no_groups l).names ≡ named_groups l
all_named l = (lists_named l).is

under_entries : (f : Text → List ℕ) (t : Text) (ts : List Text) → (list_any (λ u. bytes_eq u t) ts ≡ false → f t ≡ []) →
    numbers_under (entries f ts) t ≡ f t
under_entries f t [] a = sym (a refl)
under_entries f t (u ∷ ts) a = by_test (bytes_eq u t) refl (under_entries f t ts)
  where
    by_test : (b : Bool) → bytes_eq u t ≡ b →
        ((list_any (λ x. bytes_eq x t) ts ≡ false → f t ≡ []) → numbers_under (entries f ts) t ≡ f t) →
        numbers_under (entries f (u ∷ ts)) t ≡ f t
    by_test true e i =
        let is : bytes_eq t u ≡ true = nat_list_eq_equiv.symm t u ∙ e in rw is (ap f ((bytes_eq-Decides u t).0 e))
    by_test false e i =
        let other : bytes_eq t u ≡ false = nat_list_eq_equiv.symm t u ∙ e in rw other (i (λ h. a (rw e h)))

-- the numbers that a name has among the groups
pub under_named : (l : List Opening) (t : Text) → numbers_under (named_groups l) t ≡ numbers t l
under_named l t = under_entries (λ u. numbers u l) t (names l) ((lists_named l).absent t)

total_all : (s : Groups) (l : List Opening) → (with_all s l).total ≡ s.total + length l
total_all s [] = omega arith
total_all s (o ∷ l) = omega (arith, total_all (with_group s o.name) l)

pub all_total : (l : List Opening) → (with_all no_groups l).total ≡ length l
all_total l = omega (arith, total_all no_groups l)

groups_in_all : (l : List Opening) → with_all no_groups l ≡ groups_in l
groups_in_all l = λ i. record { total = all_total l i; names = all_named l i }

-- with one more group, the groups are numbered as with its opening
pub groups_in_more : (s : Groups) (l : List Opening) (reach : ℕ) (name : Option Text) → s ≡ groups_in l →
    with_group s name ≡ groups_in (openings_with l reach name)
groups_in_more s l reach name e =
    let o : Opening = record { reach = reach; name = name } in
    ap (λ g. with_group g name) (e ∙ sym (groups_in_all l))
    ∙ sym (fold-append (λ g (x : Opening). with_group g x.name) no_groups l (o ∷ []))
    ∙ groups_in_all (openings_with l reach name)

-- so `numbers_under` gives the numbers of each name
pub groups_in_under : (s : Groups) (l : List Opening) → s ≡ groups_in l → numbers_under s.names ≡ (λ t. numbers t l)
groups_in_under s l e = ap (λ (g : Groups). numbers_under g.names) e ∙ (λ i t. under_named l t i)
