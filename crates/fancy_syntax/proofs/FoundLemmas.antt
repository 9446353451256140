-- What the loop has found, with one more item.
use Rattle.std.proofs.Common.{◌≡◌, ℕ, suc, ◌+◌, Bool, true, false, not, ◌||◌, ◌&&◌, List, [], ◌∷◌, ◌++◌, Option, None, Some, length}
use Rattle.std.proofs.Common.{refl, sym, ap, ◌∙◌, arith, append-nil, length-append, nat_lt, filter, filter_map, fold, map, subst, is_some}
use Rattle.std.proofs.Common.{Bor, chars, option_map}
use Rattle.std.proofs.lemmas.List.{nil_from_length}
use Rattle.std.proofs.lemmas.List.Elements.{filter-append}
use Rattle.std.specs.BTreeSet.{insert_key}
use Rattle.std.specs.List.{list_any}
use Rattle.std.proofs.lemmas.List.Folds.{list_any-append}
use Rattle.fancy_lex.specs.Text.{Text}
use Rattle.fancy_grammar.specs.Groups.{Groups, groups_of, groups_in, openings_with}
use Rattle.fancy_grammar.specs.Ranks.{Opening, is_counted, is_named, name_cmp, numbered_openings_in, named_groups, numbers}
use Rattle.fancy_grammar.specs.Items.{Item, opening, items, openings_in}
use Rattle.fancy_grammar.specs.Label as label
use Rattle.fancy_grammar.specs.Preorder.{preorder}
use Rattle.fancy_grammar.specs.Tree.{Tree, leaf, over, row}
use Rattle.fancy_grammar.proofs.FoundLaws.{any_named, none_counted, some_counted}
use Rattle.fancy_grammar.proofs.ItemLemmas.{openings_append}
use Rattle.fancy_grammar.proofs.PreorderLaws.{items_at, items_of_nodes, items_of_all}
use Rattle.fancy_grammar.specs.AtomStart.{atom_start, read, body}
use Rattle.fancy_grammar.specs.State.{State, done}
use Rattle.fancy_grammar.proofs.AtomStartLaws.{StartReads, start_reads}
use Rattle.fancy_syntax.specs.Found.{FindsMore, IsFound, has_unresolved, is_reference, is_unresolved, undecided_in}
use Rattle.fancy_syntax.specs.Machine.{IsPlainLeaf}
use Rattle.fancy_syntax.specs.declared.grammar.found.FoundGroups.{FoundGroups}

-- ---- an atom that holds no other node

-- its items are its own
pub alone_items : (t : Tree) → preorder t ≡ t ∷ [] → items t ≡ items_at t
alone_items t e = items_of_nodes t ∙ ap items_of_all e ∙ append-nil (items_at t)

pub never_none : (t : Tree) → preorder t ≡ [] → ⊥
never_none (leaf l) e = cc
never_none (over w t) e = cc
never_none (row r ts) e = cc

-- and it opens no group, and is a reference or has no items
pub record Alone (ignore : Bool) (t : Tree) : Type 0 where
  pub openings : openings_in (items t) ≡ []
  pub same : has_unresolved ignore (items t) ≡ is_reference t

pub alone_reference : (ignore : Bool) (t : Tree) → preorder t ≡ t ∷ [] → Alone ignore t
alone_reference ignore (leaf (label.ast_node r reach)) e = record { openings = refl; same = refl }
alone_reference ignore (leaf l) e = record { openings = refl; same = refl }
alone_reference ignore (over w t) e = let none : preorder t ≡ [] = cc in absurd (never_none t none)
alone_reference ignore (row r ts) e =
    let none = alone_items (row r ts) e in
    record { openings = ap openings_in none; same = ap (has_unresolved ignore) none }

-- the atoms that are read at once are such nodes

pub leaf_alone : (d : ℕ) (s : State) {t : State} {r : Tree} → atom_start d s ≡ read (done r t) → preorder r ≡ r ∷ []
leaf_alone d s e = (subst (StartReads s) e (start_reads d s)).alone.1

pub condition_alone : (d : ℕ) (s : State) {t : State} {c : Tree} → atom_start d s ≡ body c t → preorder c ≡ c ∷ []
condition_alone d s e = (subst (StartReads s) e (start_reads d s)).2.1

pub plain_alone : {s t : State} {r : Tree} → IsPlainLeaf s r t → preorder r ≡ r ∷ []
plain_alone {s} p = leaf_alone 0 s (p.leaf 0)

-- ---- one more item

pub nothing_more : (f : FoundGroups) → FindsMore f f []
nothing_more f ignore l h = subst (IsFound ignore f) (sym (append-nil l)) h

pub set_unresolved : (a b : Bool) → b ≡ true → true ≡ (a || b)
set_unresolved true b e = refl
set_unresolved false b e = sym e

pub kept_unresolved : (a b : Bool) → b ≡ false → a ≡ (a || b)
kept_unresolved true b e = refl
kept_unresolved false b e = sym e

-- with no more groups
pub no_group_more : (f g : FoundGroups) (is : List Item) → openings_in is ≡ [] → g.ignore ≡ f.ignore → g.groups ≡ f.groups →
    g.undecided ≡ f.undecided → ((ignore : Bool) → g.unresolved ≡ (f.unresolved || has_unresolved ignore is)) →
    FindsMore f g is
no_group_more f g is none i j k m ignore l (a, b, c, d) =
    let same : openings_in (l ++ is) ≡ openings_in l =
    openings_append l is ∙ ap (λ x. openings_in l ++ x) none ∙ append-nil (openings_in l) in (
      i ∙ a,
      ap groups_of j ∙ b ∙ ap (λ x. groups_in (numbered_openings_in ignore x)) (sym same),
      k ∙ c ∙ ap (λ x. length (undecided_in ignore x)) (sym same),
      m ignore ∙ ap (λ x. x || has_unresolved ignore is) d ∙ sym (list_any-append (is_unresolved ignore) l is),
    )

-- the openings of which the test holds, with one more
chosen_more : (p : Opening → Bool) (l : List Item) (o : Opening) (b : Bool) → p o ≡ b →
    filter p (openings_in (l ++ opening o ∷ [])) ≡ filter p (openings_in l) ++ filter p (o ∷ [])
chosen_more p l o b e = ap (filter p) (openings_append l (opening o ∷ [])) ∙ filter-append p (openings_in l) (o ∷ [])

-- with one more group that has a number
pub numbered_more : (f g : FoundGroups) (reach : ℕ) (name : Option Text) → is_counted f.ignore name ≡ true →
    g.ignore ≡ f.ignore → g.undecided ≡ f.undecided → g.unresolved ≡ f.unresolved →
    ((before : List Opening) → groups_of f.groups ≡ groups_in before →
    groups_of g.groups ≡ groups_in (openings_with before reach name)) →
    FindsMore f g (opening (record { reach = reach; name = name }) ∷ [])
numbered_more f g reach name is i k m next ignore l (a, b, c, d) =
    let o : Opening = record { reach = reach; name = name } in
    let here : is_counted ignore name ≡ true = ap (λ x. is_counted x name) (sym a) ∙ is in (
      i ∙ a,
      next _ b ∙ ap groups_in (sym (chosen_more (λ o. is_counted ignore o.name) l o true here ∙ rw here refl)),
      k ∙ c ∙ ap length (sym (chosen_more (λ o. not (is_counted ignore o.name)) l o false (ap not here)
          ∙ rw here (append-nil (undecided_in ignore (openings_in l))))),
      m ∙ d ∙ kept_unresolved (has_unresolved ignore l) (has_unresolved ignore (opening o ∷ [])) (rw here refl)
          ∙ sym (list_any-append (is_unresolved ignore) l (opening o ∷ [])),
    )

-- which groups have a number whatever follows
pub counted_all : (ignore : Bool) (name : Option Text) → ignore ≡ false → is_counted ignore name ≡ true
counted_all ignore name e = rw e refl

pub counted_named : (ignore : Bool) (name : Option (Bor (List ℕ))) → is_some name ≡ true →
    is_counted ignore (option_map (λ t. chars t.now) name) ≡ true
counted_named true (Some t) e = refl
counted_named false (Some t) e = refl
counted_named ignore None e = absurd cc

pub uncounted : (ignore : Bool) (name : Option (Bor (List ℕ))) → ignore ≡ true → is_some name ≡ false →
    is_counted ignore (option_map (λ t. chars t.now) name) ≡ false
uncounted ignore None e h = rw e refl
uncounted ignore (Some t) e h = absurd cc

-- with one more that is undecided
pub undecided_more : (f g : FoundGroups) (reach : ℕ) (name : Option Text) → is_counted f.ignore name ≡ false →
    g.ignore ≡ f.ignore → g.undecided ≡ f.undecided + 1 → g.unresolved ≡ true → g.groups ≡ f.groups →
    FindsMore f g (opening (record { reach = reach; name = name }) ∷ [])
undecided_more f g reach name is i k m same ignore l (a, b, c, d) =
    let o : Opening = record { reach = reach; name = name } in
    let here : is_counted ignore name ≡ false = ap (λ x. is_counted x name) (sym a) ∙ is in
    let more : length (undecided_in ignore (openings_in (l ++ opening o ∷ [])))
    ≡ length (undecided_in ignore (openings_in l)) + 1 =
    ap length (chosen_more (λ o. not (is_counted ignore o.name)) l o true (ap not here) ∙ rw here refl)
    ∙ length-append (undecided_in ignore (openings_in l)) (o ∷ []) in (
      i ∙ a,
      ap groups_of same ∙ b
          ∙ ap groups_in (sym (chosen_more (λ o. is_counted ignore o.name) l o false here
          ∙ rw here (append-nil (numbered_openings_in ignore (openings_in l))))),
      omega (arith, k, c, more),
      m ∙ set_unresolved (has_unresolved ignore l) (has_unresolved ignore (opening o ∷ [])) (rw here refl)
          ∙ sym (list_any-append (is_unresolved ignore) l (opening o ∷ [])),
    )

-- ---- at the end

-- if some group has a number whatever follows, it has a name, where that matters
pub some_named : (ignore : Bool) (l : List Opening) (n : ℕ) → n ≡ length (numbered_openings_in ignore l) →
    (n ≡ 0 → ⊥) → ignore ≡ (ignore && list_any is_named l)
some_named true l n e h =
    some_counted true (list_any is_named l) n refl (any_named l ∙ ap (nat_lt 0) (sym e)) h
some_named false l n e h = refl

pub none_named : (ignore : Bool) (l : List Opening) (n : ℕ) → n ≡ length (numbered_openings_in ignore l) → n ≡ 0 →
    false ≡ (ignore && list_any is_named l)
none_named true l n e h = none_counted true (list_any is_named l) n (any_named l ∙ ap (nat_lt 0) (sym e)) h
none_named false l n e h = refl

-- all openings, if none has a number or each is undecided

all_undecided : (ignore : Bool) (l : List Opening) → length (numbered_openings_in ignore l) ≡ 0 →
    length (undecided_in ignore l) ≡ length (numbered_openings_in false l)
all_undecided ignore [] e = refl
all_undecided ignore (o ∷ l) e = by_test (is_counted ignore o.name) refl (all_undecided ignore l)
  where
    by_test : (b : Bool) → is_counted ignore o.name ≡ b →
        (length (numbered_openings_in ignore l) ≡ 0 →
        length (undecided_in ignore l) ≡ length (numbered_openings_in false l)) →
        length (undecided_in ignore (o ∷ l)) ≡ length (numbered_openings_in false (o ∷ l))
    by_test true i more = absurd (omega (arith, rw i at e))
    by_test false i more = rw i (ap suc (more (rw i at e)))

-- and then none of them has a name
no_names : (ignore : Bool) (l : List Opening) → length (numbered_openings_in ignore l) ≡ 0 →
    filter_map (λ (o : Opening). o.name) (numbered_openings_in false l) ≡ []
no_names ignore [] e = refl
no_names false (o ∷ l) e = absurd (omega (arith, e))
no_names true (o ∷ l) e = by_name o.name refl (no_names true l)
  where
    by_name : (n : Option Text) → o.name ≡ n →
        (length (numbered_openings_in true l) ≡ 0 →
        filter_map (λ (o : Opening). o.name) (numbered_openings_in false l) ≡ []) →
        filter_map (λ (o : Opening). o.name) (numbered_openings_in false (o ∷ l)) ≡ []
    by_name None i more = rw i (more (rw i at e))
    by_name (Some t) i more = absurd (omega (arith, rw i at e))

-- so the undecided ones are numbered
pub all_groups : (ignore : Bool) (l : List Opening) (s : Groups) (n : ℕ) →
    s ≡ groups_in (numbered_openings_in ignore l) → s.total ≡ 0 → n ≡ length (undecided_in ignore l) →
    record { total = n; names = s.names } ≡ groups_in (numbered_openings_in false l)
all_groups ignore l s n e z k =
    let none : length (numbered_openings_in ignore l) ≡ 0 = sym (ap (λ (g : Groups). g.total) e) ∙ z in
    let total = k ∙ all_undecided ignore l none in
    let before : s.names ≡ [] =
    ap (λ (g : Groups). g.names) e ∙ ap named_groups (nil_from_length (numbered_openings_in ignore l) none) in
    let after : [] ≡ named_groups (numbered_openings_in false l) =
    sym (ap (λ m. map (λ t. (t, numbers t (numbered_openings_in false l))) (fold (insert_key name_cmp) [] m))
    (no_names ignore l none)) in
    λ i. record { total = total i; names = (before ∙ after) i }
