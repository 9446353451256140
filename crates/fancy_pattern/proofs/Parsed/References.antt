-- What references resolve to can be written, and the group information says how.
use Rattle.std.proofs.Common.{◌≡◌, ℕ, zero, suc, ◌+◌, ◌-◌, ◌<◌, ◌≤◌, ◌^◌, Bool, true, false, ◌||◌}
use Rattle.std.proofs.Common.{if◌then◌else◌, List, [], ◌∷◌, ◌++◌, length, Option, Some, None, IfSome, nat_le}
use Rattle.std.proofs.Common.{ℤ, pos, negsuc, refl, sym, ap, ◌∙◌, subst, arith}
use Rattle.std.proofs.lemmas.Bool.{cond_both}
use Rattle.std.proofs.lemmas.Bool.Decides.{nat_tests}
use Rattle.std.specs.List.{AllByRecursion}
use Rattle.std.specs.Prelude.{slice_get}
use Rattle.fancy_lex.specs.EscapeReference.{is_relative}
use Rattle.fancy_lex.specs.IdReference.{amount_bound}
use Rattle.fancy_lex.specs.NumberText.{number_text}
use Rattle.fancy_lex.specs.Target.{Target, by_number, by_name, relative}
use Rattle.fancy_lex.specs.Text.{Text}
use Rattle.fancy_lex.specs.declared.flags.Flags.{Flags}
use Rattle.fancy_grammar.specs.Meaning.{Meaning, number, unresolved, invalid, refers_to, last_of, only_one, at_distance}
use Rattle.fancy_grammar.specs.Meaning.{back_to}
use Rattle.fancy_grammar.specs.Meaning.{call, back_reference, condition, group_or_none, no_group, Role}
use Rattle.fancy_grammar.specs.Ranks.{Opening, is_counted, numbered_openings_in, numbers}
use Rattle.fancy_grammar.specs.ParsedTree.{IsParsedTreeNode, AscendingNumbers}
use Rattle.fancy_grammar.specs.Items.{Item, opening, reference, items, items_all, openings_in, role_of}
use Rattle.fancy_grammar.specs.Items.{target_of}
use Rattle.fancy_grammar.specs.Label as label
use Rattle.fancy_grammar.specs.Label.{Leaf, AstReference, ast_backref, ast_call, ast_condition}
use Rattle.fancy_grammar.specs.GroupInfo.{GroupInfo}
use Rattle.fancy_grammar.specs.Pattern.{group_count, group_count_all}
use Rattle.fancy_grammar.specs.Preorder.{preorder, preorder_all}
use Rattle.fancy_grammar.specs.Resolved.{resolved_in, resolved_all, reference_node}
use Rattle.fancy_grammar.specs.Tree.{Tree, leaf, over, row, Trees, no_trees, more_trees, group, ast_node, ast_group}
use Rattle.fancy_grammar.proofs.Ordered.{DescendingReaches, reach_of_item}
use Rattle.fancy_grammar.proofs.Writable.{IsWritableLeaf, IsCallWritable, IsLevelWritable, IsCalledName, IsCalledTarget}
use Rattle.fancy_grammar.proofs.Writable.{info_numbers, is_called_by_number}
use Rattle.fancy_grammar.proofs.ItemLemmas.{openings_append, counted}
use Rattle.fancy_grammar.proofs.NamedNumbers.{ascend_from}
use Rattle.fancy_grammar.proofs.TreeLaws.{IsReadNode}
use Rattle.fancy_pattern.proofs.Parsed.Lists.{each_split, length_filtered}
use Rattle.fancy_pattern.proofs.Parsed.Nodes.{IsParsedNode, IsAstRead}
use Rattle.fancy_pattern.proofs.Parsed.Targets.{IsCallRead, IsTargetRead, IsCalledBy, between, in_parens, IsWord}

-- ---- numbers

-- a number of one of this many openings
abbrev pub IsNumberOf : ℕ → ℕ → Type 0
IsNumberOf total n = (0 < n) × (n ≤ total)

each_number : (k n : ℕ) (l : List ℕ) → AscendingNumbers k n l → AllByRecursion (λ m. (k < m) × (m ≤ n)) l
each_number k n [] h = tt
each_number k n (m ∷ l) (a, b, c) = ((a, b), later k m n l a (each_number m n l c))
  where
    later : (k m n : ℕ) (l : List ℕ) → k < m → AllByRecursion (λ j. (m < j) × (j ≤ n)) l →
        AllByRecursion (λ j. (k < j) × (j ≤ n)) l
    later k m n [] a h = tt
    later k m n (j ∷ l) a h = ((omega (arith, a, h.0.0), h.0.1), later k m n l a h.1)

-- the numbers of a name are among those of the groups
pub each_numbered : (w : Text) (l : List Opening) → AllByRecursion (IsNumberOf (length l)) (numbers w l)
each_numbered w l =
    let same : 0 + length l ≡ length l = omega arith in
    subst (λ m. AllByRecursion (λ n. (0 < n) × (n ≤ m)) (numbers w l)) same
    (each_number 0 (0 + length l) (numbers w l) (ascend_from 0 w l))

got : {A : Type 0} (P : A → Type 0) (l : List A) (k : ℕ) → AllByRecursion P l → IfSome (slice_get l k) P
got P [] k h = tt
got P (x ∷ l) zero h = h.0
got P (x ∷ l) (suc k) h = got P l k h.1

-- ---- there are no more items than bytes of the text

fewer_items : (high low : ℕ) (l : List Item) → DescendingReaches high low l → length l + low ≤ high
fewer_items high low [] h = omega (arith, h)
fewer_items high low (i ∷ l) h = omega (arith, h.0, fewer_items (reach_of_item i) low l h.1)

fewer_openings : (l : List Item) → length (openings_in l) ≤ length l
fewer_openings [] = omega arith
fewer_openings (opening o ∷ l) = omega (arith, fewer_openings l)
fewer_openings (reference r p ∷ l) = omega (arith, fewer_openings l)

fewer_numbered : (named : Bool) (l : List Opening) → length (numbered_openings_in named l) ≤ length l
fewer_numbered named [] = omega arith
fewer_numbered named (o ∷ l) = by_test (is_counted named o.name) (fewer_numbered named l)
  where
    by_test : (b : Bool) → length (numbered_openings_in named l) ≤ length l →
        length (if b then o ∷ numbered_openings_in named l else numbered_openings_in named l) ≤ length (o ∷ l)
    by_test true h = omega (arith, h)
    by_test false h = omega (arith, h)

pub groups_fit : (named : Bool) (n : ℕ) (l : List Item) → DescendingReaches (n + 2) 2 l →
    length (numbered_openings_in named (openings_in l)) ≤ n
groups_fit named n l h =
    omega (arith, fewer_numbered named (openings_in l), fewer_openings l, fewer_items (n + 2) 2 l h)

counted_append : (named : Bool) (a b : List Item) → counted named (a ++ b) ≡ counted named a + counted named b
counted_append named a b =
    ap (λ l. length (numbered_openings_in named l)) (openings_append a b)
    ∙ length_filtered (λ (o : Opening). is_counted named o.name) (openings_in a) (openings_in b)

-- ---- what a leaf resolves to

-- a reference may resolve to it
abbrev pub is_reference : Leaf → Bool
is_reference (label.backref n casei) = true
is_reference (label.backref_at_level n level casei) = true
is_reference (label.backref_exists n level) = true
is_reference (label.subroutine_call n) = true
is_reference (label.ast_node r position) = true
is_reference _ = false

abbrev pub Where : Bool → Type 0 → Type 0
Where true P = P
Where false P = Unit {0}

abbrev mutual
  -- after the openings of c groups, what references resolve to can be written
  pub AreReferencesWritable : Flags → GroupInfo → ℕ → Tree → Type 0
  AreReferencesWritable f m c (leaf l) = Where (is_reference l) (IsWritableLeaf f m c l)
  AreReferencesWritable f m c (over label.group t) = AreReferencesWritable f m (c + 1) t
  AreReferencesWritable f m c (over w t) = AreReferencesWritable f m c t
  AreReferencesWritable f m c (row r ts) = AreAllReferencesWritable f m c ts

  pub AreAllReferencesWritable : Flags → GroupInfo → ℕ → Trees → Type 0
  AreAllReferencesWritable f m c no_trees = Unit {0}
  AreAllReferencesWritable f m c (more_trees t ts) =
      AreReferencesWritable f m c t × AreAllReferencesWritable f m (c + group_count t) ts

-- a call with a number is written with it
abbrev pub IsNumericNode : GroupInfo → Tree → Type 0
IsNumericNode m (leaf (label.ast_node (ast_call (by_number n)) p)) = is_called_by_number m n ≡ true
IsNumericNode m _ = Unit {0}

call_by_either : (b : Bool) (c n : ℕ) → n < 2 ^ 64 → n - c < amount_bound → c + 1 - n < amount_bound →
    IsCallWritable b c n
call_by_either true c n h i j = h
call_by_either false c n h i j = (i, j)

-- a name that no group has
called_name : (w : Text) → number_text w ≡ None → IsCalledBy w → IsCalledName w
called_name [] e (between r h) = absurd h
called_name [] e (in_parens h) = absurd h
called_name (c ∷ w) e (between r h) = (e, λ k. absurd-here (sym (by_both (is_relative (c ∷ w)) _ r h) ∙ k))
  where
    by_both : (a b : Bool) → a ≡ false → b ≡ false → (a || b) ≡ false
    by_both false b e h = h
    by_both true b e h = absurd cc

    absurd-here : {A : Type 0} → false ≡ true → A
    absurd-here e = absurd cc
called_name (c ∷ w) e (in_parens h) = (e, λ k. h)

module _ (f : Flags) (m : GroupInfo) (text : Text) (z : ℕ) (named : Bool) (u : Text → List ℕ) (total : ℕ)
    (small : total < 2 ^ 63) (among : (w : Text) → AllByRecursion (IsNumberOf total) (u w))
    (same : (w : Text) → info_numbers m w ≡ u w) where
  abbrev there : ℕ → Tree → Tree
  there = resolved_in z named u

  abbrev ParsedTree : Tree → Type 0
  ParsedTree x = AllByRecursion IsParsedTreeNode (preorder x)

  -- the node that the reference resolves to can be written
  abbrev Comes : ℕ → Meaning → AstReference → ℕ → Type 0
  Comes c k r p =
      ParsedTree (reference_node z k r p) → AreReferencesWritable f m c (reference_node z k r p)

  -- ---- back references and conditions

  -- a number that fits in a word, with the level
  back_comes : (c n p : ℕ) (t : Target) (casei : Bool) (level : Option ℤ) → n < 2 ^ 64 → IfSome level IsLevelWritable →
      Comes c (number n) (ast_backref t casei level) p
  back_comes c n p t casei None h l a = h
  back_comes c n p t casei (Some y) h l a = (h, l)

  condition_comes : (c n p : ℕ) (t : Target) (level : Option ℤ) → n < 2 ^ 64 → IfSome level IsLevelWritable →
      Comes c (number n) (ast_condition t level) p
  condition_comes c n p t level h l a = (h, l)

  -- the number of a meaning, if it is one
  abbrev IfNumber : (ℕ → Type 0) → Meaning → Type 0
  IfNumber P (number n) = P n
  IfNumber P _ = Unit {0}

  last_number : (w : Text) → IfSome (last_of (u w)) (IsNumberOf total)
  last_number w = got (IsNumberOf total) (u w) (length (u w) - 1) (among w)

  distance_word : (c : ℕ) (y : ℤ) → c ≤ total → IsLevelWritable y → IfSome (at_distance c y) (λ n. n < 2 ^ 64)
  distance_word c (pos k) h l = omega (arith, small, h, l)
  distance_word c (negsuc k) h l =
      cond_both (nat_le k c) _ _ (λ o. IfSome o (λ n. n < 2 ^ 64)) (λ _. omega (arith, small, h)) (λ _. tt)

  group_word : (role : Role) (o : Option ℕ) → IfNumber IsWord (no_group role) → IfSome o IsWord →
      IfNumber IsWord (group_or_none role o)
  group_word role None e h = e
  group_word role (Some n) e h = h

  number_word : (n : ℕ) → IsNumberOf total n → n < 2 ^ 64
  number_word n h = omega (arith, small, h.1)

  some_word : (o : Option ℕ) → IfSome o (IsNumberOf total) → IfSome o IsWord
  some_word None h = tt
  some_word (Some n) h = number_word n h

  back_word : (c : ℕ) (w : Text) (o : Option ℕ) → IfSome o IsWord → IfNumber IsWord (back_to c w o)
  back_word c w None h = tt
  back_word c w (Some n) h = cond_both (nat_le n c) _ _ (IfNumber IsWord) (λ _. h) (λ _. tt)

  back_meaning : (c : ℕ) (t : Target) → c ≤ total → IsTargetRead t → IfNumber IsWord (refers_to u c back_reference t)
  back_meaning c (by_number n) h k = k
  back_meaning c (by_name w) h k = back_word c w (last_of (u w)) (some_word (last_of (u w)) (last_number w))
  back_meaning c (relative y) h k = group_word back_reference (at_distance c y) tt (distance_word c y h k)

  condition_meaning : (c : ℕ) (t : Target) → c ≤ total → IsTargetRead t → IfNumber IsWord (refers_to u c condition t)
  condition_meaning c (by_number n) h k = k
  condition_meaning c (by_name w) h k =
      group_word condition (last_of (u w)) tt (some_word (last_of (u w)) (last_number w))
  condition_meaning c (relative y) h k = group_word condition (at_distance c y) tt (distance_word c y h k)

  by_back : (c p : ℕ) (k : Meaning) (t : Target) (casei : Bool) (level : Option ℤ) → IfNumber IsWord k →
      IfSome level IsLevelWritable → Comes c k (ast_backref t casei level) p
  by_back c p (number n) t casei level h l a = back_comes c n p t casei level h l a
  by_back c p unresolved t casei level h l a = absurd cc
  by_back c p (invalid j) t casei level h l a = absurd cc

  by_condition : (c p : ℕ) (k : Meaning) (t : Target) (level : Option ℤ) → IfNumber IsWord k →
      IfSome level IsLevelWritable → Comes c k (ast_condition t level) p
  by_condition c p (number n) t level h l a = (h, l)
  by_condition c p unresolved t level h l a = absurd cc
  by_condition c p (invalid j) t level h l a = absurd cc

  -- ---- calls

  -- a call refers to a group that is near enough, or to none
  abbrev IsNear : ℕ → ℕ → Type 0
  IsNear c n = (n < 2 ^ 64) × (n - c < amount_bound) × (c + 1 - n < amount_bound)

  near_word : (b : Bool) (c n : ℕ) → IsNear c n → IsCallWritable b c n
  near_word b c n h = call_by_either b c n h.0 h.1 h.2

  near_number : (c n : ℕ) → c ≤ total → IsNumberOf total n → IsNear c n
  near_number c n h k =
      (omega (arith, small, k.1), omega (arith, small, k.1), omega (arith, small, h, k.0))

  near_distance : (c : ℕ) (y : ℤ) → c ≤ total → IsLevelWritable y → IfSome (at_distance c y) (IsNear c)
  near_distance c (pos k) h l = (omega (arith, small, h, l), omega (arith, l), omega arith)
  near_distance c (negsuc k) h l =
      cond_both (nat_le k c) _ _ (λ o. IfSome o (IsNear c))
      (λ e. let less : k ≤ c = grind (arith, nat_tests, e) in
      (omega (arith, small, h), omega (arith, less), omega (arith, less, l))) (λ _. tt)

  -- what it means by the group information
  refers_so : (c : ℕ) (t : Target) → refers_to (info_numbers m) c call t ≡ refers_to u c call t
  refers_so c t = λ i. refers_to (λ w. same w i) c call t

  call_comes : (c p : ℕ) (k : Meaning) (t : Target) → refers_to u c call t ≡ k → IfNumber (IsNear c) k → IsCalledTarget t →
      Comes c k (ast_call t) p
  call_comes c p (number n) t e h i a = near_word (is_called_by_number m n) c n h
  call_comes c p unresolved t e h i a = (i, refers_so c t ∙ e)
  call_comes c p (invalid j) t e h i a = absurd-call t e
    where
      none_invalid : (l : List ℕ) → only_one l ≡ invalid j → ⊥
      none_invalid [] e = cc
      none_invalid (n ∷ []) e = cc
      none_invalid (n ∷ o ∷ l) e = cc

      distance_invalid : (o : Option ℕ) → group_or_none call o ≡ invalid j → ⊥
      distance_invalid None e = cc
      distance_invalid (Some n) e = cc

      absurd-call : {A : Type 0} (t : Target) → refers_to u c call t ≡ invalid j → A
      absurd-call (by_number n) e = absurd cc
      absurd-call (by_name w) e = absurd (none_invalid (u w) e)
      absurd-call (relative y) e = absurd (distance_invalid (at_distance c y) e)

  near_one : (c : ℕ) (l : List ℕ) → c ≤ total → AllByRecursion (IsNumberOf total) l → IfNumber (IsNear c) (only_one l)
  near_one c [] h k = tt
  near_one c (n ∷ []) h k = near_number c n h k.0
  near_one c (n ∷ o ∷ l) h k = tt

  near_group : (c : ℕ) (o : Option ℕ) → IfSome o (IsNear c) → IfNumber (IsNear c) (group_or_none call o)
  near_group c None h = tt
  near_group c (Some n) h = h

  by_call : (c p : ℕ) (t : Target) → c ≤ total → IsCallRead t → IsNumericNode m (ast_node (ast_call t) p) →
      Comes c (refers_to u c call t) (ast_call t) p
  by_call c p (by_number n) h k b a = subst (λ q. IsCallWritable q c n) (sym b) k
  by_call c p (by_name w) h k b a =
      call_comes c p (refers_to u c call (by_name w)) (by_name w) refl (near_one c (u w) h (among w))
      (called_name w k.0 k.1) a
  by_call c p (relative y) h k b a =
      call_comes c p (refers_to u c call (relative y)) (relative y) refl
      (near_group c (at_distance c y) (near_distance c y h k)) k a

  -- ---- trees

  reference_met : (c : ℕ) (r : AstReference) (p : ℕ) → c ≤ total → IsAstRead text r p →
      IsNumericNode m (ast_node r p) → ParsedTree (there c (ast_node r p)) →
      AreReferencesWritable f m c (there c (ast_node r p))
  reference_met c (ast_backref t casei level) p h k b a =
      by_back c p (refers_to u c back_reference t) t casei level (back_meaning c t h k.0) k.1 a
  reference_met c (ast_call t) p h k b a = by_call c p t h k b a
  reference_met c (ast_condition t level) p h k b a =
      by_condition c p (refers_to u c condition t) t level (condition_meaning c t h k.0) k.1 a

  reference_count : (k : Meaning) (r : AstReference) (p : ℕ) → group_count (reference_node z k r p) ≡ 0
  reference_count (number n) (ast_backref t casei None) p = refl
  reference_count (number n) (ast_backref t casei (Some level)) p = refl
  reference_count (number n) (ast_call t) p = refl
  reference_count (number n) (ast_condition t level) p = refl
  reference_count unresolved r p = refl
  reference_count (invalid j) r p = refl

  -- it has as many groups as have a number
  mutual
    count_there : (c : ℕ) (r : Tree) → AllByRecursion IsReadNode (preorder r) →
        group_count (there c r) ≡ counted named (items r)
    count_there c (ast_group name p t) h =
        let o : Opening = record { reach = p; name = name } in
        let l = numbered_openings_in named (openings_in (items t)) in
        elim (is_counted named name) as (λ b. group_count (if b then group (there (c + 1) t) else there c t)
        ≡ length (if b then o ∷ l else l)) [
          | true ↦ omega (arith, count_there (c + 1) t h.1)
          | false ↦ count_there c t h.1
        ]
    count_there c (ast_node r p) h = reference_count (refers_to u c (role_of r) (target_of r)) r p
    count_there c (leaf l) h = refl
    count_there c (over label.group t) h = absurd h.0
    count_there c (over _ t) h = count_there c t h.1
    count_there c (row r ts) h = count_all_there c ts h.1

    count_all_there : (c : ℕ) (ts : Trees) → AllByRecursion IsReadNode (preorder_all ts) →
        group_count_all (resolved_all z named u c ts) ≡ counted named (items_all ts)
    count_all_there c no_trees h = refl
    count_all_there c (more_trees t ts) h =
        let (a, b) = each_split IsReadNode (preorder t) (preorder_all ts) h in
        let k = c + counted named (items t) in
        let both = counted_append named (items t) (items_all ts) in
        omega (arith, count_there c t a, count_all_there k ts b, both)

  mutual
    pub met : (c : ℕ) (r : Tree) → AllByRecursion (IsParsedNode f text) (preorder r) →
        AllByRecursion IsReadNode (preorder r) → AllByRecursion (IsNumericNode m) (preorder r) →
        ParsedTree (there c r) → c + counted named (items r) ≤ total → AreReferencesWritable f m c (there c r)
    met c (ast_group name p t) h i k a l =
        let o : Opening = record { reach = p; name = name } in
        let n = numbered_openings_in named (openings_in (items t)) in
        (elim (is_counted named name) as (λ b. ParsedTree (if b then group (there (c + 1) t) else there c t) →
        c + length (if b then o ∷ n else n) ≤ total →
        AreReferencesWritable f m c (if b then group (there (c + 1) t) else there c t)) [
          | true ↦ λ a l. met (c + 1) t h.1 i.1 k.1 a.1 (omega (arith, l))
          | false ↦ λ a l. met c t h.1 i.1 k.1 a l
        ]) a l
    met c (ast_node r p) h i k a l = reference_met c r p (omega (arith, l)) h.0 k.0 a
    met c (leaf (label.backref n casei)) h i k a l = absurd i.0
    met c (leaf (label.backref_at_level n level casei)) h i k a l = absurd i.0
    met c (leaf (label.backref_exists n level)) h i k a l = absurd i.0
    met c (leaf (label.subroutine_call n)) h i k a l = absurd i.0
    met c (leaf _) h i k a l = tt
    met c (over label.group t) h i k a l = absurd i.0
    met c (over _ t) h i k a l = met c t h.1 i.1 k.1 a.1 l
    met c (row r ts) h i k a l = all_met c ts h.1 i.1 k.1 a.1 l

    all_met : (c : ℕ) (ts : Trees) → AllByRecursion (IsParsedNode f text) (preorder_all ts) →
        AllByRecursion IsReadNode (preorder_all ts) → AllByRecursion (IsNumericNode m) (preorder_all ts) →
        AllByRecursion IsParsedTreeNode (preorder_all (resolved_all z named u c ts)) →
        c + counted named (items_all ts) ≤ total → AreAllReferencesWritable f m c (resolved_all z named u c ts)
    all_met c no_trees h i k a l = tt
    all_met c (more_trees t ts) h i k a l =
        let (h0, h1) = each_split (IsParsedNode f text) (preorder t) (preorder_all ts) h in
        let (i0, i1) = each_split IsReadNode (preorder t) (preorder_all ts) i in
        let (k0, k1) = each_split (IsNumericNode m) (preorder t) (preorder_all ts) k in
        let next = c + counted named (items t) in
        let (a0, a1) =
        each_split IsParsedTreeNode (preorder (there c t)) (preorder_all (resolved_all z named u next ts)) a in
        let both = counted_append named (items t) (items_all ts) in (
          met c t h0 i0 k0 a0 (omega (arith, l, both)),
          subst (λ n. AreAllReferencesWritable f m (c + n) (resolved_all z named u next ts)) (sym (count_there c t i0))
              (all_met next ts h1 i1 k1 a1 (omega (arith, l, both))),
        )
