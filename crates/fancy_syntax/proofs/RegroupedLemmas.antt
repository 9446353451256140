-- What the resolver makes of a tree whose groups are decided is what it makes of the raw tree.
use Rattle.std.proofs.Common.{◌≡◌, ℕ, suc, ◌+◌, Bool, true, false, not, ◌&&◌, ◌||◌, List, [], ◌∷◌, ◌++◌, Option, Some, None, length}
use Rattle.std.proofs.Common.{refl, sym, ap, ap₂, ◌∙◌, arith, if◌then◌else◌}
use Rattle.std.specs.List.{AllByRecursion}
use Rattle.std.proofs.lemmas.List.Folds.{list_any-append}
use Rattle.fancy_lex.specs.Text.{Text}
use Rattle.fancy_grammar.specs.Ranks.{is_counted}
use Rattle.fancy_grammar.specs.Items.{Item, opening, items, items_all, openings_in}
use Rattle.fancy_grammar.specs.Label as label
use Rattle.fancy_grammar.specs.Preorder.{preorder, preorder_all}
use Rattle.fancy_grammar.specs.Tree.{Tree, leaf, over, row, Trees, no_trees, more_trees, group}
use Rattle.fancy_grammar.specs.Walk.{Scope, Progress, nothing_recorded, progress_after, record_item, resolved_by}
use Rattle.fancy_grammar.specs.Walk.{all_resolved_by}
use Rattle.fancy_grammar.proofs.ItemLemmas.{counted, length_openings}
use Rattle.fancy_grammar.proofs.TreeLaws.{IsReadNode}
use Rattle.fancy_syntax.specs.Decided.{decided, decided_all}
use Rattle.fancy_syntax.specs.Found.{has_unresolved, is_unresolved}
use Rattle.fancy_syntax.specs.Regrouped.{regrouped, regrouped_all, is_settled, all_settled}
use Rattle.fancy_syntax.proofs.WalkLemmas.{recorded_append, recorded_passed}

-- a group with a name has a number
pub named_counted : (named : Bool) (t : Text) → is_counted named (Some t) ≡ true
named_counted true t = refl
named_counted false t = refl

-- a group that is decided to have a number has one
pub still_counted : (ignore any named : Bool) (name : Option Text) → named ≡ (ignore && any) →
    is_counted ignore name ≡ true → is_counted named name ≡ true
still_counted ignore any named (Some t) e h = named_counted named t
still_counted false any named None e h = rw e refl
still_counted true any named None e h = absurd cc

both : (a b : Bool) → (a && b) ≡ true → (a ≡ true) × (b ≡ true)
both true b e = (refl, e)
both false b e = absurd cc

neither : (a b : Bool) → (a || b) ≡ false → (a ≡ false) × (b ≡ false)
neither true b e = absurd cc
neither false b e = (refl, e)

-- ---- a tree in which nothing is left to resolve

mutual
  pub settled_same : (k : Scope) (t : Tree) → is_settled t ≡ true → (c : ℕ) → resolved_by k c (regrouped t) ≡ t
  settled_same k (over label.group t) h c = rw (named_counted k.named []) (ap group (settled_same k t h (c + 1)))
  settled_same k (over (label.ast_group name reach) t) h c = absurd cc
  settled_same k (leaf (label.ast_node r reach)) h c = absurd cc
  settled_same k (leaf l) h c = refl
  settled_same k (over w t) h c = ap (over w) (settled_same k t h c)
  settled_same k (row r ts) h c = ap (row r) (all_same k ts h c)

  all_same : (k : Scope) (ts : Trees) → all_settled ts ≡ true → (c : ℕ) → all_resolved_by k c (regrouped_all ts) ≡ ts
  all_same k no_trees h c = refl
  all_same k (more_trees t ts) h c =
      let (a, b) = both (is_settled t) (all_settled ts) h in
      ap₂ more_trees (settled_same k t a c) (all_same k ts b _)

-- a walk over it only passes groups
abbrev pub OnlyPasses : Scope → Progress → List Item → Type 0
OnlyPasses k s l = (n : ℕ) × (progress_after k s l ≡ record s { passed = n })

mutual
  pub settled_passes : (k : Scope) (s : Progress) (t : Tree) → is_settled t ≡ true →
      OnlyPasses k s (items (regrouped t))
  settled_passes k s (over label.group t) h =
      settled_passes k (record_item k s (opening (record { reach = 0; name = Some [] }))) t h
  settled_passes k s (over (label.ast_group name reach) t) h = absurd cc
  settled_passes k s (leaf (label.ast_node r reach)) h = absurd cc
  settled_passes k s (leaf l) h = (s.passed, refl)
  settled_passes k s (over w t) h = settled_passes k s t h
  settled_passes k s (row r ts) h = all_passes k s ts h

  all_passes : (k : Scope) (s : Progress) (ts : Trees) → all_settled ts ≡ true →
      OnlyPasses k s (items_all (regrouped_all ts))
  all_passes k s no_trees h = (s.passed, refl)
  all_passes k s (more_trees t ts) h =
      let (a, b) = both (is_settled t) (all_settled ts) h in
      let (m, e) = settled_passes k s t a in
      let (n, f) = all_passes k (record s { passed = m }) ts b in (
        n,
        recorded_append k s (items (regrouped t)) (items_all (regrouped_all ts))
            ∙ ap (λ p. progress_after k p (items_all (regrouped_all ts))) e ∙ f,
      )

-- that is so if no item is unresolved
mutual
  pub unresolved_none : (i : Bool) (t : Tree) → has_unresolved i (items t) ≡ false → is_settled (decided i t) ≡ true
  unresolved_none i (leaf (label.ast_node r reach)) h = absurd cc
  unresolved_none i (leaf l) h = refl
  unresolved_none i (over (label.ast_group name reach) t) h =
      by_test (is_counted i name) h (unresolved_none i t)
    where
      by_test : (b : Bool) → (not b || has_unresolved i (items t)) ≡ false →
          (has_unresolved i (items t) ≡ false → is_settled (decided i t) ≡ true) →
          is_settled (over (if b then label.group else label.ast_group name reach) (decided i t)) ≡ true
      by_test true h more = more h
      by_test false h more = absurd cc
  unresolved_none i (over w t) h = unresolved_none i t h
  unresolved_none i (row r ts) h = unresolved_all i ts h

  unresolved_all : (i : Bool) (ts : Trees) → has_unresolved i (items_all ts) ≡ false →
      all_settled (decided_all i ts) ≡ true
  unresolved_all i no_trees h = refl
  unresolved_all i (more_trees t ts) h =
      let (a, b) = neither (has_unresolved i (items t)) (has_unresolved i (items_all ts))
      (sym (list_any-append (is_unresolved i) (items t) (items_all ts)) ∙ h) in
      ap₂ (λ x y. x && y) (unresolved_none i t a) (unresolved_all i ts b)

-- ---- the same groups and references

split : (l m : List Tree) → AllByRecursion IsReadNode (l ++ m) → AllByRecursion IsReadNode l × AllByRecursion IsReadNode m
split [] m a = (tt, a)
split (t ∷ l) m a = let (x, y) = split l m a.1 in ((a.0, x), y)

-- as many openings
mutual
  pub same_openings : (i : Bool) (t : Tree) → AllByRecursion IsReadNode (preorder t) →
      length (openings_in (items (regrouped (decided i t)))) ≡ length (openings_in (items t))
  same_openings i (leaf l) a = refl
  same_openings i (over label.group t) a = absurd a.0
  same_openings i (over (label.ast_group name reach) t) a =
      by_test (is_counted i name) (ap suc (same_openings i t a.1))
    where
      by_test : (b : Bool) → suc (length (openings_in (items (regrouped (decided i t))))) ≡ suc (length (openings_in (items t))) →
          length (openings_in (items (regrouped (over (if b then label.group else label.ast_group name reach) (decided i t)))))
          ≡ suc (length (openings_in (items t)))
      by_test true e = e
      by_test false e = e
  same_openings i (over w t) a = same_openings i t a.1
  same_openings i (row r ts) a = all_openings i ts a.1

  all_openings : (i : Bool) (ts : Trees) → AllByRecursion IsReadNode (preorder_all ts) →
      length (openings_in (items_all (regrouped_all (decided_all i ts)))) ≡ length (openings_in (items_all ts))
  all_openings i no_trees a = refl
  all_openings i (more_trees t ts) a =
      let (x, y) = split (preorder t) (preorder_all ts) a in
      length_openings (items (regrouped (decided i t))) (items_all (regrouped_all (decided_all i ts)))
      ∙ ap₂ (λ m n. m + n) (same_openings i t x) (all_openings i ts y)
      ∙ sym (length_openings (items t) (items_all ts))

-- the resolver of the raw tree, of a text under flags of which one is this
module _ (i : Bool) (k : Scope) (still : (name : Option Text) → is_counted i name ≡ true → is_counted k.named name ≡ true)
  where
    mutual
      pub same_progress : (s : Progress) (t : Tree) → AllByRecursion IsReadNode (preorder t) →
          progress_after k s (items (regrouped (decided i t))) ≡ progress_after k s (items t)
      same_progress s (leaf l) a = refl
      same_progress s (over label.group t) a = absurd a.0
      same_progress s (over (label.ast_group name reach) t) a =
          by_test (is_counted i name) refl
          (λ p. same_progress p t a.1)
        where
          by_test : (b : Bool) → is_counted i name ≡ b →
              ((p : Progress) → progress_after k p (items (regrouped (decided i t))) ≡ progress_after k p (items t)) →
              progress_after k s (items (regrouped
              (over (if b then label.group else label.ast_group name reach) (decided i t))))
              ≡ progress_after k s (items (over (label.ast_group name reach) t))
          by_test true e more =
              ap (λ b. progress_after k (record s { passed = if b then s.passed + 1 else s.passed })
              (items (regrouped (decided i t)))) (named_counted k.named [] ∙ sym (still name e))
              ∙ more (record_item k s (opening (record { reach = reach; name = name })))
          by_test false e more = more (record_item k s (opening (record { reach = reach; name = name })))
      same_progress s (over w t) a = same_progress s t a.1
      same_progress s (row r ts) a = all_progress s ts a.1

      all_progress : (s : Progress) (ts : Trees) → AllByRecursion IsReadNode (preorder_all ts) →
          progress_after k s (items_all (regrouped_all (decided_all i ts))) ≡ progress_after k s (items_all ts)
      all_progress s no_trees a = refl
      all_progress s (more_trees t ts) a =
          let (x, y) = split (preorder t) (preorder_all ts) a in
          recorded_append k s (items (regrouped (decided i t))) (items_all (regrouped_all (decided_all i ts)))
          ∙ ap (λ p. progress_after k p (items_all (regrouped_all (decided_all i ts)))) (same_progress s t x)
          ∙ all_progress (progress_after k s (items t)) ts y
          ∙ sym (recorded_append k s (items t) (items_all ts))

    -- as many groups with a number
    same_counted : (t : Tree) → AllByRecursion IsReadNode (preorder t) →
        counted k.named (items (regrouped (decided i t))) ≡ counted k.named (items t)
    same_counted t a =
        omega (
          arith,
          recorded_passed k nothing_recorded _ (items (regrouped (decided i t))) refl,
          recorded_passed k nothing_recorded _ (items t) refl,
          ap (λ (p : Progress). p.passed) (same_progress nothing_recorded t a),
        )

    mutual
      pub same_resolved : (c : ℕ) (t : Tree) → AllByRecursion IsReadNode (preorder t) →
          resolved_by k c (regrouped (decided i t)) ≡ resolved_by k c t
      same_resolved c (leaf l) a = refl
      same_resolved c (over label.group t) a = absurd a.0
      same_resolved c (over (label.ast_group name reach) t) a =
          by_test (is_counted i name) refl (λ c. same_resolved c t a.1)
        where
          by_test : (b : Bool) → is_counted i name ≡ b →
              ((c : ℕ) → resolved_by k c (regrouped (decided i t)) ≡ resolved_by k c t) →
              resolved_by k c (regrouped (over (if b then label.group else label.ast_group name reach) (decided i t)))
              ≡ (if is_counted k.named name then group (resolved_by k (c + 1) t) else resolved_by k c t)
          by_test true e more =
              (λ j. if (named_counted k.named [] ∙ sym (still name e)) j then group (more (c + 1) j) else more c j)
          by_test false e more =
              (λ j. if is_counted k.named name then group (more (c + 1) j) else more c j)
      same_resolved c (over w t) a = ap (over w) (same_resolved c t a.1)
      same_resolved c (row r ts) a = ap (row r) (all_resolved c ts a.1)

      all_resolved : (c : ℕ) (ts : Trees) → AllByRecursion IsReadNode (preorder_all ts) →
          all_resolved_by k c (regrouped_all (decided_all i ts)) ≡ all_resolved_by k c ts
      all_resolved c no_trees a = refl
      all_resolved c (more_trees t ts) a =
          let (x, y) = split (preorder t) (preorder_all ts) a in
          ap₂ more_trees (same_resolved c t x)
          (ap (λ n. all_resolved_by k (c + n) (regrouped_all (decided_all i ts))) (same_counted t x)
          ∙ all_resolved (c + counted k.named (items t)) ts y)
