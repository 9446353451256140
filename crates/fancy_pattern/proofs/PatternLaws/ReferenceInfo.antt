-- The group information that says how the references of a tree are written.
use Rattle.std.proofs.Common.{◌≡◌, ℕ, ◌+◌, ◌||◌, Bool, true, false, List, [], ◌∷◌, Option, Some, None, refl, sym}
use Rattle.std.proofs.Common.{ap, ap₂, ◌∙◌, subst, if◌then◌else◌}
use Rattle.std.specs.List.{AllByRecursion, list_any}
use Rattle.fancy_lex.specs.Located.{Located}
use Rattle.fancy_lex.specs.Text.{Text, bytes, position_at}
use Rattle.fancy_lex.specs.declared.flags.Flags.{Flags}
use Rattle.fancy_lex.proofs.LeaveLaws.{ends_whole}
use Rattle.fancy_grammar.specs.Meaning.{Meaning, number, unresolved, invalid, refers_to, error_or}
use Rattle.fancy_grammar.specs.Ranks.{is_counted, only_named}
use Rattle.fancy_grammar.specs.Written.{is_numeric}
use Rattle.fancy_grammar.specs.Grammar.{DerivesTree}
use Rattle.fancy_grammar.specs.Items.{Item, opening, reference, openings, meanings_in, numbers_in}
use Rattle.fancy_grammar.specs.Items.{items, MeantReference, meanings, role_of, target_of}
use Rattle.fancy_grammar.specs.Label as label
use Rattle.fancy_grammar.specs.Label.{AstReference, Leaf, Wrap, Row, ast_backref, ast_call, ast_condition}
use Rattle.fancy_grammar.specs.GroupInfo.{GroupInfo, is_call_of_all}
use Rattle.fancy_grammar.specs.Preorder.{preorder}
use Rattle.fancy_grammar.specs.Resolved.{reference_node, resolved, first_error}
use Rattle.fancy_grammar.specs.Tree.{Tree, leaf, over, row, Trees, ast_node, ast_group}
use Rattle.fancy_grammar.proofs.Writable.{is_numbered, is_numbered_call_of_all}
use Rattle.fancy_pattern.proofs.PatternLaws.Becomes.{AreGroups, count_after, AgreesWithInfo, RefersToGroup, info_meaning}
use Rattle.fancy_pattern.proofs.PatternLaws.Becomes.{info_numbers}
use Rattle.fancy_grammar.proofs.PreorderLaws.{kept, kept_if, resolved_nodes, items_of_all, items_of_nodes}
use Rattle.fancy_grammar.proofs.ReadLaws.{derived_read}
use Rattle.fancy_grammar.proofs.TreeLaws.{IsReadNode}

-- ---- among references to groups

no_error : (m : Meaning) (p : ℕ) (o : Option Located) → RefersToGroup m → error_or m p o ≡ o
no_error (number n) p o h = refl
no_error unresolved p o h = refl
no_error (invalid k) p o h = absurd h

-- the reference at the reach with this meaning
abbrev meant : AstReference → ℕ → Meaning → MeantReference
meant r p m = record { reference = r; reach = p; meaning = m }

module _ (μ : GroupInfo) (s : Text) (numbers_of : Text → List ℕ) (e : (w : Text) → numbers_of w ≡ info_numbers μ w) where
  abbrev meanings_here : ℕ → List Item → List MeantReference
  meanings_here = meanings_in μ.numbered_groups_ignored numbers_of

  -- what a reference means
  meaning_is : (c : ℕ) (r : AstReference) → refers_to numbers_of c (role_of r) (target_of r) ≡ info_meaning μ c r
  meaning_is c r = λ i. refers_to (λ w. e w i) c (role_of r) (target_of r)

  pub none_invalid : (c : ℕ) (l : List Item) → AreGroups μ s c l → first_error (meanings_here c l) ≡ None
  none_invalid c [] h = refl
  none_invalid c (opening o ∷ l) h = none_invalid (count_after μ c o) l h.1
  none_invalid c (reference r p ∷ l) h =
      ap (λ m. error_or m p (first_error (meanings_here c l))) (meaning_is c r)
      ∙ (no_error (info_meaning μ c r) p _ h.0 ∙ none_invalid c l h.2)

  -- some reference is of the one kind exactly if some is of the other
  same_such : (a b : MeantReference → Bool) →
      ((r : AstReference) (p : ℕ) (m : Meaning) → AgreesWithInfo μ s r m p → a (meant r p m) ≡ b (meant r p m)) →
      (c : ℕ) (l : List Item) → AreGroups μ s c l → list_any a (meanings_here c l) ≡ list_any b (meanings_here c l)
  same_such a b same c [] h = refl
  same_such a b same c (opening o ∷ l) h = same_such a b same (count_after μ c o) l h.1
  same_such a b same c (reference r p ∷ l) h =
      ap₂ (λ x y. x || y)
      (subst (λ m. a (meant r p m) ≡ b (meant r p m)) (sym (meaning_is c r)) (same r p (info_meaning μ c r) h.1))
      (same_such a b same c l h.2)

-- ---- nodes of a kind that resolving references determines

module _ (such : Tree → Bool) (leaves : (l : Leaf) → IsReadNode (leaf l) → such (leaf l) ≡ false)
    (wraps : (w : Wrap) (t : Tree) → such (over w t) ≡ false)
    (rows : (w : Row) (ts : Trees) → such (row w ts) ≡ false) where
  -- the kind of the node that the reference becomes
  abbrev kind_of : MeantReference → Bool
  kind_of x = such (reference_node 0 x.meaning x.reference 0)

  positioned : (z : ℕ) (m : Meaning) (r : AstReference) (p : ℕ) →
      such (reference_node z m r p) ≡ such (reference_node 0 m r 0)
  positioned z (number n) (ast_backref t casei None) p = refl
  positioned z (number n) (ast_backref t casei (Some level)) p = refl
  positioned z (number n) (ast_call t) p = refl
  positioned z (number n) (ast_condition t level) p = refl
  positioned z unresolved (ast_backref t casei level) p = leaves _ tt ∙ sym (leaves _ tt)
  positioned z unresolved (ast_call t) p = leaves _ tt ∙ sym (leaves _ tt)
  positioned z unresolved (ast_condition t level) p = leaves _ tt ∙ sym (leaves _ tt)
  positioned z (invalid k) (ast_backref t casei level) p = leaves _ tt ∙ sym (leaves _ tt)
  positioned z (invalid k) (ast_call t) p = leaves _ tt ∙ sym (leaves _ tt)
  positioned z (invalid k) (ast_condition t level) p = leaves _ tt ∙ sym (leaves _ tt)

  module _ (z : ℕ) (named : Bool) (numbers_of : Text → List ℕ) where
    any_kept : (c : ℕ) (l : List Tree) → AllByRecursion IsReadNode l →
        list_any such (kept z named numbers_of c l)
        ≡ list_any kind_of (meanings_in named numbers_of c (items_of_all l))
    any_kept c [] h = refl
    any_kept c (ast_group name position t ∷ l) h =
        elim (is_counted named name) as (λ b. list_any such (kept_if z named numbers_of b c t l)
        ≡ list_any kind_of (meanings_in named numbers_of (if b then c + 1 else c) (items_of_all l))) [
          | true ↦ ap (λ b. b || list_any such (kept z named numbers_of (c + 1) l)) (wraps label.group _)
              ∙ any_kept (c + 1) l h.1
          | false ↦ any_kept c l h.1
        ]
    any_kept c (ast_node r position ∷ l) h =
        ap₂ (λ a b. a || b) (positioned z (refers_to numbers_of c (role_of r) (target_of r)) r position) (any_kept c l h.1)
    any_kept c (leaf x ∷ l) h =
        ap (λ b. b || list_any such (kept z named numbers_of c l)) (leaves x h.0) ∙ any_kept c l h.1
    any_kept c (over w t ∷ l) h =
        ap (λ b. b || list_any such (kept z named numbers_of c l)) (wraps w _) ∙ any_kept c l h.1
    any_kept c (row w ts ∷ l) h =
        ap (λ b. b || list_any such (kept z named numbers_of c l)) (rows w _) ∙ any_kept c l h.1

  any_resolved : (f : Flags) (text : Text) (r : Tree) → DerivesTree f text r →
      list_any kind_of (meanings f r) ≡ list_any such (preorder (resolved f (bytes text) r))
  any_resolved f text r d =
      let named = only_named f (openings r) in
      ap (λ l. list_any kind_of (meanings_in named (numbers_in f r) 0 l)) (items_of_nodes r)
      ∙ (sym (any_kept (bytes text) named (numbers_in f r) 0 (preorder r) (derived_read d.1))
      ∙ ap (list_any such) (sym (resolved_nodes (bytes text) named (numbers_in f r) 0 r)))

numbered_leaf : (μ : GroupInfo) (l : Leaf) → IsReadNode (leaf l) → is_numbered μ (leaf l) ≡ false
numbered_leaf μ (label.backref n casei) h = absurd h
numbered_leaf μ (label.subroutine_call n) h = absurd h
numbered_leaf μ _ h = refl

of_all_leaf : (μ : GroupInfo) (l : Leaf) → IsReadNode (leaf l) → is_numbered_call_of_all μ (leaf l) ≡ false
of_all_leaf μ (label.subroutine_call n) h = absurd h
of_all_leaf μ _ h = refl

-- ---- the two fields of the group information

module _ (μ : GroupInfo) (f : Flags) (text : Text) (r : Tree) (d : DerivesTree f text r)
    (ignored : only_named f (openings r) ≡ μ.numbered_groups_ignored)
    (e : (w : Text) → numbers_in f r w ≡ info_numbers μ w) (groups : AreGroups μ text 0 (items r)) where
  abbrev tree : Tree
  tree = resolved f (bytes text) r

  info_same : (a b : MeantReference → Bool) →
      ((r : AstReference) (p : ℕ) (m : Meaning) → AgreesWithInfo μ text r m p → a (meant r p m) ≡ b (meant r p m)) →
      list_any a (meanings f r) ≡ list_any b (meanings f r)
  info_same a b same =
      subst (λ n. list_any a (meanings_in n (numbers_in f r) 0 (items r))
      ≡ list_any b (meanings_in n (numbers_in f r) 0 (items r))) (sym ignored)
      (same_such μ text (numbers_in f r) e a b same 0 (items r) groups)

  -- whether the reference is written with a number, and whether it is a call of all
  abbrev is_written : MeantReference → Bool
  is_written x = is_numeric text (position_at (bytes text) x.reach) (role_of x.reference) (target_of x.reference)

  abbrev is_of_all : MeantReference → Bool
  is_of_all x = is_call_of_all (role_of x.reference) (target_of x.reference)

  -- some reference is written with a number
  pub info_numeric : list_any is_written (meanings f r) ≡ list_any (is_numbered μ) (preorder tree)
  info_numeric =
      info_same is_written (λ x. is_numbered μ (reference_node 0 x.meaning x.reference 0))
      (λ r p m k. k.numeric text (ends_whole text))
      ∙ any_resolved (is_numbered μ) (numbered_leaf μ) (λ w t. refl) (λ w ts. refl) f text r d

  -- some call is a call of all
  pub info_of_all : list_any is_of_all (meanings f r) ≡ list_any (is_numbered_call_of_all μ) (preorder tree)
  info_of_all =
      info_same is_of_all (λ x. is_numbered_call_of_all μ (reference_node 0 x.meaning x.reference 0)) (λ r p m k. k.of_all)
      ∙ any_resolved (is_numbered_call_of_all μ) (of_all_leaf μ) (λ w t. refl) (λ w ts. refl) f text r d
