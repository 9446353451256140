-- What is true of every parsed tree, by the nodes of the raw tree that it was resolved from.
use Rattle.std.proofs.Common.{◌≡◌, ℕ, suc, ◌+◌, ◌≤◌, ◌==◌, Bool, true, false, ◌||◌, if◌then◌else◌, List, [], ◌∷◌}
use Rattle.std.proofs.Common.{length, Option, Some, None, filter, filter_map, map, nat_le, nat_lt, refl, sym, ap}
use Rattle.std.proofs.Common.{◌∙◌, subst}
use Rattle.std.specs.List.{AllByRecursion, list_any}
use Rattle.std.proofs.lemmas.List.{length-map}
use Rattle.std.specs.Prelude.{find, slice_get}
use Rattle.fancy_lex.specs.Located.{Located, Kind, invalid_group_name_backref}
use Rattle.fancy_lex.specs.Target.{Target, by_number, by_name, relative}
use Rattle.fancy_lex.specs.Text.{Text, bytes}
use Rattle.fancy_lex.specs.declared.flags.Flags.{Flags}
use Rattle.fancy_grammar.specs.Meaning.{Meaning, number, unresolved, invalid, refers_to, back_to, last_of}
use Rattle.fancy_grammar.specs.Meaning.{group_or_none, no_group, at_distance, Role, back_reference, condition}
use Rattle.fancy_grammar.specs.Meaning.{error_or}
use Rattle.fancy_grammar.specs.Ranks.{Opening, is_counted, only_named, numbered_openings_in, numbered_openings}
use Rattle.fancy_grammar.specs.ParseResult.{IsTreeOf}
use Rattle.fancy_grammar.specs.ParsedTree.{IsParsedTreeNode, IsParsedTree, IsParsedTreeWith, AreNamed}
use Rattle.fancy_grammar.specs.ParsedTree.{is_group, groups}
use Rattle.fancy_grammar.specs.ParsedTree.{is_call_node, has_call, group_referred, groups_referred, numbered_in}
use Rattle.fancy_grammar.specs.ParsedTree.{numbered_groups, HasGroupsOf}
use Rattle.fancy_grammar.specs.Grammar.{DerivesTree}
use Rattle.fancy_grammar.specs.Items.{openings_in, openings, role_of, target_of, MeantReference, meanings_in, numbers_in}
use Rattle.fancy_grammar.specs.Items.{meanings}
use Rattle.fancy_grammar.specs.Label as label
use Rattle.fancy_grammar.specs.Label.{AstReference, ast_backref, ast_call, ast_condition}
use Rattle.fancy_grammar.specs.GroupInfo.{GroupInfo, group_info, is_call, back_number, back_numbers, ascending}
use Rattle.fancy_grammar.specs.Preorder.{preorder}
use Rattle.fancy_grammar.specs.Resolved.{resolved_in, resolved_all, reference_node, first_error}
use Rattle.fancy_grammar.specs.Tree.{Tree, leaf, over, row, Trees, no_trees, more_trees, group, ast_node, ast_group}
use Rattle.fancy_grammar.specs.Tree.{list_of}
use Rattle.fancy_grammar.specs.Groups.{numbers_under}
use Rattle.fancy_grammar.proofs.NamedLaws.{under_named}
use Rattle.fancy_grammar.proofs.NamedNumbers.{named_ascend, carries, number_carried}
use Rattle.fancy_grammar.proofs.PreorderLaws.{of_reference, kept, kept_if, resolved_nodes, items_of_all, items_of_nodes}
use Rattle.fancy_grammar.proofs.Verdict.{same_tree}
use Rattle.fancy_grammar.proofs.ReadLaws.{derived_read}
use Rattle.fancy_grammar.proofs.TreeLaws.{IsReadNode, IsRead}

-- ---- what a reference means

-- if a list of references has no error, the rest of the list has none
none_after : (m : Meaning) (p : ℕ) (o : Option Located) → error_or m p o ≡ None → o ≡ None
none_after (number n) p o e = e
none_after unresolved p o e = e
none_after (invalid k) p o e = absurd cc

-- a back reference or a condition refers to a number, or is an error
back_to_resolved : (c : ℕ) (name : Text) (o : Option ℕ) → back_to c name o ≡ unresolved → ⊥
back_to_resolved c name None e = cc
back_to_resolved c name (Some n) e = by_test (nat_le n c) e
  where
    by_test : (b : Bool) → (if b then number n else invalid (invalid_group_name_backref name)) ≡ unresolved → ⊥
    by_test true e = cc
    by_test false e = cc

group_or_error : (role : Role) (k : Kind) (o : Option ℕ) → no_group role ≡ invalid k →
    group_or_none role o ≡ unresolved → ⊥
group_or_error role k None h e = cc
group_or_error role k (Some n) h e = cc

back_reference_resolved : (u : Text → List ℕ) (c : ℕ) (t : Target) → refers_to u c back_reference t ≡ unresolved → ⊥
back_reference_resolved u c (by_number n) e = cc
back_reference_resolved u c (by_name w) e = back_to_resolved c w (last_of (u w)) e
back_reference_resolved u c (relative z) e = group_or_error back_reference _ (at_distance c z) refl e

condition_resolved : (u : Text → List ℕ) (c : ℕ) (t : Target) → refers_to u c condition t ≡ unresolved → ⊥
condition_resolved u c (by_number n) e = cc
condition_resolved u c (by_name w) e = group_or_error condition _ (last_of (u w)) refl e
condition_resolved u c (relative z) e = group_or_error condition _ (at_distance c z) refl e

-- so only a call can be left without a number
call_unresolved : (u : Text → List ℕ) (c : ℕ) (r : AstReference) → refers_to u c (role_of r) (target_of r) ≡ unresolved →
    is_call (role_of r) ≡ true
call_unresolved u c (ast_backref t casei level) e = absurd (back_reference_resolved u c t e)
call_unresolved u c (ast_call t) e = refl
call_unresolved u c (ast_condition t level) e = absurd (condition_resolved u c t e)

reference_parsed : (z : ℕ) (m : Meaning) (r : AstReference) (position : ℕ) (o : Option Located) →
    (m ≡ unresolved → is_call (role_of r) ≡ true) → error_or m position o ≡ None →
    IsParsedTreeNode (reference_node z m r position)
reference_parsed z (number n) (ast_backref t casei None) position o u e = tt
reference_parsed z (number n) (ast_backref t casei (Some level)) position o u e = tt
reference_parsed z (number n) (ast_call t) position o u e = tt
reference_parsed z (number n) (ast_condition t level) position o u e = tt
reference_parsed z unresolved r position o u e = u refl
reference_parsed z (invalid k) r position o u e = absurd cc

-- ---- the nodes that resolving keeps

module _ (z : ℕ) (named : Bool) (numbers_of : Text → List ℕ) where
  -- the meaning of a reference after c groups
  abbrev refers_here : ℕ → AstReference → Meaning
  refers_here c r = refers_to numbers_of c (role_of r) (target_of r)

  abbrev kept_here : ℕ → List Tree → List Tree
  kept_here = kept z named numbers_of

  abbrev front_here : Bool → ℕ → Tree → List Tree → List Tree
  front_here = kept_if z named numbers_of

  abbrev meant : ℕ → List Tree → List MeantReference
  meant c l = meanings_in named numbers_of c (items_of_all l)

  abbrev numbered_if : Bool → ℕ → Opening × Tree → List Tree → List (ℕ × Opening × Tree)
  numbered_if b c g l = if b then (c + 1, g.0, g.1) ∷ numbered_in named (c + 1) l else numbered_in named c l

  -- their openings are the ones that have a number
  openings_counted : (c : ℕ) (l : List Tree) →
      map (λ q. q.1) (numbered_in named c l) ≡ numbered_openings_in named (openings_in (items_of_all l))
  openings_counted c [] = refl
  openings_counted c (ast_group name position t ∷ l) =
      let o : Opening = record { reach = position; name = name } in
      let rest = numbered_openings_in named (openings_in (items_of_all l)) in
      elim (is_counted named name) as (λ b. map (λ q. q.1) (numbered_if b c (o, t) l)
      ≡ (if b then o ∷ rest else rest)) [
        | true ↦ ap (λ l. o ∷ l) (openings_counted (c + 1) l)
        | false ↦ openings_counted c l
      ]
  openings_counted c (ast_node r position ∷ l) = openings_counted c l
  openings_counted c (_ ∷ l) = openings_counted c l

  if_false : {A : Type 0} (x y : A) (b : Bool) → b ≡ false → (if b then x else y) ≡ y
  if_false x y b e = ap (λ b. if b then x else y) e

  -- the Groups are these, with their contents resolved
  abbrev insides : List (ℕ × Opening × Tree) → List Tree
  insides l = map (λ q. group (resolved_in z named numbers_of q.0 q.2)) l

  groups_kept : (c : ℕ) (l : List Tree) → AllByRecursion IsReadNode l →
      filter is_group (kept_here c l) ≡ insides (numbered_in named c l)
  groups_kept c [] h = refl
  groups_kept c (ast_group name position t ∷ l) h =
      let o : Opening = record { reach = position; name = name } in
      elim (is_counted named name) as (λ b. filter is_group (front_here b c t l) ≡ insides (numbered_if b c (o, t) l)) [
        | true ↦ ap (λ l. group (resolved_in z named numbers_of (c + 1) t) ∷ l) (groups_kept (c + 1) l h.1)
        | false ↦ groups_kept c l h.1
      ]
  groups_kept c (ast_node r position ∷ l) h =
      if_false _ _ _ (of_reference z (refers_here c r) r position).no_group ∙ groups_kept c l h.1
  groups_kept c (over label.group t ∷ l) h = absurd h.0
  groups_kept c (_ ∷ l) h = groups_kept c l h.1

  -- calls stay calls
  calls_kept : (c : ℕ) (l : List Tree) → AllByRecursion IsReadNode l →
      list_any is_call_node (kept_here c l) ≡ list_any (λ (x : MeantReference). is_call (role_of x.reference)) (meant c l)
  calls_kept c [] h = refl
  calls_kept c (ast_group name position t ∷ l) h =
      elim (is_counted named name) as (λ b. list_any is_call_node (front_here b c t l)
      ≡ list_any (λ (x : MeantReference). is_call (role_of x.reference)) (meant (if b then c + 1 else c) l)) [
        | true ↦ calls_kept (c + 1) l h.1
        | false ↦ calls_kept c l h.1
      ]
  calls_kept c (ast_node r position ∷ l) h =
      ap (λ b. b || list_any is_call_node (kept_here c l)) (of_reference z (refers_here c r) r position).calls
      ∙ ap (λ b. is_call (role_of r) || b) (calls_kept c l h.1)
  calls_kept c (leaf (label.subroutine_call n) ∷ l) h = absurd h.0
  calls_kept c (_ ∷ l) h = calls_kept c l h.1

  -- one more number, if there is one
  abbrev in_front : Option ℕ → List ℕ → List ℕ
  in_front (Some n) l = n ∷ l
  in_front None l = l

  filter_map_step : {A : Type 0} (f : A → Option ℕ) (x : A) (l : List A) →
      filter_map f (x ∷ l) ≡ in_front (f x) (filter_map f l)
  filter_map_step f x l = by_option (f x) refl
    where
      by_option : (o : Option ℕ) → f x ≡ o → filter_map f (x ∷ l) ≡ in_front o (filter_map f l)
      by_option (Some n) e = rw e refl
      by_option None e = rw e refl

  numbers_step : (x : Tree) (r : MeantReference) (l : List Tree) (m : List MeantReference) →
      group_referred x ≡ back_number (role_of r.reference) r.meaning →
      filter_map group_referred l ≡ back_numbers m → filter_map group_referred (x ∷ l) ≡ back_numbers (r ∷ m)
  numbers_step x r l m e h =
      filter_map_step group_referred x l ∙ ap (λ o. in_front o (filter_map group_referred l)) e
      ∙ ap (in_front (back_number (role_of r.reference) r.meaning)) h
      ∙ sym (filter_map_step (λ (x : MeantReference). back_number (role_of x.reference) x.meaning) r m)

  -- the numbers of back references
  numbers_kept : (c : ℕ) (l : List Tree) → AllByRecursion IsReadNode l →
      filter_map group_referred (kept_here c l) ≡ back_numbers (meant c l)
  numbers_kept c [] h = refl
  numbers_kept c (ast_group name position t ∷ l) h =
      elim (is_counted named name) as (λ b. filter_map group_referred (front_here b c t l)
      ≡ back_numbers (meant (if b then c + 1 else c) l)) [
        | true ↦ numbers_kept (c + 1) l h.1
        | false ↦ numbers_kept c l h.1
      ]
  numbers_kept c (ast_node r position ∷ l) h =
      numbers_step (resolved_in z named numbers_of c (ast_node r position))
      (record { reference = r; reach = position; meaning = refers_here c r }) (kept_here c l) (meant c l)
      (of_reference z (refers_here c r) r position).refers (numbers_kept c l h.1)
  numbers_kept c (leaf (label.backref n casei) ∷ l) h = absurd h.0
  numbers_kept c (leaf (label.backref_at_level n level casei) ∷ l) h = absurd h.0
  numbers_kept c (_ ∷ l) h = numbers_kept c l h.1

  pub list_length : (ts : Trees) (c : ℕ) → length (list_of (resolved_all z named numbers_of c ts)) ≡ length (list_of ts)
  list_length no_trees c = refl
  list_length (more_trees t ts) c = ap suc (list_length ts _)

  -- if no reference is an error, each node is one of a parsed tree
  parsed_tree_kept : (c : ℕ) (l : List Tree) → AllByRecursion IsReadNode l → first_error (meant c l) ≡ None →
      AllByRecursion IsParsedTreeNode (kept_here c l)
  parsed_tree_kept c [] h n = tt
  parsed_tree_kept c (ast_group name position t ∷ l) h n =
      (elim (is_counted named name) as (λ b. first_error (meant (if b then c + 1 else c) l) ≡ None →
      AllByRecursion IsParsedTreeNode (front_here b c t l)) [
        | true ↦ λ n. (tt, parsed_tree_kept (c + 1) l h.1 n)
        | false ↦ λ n. parsed_tree_kept c l h.1 n
      ]) n
  parsed_tree_kept c (ast_node r position ∷ l) h n =
      let m = refers_here c r in let after = first_error (meant c l) in (
        reference_parsed z m r position after (call_unresolved numbers_of c r) n,
        parsed_tree_kept c l h.1 (none_after m position after n),
      )
  parsed_tree_kept c (leaf (label.literal w casei) ∷ l) h n = (h.0, parsed_tree_kept c l h.1 n)
  parsed_tree_kept c (leaf (label.literal_bytes w) ∷ l) h n = (h.0, parsed_tree_kept c l h.1 n)
  parsed_tree_kept c (row label.alt ts ∷ l) h n =
      (subst (λ k. 2 ≤ k) (sym (list_length ts c)) h.0, parsed_tree_kept c l h.1 n)
  parsed_tree_kept c (_ ∷ l) h n = (tt, parsed_tree_kept c l h.1 n)

-- ---- parsed trees

module _ {f : Flags} {text : Text} {t : Tree} {m : GroupInfo} (a : IsTreeOf f text t m) where
  abbrev raw : Tree
  raw = a.0

  abbrev named : Bool
  named = only_named f (openings raw)

  abbrev numbered : List Opening
  numbered = numbered_openings f (openings raw)

  abbrev numbers_of : Text → List ℕ
  numbers_of = numbers_in f raw

  nodes : preorder t ≡ kept (bytes text) named numbers_of 0 (preorder raw)
  nodes = ap preorder a.3 ∙ resolved_nodes (bytes text) named numbers_of 0 raw

  meanings_of_nodes : meanings f raw ≡ meanings_in named numbers_of 0 (items_of_all (preorder raw))
  meanings_of_nodes = ap (meanings_in named numbers_of 0) (items_of_nodes raw)

  nodes_read : IsRead raw
  nodes_read = derived_read a.1.1

  is_info : m ≡ group_info f text raw
  is_info = a.4

  -- each node is one of a parsed tree
  is_parsed_tree : IsParsedTree t
  is_parsed_tree =
      let no_error = ap first_error (sym meanings_of_nodes) ∙ a.2 in
      subst (AllByRecursion IsParsedTreeNode) (sym nodes)
      (parsed_tree_kept (bytes text) named numbers_of 0 (preorder raw) nodes_read no_error)

  -- the Groups in preorder are the groups that have a number, in the order of their opening parentheses
  groups_in_order :
      groups t ≡ map (λ q. group (resolved_in (bytes text) named numbers_of q.0 q.2)) (numbered_groups f raw)
  groups_in_order = ap (filter is_group) nodes ∙ groups_kept (bytes text) named numbers_of 0 (preorder raw) nodes_read

  openings_in_order : map (λ q. q.1) (numbered_groups f raw) ≡ numbered
  openings_in_order =
      openings_counted (bytes text) named numbers_of 0 (preorder raw)
      ∙ ap (λ l. numbered_openings_in named (openings_in l)) (sym (items_of_nodes raw))

  -- their number is the recorded total
  pub groups_total : length (groups t) ≡ m.total_groups
  groups_total =
      let groups_of = numbered_groups f raw in
      ap length groups_in_order ∙ length-map groups_of (λ q. group (resolved_in (bytes text) named numbers_of q.0 q.2))
      ∙ sym (length-map groups_of (λ q. q.1)) ∙ ap length openings_in_order ∙ ap (λ k. k.total_groups) (sym is_info)

  -- the numbers of each name are those of the groups with that name
  names_recorded : AreNamed m.total_groups m.named_groups
  names_recorded = subst (λ k. AreNamed k.total_groups k.named_groups) (sym is_info) (named_ascend numbered)

  pub named_numbers : (w : Text) (k : ℕ) →
      list_any (λ j. j == suc k) (numbers_under m.named_groups w) ≡ carries w (slice_get numbered k)
  named_numbers w k =
      ap (λ q. list_any (λ j. j == suc k) (numbers_under q.named_groups w)) is_info
      ∙ ap (list_any (λ j. j == suc k)) (under_named numbered w) ∙ number_carried w k numbered

  -- a call is recorded if the tree has one
  calls_recorded : has_call t ≡ m.contains_subroutines
  calls_recorded =
      ap (list_any is_call_node) nodes ∙ calls_kept (bytes text) named numbers_of 0 (preorder raw) nodes_read
      ∙ ap (list_any (λ (x : MeantReference). is_call (role_of x.reference))) (sym meanings_of_nodes)
      ∙ ap (λ k. k.contains_subroutines) (sym is_info)

  pub numbers_referred : groups_referred t ≡ back_numbers (meanings f raw)
  numbers_referred =
      ap (filter_map group_referred) nodes ∙ numbers_kept (bytes text) named numbers_of 0 (preorder raw) nodes_read
      ∙ ap back_numbers (sym meanings_of_nodes)

  -- the numbers up to the total are recorded, each once
  backrefs_recorded : m.backrefs ≡ ascending (filter (λ n. nat_le n m.total_groups) (groups_referred t))
  backrefs_recorded =
      subst (λ k. k.backrefs ≡ ascending (filter (λ n. nat_le n k.total_groups) (groups_referred t))) (sym is_info)
      (ap (λ l. ascending (filter (λ n. nat_le n (length numbered)) l)) (sym numbers_referred))

  -- and the first number above the total
  out_of_range_recorded : m.out_of_range_backref ≡ find (λ n. nat_lt m.total_groups n) (groups_referred t)
  out_of_range_recorded =
      subst (λ k. k.out_of_range_backref ≡ find (λ n. nat_lt k.total_groups n) (groups_referred t)) (sym is_info)
      (ap (find (λ n. nat_lt (length numbered) n)) (sym numbers_referred))

  -- all of it
  pub parsed_tree_with : IsParsedTreeWith t m
  parsed_tree_with = record {
    nodes = is_parsed_tree;
    groups = groups_total;
    names = names_recorded;
    calls = calls_recorded;
    backrefs = backrefs_recorded;
    out_of_range = out_of_range_recorded;
  }

  -- the Groups are those of the one raw tree of the text
  pub groups_of_raw : (r : Tree) → DerivesTree f text r → HasGroupsOf f text r t
  groups_of_raw r b =
      subst (λ q. HasGroupsOf f text q t) (sym (same_tree a.1 b))
      (record { in_order = openings_in_order; insides = groups_in_order })
