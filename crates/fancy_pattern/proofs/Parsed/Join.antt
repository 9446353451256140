-- Parsed trees are writable, and their texts read back.
use Rattle.std.proofs.Common.{zero, suc}
use Rattle.fancy_grammar.specs.Ranks.{is_counted}
use Rattle.fancy_grammar.specs.Pattern.{group_count_all}
use Rattle.std.proofs.Common.{◌≡◌, ℕ, ◌+◌, ◌<◌, Bool, true, false, List, [], ◌∷◌, ap}
use Rattle.std.proofs.Common.{◌∙◌, subst, arith}
use Rattle.std.specs.List.{AllByRecursion}
use Rattle.fancy_lex.specs.Text.{Text}
use Rattle.fancy_lex.specs.declared.escape.Assertion.{Assertion}
use Rattle.fancy_lex.specs.declared.escape.Assertion.TheVariants.{StartLine, StartLineOniguruma}
use Rattle.fancy_lex.specs.declared.flags.Flags.{Flags}
use Rattle.fancy_grammar.specs.ParseResult.{IsTreeOf}
use Rattle.fancy_grammar.specs.ParsedTree.{IsParsedTreeNode}
use Rattle.fancy_grammar.specs.Label as label
use Rattle.fancy_grammar.specs.Label.{Leaf}
use Rattle.fancy_grammar.specs.GroupInfo.{GroupInfo}
use Rattle.fancy_grammar.specs.Pattern.{group_count, pattern_text}
use Rattle.fancy_grammar.specs.Preorder.{preorder, preorder_all}
use Rattle.fancy_grammar.specs.OfPattern.{IsOfPattern}
use Rattle.fancy_grammar.specs.ReadAs.{IsReadAs}
use Rattle.fancy_grammar.specs.Tree.{Tree, leaf, over, row, Trees, no_trees, more_trees, list_of}
use Rattle.std.proofs.Common.{sym, length, ◌≤◌, ◌^◌}
use Rattle.std.specs.Cmp.{both_ways}
use Rattle.std.specs.List.{list_any}
use Rattle.fancy_lex.specs.Text.{bytes}
use Rattle.fancy_grammar.specs.Ranks.{only_named, numbered_openings}
use Rattle.fancy_grammar.specs.Items.{items, openings, numbers_in, meanings, meanings_in}
use Rattle.fancy_grammar.proofs.Writable.{AreCounted, info_openings, name_at}
use Rattle.fancy_grammar.proofs.Writable.{IsWritable, AreNodesWritable, AreAllWritable, ArePieces, IsWritableLeaf}
use Rattle.fancy_grammar.proofs.Writable.{HasSource, is_numbered, is_numbered_call_of_all}
use Rattle.fancy_grammar.proofs.PreorderLaws.{kept, resolved_nodes, items_of_nodes}
use Rattle.fancy_grammar.proofs.ReadLaws.{derived_read, ordered_within}
use Rattle.fancy_pattern.proofs.Parsed.Derived.{derived_parsed}
use Rattle.fancy_pattern.proofs.Parsed.ParsedInfo.{info_of_tree, info_counted, numbers_are}
use Rattle.fancy_pattern.proofs.Parsed.Numeric.{numbered_by, called_by, meant, is_written, is_of_all}
use Rattle.fancy_pattern.proofs.Parsed.Numeric.{numeric_nodes, numbered_some, called_some}
use Rattle.fancy_pattern.proofs.Parsed.References.{AreReferencesWritable, AreAllReferencesWritable, IsNumericNode}
use Rattle.fancy_pattern.proofs.Parsed.References.{groups_fit, each_numbered, met}
use Rattle.fancy_grammar.proofs.ParsedTreeLaws.{parsed_tree_with}
use Rattle.fancy_pattern.proofs.Parsed.Lists.{each_split}
use Rattle.fancy_pattern.proofs.Parsed.Nodes.{IsSolid, AreTwo, AreBranched, IsSourceRead, by_escape, by_class}
use Rattle.fancy_pattern.proofs.PatternLaws.Source.Law.{sources_read, by_escape as escaped_so, by_class as classed_so}
use Rattle.fancy_pattern.proofs.PatternLaws.Needed.{IsLineOfMode}
use Rattle.fancy_pattern.proofs.Parsed.Resolved.{IsResolvedNode, AreThree, nodes_resolved, names_writable}
use Rattle.fancy_pattern.proofs.PatternLaws.ReadFits.{parsed_fits}
use Rattle.fancy_pattern.proofs.PatternLaws.Theorem.{reads_back}

-- ---- Delegates

-- a Delegate that was read has a source
source_had : (f : Flags) (s : Text) (casei : Bool) → IsSourceRead f s casei → HasSource f s casei
source_had f s casei (by_escape g t u same e) =
    sources_read f s casei (escaped_so g t u (ap (λ k. k.unicode) (sym same)) e)
source_had f s casei (by_class g t u same case e) =
    sources_read f s casei (classed_so g t u (ap (λ k. k.unicode) (sym same)) case e)

-- ---- the join

module _ (f : Flags) (m : GroupInfo) where
  abbrev ParsedTree : List Tree → Type 0
  ParsedTree = AllByRecursion IsParsedTreeNode

  abbrev Resolved : List Tree → Type 0
  Resolved = AllByRecursion (IsResolvedNode f m.numbered_groups_ignored)

  assertion_writable : (c : ℕ) (a : Assertion) → IsLineOfMode f a → IsWritableLeaf f m c (label.assertion a)
  assertion_writable c (StartLine crlf) e = e
  assertion_writable c (StartLineOniguruma crlf) e = e
  assertion_writable c _ e = tt

  leaf_writable : (c : ℕ) (l : Leaf) → IsParsedTreeNode (leaf l) → IsResolvedNode f m.numbered_groups_ignored (leaf l) →
      AreReferencesWritable f m c (leaf l) → IsWritableLeaf f m c l
  leaf_writable c (label.literal [] casei) a h r = absurd (omega (arith, a))
  leaf_writable c (label.literal (d ∷ e ∷ w) casei) a h r = absurd (omega (arith, a))
  leaf_writable c (label.literal_bytes (b ∷ [])) a h r = (h, a.1.0.0, a.1.0.1)
  leaf_writable c (label.literal_bytes []) a h r = absurd (omega (arith, a.0))
  leaf_writable c (label.literal_bytes (b ∷ d ∷ w)) a h r = absurd (omega (arith, a.0))
  leaf_writable c (label.delegate s casei) a h r = source_had f s casei h
  leaf_writable c (label.general_newline unicode) a h r = h
  leaf_writable c (label.assertion x) a h r = assertion_writable c x h
  leaf_writable c (label.backref n casei) a h r = r
  leaf_writable c (label.backref_at_level n level casei) a h r = r
  leaf_writable c (label.backref_exists n level) a h r = r
  leaf_writable c (label.subroutine_call n) a h r = r
  leaf_writable c (label.ast_node x position) a h r = r
  leaf_writable c l a h r = tt

  expression_writable : (c : ℕ) (ts : Trees) → AreTwo ts → AreAllWritable f m c ts →
      AreNodesWritable f m c (row label.expression ts)
  expression_writable c (more_trees a (more_trees e no_trees)) h w = (w.0, w.1.0)
  expression_writable c no_trees h w = absurd h
  expression_writable c (more_trees a no_trees) h w = absurd h
  expression_writable c (more_trees a (more_trees e (more_trees x ts))) h w = absurd h

  conditional_writable : (c : ℕ) (ts : Trees) → AreThree ts → (m.numbered_groups_ignored ≡ false → AreBranched ts) →
      AreAllWritable f m c ts → AreNodesWritable f m c (row label.conditional ts)
  conditional_writable c (more_trees k (more_trees t (more_trees e no_trees))) h b w = (w.0, w.1.0, w.1.1.0, b)
  conditional_writable c no_trees h b w = absurd h
  conditional_writable c (more_trees k no_trees) h b w = absurd h
  conditional_writable c (more_trees k (more_trees t no_trees)) h b w = absurd h
  conditional_writable c (more_trees k (more_trees t (more_trees e (more_trees x ts)))) h b w = absurd h

  -- this many groups after c others have a number
  abbrev Counted : ℕ → ℕ → Type 0
  Counted c n = AreCounted m.numbered_groups_ignored (info_openings m c n)

  counted_first : (c n : ℕ) → Counted c (n + 1) →
      (is_counted m.numbered_groups_ignored (name_at m (c + 1)) ≡ true) × Counted (c + 1) n
  counted_first c n q = let next : n + 1 ≡ suc n = omega arith in at (subst (λ k. Counted c k) next q)
    where
      at : Counted c (suc n) → (is_counted m.numbered_groups_ignored (name_at m (c + 1)) ≡ true) × Counted (c + 1) n
      at q = q

  counted_split : (k n c : ℕ) → Counted c (k + n) → Counted c k × Counted (c + k) n
  counted_split zero n c q =
      let none : 0 + n ≡ n = omega arith in
      let here : c ≡ c + 0 = omega arith in
      (tt, subst (λ c. Counted c n) here (subst (λ n. Counted c n) none q))
  counted_split (suc k) n c q =
      let next : suc k + n ≡ (k + n) + 1 = omega arith in
      let after : (c + 1) + k ≡ c + suc k = omega arith in
      let (x, y) = counted_first c (k + n) (subst (λ n. Counted c n) next q) in
      let (v, w) = counted_split k n (c + 1) y in ((x, v), subst (λ c. Counted c n) after w)

  mutual
    nodes_writable : (c : ℕ) (t : Tree) → ParsedTree (preorder t) → Resolved (preorder t) →
        AreReferencesWritable f m c t → Counted c (group_count t) → AreNodesWritable f m c t
    nodes_writable c (leaf l) a h r q = leaf_writable c l a.0 h.0 r
    nodes_writable c (over (label.repeat lo hi greedy) t) a h r q =
        (nodes_writable c t a.1 h.1 r q, h.0.0, h.0.1, h.0.2, h.0.3)
    nodes_writable c (over label.group t) a h r q =
        let (x, y) = counted_first c (group_count t) q in (x, nodes_writable (c + 1) t a.1 h.1 r y)
    nodes_writable c (over label.stopper t) a h r q = (nodes_writable c t a.1 h.1 r q, h.0)
    nodes_writable c (over (label.ast_group name position) t) a h r q = absurd a.0
    nodes_writable c (over w t) a h r q = nodes_writable c t a.1 h.1 r q
    nodes_writable c (row label.concat (more_trees t (more_trees u ts))) a h r q =
        pieces_writable c (more_trees t (more_trees u ts)) a.1 h.1 h.0.1 r q
    nodes_writable c (row label.concat no_trees) a h r q = absurd (omega (arith, h.0.0))
    nodes_writable c (row label.concat (more_trees t no_trees)) a h r q = absurd (omega (arith, h.0.0))
    nodes_writable c (row label.alt (more_trees t (more_trees u ts))) a h r q =
        all_writable c (more_trees t (more_trees u ts)) a.1 h.1 r q
    nodes_writable c (row label.alt no_trees) a h r q = absurd (omega (arith, a.0))
    nodes_writable c (row label.alt (more_trees t no_trees)) a h r q = absurd (omega (arith, a.0))
    nodes_writable c (row label.expression ts) a h r q =
        expression_writable c ts h.0 (all_writable c ts a.1 h.1 r q)
    nodes_writable c (row label.conditional ts) a h r q =
        conditional_writable c ts h.0.0 h.0.1 (all_writable c ts a.1 h.1 r q)

    all_writable : (c : ℕ) (ts : Trees) → ParsedTree (preorder_all ts) → Resolved (preorder_all ts) →
        AreAllReferencesWritable f m c ts → Counted c (group_count_all ts) → AreAllWritable f m c ts
    all_writable c no_trees a h r q = tt
    all_writable c (more_trees t ts) a h r q =
        let (x, y) = each_split IsParsedTreeNode (preorder t) (preorder_all ts) a in
        let (j, k) = each_split (IsResolvedNode f m.numbered_groups_ignored) (preorder t) (preorder_all ts) h in
        let (o, w) = counted_split (group_count t) (group_count_all ts) c q in
        (nodes_writable c t x j r.0 o, all_writable (c + group_count t) ts y k r.1 w)

    pieces_writable : (c : ℕ) (ts : Trees) → ParsedTree (preorder_all ts) → Resolved (preorder_all ts) →
        (m.numbered_groups_ignored ≡ false → AllByRecursion IsSolid (list_of ts)) → AreAllReferencesWritable f m c ts →
        Counted c (group_count_all ts) → ArePieces f m c ts
    pieces_writable c no_trees a h s r q = tt
    pieces_writable c (more_trees t ts) a h s r q =
        let (x, y) = each_split IsParsedTreeNode (preorder t) (preorder_all ts) a in
        let (j, k) = each_split (IsResolvedNode f m.numbered_groups_ignored) (preorder t) (preorder_all ts) h in
        let (o, w) = counted_split (group_count t) (group_count_all ts) c q in
        (nodes_writable c t x j r.0 o, (λ n. (s n).0), pieces_writable (c + group_count t) ts y k (λ n. (s n).1) r.1 w)

-- ---- parsed trees

module _ {f : Flags} {text : Text} {t : Tree} {m : GroupInfo} (a : IsTreeOf f text t m) where
  abbrev raw : Tree
  raw = a.0

  abbrev named : Bool
  named = only_named f (openings raw)

  abbrev numbers_of : Text → List ℕ
  numbers_of = numbers_in f raw

  nodes : preorder t ≡ kept (bytes text) named numbers_of 0 (preorder raw)
  nodes = ap preorder a.3 ∙ resolved_nodes (bytes text) named numbers_of 0 raw

  meanings_are : meanings f raw ≡ meant f m text (bytes text) named numbers_of 0 (preorder raw)
  meanings_are = ap (meanings_in named numbers_of 0) (items_of_nodes raw)

  numeric_is : m.numeric_capture_group_references
      ≡ list_any (is_written f m text (bytes text) named numbers_of)
      (meant f m text (bytes text) named numbers_of 0 (preorder raw))
  numeric_is =
      ap (λ k. k.numeric_capture_group_references) a.4
      ∙ ap (list_any (is_written f m text (bytes text) named numbers_of)) meanings_are

  self_is : m.self_recursive
      ≡ list_any (is_of_all f m text (bytes text) named numbers_of)
      (meant f m text (bytes text) named numbers_of 0 (preorder raw))
  self_is =
      ap (λ k. k.self_recursive) a.4
      ∙ ap (list_any (is_of_all f m text (bytes text) named numbers_of)) meanings_are

  all_numeric : AllByRecursion (IsNumericNode m) (preorder raw)
  all_numeric =
      numeric_nodes f m text (bytes text) named numbers_of 0 (preorder raw) (λ e. numeric_is ∙ e) (λ e. self_is ∙ e)

  -- the group information says that some reference is written with a number exactly if some node is to be
  pub info_numeric : m.numeric_capture_group_references ≡ list_any (is_numbered m) (preorder t)
  info_numeric =
      both_ways m.numeric_capture_group_references (list_any (is_numbered m) (preorder t))
      (λ b. ap (list_any (is_numbered m)) nodes
      ∙ numbered_some f m text (bytes text) named numbers_of b 0 (preorder raw) (derived_parsed a.1) all_numeric
      (sym numeric_is ∙ b))
      (numbered_by m (preorder t))

  -- and that some call is a call of all exactly if some node is to be
  pub info_self : m.self_recursive ≡ list_any (is_numbered_call_of_all m) (preorder t)
  info_self =
      both_ways m.self_recursive (list_any (is_numbered_call_of_all m) (preorder t))
      (λ b. ap (list_any (is_numbered_call_of_all m)) nodes
      ∙ called_some f m text (bytes text) named numbers_of 0 (preorder raw) all_numeric (sym self_is ∙ b))
      (called_by m (preorder t))

  -- what each reference resolves to can be written, in a text of fewer than 2 ^ 63 bytes
  pub references_writable : bytes text < 2 ^ 63 → AreReferencesWritable f m 0 t
  references_writable small =
      let total = length (numbered_openings f (openings raw)) in
      let fit : total ≤ bytes text = groups_fit named (bytes text) (items raw) (ordered_within a.1.1) in
      subst (AreReferencesWritable f m 0) (sym a.3)
      (met f m text (bytes text) named numbers_of total (omega (arith, small, fit))
      (λ w. each_numbered w (numbered_openings f (openings raw))) (numbers_are a) 0 raw (derived_parsed a.1)
      (derived_read a.1.1) all_numeric (subst (λ x. AllByRecursion IsParsedTreeNode (preorder x)) a.3
      (parsed_tree_with a).nodes)
      (omega arith))

  -- the tree is writable
  pub parsed_is_writable : bytes text < 2 ^ 63 → IsWritable f m t
  parsed_is_writable small = record {
    group_info = info_of_tree a info_numeric info_self;
    names = names_writable a;
    nodes = nodes_writable f m 0 t (parsed_tree_with a).nodes (nodes_resolved a) (references_writable small)
        (info_counted a);
    fits = parsed_fits f text t m a;
  }

  -- so its text reads back
  pub parsed_reads_back : bytes text < 2 ^ 63 → IsReadAs f (pattern_text f t m) t m
  parsed_reads_back small = reads_back f t m (parsed_is_writable small)

-- no tree of a pattern has a text that does not read back
pub none_of_pattern : (f : Flags) (t : Tree) (m : GroupInfo) → (IsReadAs f (pattern_text f t m) t m → ⊥) →
    IsOfPattern f t m → ⊥
none_of_pattern f t m never (text, tree, small) = never (parsed_reads_back tree small)
