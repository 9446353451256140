-- The group information of a parsed tree is what the definition of writable trees makes of it.
use Rattle.std.proofs.Common.{◌≡◌, ℕ, List, [], ◌∷◌}
use Rattle.std.proofs.Common.{length, map, filter, filter_map, Option, Some, None, nat_le, nat_lt, refl, sym}
use Rattle.std.proofs.Common.{ap}
use Rattle.std.proofs.Common.{◌∙◌, subst, arith, IfSome}
use Rattle.std.proofs.lemmas.List.{length-map}
use Rattle.std.specs.List.{AllByRecursion, list_any, cons_option}
use Rattle.std.specs.Prelude.{find}
use Rattle.fancy_lex.specs.Text.{Text}
use Rattle.fancy_lex.specs.declared.flags.Flags.{Flags}
use Rattle.fancy_grammar.specs.Ranks.{Opening, only_named, numbered_openings, named_groups, names, numbers}
use Rattle.fancy_grammar.specs.ParseResult.{IsTreeOf}
use Rattle.fancy_grammar.specs.ParsedTree.{IsParsedTreeNode, IsParsedTree, IsParsedTreeWith, is_group, groups}
use Rattle.fancy_grammar.specs.ParsedTree.{groups_referred}
use Rattle.fancy_grammar.specs.Items.{openings}
use Rattle.fancy_grammar.specs.Items.{numbers_in}
use Rattle.fancy_grammar.specs.Label.{group, ast_group}
use Rattle.fancy_grammar.specs.GroupInfo.{GroupInfo, ascending}
use Rattle.fancy_grammar.specs.Pattern.{group_count, group_count_all}
use Rattle.fancy_grammar.specs.Preorder.{preorder, preorder_all}
use Rattle.fancy_grammar.specs.Tree.{Tree, leaf, over, row, Trees, no_trees, more_trees}
use Rattle.fancy_grammar.proofs.Writable.{info_numbers, is_numbered, is_numbered_call_of_all, info_openings, info_of}
use Rattle.fancy_grammar.proofs.Writable.{AreCounted}
use Rattle.fancy_grammar.proofs.ParsedTreeLaws.{parsed_tree_with}
use Rattle.fancy_grammar.proofs.NamedNumbers.{fold_all}
use Rattle.fancy_pattern.proofs.Parsed.Lists.{each_split, each_filtered, length_filtered}
use Rattle.fancy_pattern.proofs.Parsed.NumberedGroups.{info_openings_are}
use Rattle.fancy_pattern.proofs.PatternLaws.Theorem.{counted_filtered, only_filtered}
use Rattle.fancy_pattern.proofs.PatternLaws.Theorem.{unreached, unreached_numbers, unreached_groups, unreached_named}

-- ---- how many groups have a number

mutual
  count_is : (t : Tree) → IsParsedTree t → group_count t ≡ length (groups t)
  count_is (leaf l) h = refl
  count_is (over group t) h = omega (arith, count_is t h.1)
  count_is (over (ast_group name position) t) h = absurd h.0
  count_is (over _ t) h = count_is t h.1
  count_is (row r ts) h = count_all ts h.1

  count_all : (ts : Trees) → AllByRecursion IsParsedTreeNode (preorder_all ts) →
      group_count_all ts ≡ length (filter is_group (preorder_all ts))
  count_all no_trees h = refl
  count_all (more_trees t ts) h =
      let (a, b) = each_split IsParsedTreeNode (preorder t) (preorder_all ts) h in
      omega (arith, count_is t a, count_all ts b, length_filtered is_group (preorder t) (preorder_all ts))

-- ---- names

-- what holds for the names of all groups holds for those in the list
each_name : (P : Text → Type 0) (l : List Opening) → AllByRecursion (λ o. IfSome o.name P) l →
    AllByRecursion P (filter_map (λ o. o.name) l)
each_name P [] h = tt
each_name P (o ∷ l) h = by_name o.name h.0 (each_name P l h.1)
  where
    by_name : (n : Option Text) → IfSome n P → AllByRecursion P (filter_map (λ o. o.name) l) →
        AllByRecursion P (cons_option n (filter_map (λ o. o.name) l))
    by_name None h k = k
    by_name (Some w) h k = (h, k)

each_entry : (P : Text → Type 0) (l : List Opening) (ws : List Text) → AllByRecursion P ws →
    AllByRecursion (λ (e : Text × List ℕ). P e.0) (map (λ w. (w, numbers w l)) ws)
each_entry P l [] h = tt
each_entry P l (w ∷ ws) h = (h.0, each_entry P l ws h.1)

each_named : (P : Text → Type 0) (l : List Opening) → AllByRecursion (λ o. IfSome o.name P) l →
    AllByRecursion (λ (e : Text × List ℕ). P e.0) (named_groups l)
each_named P l h = each_entry P l (names l) (fold_all P [] (filter_map (λ o. o.name) l) tt (each_name P l h))

-- ---- parsed trees

module _ {f : Flags} {text : Text} {t : Tree} {m : GroupInfo} (a : IsTreeOf f text t m) where
  abbrev raw : Tree
  raw = a.0

  abbrev numbered : List Opening
  numbered = numbered_openings f (openings raw)

  is_so : IsParsedTreeWith t m
  is_so = parsed_tree_with a

  groups_named : m.named_groups ≡ named_groups numbered
  groups_named = ap (λ k. k.named_groups) a.4

  total_is : m.total_groups ≡ length numbered
  total_is = ap (λ k. k.total_groups) a.4

  -- the tree has as many groups as have a number
  pub count_total : group_count t ≡ m.total_groups
  count_total = count_is t is_so.nodes ∙ is_so.groups

  openings_are : info_openings m 0 (group_count t) ≡ map unreached numbered
  openings_are = ap (info_openings m 0) (count_total ∙ total_is) ∙ info_openings_are m numbered groups_named

  length_is : length (info_openings m 0 (group_count t)) ≡ m.total_groups
  length_is = ap length openings_are ∙ (length-map numbered unreached ∙ sym total_is)

  ignored_is : m.numbered_groups_ignored ≡ only_named f (info_openings m 0 (group_count t))
  ignored_is =
      ap (λ k. k.numbered_groups_ignored) a.4
      ∙ (sym (only_filtered f (only_named f (openings raw)) (openings raw))
      ∙ (sym (unreached_named f numbered) ∙ ap (only_named f) (sym openings_are)))

  -- it is that of the tree with its names by number, if it says how the references are written
  pub info_of_tree : m.numeric_capture_group_references ≡ list_any (is_numbered m) (preorder t) →
      m.self_recursive ≡ list_any (is_numbered_call_of_all m) (preorder t) →
      m ≡ info_of f (info_openings m 0 (group_count t)) t m
  info_of_tree numeric self =
      let all = info_openings m 0 (group_count t) in
      let named : m.named_groups ≡ named_groups all
      = groups_named ∙ (sym (unreached_groups numbered) ∙ ap named_groups (sym openings_are)) in
      let backrefs : m.backrefs ≡ ascending (filter (λ n. nat_le n (length all)) (groups_referred t))
      = is_so.backrefs ∙ ap (λ k. ascending (filter (λ n. nat_le n k) (groups_referred t))) (sym length_is) in
      let outside : m.out_of_range_backref ≡ find (λ n. nat_lt (length all) n) (groups_referred t)
      = is_so.out_of_range ∙ ap (λ k. find (λ n. nat_lt k n) (groups_referred t)) (sym length_is) in
      λ i. record {
        backrefs = backrefs i;
        named_groups = named i;
        numeric_capture_group_references = numeric i;
        contains_subroutines = sym is_so.calls i;
        self_recursive = self i;
        total_groups = sym length_is i;
        out_of_range_backref = outside i;
        numbered_groups_ignored = ignored_is i;
      }

  -- a name has the numbers in the group information
  pub numbers_are : (w : Text) → info_numbers m w ≡ numbers_in f raw w
  numbers_are w =
      ap (λ n. numbers w (info_openings m 0 n)) (sym count_total)
      ∙ (ap (numbers w) openings_are ∙ unreached_numbers 0 w numbered)

  -- each group of the tree has a number
  pub info_counted : AreCounted m.numbered_groups_ignored (info_openings m 0 (group_count t))
  info_counted =
      subst (AreCounted m.numbered_groups_ignored) (sym openings_are)
      (subst (λ b. AreCounted b (map unreached numbered)) (sym (ap (λ k. k.numbered_groups_ignored) a.4))
      (counted_filtered (only_named f (openings raw)) (openings raw)))

  -- what holds for the name of each group in the pattern holds for each name in the group information
  pub info_names : (P : Text → Type 0) → AllByRecursion (λ o. IfSome o.name P) (openings raw) →
      AllByRecursion (λ (e : Text × List ℕ). P e.0) m.named_groups
  info_names P h =
      subst (AllByRecursion (λ (e : Text × List ℕ). P e.0)) (sym groups_named)
      (each_named P numbered (each_filtered (λ o. IfSome o.name P) _ (openings raw) h))
