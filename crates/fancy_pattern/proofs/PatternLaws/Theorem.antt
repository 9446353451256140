-- The text of a writable tree is read as that tree, with its group information, and as nothing else.
use Rattle.std.proofs.Common.{◌≡◌, ℕ, zero, ◌+◌, Bool, true, false, ◌&&◌, List, [], ◌∷◌, ◌++◌}
use Rattle.std.proofs.Common.{length, filter_map, map, None, refl, sym, ap, ◌∙◌, subst, arith, nat_lt}
use Rattle.std.proofs.Common.{append-nil, ◌||◌, ◌==◌, Option, IfSome, is_some, ap₂, if◌then◌else◌, suc, filter, nat_le}
use Rattle.std.specs.Prelude.{fold, find}
use Rattle.std.specs.BTreeSet.{insert_key}
use Rattle.std.specs.List.{list_any, AllByRecursion, cons_option}
use Rattle.std.proofs.Common.{◌≤◌}
use Rattle.std.proofs.lemmas.Bool.Decides.{nat_tests}
use Rattle.std.proofs.lemmas.Bool.{cond_both}
use Rattle.std.proofs.lemmas.List.{length-map}
use Rattle.fancy_lex.specs.Text.{Text, bytes}
use Rattle.fancy_lex.specs.declared.flags.Flags.{Flags}
use Rattle.fancy_grammar.specs.Ranks.{is_named, only_named, named_groups, numbers, name_cmp}
use Rattle.fancy_grammar.specs.Ranks.{Opening, is_name, numbers_from, names, numbered_openings}
use Rattle.fancy_grammar.specs.ParseResult.{IsTreeOf}
use Rattle.fancy_grammar.specs.ParsedTree.{IsParsedTreeWith, groups_referred, has_call}
use Rattle.fancy_grammar.specs.Grammar.{whole, DerivesTree}
use Rattle.fancy_grammar.specs.Items.{Item, opening, reference, items, openings, openings_in, numbers_in}
use Rattle.fancy_grammar.specs.Label as label
use Rattle.fancy_grammar.specs.GroupInfo.{GroupInfo, group_info, ascending}
use Rattle.fancy_grammar.specs.Pattern.{Context, under, past_groups, deeper, group_count}
use Rattle.fancy_grammar.specs.Pattern.{written, after}
use Rattle.fancy_grammar.specs.Pattern.{flags_after}
use Rattle.fancy_grammar.specs.Pattern.{pattern_text}
use Rattle.fancy_grammar.specs.PatternNeeds.{inline_flags, agreed, settled}
use Rattle.fancy_grammar.specs.PatternReference.{Named, name_of}
use Rattle.fancy_grammar.specs.Preorder.{preorder}
use Rattle.fancy_grammar.specs.ReadAs.{IsReadAs, unpositioned}
use Rattle.fancy_grammar.specs.Resolved.{error_of, resolved}
use Rattle.fancy_grammar.specs.Tree.{Tree, leaf, over, row, Trees, no_trees, more_trees, atomic_repeat}
use Rattle.fancy_grammar.specs.declared.precedence.Precedence.TheVariants.{Whole, Branch as BranchAlone}
use Rattle.fancy_grammar.proofs.ParsedTreeLaws.{parsed_tree_with}
use Rattle.fancy_grammar.proofs.ReadAsLaws.{read_as}
use Rattle.fancy_pattern.proofs.PatternLaws.Absent.{repeater_reads, stopper_reads, expression_reads}
use Rattle.fancy_pattern.proofs.PatternLaws.Becomes.{Becomes, opened, AreGroups, IsOpening, count_after}
use Rattle.std.proofs.Common.{Some}
use Rattle.fancy_grammar.specs.Ranks.{is_counted, numbered_openings_in}
use Rattle.fancy_grammar.specs.Resolved.{first_error, resolved_in}
use Rattle.fancy_grammar.specs.Items.{meanings_in}
use Rattle.fancy_grammar.proofs.Writable.{AreNodesWritable, AreAllWritable, ArePieces, IsWritable, info_openings}
use Rattle.fancy_grammar.proofs.Writable.{AreCounted, IsNameWritable, info_of, IsLike, is_numbered}
use Rattle.fancy_grammar.proofs.Writable.{is_numbered_call_of_all}
use Rattle.fancy_grammar.proofs.Writable.{info_numbers}
use Rattle.fancy_pattern.proofs.PatternLaws.Cases.{ReadsTree, leaf_reads, group_reads, look_reads, define_reads}
use Rattle.fancy_pattern.proofs.PatternLaws.Cases.{atomic_by}
use Rattle.fancy_pattern.proofs.PatternLaws.Conditionals.{conditional_reads}
use Rattle.fancy_pattern.proofs.PatternLaws.ConditionTexts.{before_of}
use Rattle.fancy_pattern.proofs.PatternLaws.Groups.{whole_after_flags}
use Rattle.fancy_pattern.proofs.PatternLaws.ReferenceInfo.{none_invalid, info_numeric, info_of_all}
use Rattle.fancy_pattern.proofs.PatternLaws.Needed.{like_repeatable, like_after}
use Rattle.fancy_pattern.proofs.PatternLaws.Unpositioned.{same_referred, same_call, same_numbered, same_of_all}
use Rattle.fancy_pattern.proofs.PatternLaws.Separated.{leads_past}
use Rattle.fancy_pattern.proofs.PatternLaws.Quantifiers.{AreOrdered}
use Rattle.fancy_pattern.proofs.PatternLaws.Stacked.{ReadsAll, reads_all, is_stacking}
use Rattle.fancy_pattern.proofs.PatternLaws.Repeats.{repeat_reads, possessive_reads}
use Rattle.fancy_pattern.proofs.PatternLaws.Rows.{EachPiece, EachBranch, concat_reads, alt_reads}
use Rattle.fancy_pattern.proofs.PatternLaws.Rules.{Clear, ends_nothing, WholeAt}
use Rattle.fancy_grammar.proofs.ReadBack.RuleLemmas.{st}

-- ---- every writable tree, wherever it is written

-- counts that the mode keeps in order
ordered : (f g : Flags) (lo hi : ℕ) → g.oniguruma_mode ≡ f.oniguruma_mode → (f.oniguruma_mode ≡ true → lo ≤ hi) →
    AreOrdered g lo hi
ordered f g lo hi e k = by_mode g.oniguruma_mode refl
  where
    by_mode : (b : Bool) → g.oniguruma_mode ≡ b → g.oniguruma_mode && nat_lt hi lo ≡ false
    by_mode true o =
        let less : lo ≤ hi = k (sym e ∙ o) in
        let first : nat_lt hi lo ≡ false = grind (arith, nat_tests) in
        ap (λ b. b && nat_lt hi lo) o ∙ first
    by_mode false o = ap (λ b. b && nat_lt hi lo) o

module _ (μ : GroupInfo) where
  -- an atomic group whose contents are no Repeat
  atomic_reads : (t : Tree) → is_stacking (over label.atomic_group t) ≡ false → (h : Context) →
      ReadsTree μ t (deeper (under (settled h.flags t) h)) → ReadsAll μ (over label.atomic_group t) h
  atomic_reads (over (label.repeat lo hi greedy) t) e h r = absurd cc
  atomic_reads t e h r = reads_all μ (over label.atomic_group t) h e (atomic_by μ t h r)

  module _ (f : Flags) (names : (k : ℕ) → IfSome (name_of μ k) (λ e. IsNameWritable e.0))
      (numbered : (k : ℕ) → IfSome (name_of μ k) (λ e. e.1 ≡ info_numbers μ e.0)) where
    mutual
      reads : (t : Tree) (h : Context) → AreNodesWritable f μ h.opened t → IsLike f h.flags → ReadsAll μ t h
      reads (leaf l) h k e =
          reads_all μ (leaf l) h refl
          (leaf_reads μ numbered f l h e k)
      reads (over (label.repeat lo hi greedy) t) h k e =
          let i = under (settled h.flags t) h in
          repeat_reads μ t lo hi greedy k.2 k.3 h
          (ordered f h.flags lo hi (ap (λ j. j.oniguruma_mode) e) k.4)
          (λ n. like_repeatable t h.flags f (ap (λ j. j.oniguruma_mode) e) ∙ k.1 n)
          (reads t i k.0 e).operands (reads t (deeper i) k.0 e).operands
      reads (over label.group t) h k e =
          reads_all μ (over label.group t) h refl
          (group_reads μ t h (names (h.opened + 1)) k.0
          (reads t (deeper (past_groups 1 (under (settled h.flags t) h))) k.1 e).tree)
      reads (over (label.look_around l) t) h k e =
          let i = deeper (under (settled h.flags t) h) in
          reads_all μ (over (label.look_around l) t) h refl
          (look_reads μ t h l (reads t i k e).tree (reads t (deeper i) k e).tree)
      reads (over label.define_group t) h k e =
          reads_all μ (over label.define_group t) h refl
          (define_reads μ t h
          (reads t (deeper (under (settled h.flags t) h)) k e).tree)
      reads (atomic_repeat t lo hi greedy) h k e =
          let i = under (settled h.flags t) h in
          possessive_reads μ t lo hi greedy k.2 k.3 h
          (ordered f h.flags lo hi (ap (λ j. j.oniguruma_mode) e) k.4)
          (λ n. like_repeatable t h.flags f (ap (λ j. j.oniguruma_mode) e) ∙ k.1 n)
          (reads t i k.0 e).operands (reads t (deeper i) k.0 e).operands
      reads (over label.atomic_group t) h k e =
          atomic_reads t refl h (reads t (deeper (under (settled h.flags t) h)) k e).tree
      reads (over label.repeater t) h k e =
          reads_all μ (over label.repeater t) h refl
          (repeater_reads μ h t
          (reads t (deeper (under (settled h.flags t) h)) k e).tree)
      reads (over label.stopper t) h k e =
          reads_all μ (over label.stopper t) h refl
          (stopper_reads μ h t k.1
          (reads t (deeper (under (settled h.flags t) h)) k.0 e).tree)
      reads (row label.expression (more_trees a (more_trees b no_trees))) h k e =
          let i = deeper (under (settled h.flags (row label.expression (more_trees a (more_trees b no_trees)))) h) in
          let next = like_after a BranchAlone f i.flags e in
          reads_all μ (row label.expression (more_trees a (more_trees b no_trees))) h refl
          (expression_reads μ h a b
          (ap (λ j. j.ignore_space) next ∙ sym (ap (λ j. j.ignore_space) e)) (reads a i k.0 e).tree
          (reads b (after a BranchAlone i) k.1 next).tree)
      reads (row label.expression no_trees) h k e = absurd k
      reads (row label.expression (more_trees a no_trees)) h k e = absurd k
      reads (row label.expression (more_trees a (more_trees b (more_trees c ts)))) h k e = absurd k
      reads (over (label.ast_group name position) t) h k e = absurd k
      reads (row label.concat (more_trees t (more_trees u us))) h k e =
          reads_all μ (row label.concat (more_trees t (more_trees u us))) h refl
          (concat_reads μ f t u us h (each_piece (more_trees t (more_trees u us)) h.opened k) e)
      reads (row label.alt (more_trees t (more_trees u us))) h k e =
          reads_all μ (row label.alt (more_trees t (more_trees u us))) h refl
          (alt_reads μ f t u us h (each_branch (more_trees t (more_trees u us)) h.opened k) e)
      reads (row label.concat no_trees) h k e = absurd k
      reads (row label.concat (more_trees t no_trees)) h k e = absurd k
      reads (row label.alt no_trees) h k e = absurd k
      reads (row label.alt (more_trees t no_trees)) h k e = absurd k
      reads (row label.conditional (more_trees c (more_trees t (more_trees b no_trees)))) h k e =
          let x = row label.conditional (more_trees c (more_trees t (more_trees b no_trees))) in
          let i = under (settled h.flags x) h in
          let j = after c Whole (deeper i) in
          let next = like_after c Whole f i.flags e in
          reads_all μ (row label.conditional (more_trees c (more_trees t (more_trees b no_trees)))) h refl
          (conditional_reads μ h c t b k.3
          (before_of μ f numbered c i k.0 (reads c (deeper i) k.0 e).tree)
          (reads t j k.1 next).tree
          (reads b (after t BranchAlone j) k.2 (like_after t BranchAlone f j.flags next)).tree)
      reads (row label.conditional ts) h k e = absurd k

      each_piece : (ts : Trees) (c : ℕ) → ArePieces f μ c ts → EachPiece μ f c ts
      each_piece no_trees c k = tt
      each_piece (more_trees t ts) c k = (
        (λ h o e. (reads t h (subst (λ n. AreNodesWritable f μ n t) (sym o) k.0) e).tree),
        k.1,
        (λ y h e d. leads_past μ f c t k.0 y h d),
        each_piece ts _ k.2,
      )

      each_branch : (ts : Trees) (c : ℕ) → AreAllWritable f μ c ts → EachBranch μ f c ts
      each_branch no_trees c k = tt
      each_branch (more_trees t ts) c k =
          ((λ h o e. (reads t h (subst (λ n. AreNodesWritable f μ n t) (sym o) k.0) e).tree), each_branch ts _ k.1)

-- ---- the group information of a tree

-- an opening without its reach, which the group information does not contain
abbrev pub unreached : Opening → Opening
unreached o = record { reach = 0; name = o.name }

are_info_openings : (μ : GroupInfo) (s : Text) (c : ℕ) (l : List Item) → AreGroups μ s c l →
    map unreached (numbered_openings_in μ.numbered_groups_ignored (openings_in l))
    ≡ info_openings μ c (opened μ.numbered_groups_ignored l)
are_info_openings μ s c [] h = refl
are_info_openings μ s c (opening o ∷ l) h =
    at (is_counted μ.numbered_groups_ignored o.name) h.0 (are_info_openings μ s (count_after μ c o) l h.1)
  where
    at : (b : Bool) → IsOpening b μ c o.name → let m = numbered_openings_in μ.numbered_groups_ignored (openings_in l) in
        map unreached m ≡ info_openings μ (if b then c + 1 else c) (length m) →
        map unreached (if b then o ∷ m else m) ≡ info_openings μ c (length (if b then o ∷ m else m))
    at true is e = ap₂ (λ (n : Option Text) (m : List Opening). record { reach = 0; name = n } ∷ m) is e
    at false is e = e
are_info_openings μ s c (reference r p ∷ l) h = are_info_openings μ s c l h.2

unreached_names : (l : List Opening) → filter_map (λ o. o.name) (map unreached l) ≡ filter_map (λ o. o.name) l
unreached_names [] = refl
unreached_names (o ∷ l) = ap (cons_option o.name) (unreached_names l)

pub unreached_numbers : (n : ℕ) (w : Text) (l : List Opening) → numbers_from n w (map unreached l) ≡ numbers_from n w l
unreached_numbers n w [] = refl
unreached_numbers n w (o ∷ l) =
    ap (λ k. if is_name w o.name then (n + 1) ∷ k else k) (unreached_numbers (n + 1) w l)

pub unreached_groups : (l : List Opening) → named_groups (map unreached l) ≡ named_groups l
unreached_groups l =
    ap (λ k. map (λ t. (t, numbers t (map unreached l))) (fold (insert_key name_cmp) [] k)) (unreached_names l)
    ∙ (λ i. map (λ t. (t, unreached_numbers 0 t l i)) (names l))

pub unreached_named : (f : Flags) (l : List Opening) → only_named f (map unreached l) ≡ only_named f l
unreached_named f l = ap (λ b. f.ignore_numbered_groups && b) (each l)
  where
    each : (l : List Opening) → list_any is_named (map unreached l) ≡ list_any is_named l
    each [] = refl
    each (o ∷ l) = ap (λ b. is_some o.name || b) (each l)

-- each opening in the list of those with a number is counted
pub counted_filtered : (named : Bool) (l : List Opening) →
    AreCounted named (map unreached (numbered_openings_in named l))
counted_filtered named [] = tt
counted_filtered named (o ∷ l) =
    cond_both (is_counted named o.name) _ _ (λ n. AreCounted named (map unreached n))
    (λ e. (e, counted_filtered named l)) (λ _. counted_filtered named l)

-- an opening that has a name has a number
one_more_named : (named b : Bool) (n : Option Text) (l m : List Opening) (o : Opening) → o.name ≡ n →
    is_counted named n ≡ b → list_any is_named m ≡ list_any is_named l →
    list_any is_named (if b then o ∷ m else m) ≡ (is_some n || list_any is_named l)
one_more_named named true n l m o is e h = ap₂ (λ (x : Option Text) (y : Bool). is_some x || y) is h
one_more_named named false None l m o is e h = h
one_more_named true false (Some u) l m o is e h = absurd cc
one_more_named false false (Some u) l m o is e h = absurd cc

any_filtered : (named : Bool) (l : List Opening) →
    list_any is_named (numbered_openings_in named l) ≡ list_any is_named l
any_filtered named [] = refl
any_filtered named (o ∷ l) =
    one_more_named named (is_counted named o.name) o.name l (numbered_openings_in named l) o refl refl
    (any_filtered named l)

-- some opening of the list has a name exactly if some of all openings has one
pub only_filtered : (f : Flags) (named : Bool) (l : List Opening) →
    only_named f (numbered_openings_in named l) ≡ only_named f l
only_filtered f named l = ap (λ b. f.ignore_numbered_groups && b) (any_filtered named l)

pub info_length : (μ : GroupInfo) (c n : ℕ) → length (info_openings μ c n) ≡ n
info_length μ c zero = refl
info_length μ c (suc n) = ap suc (info_length μ (c + 1) n)

module _ (μ : GroupInfo) (f : Flags) (text : Text) (r x : Tree) (b : Becomes μ text 0 r x)
    (info_is : μ ≡ info_of f (info_openings μ 0 (group_count x)) x μ) where
  abbrev numbered : List Opening
  numbered = numbered_openings_in μ.numbered_groups_ignored (openings r)

  openings_are : map unreached numbered ≡ info_openings μ 0 (group_count x)
  openings_are = are_info_openings μ text 0 (items r) b.groups ∙ ap (info_openings μ 0) b.count

  ignored_among : only_named f (openings r) ≡ only_named f (info_openings μ 0 (group_count x))
  ignored_among =
      sym (only_filtered f μ.numbered_groups_ignored (openings r))
      ∙ (sym (unreached_named f numbered) ∙ ap (only_named f) openings_are)

  ignored : only_named f (openings r) ≡ μ.numbered_groups_ignored
  ignored = ignored_among ∙ sym (ap (λ k. k.numbered_groups_ignored) info_is)

  all_numbered : numbered_openings f (openings r) ≡ numbered
  all_numbered = ap (λ n. numbered_openings_in n (openings r)) ignored

  same_numbers : (w : Text) → numbers_in f r w ≡ info_numbers μ w
  same_numbers w =
      let total : group_count x ≡ μ.total_groups
      = sym (info_length μ 0 (group_count x)) ∙ sym (ap (λ k. k.total_groups) info_is) in
      ap (numbers w) all_numbered ∙ (sym (unreached_numbers 0 w numbered)
      ∙ (ap (numbers w) openings_are ∙ ap (λ n. numbers w (info_openings μ 0 n)) total))

  without_error : error_of f r ≡ None
  without_error =
      ap (λ n. first_error (meanings_in n (numbers_in f r) 0 (items r))) ignored
      ∙ none_invalid μ text (numbers_in f r) same_numbers 0 (items r) b.groups

  -- the tree that is read, which differs from the given one only in positions
  abbrev pub tree : Tree
  tree = resolved f (bytes text) r

  resolves : unpositioned tree ≡ unpositioned x
  resolves =
      ap (λ n. unpositioned (resolved_in (bytes text) n (numbers_in f r) 0 r)) ignored
      ∙ b.is (bytes text) (numbers_in f r) same_numbers

  -- the group information that the text is read with
  same_info : DerivesTree f text r → μ ≡ group_info f text r
  same_info d =
      let m = group_info f text r in
      let a : IsParsedTreeWith tree m = parsed_tree_with (r, d, without_error, refl, refl) in
      let all = info_openings μ 0 (group_count x) in
      let total : m.total_groups ≡ length all
      = ap length all_numbered ∙ (sym (length-map numbered unreached) ∙ ap length openings_are) in
      let named : m.named_groups ≡ named_groups all
      = ap named_groups all_numbered ∙ (sym (unreached_groups numbered) ∙ ap named_groups openings_are) in
      let numeric : m.numeric_capture_group_references ≡ list_any (is_numbered μ) (preorder x)
      = info_numeric μ f text r d ignored same_numbers b.groups ∙ same_numbered tree x resolves μ in
      let self : m.self_recursive ≡ list_any (is_numbered_call_of_all μ) (preorder x)
      = info_of_all μ f text r d ignored same_numbers b.groups ∙ same_of_all tree x resolves μ in
      let only : m.numbered_groups_ignored ≡ only_named f all = ignored_among in
      let referred : groups_referred tree ≡ groups_referred x = same_referred tree x resolves in
      let backrefs : m.backrefs ≡ ascending (filter (λ n. nat_le n (length all)) (groups_referred x))
      = a.backrefs ∙ (λ i. ascending (filter (λ n. nat_le n (total i)) (referred i))) in
      let outside : m.out_of_range_backref ≡ find (λ n. nat_lt (length all) n) (groups_referred x)
      = a.out_of_range ∙ (λ i. find (λ n. nat_lt (total i) n) (referred i)) in
      let calls : m.contains_subroutines ≡ has_call x = sym a.calls ∙ same_call tree x resolves in
      let path : m ≡ info_of f all x μ = λ i. record {
        backrefs = backrefs i;
        named_groups = named i;
        numeric_capture_group_references = numeric i;
        contains_subroutines = calls i;
        self_recursive = self i;
        total_groups = total i;
        out_of_range_backref = outside i;
        numbered_groups_ignored = only i;
      } in
      info_is ∙ sym path

-- ---- the theorem

-- a whole text that is read as the tree, up to positions
from_whole : (μ : GroupInfo) (f g : Flags) (text : Text) (x : Tree) →
    μ ≡ info_of f (info_openings μ 0 (group_count x)) x μ →
    WholeAt μ (record { flags = f; opened = 0; depth = 0 }) text g [] x → IsReadAs f text x μ
from_whole μ f g text x info_is w =
    let d : DerivesTree f text w.tree = (st g [], whole w.derives) in
    let is : IsTreeOf f text (resolved f (bytes text) w.tree) μ = (
      w.tree,
      d,
      without_error μ f text w.tree x w.becomes info_is,
      refl,
      same_info μ f text w.tree x w.becomes info_is d,
    ) in
    read_as f text (resolved f (bytes text) w.tree) x μ is (resolves μ f text w.tree x w.becomes info_is)

-- what holds for each entry holds for the one that is found
found : {A : Type 0} (P : A → Type 0) (p : A → Bool) (l : List A) → AllByRecursion P l → IfSome (find p l) P
found P p [] h = tt
found P p (a ∷ l) h = cond_both (p a) _ _ (λ o. IfSome o P) (λ _. h.0) (λ _. found P p l h.1)

-- each name has its numbers
all_numbers : (l : List Opening) (ws : List Text) →
    AllByRecursion (λ (e : Named). e.1 ≡ numbers e.0 l) (map (λ t. (t, numbers t l)) ws)
all_numbers l [] = tt
all_numbers l (w ∷ ws) = (refl, all_numbers l ws)

pub reads_back : (f : Flags) (t : Tree) (μ : GroupInfo) → IsWritable f μ t → IsReadAs f (pattern_text f t μ) t μ
unfolding pattern_text
reads_back f t μ w =
    let g = agreed f t in
    let h : Context = record { flags = f; opened = 0; depth = 0 } in
    let names = λ (k : ℕ). found (λ (e : Named). IsNameWritable e.0)
    (λ e. list_any (λ n. n == k) e.1) μ.named_groups w.names in
    let total : μ.total_groups ≡ group_count t
    = ap (λ k. k.total_groups) w.group_info ∙ info_length μ 0 (group_count t) in
    let entries : AllByRecursion (λ e. e.1 ≡ info_numbers μ e.0) μ.named_groups
    = subst (AllByRecursion (λ e. e.1 ≡ info_numbers μ e.0)) (sym (ap (λ k. k.named_groups) w.group_info))
    (subst (λ n. AllByRecursion (λ e. e.1 ≡ numbers e.0 (info_openings μ 0 n))
    (named_groups (info_openings μ 0 (group_count t))))
    (sym total) (all_numbers (info_openings μ 0 (group_count t)) _)) in
    let numbered = λ (k : ℕ). found (λ (e : Named). e.1 ≡ info_numbers μ e.0)
    (λ e. list_any (λ n. n == k) e.1) μ.named_groups entries in
    let r = (reads μ f names numbered t (under g h) w.nodes refl).tree in
    let s = written μ t Whole (under g h) in
    let end_flags = flags_after t Whole g in
    let here = subst (λ u. WholeAt μ (under g h) u end_flags [] t) (append-nil s)
    (r.whole w.fits [] (ends_nothing f.ignore_space)) in
    let clear = subst (Clear f.ignore_space) (append-nil s)
    (r.whole_clear w.fits [] (ends_nothing f.ignore_space).stops.clear) in
    let all = whole_after_flags μ h g.casei g.multi g.dotnl g.crlf s [] end_flags t clear (λ _. omega arith) here in
    from_whole μ f end_flags (inline_flags f g ++ s) t w.group_info all
