-- The texts of a parsed tree and the names of its groups are at most six times as long as the pattern.
use Rattle.std.proofs.Common.{◌≡◌, ℕ, ◌+◌, ◌*◌, ◌≤◌, Bool, List, [], ◌∷◌, ◌++◌, length}
use Rattle.std.proofs.Common.{Option, Some, None, chars, refl, sym, ap, arith, length-append}
use Rattle.std.specs.Ordering.{match_ordering}
use Rattle.std.specs.Prelude.{encode_utf8_all}
use Rattle.std.specs.Str.{IsUtf8}
use Rattle.std.specs.declared.cmp.Ordering.{Ordering}
use Rattle.std.specs.declared.cmp.Ordering.TheVariants.{Less, Equal, Greater}
use Rattle.std.proofs.lemmas.Bool.{cond_both}
use Rattle.std.proofs.lemmas.List.{length-map}
use Rattle.fancy_lex.proofs.TextLemmas.{bytes_chars, length_encodes}
use Rattle.fancy_lex.specs.Target.{Target, by_number, by_name, relative}
use Rattle.fancy_lex.specs.Text.{Text, bytes}
use Rattle.fancy_lex.specs.declared.flags.Flags.{Flags}
use Rattle.fancy_grammar.proofs.NamedLaws.{with_all, all_named}
use Rattle.fancy_grammar.specs.Groups.{Groups, no_groups, with_group, with_named, with_number}
use Rattle.fancy_grammar.specs.Meaning.{Meaning, number, unresolved, invalid, refers_to}
use Rattle.fancy_grammar.specs.Ranks.{Opening, is_counted, name_cmp, named_groups, numbered_openings, numbered_openings_in, only_named}
use Rattle.fancy_grammar.proofs.PreorderLaws.{items_of_all, items_of_nodes, kept, resolved_nodes}
use Rattle.fancy_grammar.specs.GroupInfo.{GroupInfo}
use Rattle.fancy_grammar.specs.Items.{openings, openings_in, role_of, target_of, numbers_in}
use Rattle.fancy_grammar.specs.Label as label
use Rattle.fancy_grammar.specs.Label.{AstReference, ast_backref, ast_call, ast_condition}
use Rattle.fancy_grammar.specs.ParseResult.{IsTreeOf}
use Rattle.fancy_grammar.specs.Preorder.{preorder, preorder_all}
use Rattle.fancy_grammar.specs.Resolved.{resolved_in, reference_node}
use Rattle.fancy_grammar.specs.Tree.{Tree, leaf, over, row, Trees, no_trees, more_trees, ast_node, ast_group}
use Rattle.fancy_c.specs.InfoRows.{rows_of_name, name_rows, name_texts}
use Rattle.fancy_c.specs.Node.{carried, target_name, listed, listed_all, texts}
use Rattle.fancy_c.specs.declared.info_rows.Name.{Name}
use Rattle.fancy_c.proofs.ReadCosts.{whole_paid}
use Rattle.fancy_c.proofs.TreeCosts.{target_cost, leaf_cost, name_cost, wrap_cost, cost, cost_all}

-- ---- the nodes of a raw tree

abbrev own_cost : Tree → ℕ
own_cost (leaf l) = leaf_cost l
own_cost (over w t) = wrap_cost w
own_cost (row r ts) = 0

abbrev costs_of : List Tree → ℕ
costs_of [] = 0
costs_of (t ∷ l) = own_cost t + costs_of l

costs_append : (a b : List Tree) → costs_of (a ++ b) ≡ costs_of a + costs_of b
costs_append [] b = omega arith
costs_append (t ∷ a) b = omega (arith, costs_append a b)

mutual
  cost_nodes : (t : Tree) → cost t ≡ costs_of (preorder t)
  cost_nodes (leaf l) = omega arith
  cost_nodes (over w t) = omega (arith, cost_nodes t)
  cost_nodes (row r ts) = omega (arith, all_costs ts)

  all_costs : (ts : Trees) → cost_all ts ≡ costs_of (preorder_all ts)
  all_costs no_trees = omega arith
  all_costs (more_trees t ts) =
      omega (arith, cost_nodes t, all_costs ts, costs_append (preorder t) (preorder_all ts))

-- ---- the nodes that resolving keeps

abbrev names_cost : List Opening → ℕ
names_cost [] = 0
names_cost (o ∷ l) = name_cost o.name + names_cost l

text_size : (w : Text) → length (encode_utf8_all w) ≡ bytes w
text_size w = sym (length_encodes w)

target_size : (g : Target) → length (target_name g) ≡ target_cost g
target_size (by_name w) = text_size w
target_size (by_number n) = refl
target_size (relative z) = refl

reference_size : (n : ℕ) (m : Meaning) (r : AstReference) (reach : ℕ) →
    length (carried (reference_node n m r reach)) ≤ leaf_cost (label.ast_node r reach)
reference_size n (number k) (ast_backref g casei None) reach = omega arith
reference_size n (number k) (ast_backref g casei (Some level)) reach = omega arith
reference_size n (number k) (ast_call g) reach = omega arith
reference_size n (number k) (ast_condition g level) reach = omega arith
reference_size n unresolved (ast_backref g casei level) reach = omega arith
reference_size n unresolved (ast_call g) reach = omega (arith, target_size g)
reference_size n unresolved (ast_condition g level) reach = omega arith
reference_size n (invalid k) (ast_backref g casei level) reach = omega arith
reference_size n (invalid k) (ast_call g) reach = omega (arith, target_size g)
reference_size n (invalid k) (ast_condition g level) reach = omega arith

module _ (z : ℕ) (named : Bool) (numbers_of : Text → List ℕ) where
  -- the texts of the nodes, and the names of the groups among them
  abbrev Within : ℕ → List Tree → Type 0
  Within c l =
      length (texts (kept z named numbers_of c l)) + names_cost (openings_in (items_of_all l)) ≤ costs_of l

  kept_within : (c : ℕ) (l : List Tree) → Within c l
  kept_within c [] = omega arith
  kept_within c (ast_group name position t ∷ l) =
      let in_group = kept_within (c + 1) l in
      let alone = kept_within c l in
      cond_both (is_counted named name) _ _
      (λ k. length (texts k) + (name_cost name + names_cost (openings_in (items_of_all l))) ≤ name_cost name + costs_of l)
      (λ _. omega (arith, in_group)) (λ _. omega (arith, alone))
  kept_within c (ast_node r position ∷ l) =
      let node = reference_node z (refers_to numbers_of c (role_of r) (target_of r)) r position in
      omega (
        arith,
        kept_within c l,
        reference_size z (refers_to numbers_of c (role_of r) (target_of r)) r position,
        length-append (carried node) (texts (kept z named numbers_of c l)),
      )
  kept_within c (leaf (label.literal w casei) ∷ l) =
      omega (arith, kept_within c l, text_size w, length-append (encode_utf8_all w) (texts (kept z named numbers_of c l)))
  kept_within c (leaf (label.literal_bytes w) ∷ l) =
      omega (arith, kept_within c l, length-append w (texts (kept z named numbers_of c l)))
  kept_within c (leaf (label.delegate w casei) ∷ l) =
      omega (arith, kept_within c l, text_size w, length-append (encode_utf8_all w) (texts (kept z named numbers_of c l)))
  kept_within c (t ∷ l) = omega (arith, kept_within c l)

-- no more texts are listed than the nodes have
texts_both : (a b : List Tree) → length (texts (a ++ b)) ≡ length (texts a) + length (texts b)
texts_both [] b = omega arith
texts_both (t ∷ a) b =
    omega (arith, texts_both a b, length-append (carried t) (texts (a ++ b)), length-append (carried t) (texts a))

mutual
  listed_size : (t : Tree) → length (texts (listed t)) ≤ length (texts (preorder t))
  listed_size (leaf l) = omega arith
  listed_size (over (label.ast_group name position) t) = omega arith
  listed_size (over w t) =
      omega (
        arith,
        listed_size t,
        length-append (carried (over w t)) (texts (listed t)),
        length-append (carried (over w t)) (texts (preorder t)),
      )
  listed_size (row r ts) = omega (arith, listed_sizes ts)

  listed_sizes : (ts : Trees) → length (texts (listed_all ts)) ≤ length (texts (preorder_all ts))
  listed_sizes no_trees = omega arith
  listed_sizes (more_trees t ts) =
      omega (
        arith,
        listed_size t,
        listed_sizes ts,
        texts_both (listed t) (listed_all ts),
        texts_both (preorder t) (preorder_all ts),
      )

-- ---- the names of groups

abbrev entries_cost : List (Text × List ℕ) → ℕ
entries_cost [] = 0
entries_cost (e ∷ es) = bytes e.0 + 6 * length e.1 + entries_cost es

number_cost : (t : Text) (n : ℕ) (es : List (Text × List ℕ)) → entries_cost (with_number t n es) ≤ bytes t + 6 + entries_cost es
number_cost t n [] = omega arith
number_cost t n (e ∷ es) = by_order (name_cmp t e.0) (number_cost t n es)
  where
    by_order : (o : Ordering) → entries_cost (with_number t n es) ≤ bytes t + 6 + entries_cost es →
        entries_cost (match_ordering o ((t, n ∷ []) ∷ e ∷ es) ((e.0, e.1 ++ n ∷ []) ∷ es) (e ∷ with_number t n es))
        ≤ bytes t + 6 + entries_cost (e ∷ es)
    by_order Less h = omega arith
    by_order Equal h = omega (arith, length-append e.1 (n ∷ []))
    by_order Greater h = omega (arith, h)

named_cost : (name : Option Text) (n : ℕ) (es : List (Text × List ℕ)) →
    entries_cost (with_named name n es) ≤ name_cost name + entries_cost es
named_cost None n es = omega arith
named_cost (Some t) n es = number_cost t n es

all_cost : (s : Groups) (l : List Opening) → entries_cost (with_all s l).names ≤ entries_cost s.names + names_cost l
all_cost s [] = omega arith
all_cost s (o ∷ l) =
    omega (arith, all_cost (with_group s o.name) l, named_cost o.name (s.total + 1) s.names)

counted_cost : (named : Bool) (l : List Opening) → names_cost (numbered_openings_in named l) ≤ names_cost l
counted_cost named [] = omega arith
counted_cost named (o ∷ l) =
    let more = counted_cost named l in
    cond_both (is_counted named o.name) _ _ (λ k. names_cost k ≤ names_cost (o ∷ l)) (λ _. omega (arith, more))
    (λ _. omega (arith, more))

rows_size : (o : ℕ) (l : List (Text × List ℕ)) → length (name_texts l) + 6 * length (name_rows o l) ≡ entries_cost l
rows_size o [] = omega arith
rows_size o ((w, ks) ∷ l) =
    let row : ℕ → Name = λ k. record { text = o; text_size = length (encode_utf8_all w); group = k } in
    omega (
      arith,
      rows_size (o + length (encode_utf8_all w)) l,
      text_size w,
      length-append (encode_utf8_all w) (name_texts l),
      length-map ks row,
      length-append (rows_of_name o (length (encode_utf8_all w)) ks) (name_rows (o + length (encode_utf8_all w)) l),
    )

-- ---- a parsed tree

-- the texts, and six bytes for each row of a name, are within six bytes for each byte of the pattern
pub parsed_cost : (f : Flags) (re : List ℕ) (t : Tree) (m : GroupInfo) → IsUtf8 re → IsTreeOf f (chars re) t m →
    length (texts (listed t)) + length (name_texts m.named_groups) + 6 * length (name_rows 0 m.named_groups) ≤ 6 * length re
parsed_cost f re t m u (r, a, none, e, d) =
    let named = only_named f (openings r) in
    let numbers_of = numbers_in f r in
    let n = bytes (chars re) in
    let groups = numbered_openings f (openings r) in
    omega (
      arith,
      whole_paid a.1,
      bytes_chars re u,
      cost_nodes r,
      kept_within n named numbers_of 0 (preorder r),
      ap (λ l. length (texts l)) (resolved_nodes n named numbers_of 0 r),
      ap (λ k. length (texts (listed k))) e,
      listed_size (resolved_in n named numbers_of 0 r),
      ap (λ l. names_cost (openings_in l)) (items_of_nodes r),
      counted_cost named (openings r),
      all_cost no_groups groups,
      ap entries_cost (all_named groups),
      rows_size 0 (named_groups groups),
      ap (λ k. length (name_texts k.named_groups)) d,
      ap (λ k. length (name_rows 0 k.named_groups)) d,
    )
