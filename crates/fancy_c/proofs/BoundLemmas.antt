-- There are no more back references than nodes.
use Rattle.std.proofs.Common.{ℕ, ◌+◌, ◌*◌, ◌≤◌, Bool, true, false, if◌then◌else◌, List, [], ◌∷◌, length}
use Rattle.std.proofs.Common.{Option, Some, None, filter, filter_map, ap, arith}
use Rattle.std.specs.BTreeSet.{insert_key}
use Rattle.std.specs.List.{cons_option}
use Rattle.std.specs.Ordering.{match_ordering, nat_cmp}
use Rattle.std.specs.Prelude.{fold, nat_le}
use Rattle.std.specs.declared.cmp.Ordering.{Ordering}
use Rattle.std.specs.declared.cmp.Ordering.TheVariants.{Less, Equal, Greater}
use Rattle.fancy_lex.specs.declared.flags.Flags.{Flags}
use Rattle.fancy_grammar.proofs.LevelLaws.{nodes_preorder}
use Rattle.fancy_grammar.specs.GroupInfo.{GroupInfo}
use Rattle.fancy_grammar.specs.ParsedTree.{group_referred, groups_referred}
use Rattle.fancy_grammar.specs.Preorder.{preorder}
use Rattle.fancy_grammar.specs.Tree.{Tree}
use Rattle.fancy_c.specs.CallResult.{IsTreeOfBytes}

insert_length : (l : List ℕ) (n : ℕ) → length (insert_key nat_cmp l n) ≤ length l + 1
insert_length [] n = omega arith
insert_length (m ∷ l) n = by_order (nat_cmp n m) (insert_length l n) where
  by_order : (r : Ordering) → length (insert_key nat_cmp l n) ≤ length l + 1 →
      length (match_ordering r (n ∷ m ∷ l) (m ∷ l) (m ∷ insert_key nat_cmp l n)) ≤ length (m ∷ l) + 1
  by_order Less h = omega arith
  by_order Equal h = omega arith
  by_order Greater h = omega (arith, h)

fold_length : (l ns : List ℕ) → length (fold (insert_key nat_cmp) l ns) ≤ length l + length ns
fold_length l [] = omega arith
fold_length l (n ∷ ns) = omega (arith, insert_length l n, fold_length (insert_key nat_cmp l n) ns)

filter_length : (p : ℕ → Bool) (l : List ℕ) → length (filter p l) ≤ length l
filter_length p [] = omega arith
filter_length p (n ∷ l) = by_test (p n) (filter_length p l) where
  by_test : (b : Bool) → length (filter p l) ≤ length l →
      length (if b then n ∷ filter p l else filter p l) ≤ length (n ∷ l)
  by_test true h = omega (arith, h)
  by_test false h = omega (arith, h)

referred_length : (l : List Tree) → length (filter_map group_referred l) ≤ length l
referred_length [] = omega arith
referred_length (t ∷ l) = by_group (group_referred t) (referred_length l) where
  by_group : (o : Option ℕ) → length (filter_map group_referred l) ≤ length l →
      length (cons_option o (filter_map group_referred l)) ≤ length (t ∷ l)
  by_group None h = omega (arith, h)
  by_group (Some n) h = omega (arith, h)

pub few_backrefs : (f : Flags) (bytes : List ℕ) (t : Tree) (m : GroupInfo) → IsTreeOfBytes f bytes t m →
    length m.backrefs ≤ 2 * length bytes + 1
few_backrefs f bytes t m tree =
    let in_range : ℕ → Bool = λ n. nat_le n m.total_groups in
    omega (
      arith,
      ap length tree.parsed.returned.backrefs,
      fold_length [] (filter in_range (groups_referred t)),
      filter_length in_range (groups_referred t),
      referred_length (preorder t),
      nodes_preorder t,
      tree.parsed.bounds.0,
    )
