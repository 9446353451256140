-- The position of the first group that is too deep, by the nesting of each part.
use Rattle.std.proofs.Common.{◌≡◌, ℕ, ◌+◌, ◌<◌, ◌≤◌, Bool, true, false, ◌||◌, nat_lt, nat_le, ◌==◌, if◌then◌else◌, List}
use Rattle.std.proofs.Common.{[], ◌∷◌, ◌++◌, codes, Option, Some, None, refl, sym, subst, ap, ◌∙◌, arith}
use Rattle.std.proofs.lemmas.Bool.{cond_both, cond-true, cond-false}
use Rattle.std.proofs.lemmas.Bool.Decides.{nat_tests}
use Rattle.std.proofs.lemmas.List.Folds.{find-append}
use Rattle.std.specs.Prelude.{find, max}
use Rattle.std.specs.Option.{option_or}
use Rattle.std.proofs.Common.{leb-true, leb-false}
use Rattle.fancy_lex.specs.Text.{Text, bytes}
use Rattle.fancy_grammar.specs.Depth.{max_depth, most_open}
use Rattle.fancy_grammar.specs.Printed.{is_long, printed}
use Rattle.fancy_grammar.specs.Printed.{WHOLE, BRANCH, PIECE, OPERAND}
use Rattle.fancy_grammar.specs.Tree.{Tree, Trees, no_trees, more_trees, any, assertion, literal, concat, alt, group}
use Rattle.fancy_grammar.specs.Tree.{repeat, delegate}
use Rattle.fancy_grammar.proofs.ReadBack.Nest.{one_if, nest, nests}
use Rattle.fancy_grammar.specs.Over.{Paren, moved, in_group, parens, parens_all, parens_branches}
use Rattle.fancy_grammar.specs.Over.{is_at_line, too_deep}

-- for a group whose opening has this many bytes, if d groups are open around it
abbrev pub at_open : ℕ → ℕ → ℕ → ℕ
at_open d width inner = if nat_le most_open d then 0 else width + inner

-- the same for a group that is there only if asked for
abbrev pub at_open_if : Bool → ℕ → (ℕ → ℕ) → ℕ
at_open_if true d inner = at_open d 3 (inner (d + 1))
at_open_if false d inner = inner d

-- the position, in the text at p, of the first group that opens while as many as possible are open; d are open around
-- the tree
abbrev mutual
  pub position : Tree → ℕ → ℕ → ℕ
  position (concat ts) p d = at_open_if (nat_lt BRANCH p) d (λ e. positions ts e)
  position (alt ts) p d = at_open_if (nat_lt WHOLE p) d (λ e. branch_positions ts e)
  position (group t) p d = at_open d 1 (position t WHOLE (d + 1))
  position (repeat t lo hi greedy) p d = at_open_if (nat_lt PIECE p) d (λ e. at_open_if (is_long t) e (position t OPERAND))
  position _ p d = 0

  pub positions : Trees → ℕ → ℕ
  positions no_trees d = 0
  positions (more_trees t ts) d =
      if nat_le max_depth (d + nest t PIECE) then position t PIECE d else bytes (printed t PIECE) + positions ts
      d

  pub branch_positions : Trees → ℕ → ℕ
  branch_positions no_trees d = 0
  branch_positions (more_trees t ts) d =
      if nat_le max_depth (d + nest t BRANCH) then position t BRANCH d else bytes (printed t BRANCH) + barred_positions
      ts d

  pub barred_positions : Trees → ℕ → ℕ
  barred_positions no_trees d = 0
  barred_positions (more_trees t ts) d =
      1 + (if nat_le max_depth (d + nest t BRANCH) then position t BRANCH d
      else bytes (printed t BRANCH) + barred_positions ts d)

-- ---- parentheses with this nesting have their first that is too deep there

-- a group that opens here is too deep, and the groups around it are not
abbrev is_too_deep : Paren → Bool
is_too_deep q = q.round + 1 == max_depth

abbrev first : List Paren → Option Paren
first l = find is_too_deep l

-- parts that are moved again, or joined
moved_again : (n k m j : ℕ) (l : List Paren) → moved n k (moved m j l) ≡ moved (n + m) (k + j) l
moved_again n k m j [] = refl
moved_again n k m j (q ∷ l) =
    let there : n + (m + q.position) ≡ n + m + q.position = omega arith in
    let inside : k + (j + q.round) ≡ k + j + q.round = omega arith in
    λ i. record { position = there i; round = inside i } ∷ moved_again n k m j l i

moved_joined : (n k : ℕ) (a b : List Paren) → moved n k (a ++ b) ≡ moved n k a ++ moved n k b
moved_joined n k [] b = refl
moved_joined n k (q ∷ a) b = ap ((record { position = n + q.position; round = k + q.round }) ∷◌) (moved_joined n k a b)

unmoved : (l : List Paren) → moved 0 0 l ≡ l
unmoved [] = refl
unmoved (q ∷ l) =
    let there : 0 + q.position ≡ q.position = omega arith in
    let inside : 0 + q.round ≡ q.round = omega arith in
    λ i. record { position = there i; round = inside i } ∷ unmoved l i

record Finds (l : List Paren) (m : ℕ) (o : ℕ → ℕ) : Type 0 where
  deep : (start d : ℕ) → d < max_depth → max_depth ≤ d + m →
      first (moved start d l) ≡ Some (record { position = start + o d; round = most_open })
  shallow : (start d : ℕ) → d + m < max_depth → first (moved start d l) ≡ None

none_find : Finds [] 0 (λ d. 0)
none_find = record { deep = λ start d l h. absurd (omega arith); shallow = λ start d h. refl }

at_same : (x y : ℕ) → x ≡ y →
    ◌≡◌ {A = Option Paren}
    (Some (record { position = x; round = most_open })) (Some (record { position = y; round = most_open }))
at_same x y e = ap (λ z. Some (record { position = z; round = most_open })) e

-- a group that is too deep
at_opening : (start d : ℕ) (l : List Paren) → d ≡ most_open →
    first (record { position = start + 0; round = d + 0 } ∷ l) ≡ Some (record { position = start + 0; round = most_open })
at_opening start d l e =
    let same : d + 0 ≡ most_open = omega (arith, e) in
    cond-true _ _ _ (deep (d + 0) same) ∙ (λ i. Some (record { position = start + 0; round = same i }))
  where
    deep : (n : ℕ) → n ≡ most_open → (n + 1 == max_depth) ≡ true
    deep n h = grind (arith, nat_tests)

-- inside a group
after_opening : (q : Paren) (l : List Paren) → q.round < most_open → first (q ∷ l) ≡ first l
after_opening q l h = cond-false _ _ _ (not_deep q.round h)
  where
    not_deep : (n : ℕ) → n < most_open → (n + 1 == max_depth) ≡ false
    not_deep n h = grind (arith, nat_tests)

group_deep : (opening : Text) (k : List Paren) (m : ℕ) (o : ℕ → ℕ) → Finds k m o → (b : Bool) (start d : ℕ) →
    nat_le most_open d ≡ b → d < max_depth →
    max_depth ≤ d + (1 + m) → first (moved start d (in_group true opening k)) ≡
    Some (record { position = start + (if b then 0 else bytes opening + o (d + 1)); round = most_open })
group_deep opening k m o f true start d e l h =
    at_opening start d (moved start d (moved (bytes opening) 1 k)) (omega (arith, leb-true most_open d e))
group_deep opening k m o f false start d e l h =
    let more = leb-false most_open d e in
    after_opening (record { position = start + 0; round = d + 0 }) (moved start d (moved (bytes opening) 1 k))
    (omega (arith, more))
    ∙ ap first (moved_again start d (bytes opening) 1 k)
    ∙ f.deep (start + bytes opening) (d + 1) (omega (arith, more)) (omega arith)
    ∙ at_same _ _ (omega arith)

group_shallow : (opening : Text) (k : List Paren) (m : ℕ) (o : ℕ → ℕ) → Finds k m o → (start d : ℕ) →
    d + (1 + m) < max_depth → first (moved start d (in_group true opening k)) ≡ None
group_shallow opening k m o f start d h =
    after_opening (record { position = start + 0; round = d + 0 }) (moved start d (moved (bytes opening) 1 k)) (omega arith)
    ∙ ap first (moved_again start d (bytes opening) 1 k)
    ∙ f.shallow (start + bytes opening) (d + 1) (omega arith)

group_finds : (opening : Text) (k : List Paren) (m : ℕ) (o : ℕ → ℕ) → Finds k m o →
    Finds (in_group true opening k) (1 + m) (λ d. at_open d (bytes opening) (o (d + 1)))
group_finds opening k m o f = record {
  deep = λ start d l h. group_deep opening k m o f (nat_le most_open d) start d refl l h;
  shallow = λ start d h. group_shallow opening k m o f start d h;
}

-- a group around these, if asked for
if_finds : (b : Bool) (k : List Paren) (m : ℕ) (o : ℕ → ℕ) → Finds k m o →
    Finds (in_group b (codes "(?:") k) (one_if b + m) (λ d. at_open_if b d o)
unfolding bytes
if_finds true k m o f = group_finds (codes "(?:") k m o f
if_finds false k m o f = record {
  deep = λ start d l h. f.deep start d l (omega arith);
  shallow = λ start d h. f.shallow start d (omega arith);
}

leaf_finds : (b : Bool) → Finds (in_group b [] []) (one_if b) (λ d. 0)
leaf_finds true = record {
  deep = λ start d l h. at_opening start d [] (omega arith);
  shallow = λ start d h. group_shallow [] [] 0 (λ d. 0) none_find start d (omega arith);
}
leaf_finds false = none_find

-- ---- one part after another

after_shallow : (a b : List Paren) → first a ≡ None → first (a ++ b) ≡ first b
after_shallow a b e = find-append is_too_deep a b ∙ ap (λ o. option_or o (first b)) e

in_deep : (a b : List Paren) (q : Paren) → first a ≡ Some q → first (a ++ b) ≡ Some q
in_deep a b q e = find-append is_too_deep a b ∙ ap (λ o. option_or o (first b)) e

-- two parts, of which the second begins w bytes after the start of the first
module _ (k l : List Paren) (w : ℕ) where
  parts : (start d : ℕ) → moved start d (k ++ moved w 0 l) ≡ moved start d k ++ moved (start + w) (d + 0) l
  parts start d = moved_joined start d k (moved w 0 l) ∙ ap (moved start d k ++◌) (moved_again start d w 0 l)

  both_find : (m n : ℕ) (o r : ℕ → ℕ) → Finds k m o → Finds l n r →
      Finds (k ++ moved w 0 l) (max m n) (λ d. if nat_le max_depth (d + m) then o d else w + r d)
  both_find m n o r f g = record {
    deep = λ start d h i. ap first (parts start d) ∙ cond_both (nat_le max_depth (d + m)) _ _
        (λ x. first (moved start d k ++ moved (start + w) (d + 0) l) ≡
        Some (record { position = start + x; round = most_open }))
        (λ yes. in_deep (moved start d k) (moved (start + w) (d + 0) l) _
        (f.deep start d h (leb-true max_depth (d + m) yes)))
        (λ no. let a = leb-false max_depth (d + m) no in
        after_shallow (moved start d k) (moved (start + w) (d + 0) l) (f.shallow start d a)
        ∙ subst (λ e. first (moved (start + w) e l) ≡ Some (record { position = start + w + r d; round = most_open }))
        (same d) (g.deep (start + w) d h (omega arith))
        ∙ at_same _ _ (omega arith));
    shallow = λ start d h.
        ap first (parts start d) ∙ after_shallow (moved start d k) (moved (start + w) (d + 0) l) (f.shallow start d (omega arith))
        ∙ subst (λ e. first (moved (start + w) e l) ≡ None) (same d) (g.shallow (start + w) d (omega arith));
  }
    where
      same : (d : ℕ) → d ≡ d + 0
      same d = omega arith

-- positions that agree wherever a group is too deep may replace each other
finds_same : (k : List Paren) (m : ℕ) (o r : ℕ → ℕ) → Finds k m o →
    ((d : ℕ) → d < max_depth → max_depth ≤ d + m → o d ≡ r d) → Finds k m r
finds_same k m o r f same = record {
  deep = λ start d l h. f.deep start d l h ∙ at_same _ _ (ap (λ x. start + x) (same d l h));
  shallow = f.shallow;
}

-- the branches after a bar, if one of them is too deep
after_bar : (ts : Trees) (d : ℕ) → d < max_depth → max_depth ≤ d + nests ts BRANCH →
    barred_positions ts d ≡ 1 + branch_positions ts d
after_bar no_trees d l h = absurd (omega arith)
after_bar (more_trees t ts) d l h = refl

with_bar : (t : Tree) (ts : Trees) (d : ℕ) → d < max_depth → max_depth ≤ d + max (nest t BRANCH) (nests ts BRANCH) →
    (if nat_le max_depth (d + nest t BRANCH) then position t BRANCH d
    else bytes (printed t BRANCH) + 1 + branch_positions ts d) ≡ branch_positions (more_trees t ts) d
with_bar t ts d l h = by_test (nat_le max_depth (d + nest t BRANCH)) refl
  where
    by_test : (b : Bool) → nat_le max_depth (d + nest t BRANCH) ≡ b →
        (if b then position t BRANCH d else bytes (printed t BRANCH) + 1 + branch_positions ts d)
        ≡ (if b then position t BRANCH d else bytes (printed t BRANCH) + barred_positions ts d)
    by_test true e = refl
    by_test false e =
        let less = leb-false max_depth (d + nest t BRANCH) e in
        let later = after_bar ts d l (omega arith) in
        let same : bytes (printed t BRANCH) + 1 + branch_positions ts d
        ≡ bytes (printed t BRANCH) + barred_positions ts d = omega arith in same

one_group : (t : Tree) → Finds (parens t WHOLE) (nest t WHOLE) (position t WHOLE) →
    Finds (in_group true (codes "(") (parens t WHOLE)) (1 + nest t WHOLE) (λ d. at_open d 1 (position t WHOLE (d + 1)))
unfolding bytes
one_group t f = group_finds (codes "(") (parens t WHOLE) (nest t WHOLE) (position t WHOLE) f

-- by induction on the tree
mutual
  parens_find : (t : Tree) (p : ℕ) → Finds (parens t p) (nest t p) (position t p)
  parens_find (any newline crlf) p = leaf_finds (newline || crlf)
  parens_find (assertion a) p = leaf_finds (is_at_line a)
  parens_find (literal s casei) p = leaf_finds casei
  parens_find (delegate s casei) p = leaf_finds casei
  parens_find (concat ts) p = if_finds (nat_lt BRANCH p) (parens_all ts) (nests ts PIECE) (positions ts) (all_find ts)
  parens_find (alt ts) p =
      if_finds (nat_lt WHOLE p) (parens_branches ts) (nests ts BRANCH) (branch_positions ts) (branches_find ts)
  parens_find (group t) p = one_group t (parens_find t WHOLE)
  parens_find (repeat t lo hi greedy) p =
      if_finds (nat_lt PIECE p) (in_group (is_long t) (codes "(?:") (parens t OPERAND))
      (one_if (is_long t) + nest t OPERAND)
      (λ d. at_open_if (is_long t) d (position t OPERAND))
      (if_finds (is_long t) (parens t OPERAND) (nest t OPERAND) (position t OPERAND) (parens_find t OPERAND))
  parens_find _ p = none_find

  all_find : (ts : Trees) → Finds (parens_all ts) (nests ts PIECE) (positions ts)
  all_find no_trees = none_find
  all_find (more_trees t ts) =
      both_find (parens t PIECE) (parens_all ts) (bytes (printed t PIECE)) (nest t PIECE) (nests ts PIECE)
      (position t PIECE) (positions ts)
      (parens_find t PIECE) (all_find ts)

  branches_find : (ts : Trees) → Finds (parens_branches ts) (nests ts BRANCH) (branch_positions ts)
  branches_find no_trees = none_find
  branches_find (more_trees t ts) =
      finds_same _ _ _ _
      (both_find (parens t BRANCH) (parens_branches ts) (bytes (printed t BRANCH) + 1) (nest t BRANCH) (nests ts BRANCH)
      (position t BRANCH) (branch_positions ts) (parens_find t BRANCH) (branches_find ts))
      (with_bar t ts)

-- the first that is too deep is there; if fewer groups nest, no group is too deep
pub over_position : (t : Tree) (p : ℕ) → max_depth ≤ nest t p →
    too_deep t p ≡ Some (record { position = position t p 0; round = most_open })
over_position t p h =
    ap first (sym (unmoved (parens t p))) ∙ (parens_find t p).deep 0 0 (omega arith) (omega arith) ∙ at_same _ _ (omega arith)

pub none_too_deep : (t : Tree) (p : ℕ) → nest t p < max_depth → too_deep t p ≡ None
none_too_deep t p h = ap first (sym (unmoved (parens t p))) ∙ (parens_find t p).shallow 0 0 (omega arith)
