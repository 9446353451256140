-- Whether references of a parsed tree count as written with numbers can be seen from its nodes.
use Rattle.std.proofs.Common.{◌≡◌, ℕ, zero, suc, ◌+◌, ◌==◌, Bool, true, false, ◌||◌, ◌&&◌, if◌then◌else◌, List, [], ◌∷◌}
use Rattle.std.proofs.Common.{Some, None, nat_lt, refl, sym, ◌∙◌, arith}
use Rattle.std.proofs.lemmas.Bool.Decides.{nat_tests}
use Rattle.std.proofs.Math.Bool.{or-true}
use Rattle.std.specs.List.{AllByRecursion, list_any}
use Rattle.fancy_lex.specs.Target.{by_number, by_name, relative}
use Rattle.fancy_lex.specs.Text.{Text, bytes, position_at}
use Rattle.fancy_lex.specs.declared.flags.Flags.{Flags}
use Rattle.fancy_grammar.specs.Meaning.{Meaning, refers_to}
use Rattle.fancy_grammar.specs.Ranks.{is_counted}
use Rattle.fancy_grammar.specs.Written.{is_numeric}
use Rattle.fancy_grammar.specs.Items.{MeantReference, meanings_in, role_of, target_of}
use Rattle.fancy_grammar.specs.Label as label
use Rattle.fancy_grammar.specs.Label.{AstReference, ast_backref, ast_call, ast_condition}
use Rattle.fancy_grammar.specs.GroupInfo.{GroupInfo, is_call_of_all}
use Rattle.fancy_grammar.specs.Resolved.{resolved_in}
use Rattle.fancy_grammar.specs.Tree.{Tree, leaf, ast_node, ast_group}
use Rattle.fancy_grammar.proofs.Writable.{is_numbered, is_numbered_call_of_all}
use Rattle.fancy_grammar.proofs.PreorderLaws.{kept, kept_if, items_of_all}
use Rattle.fancy_pattern.proofs.Parsed.Targets.{both_right}
use Rattle.fancy_pattern.proofs.Parsed.Nodes.{IsParsedNode, IsAstRead}
use Rattle.fancy_pattern.proofs.Parsed.References.{IsNumericNode}

-- ---- booleans

or_step : (a n b k : Bool) → (a ≡ true → b ≡ true) → (n ≡ true → k ≡ true) → (a || n) ≡ true → (b || k) ≡ true
or_step true n b k f g e = rw (f refl) refl
or_step false n b k f g e = rw (g e) (or-true b)

both_left : (a b : Bool) → (a && b) ≡ true → a ≡ true
both_left true b e = refl
both_left false b e = absurd cc

-- what each element that passes implies, if some element passes
any_gives : (p : Tree → Bool) (P : Type 0) → ((x : Tree) → p x ≡ true → P) → (l : List Tree) → list_any p l ≡ true → P
any_gives p P f [] e = absurd cc
any_gives p P f (x ∷ l) e = by_test (p x) refl e (any_gives p P f l)
  where
    by_test : (b : Bool) → p x ≡ b → (b || list_any p l) ≡ true → (list_any p l ≡ true → P) → P
    by_test true is e g = f x is
    by_test false is e g = g e

-- a call of the number is written with it
called_so : (numeric self : Bool) (n : ℕ) → numeric ≡ true → ((n == 0) ≡ true → self ≡ true) →
    (numeric && (nat_lt 0 n || self)) ≡ true
called_so numeric self zero e f = rw (e, f refl) refl
called_so numeric self (suc n) e f =
    let some : nat_lt 0 (suc n) ≡ true = grind (arith, nat_tests) in rw (e, some) refl

self_so : (numeric self : Bool) (n : ℕ) → ((numeric && (nat_lt 0 n || self)) && n == 0) ≡ true → self ≡ true
self_so numeric self n e =
    let zero_is : (n == 0) ≡ true = both_right (numeric && (nat_lt 0 n || self)) (n == 0) e in
    let none : nat_lt 0 n ≡ false = grind (arith, nat_tests, zero_is) in
    let some = both_right numeric (nat_lt 0 n || self) (both_left (numeric && (nat_lt 0 n || self)) (n == 0) e) in
    by_test (nat_lt 0 n) none some
  where
    by_test : (b : Bool) → b ≡ false → (b || self) ≡ true → self ≡ true
    by_test true e h = absurd cc
    by_test false e h = h

module _ (m : GroupInfo) where
  pub numbered_by : (l : List Tree) → list_any (is_numbered m) l ≡ true → m.numeric_capture_group_references ≡ true
  numbered_by l e = any_gives (is_numbered m) (m.numeric_capture_group_references ≡ true) node l e
    where
      node : (x : Tree) → is_numbered m x ≡ true → m.numeric_capture_group_references ≡ true
      node (leaf (label.backref n casei)) e = e
      node (leaf (label.subroutine_call n)) e = both_left m.numeric_capture_group_references _ e
      node _ e = absurd cc

  pub called_by : (l : List Tree) → list_any (is_numbered_call_of_all m) l ≡ true → m.self_recursive ≡ true
  called_by l e = any_gives (is_numbered_call_of_all m) (m.self_recursive ≡ true) node l e
    where
      node : (x : Tree) → is_numbered_call_of_all m x ≡ true → m.self_recursive ≡ true
      node (leaf (label.subroutine_call n)) e = self_so m.numeric_capture_group_references m.self_recursive n e
      node _ e = absurd cc

-- ---- nodes and what they resolve to

module _ (f : Flags) (m : GroupInfo) (text : Text) (z : ℕ) (named : Bool) (u : Text → List ℕ) where
  abbrev there : ℕ → Tree → Tree
  there = resolved_in z named u

  abbrev kept_here : ℕ → List Tree → List Tree
  kept_here = kept z named u

  -- what the references among nodes mean, which count as written with numbers, and which are calls of all
  abbrev pub meant : ℕ → List Tree → List MeantReference
  meant c l = meanings_in named u c (items_of_all l)

  abbrev pub is_written : MeantReference → Bool
  is_written x = is_numeric text (position_at (bytes text) x.reach) (role_of x.reference) (target_of x.reference)

  abbrev pub is_of_all : MeantReference → Bool
  is_of_all x = is_call_of_all (role_of x.reference) (target_of x.reference)

  abbrev meant_by : AstReference → ℕ → Meaning → MeantReference
  meant_by r p k = record { reference = r; reach = p; meaning = k }

  abbrev Parsed : List Tree → Type 0
  Parsed = AllByRecursion (IsParsedNode f text)

  abbrev AllNumeric : List Tree → Type 0
  AllNumeric = AllByRecursion (IsNumericNode m)

  -- by the group information, each call with a number is written with it
  numeric_at : (r : AstReference) (p : ℕ) (k : Meaning) → (is_written (meant_by r p k) ≡ true →
      m.numeric_capture_group_references ≡ true) → (is_of_all (meant_by r p k) ≡ true → m.self_recursive ≡ true) →
      IsNumericNode m (ast_node r p)
  numeric_at (ast_call (by_number n)) p k f g =
      called_so m.numeric_capture_group_references m.self_recursive n (f refl) g
  numeric_at (ast_call (by_name w)) p k f g = tt
  numeric_at (ast_call (relative y)) p k f g = tt
  numeric_at (ast_backref t casei level) p k f g = tt
  numeric_at (ast_condition t level) p k f g = tt

  or_left : (a b : Bool) → a ≡ true → (a || b) ≡ true
  or_left a b e = rw e refl

  or_right : (a b : Bool) → b ≡ true → (a || b) ≡ true
  or_right a b e = rw e (or-true a)

  pub numeric_nodes : (c : ℕ) (l : List Tree) → (list_any is_written (meant c l) ≡ true →
      m.numeric_capture_group_references ≡ true) →
      (list_any is_of_all (meant c l) ≡ true → m.self_recursive ≡ true) → AllNumeric l
  numeric_nodes c [] f g = tt
  numeric_nodes c (ast_group name p t ∷ l) f g = (
    tt,
    (elim (is_counted named name) as (λ b. (list_any is_written (meant (if b then c + 1 else c) l) ≡ true →
        m.numeric_capture_group_references ≡ true) →
        (list_any is_of_all (meant (if b then c + 1 else c) l) ≡ true → m.self_recursive ≡ true) → AllNumeric l) [
          | true ↦ λ f g. numeric_nodes (c + 1) l f g
          | false ↦ λ f g. numeric_nodes c l f g
        ]) f g,
  )
  numeric_nodes c (ast_node r p ∷ l) f g =
      let k = refers_to u c (role_of r) (target_of r) in let x = meant_by r p k in (
        numeric_at r p k (λ e. f (or_left (is_written x) _ e)) (λ e. g (or_left (is_of_all x) _ e)),
        numeric_nodes c l (λ e. f (or_right (is_written x) _ e)) (λ e. g (or_right (is_of_all x) _ e)),
      )
  numeric_nodes c (_ ∷ l) f g = (tt, numeric_nodes c l f g)

  -- if a reference counts as written with a number, so does a node
  numbered_here : m.numeric_capture_group_references ≡ true → (c : ℕ) (r : AstReference) (p : ℕ) →
      IsAstRead text r p → IsNumericNode m (ast_node r p) →
      is_numeric text (position_at (bytes text) p) (role_of r) (target_of r) ≡ true →
      is_numbered m (there c (ast_node r p)) ≡ true
  numbered_here b c (ast_backref (by_number n) casei None) p h k e = b
  numbered_here b c (ast_backref (by_number n) casei (Some y)) p h k e = absurd-here (sym h.2 ∙ e)
    where
      absurd-here : {A : Type 0} → false ≡ true → A
      absurd-here e = absurd cc
  numbered_here b c (ast_backref (by_name w) casei level) p h k e = absurd cc
  numbered_here b c (ast_backref (relative y) casei level) p h k e = absurd cc
  numbered_here b c (ast_call (by_number n)) p h k e = k
  numbered_here b c (ast_call (by_name w)) p h k e = absurd cc
  numbered_here b c (ast_call (relative y)) p h k e = absurd cc
  numbered_here b c (ast_condition (by_number n) level) p h k e = absurd cc
  numbered_here b c (ast_condition (by_name w) level) p h k e = absurd cc
  numbered_here b c (ast_condition (relative y) level) p h k e = absurd cc

  pub numbered_some : m.numeric_capture_group_references ≡ true → (c : ℕ) (l : List Tree) → Parsed l → AllNumeric l →
      list_any is_written (meant c l) ≡ true → list_any (is_numbered m) (kept_here c l) ≡ true
  numbered_some b c [] h k e = absurd cc
  numbered_some b c (ast_group name p t ∷ l) h k e =
      (elim (is_counted named name) as (λ d. list_any is_written (meant (if d then c + 1 else c) l) ≡ true →
      list_any (is_numbered m) (kept_if z named u d c t l) ≡ true) [
        | true ↦ λ e. numbered_some b (c + 1) l h.1 k.1 e
        | false ↦ λ e. numbered_some b c l h.1 k.1 e
      ]) e
  numbered_some b c (ast_node r p ∷ l) h k e =
      or_step (is_numeric text (position_at (bytes text) p) (role_of r) (target_of r)) (list_any is_written (meant c l))
      (is_numbered m (there c (ast_node r p))) (list_any (is_numbered m) (kept_here c l))
      (numbered_here b c r p h.0 k.0) (numbered_some b c l h.1 k.1) e
  numbered_some b c (x ∷ l) h k e = or_right (is_numbered m (there c x)) _ (numbered_some b c l h.1 k.1 e)

  -- if a reference calls all, so does a node
  called_here : (c : ℕ) (r : AstReference) (p : ℕ) → IsNumericNode m (ast_node r p) →
      is_call_of_all (role_of r) (target_of r) ≡ true → is_numbered_call_of_all m (there c (ast_node r p)) ≡ true
  called_here c (ast_call (by_number n)) p k e = rw (k, e) refl
  called_here c (ast_call (by_name w)) p k e = absurd cc
  called_here c (ast_call (relative y)) p k e = absurd cc
  called_here c (ast_backref t casei level) p k e = absurd cc
  called_here c (ast_condition t level) p k e = absurd cc

  pub called_some : (c : ℕ) (l : List Tree) → AllNumeric l → list_any is_of_all (meant c l) ≡ true →
      list_any (is_numbered_call_of_all m) (kept_here c l) ≡ true
  called_some c [] k e = absurd cc
  called_some c (ast_group name p t ∷ l) k e =
      (elim (is_counted named name) as (λ d. list_any is_of_all (meant (if d then c + 1 else c) l) ≡ true →
      list_any (is_numbered_call_of_all m) (kept_if z named u d c t l) ≡ true) [
        | true ↦ λ e. called_some (c + 1) l k.1 e
        | false ↦ λ e. called_some c l k.1 e
      ]) e
  called_some c (ast_node r p ∷ l) k e =
      or_step (is_call_of_all (role_of r) (target_of r)) (list_any is_of_all (meant c l))
      (is_numbered_call_of_all m (there c (ast_node r p))) (list_any (is_numbered_call_of_all m) (kept_here c l))
      (called_here c r p k.0) (called_some c l k.1) e
  called_some c (x ∷ l) k e = or_right (is_numbered_call_of_all m (there c x)) _ (called_some c l k.1 e)
