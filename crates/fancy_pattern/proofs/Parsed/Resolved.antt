-- What is true of each node of a parsed tree, by the nodes of the raw tree that it was resolved from.
use Rattle.std.proofs.Common.{◌≡◌, ℕ, ◌+◌, ◌<◌, ◌≤◌, ◌^◌, Bool, true, false, ◌&&◌, List, [], ◌∷◌, length}
use Rattle.std.proofs.Common.{Some, None, IfSome, refl, sym, ap, ap₂, ◌∙◌, subst}
use Rattle.std.specs.List.{AllByRecursion}
use Rattle.fancy_lex.specs.Text.{Text, bytes}
use Rattle.fancy_lex.specs.declared.flags.Flags.{Flags}
use Rattle.fancy_grammar.specs.Meaning.{Meaning, number, refers_to}
use Rattle.fancy_grammar.specs.Ranks.{is_counted, only_named}
use Rattle.fancy_grammar.specs.ParseResult.{IsTreeOf}
use Rattle.fancy_grammar.specs.Items.{openings, openings_in, numbers_in, role_of, target_of}
use Rattle.fancy_grammar.specs.Join.{is_empty}
use Rattle.fancy_grammar.specs.Label as label
use Rattle.fancy_grammar.specs.Label.{AstReference, ast_backref, ast_call, ast_condition}
use Rattle.fancy_grammar.specs.GroupInfo.{GroupInfo}
use Rattle.fancy_grammar.specs.Preorder.{preorder}
use Rattle.fancy_grammar.specs.Quantified.{is_repeatable}
use Rattle.fancy_grammar.specs.Resolved.{resolved_in, resolved_all, reference_node}
use Rattle.fancy_grammar.specs.Tree.{Tree, leaf, over, row, Trees, no_trees, more_trees, ast_node, ast_group}
use Rattle.fancy_grammar.specs.Tree.{list_of}
use Rattle.fancy_grammar.proofs.Writable.{IsNameWritable}
use Rattle.fancy_grammar.proofs.ParsedTreeLaws.{list_length}
use Rattle.fancy_grammar.proofs.PreorderLaws.{kept, kept_if, resolved_nodes, items_of_all, items_of_nodes}
use Rattle.fancy_pattern.proofs.Parsed.Derived.{derived_parsed}
use Rattle.fancy_pattern.proofs.Parsed.ParsedInfo.{info_names}
use Rattle.fancy_pattern.proofs.Parsed.Nodes.{IsParsedNode, IsSolid, AreTwo, AreBranched}

-- three trees, as in a conditional
abbrev pub AreThree : Trees → Type 0
AreThree (more_trees c (more_trees t (more_trees e no_trees))) = Unit {0}
AreThree _ = ⊥

-- The same as for raw nodes, with one exception: if groups without a name have no number, they are replaced by their
-- contents, so the operand of a quantifier need not be repeatable, and a part of a Concat, the contents of a stopper,
-- and both branches may be Empty.
abbrev pub IsResolvedNode : Flags → Bool → Tree → Type 0
IsResolvedNode f named (leaf (label.ast_node r position)) = Unit {0}
IsResolvedNode f named (leaf l) = IsParsedNode f [] (leaf l)
IsResolvedNode f named (over (label.repeat lo hi greedy) t) =
    (named ≡ false → is_repeatable f t ≡ true) × (lo < 2 ^ 64) × (hi < 2 ^ 64) × (f.oniguruma_mode ≡ true → lo ≤ hi)
IsResolvedNode f named (over label.stopper t) = named ≡ false → IsSolid t
IsResolvedNode f named (row label.concat ts) =
    (2 ≤ length (list_of ts)) × (named ≡ false → AllByRecursion IsSolid (list_of ts))
IsResolvedNode f named (row label.expression ts) = AreTwo ts
IsResolvedNode f named (row label.conditional ts) = AreThree ts × (named ≡ false → AreBranched ts)
IsResolvedNode f named _ = Unit {0}

-- ---- what a reference becomes

-- it depends on no flag, is not Empty, and may be under a quantifier
record IsPlain (f : Flags) (t : Tree) : Type 0 where
  fact : (named : Bool) → IsResolvedNode f named t
  solid : IsSolid t
  repeatable : is_repeatable f t ≡ true

reference_plain : (f : Flags) (z : ℕ) (m : Meaning) (r : AstReference) (position : ℕ) →
    IsPlain f (reference_node z m r position)
reference_plain f z (number n) (ast_backref t casei None) position =
    record { fact = λ b. tt; solid = refl; repeatable = refl }
reference_plain f z (number n) (ast_backref t casei (Some level)) position =
    record { fact = λ b. tt; solid = refl; repeatable = refl }
reference_plain f z (number n) (ast_call t) position = record { fact = λ b. tt; solid = refl; repeatable = refl }
reference_plain f z (number n) (ast_condition t level) position =
    record { fact = λ b. tt; solid = refl; repeatable = refl }
reference_plain f z _ r position = record { fact = λ b. tt; solid = refl; repeatable = refl }

-- ---- what resolving keeps

module _ (f : Flags) (text : Text) (z : ℕ) (named : Bool) (numbers_of : Text → List ℕ) where
  abbrev there : ℕ → Tree → Tree
  there = resolved_in z named numbers_of

  reference_there : (c : ℕ) (r : AstReference) (position : ℕ) → IsPlain f (there c (ast_node r position))
  reference_there c r position = reference_plain f z (refers_to numbers_of c (role_of r) (target_of r)) r position

  -- if each group has a number
  module _ (e : named ≡ false) where
    empty_kept : (c : ℕ) (t : Tree) → is_empty (there c t) ≡ is_empty t
    empty_kept c (ast_group name position t) = rw e refl
    empty_kept c (ast_node r position) = (reference_there c r position).solid
    empty_kept c _ = refl

    repeatable_kept : (c : ℕ) (t : Tree) → is_repeatable f (there c t) ≡ is_repeatable f t
    repeatable_kept c (ast_group name position t) = rw e refl
    repeatable_kept c (ast_node r position) = (reference_there c r position).repeatable
    repeatable_kept c _ = refl

    solid_kept : (ts : Trees) (c : ℕ) → AllByRecursion IsSolid (list_of ts) →
        AllByRecursion IsSolid (list_of (resolved_all z named numbers_of c ts))
    solid_kept no_trees c h = tt
    solid_kept (more_trees t ts) c h = (empty_kept c t ∙ h.0, solid_kept ts _ h.1)

    branched_kept : (c : ℕ) (ts : Trees) → AreBranched ts → AreBranched (resolved_all z named numbers_of c ts)
    branched_kept c (more_trees k (more_trees t (more_trees x no_trees))) h =
        ap₂ (λ a b. a && b) (empty_kept _ t) (empty_kept _ x) ∙ h
    branched_kept c no_trees h = absurd h
    branched_kept c (more_trees k no_trees) h = absurd h
    branched_kept c (more_trees k (more_trees t no_trees)) h = absurd h
    branched_kept c (more_trees k (more_trees t (more_trees x (more_trees y ts)))) h = absurd h

  two_kept : (c : ℕ) (ts : Trees) → AreTwo ts → AreTwo (resolved_all z named numbers_of c ts)
  two_kept c (more_trees a (more_trees b no_trees)) h = tt
  two_kept c no_trees h = absurd h
  two_kept c (more_trees a no_trees) h = absurd h
  two_kept c (more_trees a (more_trees b (more_trees x ts))) h = absurd h

  three_kept : (c : ℕ) (ts : Trees) → AreBranched ts → AreThree (resolved_all z named numbers_of c ts)
  three_kept c (more_trees k (more_trees t (more_trees x no_trees))) h = tt
  three_kept c no_trees h = absurd h
  three_kept c (more_trees k no_trees) h = absurd h
  three_kept c (more_trees k (more_trees t no_trees)) h = absurd h
  three_kept c (more_trees k (more_trees t (more_trees x (more_trees y ts)))) h = absurd h

  abbrev kept_here : ℕ → List Tree → List Tree
  kept_here = kept z named numbers_of

  nodes_kept : (c : ℕ) (l : List Tree) → AllByRecursion (IsParsedNode f text) l →
      AllByRecursion (IsResolvedNode f named) (kept_here c l)
  nodes_kept c [] h = tt
  nodes_kept c (ast_group name position t ∷ l) h =
      elim (is_counted named name) as (λ b.
      AllByRecursion (IsResolvedNode f named) (kept_if z named numbers_of b c t l)) [
        | true ↦ (tt, nodes_kept (c + 1) l h.1)
        | false ↦ nodes_kept c l h.1
      ]
  nodes_kept c (ast_node r position ∷ l) h = ((reference_there c r position).fact named, nodes_kept c l h.1)
  nodes_kept c (leaf x ∷ l) h = (h.0, nodes_kept c l h.1)
  nodes_kept c (over (label.repeat lo hi greedy) t ∷ l) h =
      (((λ e. repeatable_kept e c t ∙ h.0.0), h.0.1, h.0.2, h.0.3), nodes_kept c l h.1)
  nodes_kept c (over label.stopper t ∷ l) h = ((λ e. empty_kept e c t ∙ h.0), nodes_kept c l h.1)
  nodes_kept c (row label.concat ts ∷ l) h = (
    (subst (λ k. 2 ≤ k) (sym (list_length z named numbers_of ts c)) h.0.0, λ e. solid_kept e ts c h.0.1),
    nodes_kept c l h.1,
  )
  nodes_kept c (row label.expression ts ∷ l) h = (two_kept c ts h.0, nodes_kept c l h.1)
  nodes_kept c (row label.conditional ts ∷ l) h =
      ((three_kept c ts h.0, λ e. branched_kept e c ts h.0), nodes_kept c l h.1)
  nodes_kept c (_ ∷ l) h = (tt, nodes_kept c l h.1)

-- ---- the names of groups

names_in : (f : Flags) (text : Text) (l : List Tree) → AllByRecursion (IsParsedNode f text) l →
    AllByRecursion (λ o. IfSome o.name IsNameWritable) (openings_in (items_of_all l))
names_in f text [] h = tt
names_in f text (ast_group name position t ∷ l) h = (h.0, names_in f text l h.1)
names_in f text (ast_node r position ∷ l) h = names_in f text l h.1
names_in f text (_ ∷ l) h = names_in f text l h.1

-- ---- parsed trees

module _ {f : Flags} {text : Text} {t : Tree} {m : GroupInfo} (a : IsTreeOf f text t m) where
  -- each node is such a node
  pub nodes_resolved : AllByRecursion (IsResolvedNode f m.numbered_groups_ignored) (preorder t)
  nodes_resolved =
      let r = a.0 in
      let named = only_named f (openings r) in
      subst (λ b. AllByRecursion (IsResolvedNode f b) (preorder t)) (sym (ap (λ k. k.numbered_groups_ignored) a.4))
      (subst (AllByRecursion (IsResolvedNode f named))
      (sym (ap preorder a.3 ∙ resolved_nodes (bytes text) named (numbers_in f r) 0 r))
      (nodes_kept f text (bytes text) named (numbers_in f r) 0 (preorder r) (derived_parsed a.1)))

  -- each name can be written
  pub names_writable : AllByRecursion (λ (e : Text × List ℕ). IsNameWritable e.0) m.named_groups
  names_writable =
      info_names a IsNameWritable
      (subst (λ l. AllByRecursion (λ o. IfSome o.name IsNameWritable) (openings_in l)) (sym (items_of_nodes a.0))
      (names_in f text (preorder a.0) (derived_parsed a.1)))
