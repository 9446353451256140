-- Resolving removes nodes, and adds neither a node nor a level.
use Rattle.std.proofs.Common.{◌≡◌, ℕ, suc, ◌+◌, ◌≤◌, Bool, List, [], ◌∷◌, length, length-append, Some, None}
use Rattle.std.proofs.Common.{refl, ap, arith}
use Rattle.std.proofs.lemmas.Bool.{cond_both}
use Rattle.fancy_lex.specs.Text.{Text}
use Rattle.fancy_grammar.specs.Meaning.{Meaning, number, refers_to}
use Rattle.fancy_grammar.specs.Ranks.{is_counted, numbered_openings_in}
use Rattle.fancy_grammar.specs.Items.{openings, role_of, target_of}
use Rattle.fancy_grammar.specs.Label.{AstReference, ast_backref, ast_call, ast_condition}
use Rattle.fancy_grammar.specs.Preorder.{preorder, preorder_all}
use Rattle.fancy_grammar.specs.Resolved.{resolved_in, resolved_all, reference_node}
use Rattle.fancy_grammar.specs.Tree.{Tree, leaf, over, row, Trees, no_trees, more_trees, ast_node, ast_group, nodes}
use Rattle.fancy_grammar.specs.Tree.{nodes_all}
use Rattle.fancy_grammar.specs.Tree.{levels, levels_all}
use Rattle.fancy_grammar.proofs.PreorderLaws.{kept, resolved_nodes}

-- ---- nodes

mutual
  pub nodes_preorder : (t : Tree) → nodes t ≡ length (preorder t)
  nodes_preorder (leaf l) = refl
  nodes_preorder (over w t) = ap suc (nodes_preorder t)
  nodes_preorder (row r ts) = ap suc (nodes_preorder_all ts)

  nodes_preorder_all : (ts : Trees) → nodes_all ts ≡ length (preorder_all ts)
  nodes_preorder_all no_trees = refl
  nodes_preorder_all (more_trees t ts) =
      omega (arith, nodes_preorder t, nodes_preorder_all ts, length-append (preorder t) (preorder_all ts))

module _ (z : ℕ) (named : Bool) (numbers_of : Text → List ℕ) where
  kept_length : (c : ℕ) (l : List Tree) → length (kept z named numbers_of c l) ≤ length l
  kept_length c [] = omega arith
  kept_length c (ast_group name position t ∷ l) =
      let in_group = kept_length (c + 1) l in let alone = kept_length c l in
      cond_both (is_counted named name) _ _ (λ m. length m ≤ length (ast_group name position t ∷ l))
      (λ _. omega (arith, in_group)) (λ _. omega (arith, alone))
  kept_length c (ast_node r position ∷ l) = omega (arith, kept_length c l)
  kept_length c (t ∷ l) = omega (arith, kept_length c l)

  -- the resolved tree has no more nodes than the raw one
  pub resolved_size : (c : ℕ) (t : Tree) → nodes (resolved_in z named numbers_of c t) ≤ nodes t
  resolved_size c t =
      omega (
        arith,
        nodes_preorder t,
        nodes_preorder (resolved_in z named numbers_of c t),
        ap length (resolved_nodes z named numbers_of c t),
        kept_length c (preorder t),
      )

-- ---- levels

reference_level : (z : ℕ) (m : Meaning) (r : AstReference) (position : ℕ) → levels (reference_node z m r position) ≡ 1
reference_level z (number n) (ast_backref t casei None) position = refl
reference_level z (number n) (ast_backref t casei (Some level)) position = refl
reference_level z (number n) (ast_call t) position = refl
reference_level z (number n) (ast_condition t level) position = refl
reference_level z _ r position = refl

module _ (z : ℕ) (named : Bool) (numbers_of : Text → List ℕ) where
  mutual
    -- the resolved tree has no more levels than the raw one
    pub resolved_levels : (c : ℕ) (t : Tree) → levels (resolved_in z named numbers_of c t) ≤ levels t
    resolved_levels c (ast_group name position t) =
        let in_group = resolved_levels (c + 1) t in
        let alone = resolved_levels c t in
        cond_both (is_counted named name) _ _ (λ u. levels u ≤ levels (ast_group name position t))
        (λ _. omega (arith, in_group)) (λ _. omega (arith, alone))
    resolved_levels c (ast_node r position) =
        let m = refers_to numbers_of c (role_of r) (target_of r) in omega (arith, reference_level z m r position)
    resolved_levels c (leaf l) = omega arith
    resolved_levels c (over w t) = omega (arith, resolved_levels c t)
    resolved_levels c (row r ts) = omega (arith, resolved_levels_all c ts)

    resolved_levels_all : (c : ℕ) (ts : Trees) → levels_all (resolved_all z named numbers_of c ts) ≤ levels_all ts
    resolved_levels_all c no_trees = omega arith
    resolved_levels_all c (more_trees t ts) =
        omega (
          arith,
          resolved_levels c t,
          resolved_levels_all (c + length (numbered_openings_in named (openings t))) ts,
        )
