-- The tree that is returned for a raw tree: its groups have numbers, and so have its references.
use Rattle.std.specs.Prelude.{ℕ, ◌+◌, Bool, List, [], ◌∷◌, length, Option, Some, None, if◌then◌else◌}
use Rattle.fancy_lex.specs.Located.{Located}
use Rattle.fancy_lex.specs.Text.{Text, position_at}
use Rattle.fancy_lex.specs.declared.flags.Flags.{Flags}
use Rattle.fancy_grammar.specs.Meaning.{Meaning, number, refers_to, error_or}
use Rattle.fancy_grammar.specs.Ranks.{only_named, is_counted, numbered_openings_in}
use Rattle.fancy_grammar.specs.Items.{openings, role_of, target_of, numbers_in, MeantReference, meanings}
use Rattle.fancy_grammar.specs.Label.{AstReference, ast_backref, ast_call, ast_condition}
use Rattle.fancy_grammar.specs.Tree.{Tree, leaf, over, row, Trees, no_trees, more_trees, group, ast_group, ast_node}
use Rattle.fancy_grammar.specs.Tree.{backref, backref_at_level, subroutine_call, backref_exists}

-- the node of a reference with this meaning, in a pattern of m bytes; if the meaning is no number, the reference stays,
-- with its position
abbrev pub reference_node : ℕ → Meaning → AstReference → ℕ → Tree
reference_node m (number n) (ast_backref t casei None) reach = backref n casei
reference_node m (number n) (ast_backref t casei (Some level)) reach = backref_at_level n level casei
reference_node m (number n) (ast_call t) reach = subroutine_call n
reference_node m (number n) (ast_condition t level) reach = backref_exists n level
reference_node m _ r reach = ast_node r (position_at m reach)

-- in a pattern of m bytes; `named` says whether only groups with a name have a number, numbers_of gives the numbers of
-- each name, and c groups that have a number open before the tree
module _ (m : ℕ) (named : Bool) (numbers_of : Text → List ℕ) where
  abbrev mutual
    -- a capturing group that has a number becomes a Group, any other becomes its contents; a reference becomes the node
    -- of its meaning
    pub resolved_in : ℕ → Tree → Tree
    resolved_in c (ast_group name reach t) =
        if is_counted named name then group (resolved_in (c + 1) t) else resolved_in c t
    resolved_in c (ast_node r reach) = reference_node m (refers_to numbers_of c (role_of r) (target_of r)) r reach
    resolved_in c (leaf l) = leaf l
    resolved_in c (over w t) = over w (resolved_in c t)
    resolved_in c (row r ts) = row r (resolved_all c ts)

    pub resolved_all : ℕ → Trees → Trees
    resolved_all c no_trees = no_trees
    resolved_all c (more_trees t ts) =
        more_trees (resolved_in c t) (resolved_all (c + length (numbered_openings_in named (openings t))) ts)

-- the raw tree resolved, under the flags that the caller gives, in a pattern of m bytes
abbrev pub resolved : Flags → ℕ → Tree → Tree
resolved f m r = resolved_in m (only_named f (openings r)) (numbers_in f r) 0 r

-- the first error among references
abbrev pub first_error : List MeantReference → Option Located
first_error [] = None
first_error (x ∷ l) = error_or x.meaning x.reach (first_error l)

-- the first error among the references of the raw tree
abbrev pub error_of : Flags → Tree → Option Located
error_of f r = first_error (meanings f r)
