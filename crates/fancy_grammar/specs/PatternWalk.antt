-- What the walk that writes a tree's text uses.
use Rattle.std.specs.Prelude.{Bool, List, [], ◌∷◌, ◌++◌}
use Rattle.fancy_grammar.specs.Label.{ast_group}
use Rattle.fancy_grammar.specs.Pattern.{Context, under, past_groups, group_count_all, flags_after_all}
use Rattle.fancy_grammar.specs.PatternNeeds.{no_needs, leaf_needs, first, needs, needs_all}
use Rattle.fancy_grammar.specs.Tree.{Tree, leaf, over, row, Trees, no_trees, more_trees}
use Rattle.fancy_grammar.specs.declared.needs.Needs.{Needs}
use Rattle.fancy_grammar.specs.declared.precedence.Precedence.{Precedence}

-- what the node itself requires: for a leaf what the leaf requires, and for any other node nothing
abbrev pub needs_alone : Bool → Tree → Needs
needs_alone o (leaf l) = leaf_needs o l
needs_alone o _ = no_needs

abbrev mutual
  -- for each node and each flag, the first requirement of a leaf; the contents of a capturing group are skipped
  pub needs_listed : Bool → Tree → List Needs
  needs_listed o (leaf l) = leaf_needs o l ∷ []
  needs_listed o (over (ast_group name position) t) = no_needs ∷ []
  needs_listed o (over w t) = needs first o t ∷ needs_listed o t
  needs_listed o (row r ts) = needs_all first o ts ∷ all_listed o ts

  pub all_listed : Bool → Trees → List Needs
  all_listed o no_trees = []
  all_listed o (more_trees t ts) = needs_listed o t ++ all_listed o ts

-- the context of the text after these trees, if each of them is written at this precedence
abbrev pub after_all : Trees → Precedence → Context → Context
after_all ts p h = past_groups (group_count_all ts) (under (flags_after_all ts p h.flags) h)
