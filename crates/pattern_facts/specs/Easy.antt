-- The trees that the original's engine can hand on to an engine that never backtracks.
use Rattle.std.specs.Prelude.{Bool, true, false, ◌&&◌}
use Rattle.fancy_lex.specs.declared.escape.Assertion.{Assertion}
use Rattle.fancy_lex.specs.declared.escape.Assertion.TheVariants.{EndTextIgnoreTrailingNewlines}
use Rattle.fancy_grammar.specs.Label as label
use Rattle.fancy_grammar.specs.Label.{Leaf, Wrap, Row}
use Rattle.fancy_grammar.specs.Tree.{Tree, Trees, leaf, over, row, no_trees, more_trees}

-- each assertion but `\Z`
abbrev pub is_easy_assertion : Assertion → Bool
is_easy_assertion (EndTextIgnoreTrailingNewlines crlf) = false
is_easy_assertion _ = true

-- empty, a dot, an assertion, a literal and a class
abbrev pub is_easy_leaf : Leaf → Bool
is_easy_leaf label.empty = true
is_easy_leaf (label.any newline crlf) = true
is_easy_leaf (label.assertion a) = is_easy_assertion a
is_easy_leaf (label.literal text casei) = true
is_easy_leaf (label.delegate text casei) = true
is_easy_leaf _ = false

-- a capturing group and a repeat
abbrev pub is_easy_wrap : Wrap → Bool
is_easy_wrap label.group = true
is_easy_wrap (label.repeat lo hi greedy) = true
is_easy_wrap _ = false

-- a concatenation and an alternation
abbrev pub is_easy_row : Row → Bool
is_easy_row label.concat = true
is_easy_row label.alt = true
is_easy_row _ = false

abbrev mutual
  -- each node of the tree is one of these
  pub is_easy : Tree → Bool
  is_easy (leaf l) = is_easy_leaf l
  is_easy (over w t) = is_easy_wrap w && is_easy t
  is_easy (row r ts) = is_easy_row r && are_easy ts

  pub are_easy : Trees → Bool
  are_easy no_trees = true
  are_easy (more_trees t ts) = is_easy t && are_easy ts
