-- How many of the groups that are printed for a tree nest.
use Rattle.std.proofs.Common.{ℕ, ◌+◌, max, Bool, true, false, ◌||◌, nat_lt}
use Rattle.fancy_grammar.specs.Over.{is_at_line}
use Rattle.fancy_grammar.specs.Tree.{Tree, Trees, no_trees, more_trees, any, assertion, literal, concat, alt, group}
use Rattle.fancy_grammar.specs.Tree.{repeat, delegate}
use Rattle.fancy_grammar.specs.Printed.{is_long}
use Rattle.fancy_grammar.specs.Printed.{WHOLE, BRANCH, PIECE, OPERAND}

-- one group if it is printed
abbrev pub one_if : Bool → ℕ
one_if true = 1
one_if false = 0

abbrev mutual
  -- how many nest in the tree's text at a precedence
  pub nest : Tree → ℕ → ℕ
  nest (any newline crlf) p = one_if (newline || crlf)
  nest (assertion a) p = one_if (is_at_line a)
  nest (literal s casei) p = one_if casei
  nest (delegate s casei) p = one_if casei
  nest (concat ts) p = one_if (nat_lt BRANCH p) + nests ts PIECE
  nest (alt ts) p = one_if (nat_lt WHOLE p) + nests ts BRANCH
  nest (group t) p = 1 + nest t WHOLE
  nest (repeat t lo hi greedy) p = one_if (nat_lt PIECE p) + (one_if (is_long t) + nest t OPERAND)
  nest _ p = 0

  -- the most that nest in one of several trees
  pub nests : Trees → ℕ → ℕ
  nests no_trees p = 0
  nests (more_trees t ts) p = max (nest t p) (nests ts p)
