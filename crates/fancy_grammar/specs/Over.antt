-- The parentheses that open printed groups, and the first one that is too deep.
use Rattle.std.specs.Prelude.{ℕ, ◌+◌, ◌==◌, Bool, true, false, ◌||◌, nat_lt, List, [], ◌∷◌, ◌++◌, codes, find, map, Option}
use Rattle.fancy_lex.specs.Text.{Text, bytes}
use Rattle.fancy_lex.specs.declared.escape.Assertion.{Assertion}
use Rattle.fancy_lex.specs.declared.escape.Assertion.TheVariants.{StartLine, StartLineOniguruma, EndLine}
use Rattle.fancy_grammar.specs.Depth.{max_depth}
use Rattle.fancy_grammar.specs.Printed.{is_long, printed}
use Rattle.fancy_grammar.specs.Printed.{WHOLE, BRANCH, PIECE, OPERAND}
use Rattle.fancy_grammar.specs.Tree.{Tree, Trees, no_trees, more_trees, any, assertion, literal, concat, alt, group}
use Rattle.fancy_grammar.specs.Tree.{repeat, delegate}

-- the opening parenthesis of a printed group: its position in bytes, and how many groups are open around it
pub record Paren : Type 0 where
  pub position : ℕ
  pub round : ℕ

-- the same parentheses in a text that begins n bytes later, inside k more groups
abbrev pub moved : ℕ → ℕ → List Paren → List Paren
moved n k = map (λ q. record { position = n + q.position; round = k + q.round })

-- these parentheses, inside a group with this opening if it is printed; where nothing is inside, the opening may be empty
abbrev pub in_group : Bool → Text → List Paren → List Paren
in_group true opening inside = record { position = 0; round = 0 } ∷ moved (bytes opening) 1 inside
in_group false opening inside = inside

-- the start or the end of each line, which is printed in a group with its flags
abbrev pub is_at_line : Assertion → Bool
is_at_line (StartLine crlf) = true
is_at_line (StartLineOniguruma crlf) = true
is_at_line (EndLine crlf) = true
is_at_line _ = false

abbrev mutual
  -- the parentheses in the tree's text at a precedence, in text order
  pub parens : Tree → ℕ → List Paren
  parens (any newline crlf) p = in_group (newline || crlf) [] []
  parens (assertion a) p = in_group (is_at_line a) [] []
  parens (literal s casei) p = in_group casei [] []
  parens (delegate s casei) p = in_group casei [] []
  parens (concat ts) p = in_group (nat_lt BRANCH p) (codes "(?:") (parens_all ts)
  parens (alt ts) p = in_group (nat_lt WHOLE p) (codes "(?:") (parens_branches ts)
  parens (group t) p = in_group true (codes "(") (parens t WHOLE)
  parens (repeat t lo hi greedy) p =
      in_group (nat_lt PIECE p) (codes "(?:") (in_group (is_long t) (codes "(?:") (parens t OPERAND))
  parens _ p = []

  pub parens_all : Trees → List Paren
  parens_all no_trees = []
  parens_all (more_trees t ts) = parens t PIECE ++ moved (bytes (printed t PIECE)) 0 (parens_all ts)

  -- the same for branches, with a bar between each two
  pub parens_branches : Trees → List Paren
  parens_branches no_trees = []
  parens_branches (more_trees t ts) = parens t BRANCH ++ moved (bytes (printed t BRANCH) + 1) 0 (parens_branches ts)

-- the parenthesis of the first group that is too deep in the tree's text at a precedence
abbrev pub too_deep : Tree → ℕ → Option Paren
too_deep t p = find (λ q. q.round + 1 == max_depth) (parens t p)
