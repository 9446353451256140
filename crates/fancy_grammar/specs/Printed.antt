-- The text that a tree is printed as, at a precedence.
use Rattle.std.specs.Prelude.{ℕ, Bool, true, false, ◌&&◌, nat_lt, [], ◌∷◌, ◌++◌, codes}
use Rattle.fancy_lex.specs.Text.{Text}
use Rattle.fancy_lex.specs.declared.escape.Assertion.{Assertion}
use Rattle.fancy_lex.specs.declared.escape.Assertion.TheVariants.{StartText, EndText, EndTextIgnoreTrailingNewlines}
use Rattle.fancy_lex.specs.declared.escape.Assertion.TheVariants.{StartLine, StartLineOniguruma, EndLine}
use Rattle.fancy_lex.specs.declared.escape.Assertion.TheVariants.{LeftWordBoundary, LeftWordHalfBoundary}
use Rattle.fancy_lex.specs.declared.escape.Assertion.TheVariants.{RightWordBoundary, RightWordHalfBoundary}
use Rattle.fancy_lex.specs.declared.escape.Assertion.TheVariants.{WordBoundary, NotWordBoundary}
use Rattle.fancy_grammar.specs.Quote.{quotes, quantifier}
use Rattle.fancy_grammar.specs.Tree.{Tree, Trees, no_trees, more_trees, empty, any, assertion, literal, concat, alt}
use Rattle.fancy_grammar.specs.Tree.{group, repeat, delegate, define_group}

-- any character, with the flags that it needs
abbrev pub any_text : Bool → Bool → Text
any_text true crlf = codes "(?s:.)"
any_text false true = codes "(?R-s:.)"
any_text false false = codes "."

-- an assertion; nothing for the one that has no text
abbrev pub assertion_text : Assertion → Text
assertion_text StartText = codes "^"
assertion_text EndText = codes "$"
assertion_text (StartLine false) = codes "(?m:^)"
assertion_text (StartLine true) = codes "(?Rm:^)"
assertion_text (StartLineOniguruma false) = codes "(?m:^)"
assertion_text (StartLineOniguruma true) = codes "(?Rm:^)"
assertion_text (EndLine false) = codes "(?m:$)"
assertion_text (EndLine true) = codes "(?Rm:$)"
assertion_text WordBoundary = codes "\\b"
assertion_text NotWordBoundary = codes "\\B"
assertion_text LeftWordBoundary = codes "\\<"
assertion_text RightWordBoundary = codes "\\>"
assertion_text LeftWordHalfBoundary = codes "\\b{start-half}"
assertion_text RightWordHalfBoundary = codes "\\b{end-half}"
assertion_text (EndTextIgnoreTrailingNewlines crlf) = []

-- in a group of its own if asked for
unfoldable pub grouped : Bool → Text → Text
grouped true t = codes "(?:" ++ (t ++ codes ")")
grouped false t = t

-- in a group of its own that ignores case, if asked for
unfoldable pub caseless : Bool → Text → Text
caseless true t = codes "(?i:" ++ (t ++ codes ")")
caseless false t = t

-- a Literal of which a quantifier would repeat only the last character
abbrev pub is_long : Tree → Bool
is_long (literal s true) = false
is_long (literal (c ∷ d ∷ s) false) = true
is_long _ = false

-- the precedences: of a whole pattern and of a group's contents, of a branch, of a piece in a sequence, and of the
-- operand of a quantifier
abbrev pub WHOLE : ℕ
WHOLE = 0

abbrev pub BRANCH : ℕ
BRANCH = 1

abbrev pub PIECE : ℕ
PIECE = 2

abbrev pub OPERAND : ℕ
OPERAND = 3

abbrev mutual
  -- variants that have no text of their own print nothing
  pub printed : Tree → ℕ → Text
  printed (any newline crlf) p = any_text newline crlf
  printed (assertion a) p = assertion_text a
  printed (literal s casei) p = caseless casei (quotes s)
  printed (delegate s casei) p = caseless casei s
  printed (concat ts) p = grouped (nat_lt BRANCH p) (printed_all ts)
  printed (alt ts) p = grouped (nat_lt WHOLE p) (printed_branches ts)
  printed (group t) p = codes "(" ++ (printed t WHOLE ++ codes ")")
  printed (repeat t lo hi greedy) p =
      grouped (nat_lt PIECE p) (grouped (is_long t) (printed t OPERAND) ++ quantifier lo hi greedy)
  printed _ p = []

  -- one after another
  pub printed_all : Trees → Text
  printed_all no_trees = []
  printed_all (more_trees t ts) = printed t PIECE ++ printed_all ts

  -- with bars between
  pub printed_branches : Trees → Text
  printed_branches no_trees = []
  printed_branches (more_trees t ts) = printed t BRANCH ++ barred ts

  -- with a bar before each
  pub barred : Trees → Text
  barred no_trees = []
  barred (more_trees t ts) = codes "|" ++ (printed t BRANCH ++ barred ts)

-- the operand of a quantifier
abbrev pub operand_text : Tree → Text
operand_text t = grouped (is_long t) (printed t OPERAND)

abbrev mutual
  -- every node has a text; the contents of a DefineGroup are not checked
  pub has_text : Tree → Bool
  has_text empty = true
  has_text (any newline crlf) = true
  has_text (assertion (EndTextIgnoreTrailingNewlines crlf)) = false
  has_text (assertion a) = true
  has_text (literal s casei) = true
  has_text (delegate s casei) = true
  has_text (concat ts) = all_have_text ts
  has_text (alt ts) = all_have_text ts
  has_text (group t) = has_text t
  has_text (repeat t lo hi greedy) = has_text t
  has_text (define_group t) = true
  has_text _ = false

  pub all_have_text : Trees → Bool
  all_have_text no_trees = true
  all_have_text (more_trees t ts) = has_text t && all_have_text ts
