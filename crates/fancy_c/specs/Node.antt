-- The nodes of a tree as an array: a row for each.
use Rattle.std.specs.Prelude.{ℕ, ◌+◌, ℤ, pos, Bool, true, false, List, [], ◌∷◌, ◌++◌, length, Option, Some, None}
use Rattle.std.specs.Prelude.{get_or, encode_utf8_all}
use Rattle.fancy_lex.specs.Target.{Target, by_number, by_name, relative}
use Rattle.fancy_lex.specs.Text.{Text}
use Rattle.fancy_lex.specs.declared.escape.Assertion.{Assertion}
use Rattle.fancy_lex.specs.declared.escape.Assertion.TheVariants as is
use Rattle.fancy_grammar.specs.declared.kinds.BacktrackingControlVerb.{BacktrackingControlVerb}
use Rattle.fancy_grammar.specs.declared.kinds.BacktrackingControlVerb.TheVariants as verbs
use Rattle.fancy_grammar.specs.declared.kinds.LookAround.{LookAround}
use Rattle.fancy_grammar.specs.declared.kinds.LookAround.TheVariants as looks
use Rattle.fancy_grammar.specs.Label as label
use Rattle.fancy_grammar.specs.Label.{AstReference, ast_call}
use Rattle.fancy_grammar.specs.Tree.{Tree, empty, any, assertion, general_newline, literal, literal_bytes, concat, alt}
use Rattle.fancy_grammar.specs.Tree.{group, look_around, repeat, delegate, backref, backref_at_level, atomic_group}
use Rattle.fancy_grammar.specs.Tree.{keep_out, continue_from_previous_match_end, backref_exists, subroutine_call, verb}
use Rattle.fancy_grammar.specs.Tree.{define_group, ast_node, ast_group, Trees, no_trees, more_trees, repeater, stopper}
use Rattle.fancy_grammar.specs.Tree.{clear, leaf, over, row as row_of}
use Rattle.fancy_syntax.specs.declared.span.Span.{Span}
use Rattle.fancy_c.specs.declared.node.Node.{Node}
use Rattle.fancy_c.specs.declared.node.NodeLocation.{NodeLocation}
use Rattle.fancy_c.specs.declared.node.TheConstants as number

-- ---- the numbers of the variants of a kind

abbrev pub assertion_number : Assertion → ℕ
assertion_number is.StartText = number.ASSERTION_START_TEXT
assertion_number is.EndText = number.ASSERTION_END_TEXT
assertion_number (is.EndTextIgnoreTrailingNewlines crlf) = number.ASSERTION_END_TEXT_IGNORE_TRAILING_NEWLINES
assertion_number (is.StartLine crlf) = number.ASSERTION_START_LINE
assertion_number (is.StartLineOniguruma crlf) = number.ASSERTION_START_LINE_ONIGURUMA
assertion_number (is.EndLine crlf) = number.ASSERTION_END_LINE
assertion_number is.LeftWordBoundary = number.ASSERTION_LEFT_WORD_BOUNDARY
assertion_number is.LeftWordHalfBoundary = number.ASSERTION_LEFT_WORD_HALF_BOUNDARY
assertion_number is.RightWordBoundary = number.ASSERTION_RIGHT_WORD_BOUNDARY
assertion_number is.RightWordHalfBoundary = number.ASSERTION_RIGHT_WORD_HALF_BOUNDARY
assertion_number is.WordBoundary = number.ASSERTION_WORD_BOUNDARY
assertion_number is.NotWordBoundary = number.ASSERTION_NOT_WORD_BOUNDARY

abbrev pub has_crlf : Assertion → Bool
has_crlf (is.EndTextIgnoreTrailingNewlines crlf) = crlf
has_crlf (is.StartLine crlf) = crlf
has_crlf (is.StartLineOniguruma crlf) = crlf
has_crlf (is.EndLine crlf) = crlf
has_crlf _ = false

abbrev pub look_around_number : LookAround → ℕ
look_around_number looks.LookAhead = number.LOOK_AHEAD
look_around_number looks.LookAheadNeg = number.LOOK_AHEAD_NEG
look_around_number looks.LookBehind = number.LOOK_BEHIND
look_around_number looks.LookBehindNeg = number.LOOK_BEHIND_NEG

abbrev pub verb_number : BacktrackingControlVerb → ℕ
verb_number verbs.Fail = number.VERB_FAIL
verb_number verbs.Accept = number.VERB_ACCEPT
verb_number verbs.Commit = number.VERB_COMMIT
verb_number verbs.Skip = number.VERB_SKIP
verb_number verbs.Prune = number.VERB_PRUNE

-- ---- the text of a node

-- the name that is called; no bytes for a number
abbrev pub target_name : Target → List ℕ
target_name (by_name w) = encode_utf8_all w
target_name _ = []

-- the bytes of a node's text
abbrev pub carried : Tree → List ℕ
carried (literal s casei) = encode_utf8_all s
carried (literal_bytes b) = b
carried (delegate s casei) = encode_utf8_all s
carried (ast_node (ast_call t) offset) = target_name t
carried _ = []

-- ---- the row of a node

-- a node of this kind that has only its text
abbrev pub plain : ℕ → NodeLocation → ℕ → Node
plain k s n = record {
  kind = k;
  which = 0;
  end = s.end;
  text = s.text;
  text_size = n;
  lo = 0;
  hi = 0;
  group = 0;
  level = pos 0;
  position = 0;
  start = s.span.start;
  stop = s.span.end;
  newline = false;
  crlf = false;
  unicode = false;
  casei = false;
  greedy = false;
  has_level = false;
}

abbrev pub condition : NodeLocation → ℕ → Option ℤ → Node
condition s n None = record (plain number.NODE_BACKREF_EXISTS_CONDITION s 0) { group = n }
condition s n (Some l) =
    record (plain number.NODE_BACKREF_EXISTS_CONDITION s 0) { group = n; level = l; has_level = true }

abbrev pub with_text : NodeLocation → ℕ → Text → Bool → Node
with_text s k w casei = record (plain k s (length (encode_utf8_all w))) { casei = casei }

-- a call that was read and not resolved
abbrev pub row_of_call : NodeLocation → Target → ℕ → Node
row_of_call s (by_number n) p =
    record (plain number.NODE_AST_NODE s 0) { which = number.TARGET_BY_NUMBER; group = n; position = p }
row_of_call s (by_name w) p =
    record (with_text s number.NODE_AST_NODE w false) { which = number.TARGET_BY_NAME; position = p }
row_of_call s (relative z) p =
    record (plain number.NODE_AST_NODE s 0) { which = number.TARGET_RELATIVE; level = z; position = p }

abbrev pub row_of_read : NodeLocation → AstReference → ℕ → Node
row_of_read s (ast_call t) p = row_of_call s t p
row_of_read s _ p = plain number.NODE_AST_NODE s 0

-- an absent form
abbrev pub absent_row : NodeLocation → ℕ → Node
absent_row s n = record (plain number.NODE_ABSENT s 0) { which = n }

abbrev pub row : NodeLocation → Tree → Node
row s empty = plain number.NODE_EMPTY s 0
row s (any newline crlf) = record (plain number.NODE_ANY s 0) { newline = newline; crlf = crlf }
row s (assertion a) = record (plain number.NODE_ASSERTION s 0) { which = assertion_number a; crlf = has_crlf a }
row s (general_newline u) = record (plain number.NODE_GENERAL_NEWLINE s 0) { unicode = u }
row s (literal w casei) = with_text s number.NODE_LITERAL w casei
row s (literal_bytes b) = plain number.NODE_LITERAL_BYTES s (length b)
row s (concat ts) = plain number.NODE_CONCAT s 0
row s (alt ts) = plain number.NODE_ALT s 0
row s (group t) = plain number.NODE_GROUP s 0
row s (look_around t l) = record (plain number.NODE_LOOK_AROUND s 0) { which = look_around_number l }
row s (repeat t lo hi greedy) = record (plain number.NODE_REPEAT s 0) { lo = lo; hi = hi; greedy = greedy }
row s (delegate w casei) = with_text s number.NODE_DELEGATE w casei
row s (backref n casei) = record (plain number.NODE_BACKREF s 0) { group = n; casei = casei }
row s (backref_at_level n l casei) =
    record (plain number.NODE_BACKREF_AT_LEVEL s 0) { group = n; level = l; has_level = true; casei = casei }
row s (atomic_group t) = plain number.NODE_ATOMIC_GROUP s 0
row s keep_out = plain number.NODE_KEEP_OUT s 0
row s continue_from_previous_match_end = plain number.NODE_CONTINUE_FROM_PREVIOUS_MATCH_END s 0
row s (backref_exists n l) = condition s n l
row s (row_of label.conditional ts) = plain number.NODE_CONDITIONAL s 0
row s (subroutine_call n) = record (plain number.NODE_SUBROUTINE_CALL s 0) { group = n }
row s (verb v) = record (plain number.NODE_VERB s 0) { which = verb_number v }
row s (repeater t) = absent_row s number.ABSENT_REPEATER
row s (row_of label.expression ts) = absent_row s number.ABSENT_EXPRESSION
row s (stopper t) = absent_row s number.ABSENT_STOPPER
row s clear = absent_row s number.ABSENT_CLEAR
row s (define_group t) = plain number.NODE_DEFINE_GROUP s 0
row s (ast_node r offset) = row_of_read s r offset
row s (ast_group name offset t) = plain number.NODE_AST_NODE s 0

-- the kind in a node's row, which no position changes
abbrev pub node_number : Tree → ℕ
node_number t = (row (record { end = 0; text = 0; span = record { start = 0; end = 0 } }) t).kind

-- ---- the rows of a tree

-- The nodes of a parsed tree in preorder: each before the nodes in it, in text order. No parsed tree holds a group that
-- is not resolved, so that kind of node has no case here, as it has in `preorder`.
abbrev mutual
  pub listed : Tree → List Tree
  listed (leaf l) = leaf l ∷ []
  listed (over (label.ast_group name offset) t) = ast_group name offset t ∷ []
  listed (over w t) = over w t ∷ listed t
  listed (row_of r ts) = row_of r ts ∷ listed_all ts

  pub listed_all : Trees → List Tree
  listed_all no_trees = []
  listed_all (more_trees t ts) = listed t ++ listed_all ts

-- their texts, one after the other
abbrev pub texts : List Tree → List ℕ
texts [] = []
texts (t ∷ ts) = carried t ++ texts ts

-- where a text begins that is put at the byte o; 0 if there is none
abbrev pub start_of_text : ℕ → List ℕ → ℕ
start_of_text o [] = 0
start_of_text o (b ∷ bs) = o

-- the span of each node, by its index; the rows need no more of the spans
abbrev pub SpanAt : Type 0
SpanAt = ℕ → Span

-- the spans of a list; 0 to 0 past the end of the list
abbrev pub span_at : List Span → SpanAt
span_at spans i = get_or spans i (record { start = 0; end = 0 })

-- their rows, from the index i and the byte o on
abbrev pub rows : SpanAt → ℕ → ℕ → List Tree → List Node
rows at i o [] = []
rows at i o (t ∷ ts) =
    row (record { end = i + length (listed t); text = start_of_text o (carried t); span = at i }) t
    ∷ rows at (i + 1) (o + length (carried t)) ts

-- the nodes of several trees
abbrev pub listed_each : List Tree → List Tree
listed_each [] = []
listed_each (t ∷ ts) = listed t ++ listed_each ts
