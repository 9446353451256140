-- The tree that rows of a caller are.
use Rattle.std.specs.Prelude.{◌≡◌, ℕ, ◌+◌, ◌≤◌, Bool, true, List, [], ◌∷◌, length, take, drop, reverse, Some, None}
use Rattle.std.specs.Prelude.{encode_utf8_all, if◌then◌else◌}
use Rattle.fancy_lex.specs.Target.{Target, by_number, by_name, relative}
use Rattle.fancy_lex.specs.declared.escape.Assertion.{Assertion}
use Rattle.fancy_lex.specs.declared.escape.Assertion.TheVariants as is
use Rattle.fancy_grammar.specs.Label as label
use Rattle.fancy_grammar.specs.Label.{ast_call, is_bare}
use Rattle.fancy_grammar.specs.Tree.{Tree, leaf, any, assertion, general_newline, literal, literal_bytes, concat, alt}
use Rattle.fancy_grammar.specs.Tree.{group, look_around, repeat, delegate, backref, backref_at_level, backref_exists}
use Rattle.fancy_grammar.specs.Tree.{atomic_group, subroutine_call, verb, define_group, repeater, stopper, clear}
use Rattle.fancy_grammar.specs.Tree.{ast_node, row as row_of}
use Rattle.fancy_syntax.specs.View.{view}
use Rattle.fancy_c.specs.Node.{listed, listed_each, node_number, assertion_number, look_around_number, verb_number}
use Rattle.fancy_c.specs.declared.built.Built.{Built}
use Rattle.fancy_c.specs.declared.node.Node.{Node}
use Rattle.fancy_c.specs.declared.node.TheConstants as number

-- the row's text is these bytes
pub record HasText (texts : List ℕ) (r : Node) (w : List ℕ) : Type 0 where
  pub inside : r.text + r.text_size ≤ length texts
  pub is : w ≡ take r.text_size (drop r.text texts)

-- the row says what the call refers to
abbrev pub HasTarget : List ℕ → Node → Target → Type 0
HasTarget texts r (by_number n) = (r.which ≡ number.TARGET_BY_NUMBER) × (r.group ≡ n)
HasTarget texts r (by_name w) = (r.which ≡ number.TARGET_BY_NAME) × HasText texts r (encode_utf8_all w)
HasTarget texts r (relative z) = (r.which ≡ number.TARGET_RELATIVE) × (r.level ≡ z)

-- whether CR is a line terminator for the assertion, where it looks for line terminators
abbrev pub HasCrlf : Bool → Assertion → Type 0
HasCrlf b (is.EndTextIgnoreTrailingNewlines crlf) = crlf ≡ b
HasCrlf b (is.StartLine crlf) = crlf ≡ b
HasCrlf b (is.StartLineOniguruma crlf) = crlf ≡ b
HasCrlf b (is.EndLine crlf) = crlf ≡ b
HasCrlf b _ = Unit {0}

-- the row has what the node holds except the nodes below it; of the row's other fields nothing is said. No tree that is
-- built from rows holds a node that is not resolved, except calls
abbrev pub HasFields : List ℕ → Node → Tree → Type 0
HasFields texts r (any newline crlf) = (r.newline ≡ newline) × (r.crlf ≡ crlf)
HasFields texts r (assertion a) = (r.which ≡ assertion_number a) × HasCrlf r.crlf a
HasFields texts r (general_newline u) = r.unicode ≡ u
HasFields texts r (literal w casei) = HasText texts r (encode_utf8_all w) × (r.casei ≡ casei)
HasFields texts r (literal_bytes w) = HasText texts r w
HasFields texts r (look_around t l) = r.which ≡ look_around_number l
HasFields texts r (repeat t lo hi greedy) = (r.lo ≡ lo) × (r.hi ≡ hi) × (r.greedy ≡ greedy)
HasFields texts r (delegate w casei) = HasText texts r (encode_utf8_all w) × (r.casei ≡ casei)
HasFields texts r (backref n casei) = (r.group ≡ n) × (r.casei ≡ casei)
HasFields texts r (backref_at_level n l casei) = (r.group ≡ n) × (r.level ≡ l) × (r.casei ≡ casei)
HasFields texts r (backref_exists n level) = (r.group ≡ n) × (level ≡ (if r.has_level then Some r.level else None))
HasFields texts r (subroutine_call n) = r.group ≡ n
HasFields texts r (verb v) = r.which ≡ verb_number v
HasFields texts r (repeater t) = r.which ≡ number.ABSENT_REPEATER
HasFields texts r (row_of label.expression ts) = r.which ≡ number.ABSENT_EXPRESSION
HasFields texts r (stopper t) = r.which ≡ number.ABSENT_STOPPER
HasFields texts r clear = r.which ≡ number.ABSENT_CLEAR
HasFields texts r (ast_node (ast_call t) p) = HasTarget texts r t × (r.position ≡ p)
HasFields texts r (leaf l) = is_bare l ≡ true
HasFields texts r (group t) = Unit {0}
HasFields texts r (atomic_group t) = Unit {0}
HasFields texts r (define_group t) = Unit {0}
HasFields texts r (concat ts) = Unit {0}
HasFields texts r (alt ts) = Unit {0}
HasFields texts r (row_of label.conditional ts) = Unit {0}
HasFields texts r _ = ⊥

-- the row has the kind of the node and its fields
abbrev pub IsRowOf : List ℕ → Node → Tree → Type 0
IsRowOf texts r t = (r.kind ≡ node_number t) × HasFields texts r t

-- the rows, from the index i on, begin with those of the nodes, and each says where the nodes below it end
abbrev pub BeginWith : List ℕ → ℕ → List Node → List Tree → Type 0
BeginWith texts i rs [] = Unit {0}
BeginWith texts i [] (t ∷ ts) = ⊥
BeginWith texts i (r ∷ rs) (t ∷ ts) =
    IsRowOf texts r t × (r.end ≡ i + length (listed t)) × BeginWith texts (i + 1) rs ts

-- the rows from the index on begin with those of the nodes of the tree, in preorder
abbrev pub AreRowsOfTree : List ℕ → List Node → ℕ → Tree → Type 0
AreRowsOfTree texts nodes index t = BeginWith texts index (drop index nodes) (listed t)

-- the tree was built from the rows from the index on, and ends where the next one begins
pub record IsBuiltAt (texts : List ℕ) (nodes : List Node) (index : ℕ) (b : Built) : Type 0 where
  pub rows : AreRowsOfTree texts nodes index (view b.tree)
  pub ends : b.end ≡ index + length (listed (view b.tree))

-- the trees were built from the rows from the index on, one after another
abbrev pub FollowFrom : List ℕ → List Node → ℕ → List Built → Type 0
FollowFrom texts nodes index [] = Unit {0}
FollowFrom texts nodes index (b ∷ bs) = IsBuiltAt texts nodes index b × FollowFrom texts nodes b.end bs

-- the same for trees of which the last is the first in the order of rows
abbrev pub AreBuiltFrom : List ℕ → List Node → ℕ → List Built → Type 0
AreBuiltFrom texts nodes index built = FollowFrom texts nodes index (reverse built)

-- these trees are those of the rows from first up to end
pub record AreTreesOf (texts : List ℕ) (nodes : List Node) (first end : ℕ) (ts : List Tree) : Type 0 where
  pub rows : BeginWith texts first (drop first nodes) (listed_each ts)
  pub ends : end ≡ first + length (listed_each ts)
