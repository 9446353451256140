-- The grammar: what each production reads from a state, at a depth of open groups.
-- A production has several parts, one after another. The last part that a rule reads gives the outcome, to which a
-- function may be applied. Each such part before it has a rule of its own for its error.
-- Layout, classes, the letters of flag groups, boundaries, hex codes, numbers, names and id references are read by
-- functions in the premises. Those that loop have a relation too; `Premises` states that the two agree.
use Rattle.std.specs.Prelude.{◌≡◌, ℕ, ◌+◌, ◌==◌, Bool, true, false, not, ◌&&◌, List, [], ◌∷◌, length, Some, None}
use Rattle.std.specs.Prelude.{if◌then◌else◌}
use Prim.Native.Char.{code}
use Rattle.fancy_lex.specs.Located.{Kind, Located}
use Rattle.fancy_lex.specs.ErrorTable.{comment_not_closed, group_not_closed, bar_for_close_paren, close_paren_left_over}
use Rattle.fancy_lex.specs.ErrorTable.{body_missing}
use Rattle.fancy_lex.specs.LayoutSteps.{rest, failed as open_comment}
use Rattle.fancy_lex.specs.Reading.{choose}
use Rattle.fancy_lex.specs.Text.{Text, bytes, IsPositionOf, reach_of, strip}
use Rattle.fancy_lex.specs.declared.flags.Flags.{Flags}
use Rattle.fancy_grammar.specs.AtomStart.{AtomStart, nothing, read, of_kind, condition, body, absent_branch, atom_start}
use Rattle.fancy_grammar.specs.GroupKind.{group_node}
use Rattle.fancy_grammar.specs.Join.{join, choice, is_empty}
use Rattle.fancy_grammar.specs.Label.{ast_condition}
use Rattle.fancy_grammar.specs.Quantified.{quants}
use Rattle.fancy_grammar.specs.State.{ends, skipped, State, at, Outcome, done, failed, and_then, mapped}
use Rattle.fancy_grammar.specs.Tree.{Tree, more_trees, list_of, empty, alt, conditional, clear, stopper}
use Rattle.fancy_grammar.specs.Tree.{expression, ast_node}

-- ---- the end of a part, and its outcome

-- the error where no closing parenthesis follows: at the end of the text or at a bar; the bar can only follow the second
-- branch of an absent expression, since an alternation continues after a bar
abbrev pub not_closed : Text → Located
not_closed [] = group_not_closed
not_closed t = bar_for_close_paren t

-- the tree, if the closing parenthesis follows
abbrev pub closed : Tree → State → Outcome Tree
closed r s = choose (strip (code ")") s.rest) (λ t. done r (at s t)) (failed (not_closed s.rest))

-- whether the tree is a condition on a group, before it is resolved
abbrev pub is_condition : Tree → Bool
is_condition (ast_node (ast_condition t level) reach) = true
is_condition _ = false

-- a conditional of these branches; if both are Empty, only the condition
abbrev pub conditional_of : Tree → Tree → Tree → Tree
conditional_of c t f = if is_empty t && is_empty f then c else conditional c t f

-- the branches of a conditional's body: the first branch of an Alt, which has two or more, even an Alt from a group
-- without a node, as in `(?(1)(?:a|b))`, and the choice among the others; or the body itself and an Empty
abbrev pub branches_of : Tree → Tree × Tree
branches_of (alt (more_trees t ts)) = (t, choice (list_of ts))
branches_of r = (r, empty)

-- the conditional of the condition c and the body r, which began when `left` bytes were left and ends at s; only a
-- condition on a group may have no body
abbrev pub conditional_after : Tree → ℕ → Tree → State → Outcome Tree
conditional_after c left r s =
    if bytes s.rest == left && not (is_condition c) then failed (body_missing s.rest)
    else closed (conditional_of c (branches_of r).0 (branches_of r).1) s

-- the node of the one branch after `(?~|`: a clear if it is empty, and otherwise a stopper
abbrev pub clear_or_stopper : Tree → Tree
clear_or_stopper a = if is_empty a then clear else stopper a

-- ---- the flags after an atom

-- the same outcome, but with these flags after what is read
abbrev pub restored : Flags → Outcome Tree → Outcome Tree
restored f q = and_then q (λ r t. done r (record t { flags = f }))

-- after a group, the flags f from before it hold again; what is read at once, such as inline flags, leaves its own
abbrev pub after_atom : AtomStart → Flags → Outcome Tree → Outcome Tree
after_atom nothing f q = q
after_atom (read o) f q = q
after_atom _ f q = restored f q

-- ---- the productions

-- The variables of a rule are in braces before it: d is how many groups are open; s is the state at its start, t and v
-- are later states, in text order, and u is a later text; r, a and c are trees, and c is a condition; o and q are
-- outcomes, e is an error, and p the reach of an unclosed comment; k is the start of an atom, and h the kind of a group.

mutual
  -- branches with bars between
  pub data Alternation : ℕ → State → Outcome Tree → Type 0 where
    alternation : {d s q : _} → Branches d s q → Alternation d s (mapped choice q)

  pub data Branches : ℕ → State → Outcome (List Tree) → Type 0 where
    last : {d s t r : _} → Branch d s (done r t) → strip (code "|") t.rest ≡ None → Branches d s (done (r ∷ []) t)
    more : {d s t u r q : _} → Branch d s (done r t) → strip (code "|") t.rest ≡ Some u → Branches d (at t u) q →
        Branches d s (mapped (r ∷◌) q)
    branch_error : {d s e : _} → Branch d s (failed e) → Branches d s (failed e)

  -- pieces up to where a branch ends
  pub data Branch : ℕ → State → Outcome Tree → Type 0 where
    branch : {d s q : _} → Pieces d s q → Branch d s (mapped join q)

  pub data Pieces : ℕ → State → Outcome (List Tree) → Type 0 where
    stop : {d : ℕ} {s : State} → ends s.rest ≡ true → Pieces d s (done [] s)
    next : {d t r q : _} {s : State} → ends s.rest ≡ false → Piece d s (done r t) → Pieces d t q →
        Pieces d s (mapped (r ∷◌) q)
    piece_error : {d e : _} {s : State} → ends s.rest ≡ false → Piece d s (failed e) → Pieces d s (failed e)

  -- layout, and an atom under the quantifiers that follow it
  pub data Piece : ℕ → State → Outcome Tree → Type 0 where
    piece : {d s u q : _} → skipped s ≡ rest u → Atom d (at s u) q → Piece d s (and_then q (quants d (bytes s.rest)))
    layout_error : {d s p : _} → skipped s ≡ open_comment p → Piece d s (failed (comment_not_closed p))

  -- the start of an atom decides which of its rules applies
  pub data Atom : ℕ → State → Outcome Tree → Type 0 where
    atom : {d s k q : _} → atom_start d s ≡ k → AtomOf k d s q → Atom d s (after_atom k s.flags q)

  pub data AtomOf : AtomStart → ℕ → State → Outcome Tree → Type 0 where
    a_nothing : {d s : _} → AtomOf nothing d s (done empty s)
    a_read : {d s o : _} → AtomOf (read o) d s o
    a_group : {d s t h q : _} → Inside d t q →
        AtomOf (of_kind h t) d s (mapped (group_node h (reach_of s.rest)) q)
    -- a conditional: its condition's parentheses, and its body
    a_condition : {d s t v c o : _} → Inside d t (done c v) → Body d c v o → AtomOf (condition t) d s o
    condition_error : {d s t e : _} → Inside d t (failed e) → AtomOf (condition t) d s (failed e)
    a_body : {d s t c o : _} → Body d c t o → AtomOf (body c t) d s o
    -- the two branches of an absent expression; the one branch of a stopper or a clear
    two_branches : {d s t v u a q : _} → Branch (d + 1) t (done a v) → strip (code "|") v.rest ≡ Some u →
        Branch (d + 1) (at v u) q → AtomOf (absent_branch t) d s (and_then q (λ r. closed (expression a r)))
    one_branch : {d s t v a : _} → Branch (d + 1) t (done a v) → strip (code "|") v.rest ≡ None →
        AtomOf (absent_branch t) d s (closed (clear_or_stopper a) v)
    absent_error : {d s t e : _} → Branch (d + 1) t (failed e) → AtomOf (absent_branch t) d s (failed e)

  -- the contents of a group, one level deeper, with its closing parenthesis
  pub data Inside : ℕ → State → Outcome Tree → Type 0 where
    inside : {d s q : _} → Alternation (d + 1) s q → Inside d s (and_then q closed)

  -- the body of a conditional whose condition is the tree, with its closing parenthesis
  pub data Body : ℕ → Tree → State → Outcome Tree → Type 0 where
    the_body : {d c s q : _} → Alternation (d + 1) s q → Body d c s (and_then q (conditional_after c (bytes s.rest)))

-- ---- a whole text

-- the state at the start of a whole text
abbrev pub start : Flags → Text → State
start f text = record { flags = f; rest = text }

-- the tree, if nothing is left; what is left can only begin with a closing parenthesis
abbrev pub ended : Tree → State → Outcome Tree
ended r s = if length s.rest == 0 then done r s else failed (close_paren_left_over s.rest)

-- a whole text, under the flags that the caller gives
pub data Whole : Flags → Text → Outcome Tree → Type 0 where
  whole : {f text q : _} → Alternation 0 (start f text) q → Whole f text (and_then q ended)

-- the grammar derives the whole text, with this raw tree
abbrev pub DerivesTree : Flags → Text → Tree → Type 0
DerivesTree f text r = (t : State) × Whole f text (done r t)

-- reading the text ends with an error of this kind, at this position
abbrev pub FailsWith : Flags → Text → Kind → ℕ → Type 0
FailsWith f text k p = (q : ℕ) × Whole f text (failed (record { reach = q; kind = k })) × IsPositionOf (bytes text) q p
