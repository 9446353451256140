-- The start of an atom.
use Rattle.std.specs.Prelude.{ℕ, ◌+◌, Bool, false, ◌==◌, nat_le, List, [], ◌∷◌, if◌then◌else◌, Some, None, codes}
use Prim.Native.Char.{code}
use Rattle.fancy_lex.specs.Characters.{◌∈◌}
use Rattle.fancy_lex.specs.Class.{class}
use Rattle.fancy_lex.specs.Escape.{escape}
use Rattle.fancy_lex.specs.Escaped as escaped
use Rattle.fancy_lex.specs.Escaped.{Escape}
use Rattle.fancy_lex.specs.Located.{Located}
use Rattle.fancy_lex.specs.ErrorTable.{group_too_deep, group_not_closed, unknown_verb}
use Rattle.fancy_lex.specs.Reading.{Reading, gives, fails, choose}
use Rattle.fancy_lex.specs.Referred.{Reference, Call}
use Rattle.fancy_lex.specs.Text.{Text}
use Rattle.fancy_lex.specs.declared.escape.Assertion.{Assertion}
use Rattle.fancy_lex.specs.declared.escape.Assertion.TheVariants.{StartText, EndText, StartLine, StartLineOniguruma}
use Rattle.fancy_lex.specs.declared.escape.Assertion.TheVariants.{EndLine}
use Rattle.fancy_lex.specs.declared.flags.Flags.{Flags}
use Rattle.fancy_lex.specs.FlagLetters.{Letters, inline_flags, flag_group as scoped}
use Rattle.fancy_lex.specs.LetterSteps.{letters}
use Rattle.fancy_lex.specs.GroupName.{group_name}
use Rattle.fancy_lex.specs.GroupReference.{named_reference, named_call, begins_target, condition_target}
use Rattle.fancy_grammar.specs.Depth.{max_depth}
use Rattle.fancy_grammar.specs.GroupKind.{GroupKind, capture, flag_group, look, atomic, define, repeater}
use Rattle.fancy_grammar.specs.Label.{ast_backref, ast_call, ast_condition}
use Rattle.fancy_grammar.specs.State.{State, at, skipped, after_skipped, Outcome, done, failed}
use Rattle.fancy_grammar.specs.Tree.{Tree, empty, any, assertion, general_newline, literal, literal_bytes, delegate}
use Rattle.fancy_grammar.specs.Tree.{keep_out, continue_from_previous_match_end, verb, ast_node}
use Rattle.fancy_grammar.specs.Verb.{by_word, verb_at}
use Rattle.fancy_grammar.specs.declared.kinds.LookAround.TheVariants.{LookAhead, LookAheadNeg, LookBehind}
use Rattle.fancy_grammar.specs.declared.kinds.LookAround.TheVariants.{LookBehindNeg}

-- the start of an atom, which decides its rule
pub data AtomStart : Type 0 where
  nothing : AtomStart  -- no character of an atom: the atom is Empty
  read : Outcome Tree → AtomStart  -- an atom without branches, read at once, or an error: its outcome
  of_kind : GroupKind → State → AtomStart  -- a group of this kind; its alternation begins at the state
  condition : State → AtomStart  -- a conditional whose condition is an alternation, which begins at the state
  body : Tree → State → AtomStart  -- a conditional whose condition is this tree; its body begins at the state
  absent_branch : State → AtomStart  -- `(?~|` of an absent expression, stopper or clear; a branch begins at the state

-- no atom can begin here: reading ends with this error
abbrev pub error_start : Located → AtomStart
error_start e = read (failed e)

-- what `^` stands for: under MULTI the start of each line, which in Oniguruma mode is another variant
abbrev pub start_anchor : Flags → Assertion
start_anchor f = if f.multi then (if f.oniguruma_mode then StartLineOniguruma f.crlf else StartLine f.crlf) else StartText

-- what `$` stands for: under MULTI the end of each line
abbrev pub end_anchor : Flags → Assertion
end_anchor f = if f.multi then EndLine f.crlf else EndText

-- the nodes of references, before they are resolved
abbrev pub backref_node : Bool → Reference → Tree
backref_node casei r = ast_node (ast_backref r.target casei r.level) r.reach

abbrev pub call_node : Call → Tree
call_node c = ast_node (ast_call c.target) c.reach

abbrev pub condition_node : Reference → Tree
condition_node r = ast_node (ast_condition r.target r.level) r.reach

-- the node of an escape's leaf
abbrev pub leaf_node : Escape → Tree
leaf_node (escaped.literal c casei) = literal (c ∷ []) casei
leaf_node (escaped.literal_bytes b) = literal_bytes (b ∷ [])
leaf_node (escaped.any newline crlf) = any newline crlf
leaf_node (escaped.assertion a) = assertion a
leaf_node (escaped.general_newline unicode) = general_newline unicode
leaf_node escaped.keep_out = keep_out
leaf_node escaped.continue_from_previous_match_end = continue_from_previous_match_end
leaf_node (escaped.delegate t casei) = delegate t casei
leaf_node (escaped.backref r casei) = backref_node casei r
leaf_node (escaped.subroutine_call c) = call_node c

-- what a reader returns at this state, as the outcome of a leaf
abbrev pub leaf_outcome : {A : Type 0} → (A → Tree) → State → Reading A → Outcome Tree
leaf_outcome node s (gives a t) = done (node a) (at s t)
leaf_outcome node s (fails e) = failed e

-- an atom of one character, an escape or a class
abbrev pub leaf_of : State → ℕ → Text → Outcome Tree
leaf_of s c t =
    if c == code "." then done (any s.flags.dotnl s.flags.crlf) (at s t)
    else if c == code "^" then done (assertion (start_anchor s.flags)) (at s t)
    else if c == code "$" then done (assertion (end_anchor s.flags)) (at s t)
    else if c == code "\\" then leaf_outcome leaf_node s (escape s.flags false t)
    else if c == code "[" then leaf_outcome (λ w. delegate w s.flags.casei) s (class s.flags t)
    else done (literal (c ∷ []) s.flags.casei) (at s t)

-- before these characters the atom is Empty; it is Empty at the end of the text too
abbrev pub begins_no_atom : ℕ → Bool
begins_no_atom c = c ∈ "+*?|)"

-- a group whose name was read
abbrev pub named_start : State → Reading Text → AtomStart
named_start s (gives w u) = of_kind (capture (Some w)) (at s u)
named_start s (fails e) = error_start e

-- a conditional whose target was read
abbrev pub target_start : State → Reading Reference → AtomStart
target_start s (gives r u) = body (condition_node r) (at s u)
target_start s (fails e) = error_start e

-- inline flags, or a flag group, whose letters were read
abbrev pub flags_start : Reading Letters → AtomStart
flags_start (gives (inline_flags f) u) = read (done empty (record { flags = f; rest = u }))
flags_start (gives (scoped f) u) = of_kind flag_group (record { flags = f; rest = u })
flags_start (fails e) = error_start e

-- after an asterisk: the start that f makes of the verb whose name and closing parenthesis follow
abbrev pub verb_start : (Tree → State → AtomStart) → State → Text → AtomStart
verb_start f s t = choose (verb_at t) (λ p. f (verb p.0) (at s p.1)) (error_start (unknown_verb (code "*" ∷ t)))

-- after `(?(`, which may not end the text: a condition, which is a target, a verb, or an alternation
abbrev pub condition_start : State → Text → AtomStart
condition_start s [] = error_start group_not_closed
condition_start s (c ∷ t) =
    if begins_target (c ∷ t) then target_start s (condition_target (c ∷ t))
    else if c == code "*" then verb_start body s t
    else condition (at s (c ∷ t))

-- after `(?~`, which may not end the text: an alternation
abbrev pub repeater_start : State → Text → AtomStart
repeater_start s [] = error_start group_not_closed
repeater_start s (c ∷ t) = of_kind repeater (at s (c ∷ t))

-- the words that may follow the question mark that opens a group, each with the start of an atom that it makes of the
-- text after it; the first that matches decides
abbrev pub after_question_words : State → Text → List (Text × (Text → AtomStart))
after_question_words s t =
    (codes "=", λ u. of_kind (look LookAhead) (at s u))
    ∷ (codes "!", λ u. of_kind (look LookAheadNeg) (at s u))
    ∷ (codes "<=", λ u. of_kind (look LookBehind) (at s u))
    ∷ (codes "<!", λ u. of_kind (look LookBehindNeg) (at s u))
    ∷ (codes "<", λ u. named_start s (group_name (code ">") t u))
    ∷ (codes "'", λ u. named_start s (group_name (code "'") t u))
    ∷ (codes "P<", λ u. named_start s (group_name (code ">") t u))
    ∷ (codes "P=", λ u. read (leaf_outcome (backref_node s.flags.casei) s (named_reference u)))
    ∷ (codes "P>", λ u. read (leaf_outcome call_node s (named_call u)))
    ∷ (codes "~|", λ u. absent_branch (at s u))
    ∷ (codes "~", λ u. repeater_start s u)
    ∷ (codes ">", λ u. of_kind atomic (at s u))
    ∷ (codes "(DEFINE)", λ u. of_kind define (at s u))
    ∷ (codes "(", λ u. condition_start s u)
    ∷ []

-- after the question mark that opens a group: one of these, or flag letters
abbrev pub after_question : State → Text → AtomStart
after_question s t = by_word (after_question_words s t) t (flags_start (letters s.flags t))

-- after the parenthesis and layout: a question mark with the kind of the group, a verb, or a capturing group without a
-- name
abbrev pub group_start : State → Text → AtomStart
group_start s t =
    by_word ((codes "?", λ u. after_question s u) ∷ (codes "*", λ u. verb_start (λ v z. read (done v z)) s u) ∷ []) t
    (of_kind (capture None) (at s t))

-- the start of an atom, inside d groups
abbrev pub start_of : ℕ → State → Text → AtomStart
start_of d s [] = nothing
start_of d s (c ∷ t) =
    if c == code "(" then (
    if nat_le max_depth (d + 1) then error_start (group_too_deep (c ∷ t))
    else after_skipped (skipped (at s t)) (group_start s) error_start)
    else if begins_no_atom c then nothing
    else read (leaf_of s c t)

unfoldable pub atom_start : ℕ → State → AtomStart
atom_start d s = start_of d s s.rest
