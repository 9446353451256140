-- How the results of the parser's readers correspond to the grammar's.
use Rattle.std.specs.Prelude.{◌≡◌, ℕ, ◌+◌, ◌<◌, List, None, option_map, chars, length, Result, MatchResult, ⊤}
use Rattle.fancy_lex.specs.declared.error.ReadError.{ReadError}
use Rattle.fancy_grammar.specs.AtomStart.{AtomStart, nothing, read, of_kind, condition, body, absent_branch}
use Rattle.fancy_grammar.specs.Depth.{max_depth}
use Rattle.fancy_grammar.specs.GroupKind as kind
use Rattle.fancy_grammar.specs.Errors.{IsErrorAmong}
use Rattle.fancy_grammar.specs.Quantified as quantified
use Rattle.fancy_grammar.specs.State as spec
use Rattle.fancy_grammar.specs.State.{Outcome, done}
use Rattle.fancy_grammar.specs.Tree.{Tree}
use Rattle.fancy_syntax.specs.View.{view}
use Rattle.fancy_syntax.specs.declared.expr.Expr.{Expr}
use Rattle.fancy_syntax.specs.declared.grammar.atom_start.AtomStart as declared
use Rattle.fancy_syntax.specs.declared.grammar.atom_start.AtomStart.TheVariants.{Nothing, Read, Group, Condition, Body}
use Rattle.fancy_syntax.specs.declared.grammar.atom_start.AtomStart.TheVariants.{AbsentBranch}
use Rattle.fancy_syntax.specs.declared.grammar.group.kind.GroupKind.{GroupKind}
use Rattle.fancy_syntax.specs.declared.grammar.group.kind.GroupKind.TheVariants as code
use Rattle.fancy_syntax.specs.declared.grammar.quantified.Suffix.{Suffix}
use Rattle.fancy_syntax.specs.declared.grammar.state.State.{State}

-- the state, with its text as a list of characters
abbrev pub state : State → spec.State
state s = record { flags = s.flags; rest = chars s.rest.now }

-- the group kind, with its name as a list of characters
abbrev pub group_kind : GroupKind → kind.GroupKind
group_kind (code.Capture name) = kind.capture (option_map (λ t. chars t.now) name)
group_kind code.Undecided = kind.capture None
group_kind code.FlagGroup = kind.flag_group
group_kind (code.Look look) = kind.look look
group_kind code.Atomic = kind.atomic
group_kind code.Define = kind.define
group_kind code.Repeater = kind.repeater

-- the outcome is this tree and this state, or the error that the result has
abbrev pub Turns : Result (Unit {0}) ReadError → Tree → spec.State → Outcome Tree → Type 0
Turns r t s o = MatchResult r (λ _. o ≡ done t s) (λ e. IsErrorAmong e (λ q. o ≡ q))

-- the suffix after the counts of a quantifier
abbrev pub suffix_of : Suffix → quantified.Suffix
suffix_of m = record { lazy = m.lazy; possessive = m.possessive }

-- the outcome is this suffix, read up to the state, or the error that the result has
abbrev pub GivesSuffix : Result Suffix ReadError → spec.State → Outcome quantified.Suffix → Type 0
GivesSuffix r s o = MatchResult r (λ m. o ≡ done (suffix_of m) s) (λ e. IsErrorAmong e (λ q. o ≡ q))

-- the outcome is the tree of the expression, read up to the state, or the error that the result has
abbrev pub GivesTree : Result Expr ReadError → spec.State → Outcome Tree → Type 0
GivesTree r s o = MatchResult r (λ e. o ≡ done (view e) s) (λ e. IsErrorAmong e (λ q. o ≡ q))

-- the start of an atom, when the parser is at the state
abbrev pub view_start : declared.AtomStart → spec.State → AtomStart
view_start Nothing s = nothing
view_start (Read atom) s = read (done (view atom) s)
view_start (Group h) s = of_kind (group_kind h) s
view_start Condition s = condition s
view_start (Body c start) s = body (view c.value) s
view_start AbsentBranch s = absent_branch s

-- what the parser finds at the start of an atom is what the grammar has there
abbrev pub Sees : Result declared.AtomStart ReadError → spec.State → AtomStart → Type 0
Sees r s k = MatchResult r (λ a. k ≡ view_start a s) (λ e. IsErrorAmong e (λ o. k ≡ read o))

-- if nothing is found, the state stays the same
abbrev pub StaysAtNothing : declared.AtomStart → State → State → Type 0
StaysAtNothing Nothing s t = t ≡ s
StaysAtNothing _ s t = ⊤

-- if something is found, bytes are taken
abbrev pub TakesBytes : declared.AtomStart → List ℕ → List ℕ → Type 0
TakesBytes Nothing t u = ⊤
TakesBytes _ t u = length u < length t

-- something is found
abbrev pub IsSomething : declared.AtomStart → Type 0
IsSomething Nothing = ⊥
IsSomething _ = ⊤

-- if a condition that is no alternation is found, it begins at the reach
abbrev pub HasConditionAt : declared.AtomStart → ℕ → Type 0
HasConditionAt (Body c start) n = start ≡ n
HasConditionAt _ n = ⊤

-- a group is found only if one may open inside d groups
abbrev pub IsBelow : declared.AtomStart → ℕ → Type 0
IsBelow Nothing d = ⊤
IsBelow (Read atom) d = ⊤
IsBelow _ d = d + 1 < max_depth

-- if no byte was taken, the text is the same
abbrev pub IsUnmoved : List ℕ → List ℕ → Type 0
IsUnmoved t u = length u ≡ length t → chars u ≡ chars t
