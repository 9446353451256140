-- Branches that are never reached, and branches that belong together.
use Rattle.std.specs.Prelude.{ℕ, ◌-◌, Bool, true, false, ◌≡◌, ◌==◌, ◌&&◌, ◌||◌, not, nat_le, if◌then◌else◌, List, [], ◌∷◌}
use Rattle.std.specs.Prelude.{Option, Some, None, length, slice_get, IsSomeAnd}
use Rattle.fancy_lex.specs.Text.{Text}
use Rattle.patterns_lint.specs.declared.branches.Following.{Following}
use Rattle.patterns_lint.specs.declared.branches.Following.TheVariants as following
use Rattle.std.specs.Str.{bytes_eq}
use Rattle.lint_rules.specs.declared.problem.Problem.{Problem}
use Rattle.lint_rules.specs.declared.problem.Problem.TheVariants as problem
use Rattle.lint_rules.specs.declared.rule.Rule.TheVariants as rule
use Rattle.fancy_grammar.specs.Tree.{Tree, any, literal, repeat}
use Rattle.class_rules.specs.Beginnings.{pieces}
use Rattle.pattern_matches.specs.Beginnings.{CoversStarts}
use Rattle.pattern_matches.specs.Defined.{IsDefined}

-- whether a literal matches what another one matches: it has the same text, and ignores case if the other does
abbrev pub covers : Tree → Tree → Bool
covers (literal text casei) (literal other is_other_casei) = bytes_eq text other && (casei || not is_other_casei)
covers _ _ = false

-- whether the trees begin with ones that the others cover one by one
abbrev pub begins_with : List Tree → List Tree → Bool
begins_with [] ts = true
begins_with (e ∷ es) [] = false
begins_with (e ∷ es) (t ∷ ts) = covers e t && begins_with es ts

-- whether the later branch begins with literals that are all of the earlier one, so that wherever the later one matches
-- the earlier one does
abbrev pub is_unreachable : Tree → Tree → Bool
is_unreachable earlier later = begins_with (pieces earlier) (pieces later)

-- a letter, a digit or `_` of ASCII
abbrev pub is_word_character : ℕ → Bool
is_word_character c =
    (nat_le 48 c && nat_le c 57) || (nat_le 65 c && nat_le c 90) || (nat_le 97 c && nat_le c 122) || (c == 95)

-- both are characters of ASCII, one of a word and the other not
abbrev pub differ_in_word : ℕ → ℕ → Bool
differ_in_word c d =
    if nat_le 128 c || nat_le 128 d then false
    else if is_word_character c then not (is_word_character d)
    else is_word_character d

-- the only character of a text
abbrev pub only_character : Text → Option ℕ
only_character (c ∷ []) = Some c
only_character _ = None

abbrev pub differ : Option ℕ → Option ℕ → Bool
differ (Some c) (Some d) = differ_in_word c d
differ _ _ = false

-- each of the two texts is one character of ASCII, one of a word and the other not
abbrev pub texts_differ : Text → Text → Bool
texts_differ text other = differ (only_character text) (only_character other)

-- a word boundary is between the two, which are literals of one character
abbrev pub is_boundary : Tree → Tree → Bool
is_boundary (literal text casei) (literal other is_other_casei) = texts_differ text other
is_boundary _ _ = false

-- a word boundary is before the piece of this index
abbrev pub IsBoundaryBefore : ℕ → List Tree → Type 0
IsBoundaryBefore i pieces = IsSomeAnd (slice_get pieces (i - 1)) (λ t. IsSomeAnd (slice_get pieces i) (λ u. is_boundary t u ≡ true))

-- The later branch begins with the literals that are all of the earlier one, and what follows the alternation is met
-- after these: nothing, or a word boundary. So the earlier one matches first.
abbrev pub IsPassed : Following → Tree → Tree → Type 0
IsPassed following.Nothing earlier later = is_unreachable earlier later ≡ true
IsPassed following.WordBoundary earlier later =
    (is_unreachable earlier later ≡ true) × IsBoundaryBefore (length (pieces earlier)) (pieces later)
IsPassed following.More earlier later = ⊥

-- the only character of the text is this one
abbrev pub is_character : Option ℕ → ℕ → Bool
is_character (Some c) d = c == d
is_character None d = false

-- a backslash
abbrev pub is_backslash : Tree → Bool
is_backslash (literal text casei) = is_character (only_character text) 92
is_backslash _ = false

-- what matches the character, as far as it is that literal or a dot
abbrev pub may_be : Tree → ℕ → Bool
may_be (literal text casei) d = is_character (only_character text) d
may_be (any newline crlf) d = true
may_be _ d = false

-- the branch is a backslash and what may be the character
abbrev pub IsEscapeOf : Tree → ℕ → Type 0
IsEscapeOf branch d =
    IsSomeAnd (slice_get (pieces branch) 0) (λ t. is_backslash t ≡ true)
    × IsSomeAnd (slice_get (pieces branch) 1) (λ t. may_be t d ≡ true) × (length (pieces branch) ≡ 2)

-- what is wrong with an empty branch: nothing if it is the first or the last one, which says "or nothing"
abbrev pub empty_branch_problem : Bool → Bool → Option Problem
empty_branch_problem is_first is_last = if is_first || is_last then None else Some (problem.Plain rule.EmptyBranch)

-- two branches that differ in the count alone: the same operand, quantified with other counts
abbrev pub DifferInCount : Tree → Tree → Type 0
DifferInCount (repeat t lo hi greedy) (repeat u low high is_greedy) = (t ≡ u) × ((lo == low) && (hi == high) ≡ false)
DifferInCount _ _ = ⊥

-- the earlier branch matches from each position from which the later one does, if what it matches is defined
abbrev pub IsCovered : Bool → Tree → Tree → Type 0
IsCovered unicode later earlier = IsDefined unicode earlier → CoversStarts unicode earlier later
