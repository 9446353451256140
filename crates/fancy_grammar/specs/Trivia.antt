-- What a tree does not hold, given by the derivation that reads it: comments, inline flags, the parentheses of groups that
-- make no node, quantifiers that an Empty ignores, and all but the condition of a conditional whose branches are both Empty,
-- in the order of the pattern. A comment inside a token, such as one between the digits of a quantifier or after the
-- parenthesis of a group, is of a kind of its own, and after the part that the token is, if it is one.
use Rattle.std.specs.Prelude.{◌≡◌, ◌≤◌, ◌⊎◌, ℕ, zero, suc, ◌+◌, ◌==◌, nat_lt, Bool, true, false, not, ◌&&◌, List, []}
use Rattle.std.specs.Prelude.{◌∷◌, ◌++◌, None, Some, map, if◌then◌else◌, codes, slice_range}
use Rattle.std.specs.List.{AllByRecursion}
use Prim.Native.Char.{code}
use Rattle.fancy_lex.specs.Comments.{Comment, comments}
use Rattle.fancy_lex.specs.FlagLetters.{Letters, inline_flags, flag_group as scoped}
use Rattle.fancy_lex.specs.LetterSteps.{letters}
use Rattle.fancy_lex.specs.Quantifier.{counts}
use Rattle.fancy_lex.specs.TokenComments.{token_comments, escape_comments, class_comments}
use Rattle.fancy_lex.specs.Characters.{◌∈◌}
use Rattle.fancy_lex.specs.Layout.{IsComment, IsLineComment}
use Rattle.fancy_lex.specs.LayoutSteps.{past_layout, layout, rest}
use Rattle.fancy_lex.specs.Reading.{choose, gives}
use Rattle.fancy_lex.specs.Text.{Text, bytes, reach_of}
use Rattle.fancy_lex.specs.declared.flags.Flags.{Flags}
use Rattle.fancy_grammar.specs.Ranks.{only_named}
use Rattle.fancy_lex.specs.declared.counts.Counts.{Counts}
use Rattle.fancy_grammar.specs.AtomStart.{AtomStart}
use Rattle.fancy_grammar.specs.Grammar.{Alternation, alternation, Branches, last, more, branch_error, Branch, branch}
use Rattle.fancy_grammar.specs.Grammar.{Pieces, stop, next, piece_error, Piece, piece, layout_error, Atom, atom, AtomOf}
use Rattle.fancy_grammar.specs.Grammar.{a_nothing, a_read, a_group, a_condition, condition_error, a_body, two_branches}
use Rattle.fancy_grammar.specs.Grammar.{one_branch, absent_error, Inside, inside, Body, the_body, branches_of}
use Rattle.fancy_grammar.specs.Grammar.{Whole, whole}
use Rattle.fancy_grammar.specs.GroupKind.{GroupKind, capture, flag_group}
use Rattle.fancy_grammar.specs.Items.{openings}
use Rattle.fancy_grammar.specs.Join.{is_empty}
use Rattle.fancy_grammar.specs.Quantified.{quant, suffix, is_repeatable, is_unmoved, max_adjacent}
use Rattle.fancy_grammar.specs.Spans.{Span, positioned, condition_span, counts_ahead, end_of, if_done}
use Rattle.fancy_grammar.specs.State.{State, at, Outcome, done}
use Rattle.fancy_grammar.specs.Tree.{Tree}

-- what a part of a pattern is that no node has
pub data TriviumKind : Type 0 where
  comment : TriviumKind
  line_comment : TriviumKind
  flags : Flags → Flags → TriviumKind  -- inline flags, with the flags that hold before them and after them
  opening : Flags → Flags → TriviumKind  -- the opening of a group without a node, with the flags around it and in it
  closing : TriviumKind  -- its closing parenthesis
  dropped : TriviumKind  -- a part of a quantifier or of a conditional that leaves nothing in the tree
  inner_comment : TriviumKind  -- a comment inside a token
  inner_line_comment : TriviumKind

pub record Trivium : Type 0 where
  pub span : Span
  pub kind : TriviumKind

-- with positions in a pattern of n bytes
abbrev pub located : ℕ → Trivium → Trivium
located n x = record { span = positioned n x.span; kind = x.kind }

-- what is passed: a part of the pattern, and whether it is a parenthesis of a capturing group without a name, which has
-- a node unless only groups with a name have a number
pub record Passed : Type 0 where
  pub trivium : Trivium
  pub unnamed : Bool

-- ---- each kind

-- a part between two reaches
abbrev pub part : ℕ → ℕ → TriviumKind → Bool → Passed
part start end kind unnamed = record {
  trivium = record { span = record { start = start; end = end }; kind = kind };
  unnamed = unnamed;
}

abbrev pub of_comment : Comment → Passed
of_comment c = part c.start c.end (if c.is_line then line_comment else comment) false

-- the comments in the layout at the state
abbrev pub comments_at : State → List Passed
comments_at s = map of_comment (comments s.flags.ignore_space s.rest)

abbrev pub of_inner : Comment → Passed
of_inner c = part c.start c.end (if c.is_line then inner_line_comment else inner_comment) false

-- the comments in the token at the front of the text that begins an atom and ends at the reach, under these flags
abbrev pub comments_in_start : Flags → Text → ℕ → List Comment
comments_in_start f [] end = []
comments_in_start f (c ∷ t) end =
    if c == code "(" then token_comments t end
    else if c == code "\\" then escape_comments t end
    else if c == code "[" then class_comments f t end
    else []

abbrev pub inner_at : State → ℕ → List Passed
inner_at s end = map of_inner (comments_in_start s.flags s.rest end)

-- those in the counts of a quantifier that are at t, and that v follows
abbrev pub inner_of_counts : Counts → Text → Text → List Passed
inner_of_counts c t v = if c.braces then map of_inner (token_comments t (reach_of v)) else []

-- inline flags, if an Empty was read, since no other atom that is read at once is one
abbrev pub flags_of_atom : State → Outcome Tree → List Passed
flags_of_atom s q =
    if_done q (λ r t. if is_empty r then part (reach_of s.rest) (reach_of t.rest) (flags s.flags t.flags) false ∷ []
    else []) []

-- the opening of a group at s, whose contents begin at t
abbrev pub opening_of : GroupKind → State → State → List Passed
opening_of flag_group s t = part (reach_of s.rest) (reach_of t.rest) (opening s.flags t.flags) false ∷ []
opening_of (capture None) s t = part (reach_of s.rest) (reach_of t.rest) (opening s.flags t.flags) true ∷ []
opening_of _ s t = []

-- the closing parenthesis of a group, which ends at the reach
abbrev pub closing_of : GroupKind → ℕ → List Passed
closing_of flag_group end = part (end + 1) end closing false ∷ []
closing_of (capture None) end = part (end + 1) end closing true ∷ []
closing_of _ end = []

-- ---- what leaves nothing in the tree: each function adds to the list p

-- the text between two reaches, unless it is empty
abbrev pub with_dropped : ℕ → ℕ → List Passed → List Passed
with_dropped start end p = if start == end then p else p ++ part start end dropped false ∷ []

-- all text between two reaches: these parts, and what lies before, between and after them; a part that begins before the
-- first reach lies in the part before it
abbrev pub filled : ℕ → ℕ → List Passed → List Passed → List Passed
filled start end [] p = with_dropped start end p
filled start end (x ∷ l) p =
    if nat_lt start x.trivium.span.start then filled start end l (p ++ x ∷ [])
    else filled x.trivium.span.end end l (with_dropped start x.trivium.span.start p ++ x ∷ [])

-- ---- quantifiers: each function adds to the list p

-- where the layout at the state ends
abbrev pub layout_end : State → ℕ
layout_end s = choose (past_layout s.flags.ignore_space s.rest) reach_of (reach_of s.rest)

-- the text after the layout at the state
abbrev pub after_layout : State → Text
after_layout s = choose (past_layout s.flags.ignore_space s.rest) (λ t. t) s.rest

-- a quantifier of the atom a, whose counts are at w and end before t: the comments in the counts and before its operators,
-- and if a ignores it the counts and the operators
abbrev pub counted_trivia : Text → Tree → State → List Passed → Counts × Text → List Passed
counted_trivia w a s p (c, t) =
    let u = at s t in
    let i = inner_of_counts c w t in
    if is_repeatable s.flags a then (p ++ i) ++ comments_at u
    else let q = (with_dropped (reach_of w) (reach_of t) p ++ i) ++ comments_at u in
    if_done (suffix u c) (λ m v. with_dropped (layout_end u) (reach_of v.rest) q) q

-- a quantifier that follows layout, if one does
abbrev pub quant_trivia : Tree → State → List Passed → List Passed
quant_trivia a s p =
    let q = p ++ comments_at s in choose (counts_ahead s) (counted_trivia (after_layout s) a s q) q

-- adjacent quantifiers, of which k more may follow
abbrev pub adjacent_trivia : ℕ → Tree → State → List Passed → List Passed
adjacent_trivia zero a s p = quant_trivia a s p
adjacent_trivia (suc k) a s p =
    let q = quant_trivia a s p in
    if_done (quant (bytes s.rest) a s) (λ b t. if is_unmoved s t then q else adjacent_trivia k b t q) q

-- all quantifiers of a piece before which this many bytes were left
abbrev pub quants_trivia : ℕ → Outcome Tree → List Passed → List Passed
quants_trivia left o p = if_done o (λ a s.
    let q = quant_trivia a s p in
    if_done (quant left a s) (λ b t. if t.flags.oniguruma_mode then adjacent_trivia max_adjacent b t q else q) q) p

-- ---- the productions

-- whether a conditional with this body leaves only its condition in the tree
abbrev pub leaves_condition : {d : ℕ} {c : Tree} {s : State} {o : Outcome Tree} → Body d c s o → Bool
leaves_condition (the_body {q} a) =
    if_done q (λ r v. is_empty (branches_of r).0 && is_empty (branches_of r).1) false

abbrev mutual
  pub alternation_trivia : {d : ℕ} {s : State} {o : Outcome Tree} → Alternation d s o → List Passed → List Passed
  alternation_trivia (alternation b) p = branches_trivia b p

  pub branches_trivia : {d : ℕ} {s : State} {o : Outcome (List Tree)} → Branches d s o → List Passed → List Passed
  branches_trivia (last b e) p = branch_trivia b p
  branches_trivia (more b e m) p = branches_trivia m (branch_trivia b p)
  branches_trivia (branch_error b) p = branch_trivia b p

  pub branch_trivia : {d : ℕ} {s : State} {o : Outcome Tree} → Branch d s o → List Passed → List Passed
  branch_trivia (branch b) p = pieces_trivia b p

  pub pieces_trivia : {d : ℕ} {s : State} {o : Outcome (List Tree)} → Pieces d s o → List Passed → List Passed
  pieces_trivia (stop e) p = p
  pieces_trivia (next e a m) p = pieces_trivia m (piece_trivia a p)
  pieces_trivia (piece_error e a) p = piece_trivia a p

  pub piece_trivia : {d : ℕ} {s : State} {o : Outcome Tree} → Piece d s o → List Passed → List Passed
  piece_trivia {s} (piece {q} i a) p = quants_trivia (bytes s.rest) q (atom_trivia a (p ++ comments_at s))
  piece_trivia (layout_error i) p = p

  pub atom_trivia : {d : ℕ} {s : State} {o : Outcome Tree} → Atom d s o → List Passed → List Passed
  atom_trivia (atom e a) p = atom_of_trivia a p

  pub atom_of_trivia : {k : AtomStart} {d : ℕ} {s : State} {o : Outcome Tree} → AtomOf k d s o → List Passed →
      List Passed
  atom_of_trivia a_nothing p = p
  atom_of_trivia {s} {o} a_read p = (p ++ flags_of_atom s o) ++ inner_at s (end_of o)
  atom_of_trivia {s} {o} (a_group {t} {h} i) p =
      inside_trivia i ((p ++ opening_of h s t) ++ inner_at s (reach_of t.rest)) ++ closing_of h (end_of o)
  atom_of_trivia {s} {o} (a_condition {t} {v} i b) p =
      if leaves_condition b
      then filled (reach_of v.rest + 1) (end_of o) (body_trivia b [])
      (inside_trivia i (with_dropped (reach_of s.rest) (reach_of t.rest) p ++ inner_at s (reach_of t.rest)))
      else body_trivia b (inside_trivia i (p ++ inner_at s (reach_of t.rest)))
  atom_of_trivia {s} (condition_error {t} i) p = inside_trivia i (p ++ inner_at s (reach_of t.rest))
  atom_of_trivia {s} {o} (a_body {t} b) p =
      let start = (condition_span s t).start in
      if leaves_condition b
      then filled (reach_of t.rest + 1) (end_of o) (body_trivia b [])
      (with_dropped (reach_of s.rest) start p ++ inner_at s start)
      else body_trivia b (p ++ inner_at s start)
  atom_of_trivia {s} (two_branches {t} b e m) p = branch_trivia m (branch_trivia b (p ++ inner_at s (reach_of t.rest)))
  atom_of_trivia {s} (one_branch {t} b e) p = branch_trivia b (p ++ inner_at s (reach_of t.rest))
  atom_of_trivia {s} (absent_error {t} b) p = branch_trivia b (p ++ inner_at s (reach_of t.rest))

  pub inside_trivia : {d : ℕ} {s : State} {o : Outcome Tree} → Inside d s o → List Passed → List Passed
  inside_trivia (inside a) p = alternation_trivia a p

  pub body_trivia : {d : ℕ} {c : Tree} {s : State} {o : Outcome Tree} → Body d c s o → List Passed → List Passed
  body_trivia (the_body a) p = alternation_trivia a p

abbrev pub whole_trivia : {f : Flags} {text : Text} {o : Outcome Tree} → Whole f text o → List Passed
whole_trivia (whole a) = alternation_trivia a []

-- the parts that no node has; with `named`, only groups with a name have a number
abbrev pub kept : Bool → List Passed → List Trivium
kept named [] = []
kept named (x ∷ xs) = if x.unnamed && not named then kept named xs else x.trivium ∷ kept named xs

-- what the tree that is parsed from a text does not hold, in the order of the text
abbrev pub IsTriviaOf : Flags → Text → List Trivium → Type 0
IsTriviaOf f text l =
    (r : Tree) × (t : State) × (a : Whole f text (done r t))
    × (l ≡ map (located (bytes text)) (kept (only_named f (openings r)) (whole_trivia a)))

-- ---- where they are, and what they hold

-- `(?` with layout between the two, and the letters that the reader gives, which v follows; f are the flags before them
abbrev pub HasLetters : Flags → Letters → Text → Text → Type 0
HasLetters f l w v =
    (t z : Text) × (w ++ v ≡ code "(" ∷ t) × (layout f.ignore_space t ≡ rest (code "?" ∷ z)) × (letters f z ≡ gives l v)

-- a parenthesis and layout: the opening of a group without a name, under the same flags
abbrev pub IsParenthesis : Flags → Text → Text → Type 0
IsParenthesis f w v = (t : Text) × (w ++ v ≡ code "(" ∷ t) × (layout f.ignore_space t ≡ rest v)

-- the counts of a quantifier, which v follows
abbrev pub IsCounts : Text → Text → Type 0
IsCounts w v = (x : Bool) × (c : Counts) × (counts x (w ++ v) ≡ Some (c, v))

-- the operators of a quantifier
abbrev pub IsOperators : Text → Type 0
IsOperators w = (w ≡ codes "?") ⊎ (w ≡ codes "+") ⊎ (w ≡ codes "?+")

-- what leaves nothing in the tree: counts or operators of a quantifier, the opening of a conditional, up to its condition, or
-- the text between parts of a conditional whose branches are both Empty
pub data IsDropped (w v : Text) : Type 0 where
  of_counts : IsCounts w v → IsDropped w v
  of_operators : IsOperators w → IsDropped w v
  start_of_conditional : (f : Flags) (t : Text) → w ++ v ≡ code "(" ∷ t →
      layout f.ignore_space t ≡ rest (codes "?(" ++ v) → IsDropped w v
  between_parts : AllByRecursion (λ c. (c ∈ "|) \r\n\t") ≡ true) w → IsDropped w v

-- what the kind says of the text, which v follows
abbrev pub IsTextOf : TriviumKind → Text → Text → Type 0
IsTextOf comment w v = IsComment w
IsTextOf line_comment w v = IsLineComment w v
IsTextOf (flags f g) w v = HasLetters f (inline_flags g) w v
IsTextOf (opening f g) w v = HasLetters f (scoped g) w v ⊎ (f ≡ g) × IsParenthesis f w v
IsTextOf closing w v = w ≡ code ")" ∷ []
IsTextOf dropped w v = IsDropped w v
IsTextOf inner_comment w v = IsComment w
IsTextOf inner_line_comment w v = IsLineComment w v

-- it is a part of the text: from its start, in bytes, to its end
abbrev pub IsPartOf : Text → Trivium → Type 0
IsPartOf text x =
    (t : Text) × (w : Text) × (v : Text) × (text ≡ t ++ (w ++ v)) × IsTextOf x.kind w v
    × (x.span ≡ record { start = bytes t; end = bytes t + bytes w })

-- whether it is a comment inside a token
abbrev pub is_inner : TriviumKind → Bool
is_inner inner_comment = true
is_inner inner_line_comment = true
is_inner comment = false
is_inner line_comment = false
is_inner (flags f g) = false
is_inner (opening f g) = false
is_inner closing = false
is_inner dropped = false

-- whether it is a comment through the end of its line
abbrev pub is_line_comment : TriviumKind → Bool
is_line_comment line_comment = true
is_line_comment inner_line_comment = true
is_line_comment comment = false
is_line_comment inner_comment = false
is_line_comment (flags f g) = false
is_line_comment (opening f g) = false
is_line_comment closing = false
is_line_comment dropped = false

-- whether it is a comment, between tokens or inside one
abbrev pub is_comment : TriviumKind → Bool
is_comment comment = true
is_comment line_comment = true
is_comment inner_comment = true
is_comment inner_line_comment = true
is_comment (flags f g) = false
is_comment (opening f g) = false
is_comment closing = false
is_comment dropped = false

-- the comments of a pattern, between tokens and inside them, byte for byte, in order
abbrev pub comment_texts : List ℕ → List Trivium → List (List ℕ)
comment_texts pattern [] = []
comment_texts pattern (x ∷ l) =
    if is_comment x.kind then slice_range pattern x.span.start x.span.end ∷ comment_texts pattern l
    else comment_texts pattern l

-- one after another up to `high`, after a part that ends at `end`; a comment inside that part begins at `from` or later
pub data FollowOne : ℕ → ℕ → ℕ → List Trivium → Type 0 where
  no_more : {from end high : ℕ} → end ≤ high → FollowOne from end high []
  after : {from end high : ℕ} {x : Trivium} {l : List Trivium} → end ≤ x.span.start → x.span.start ≤ x.span.end →
      FollowOne x.span.start x.span.end high l → FollowOne from end high (x ∷ l)
  within : {from end high : ℕ} {x : Trivium} {l : List Trivium} → is_inner x.kind ≡ true → from ≤ x.span.start →
      x.span.start ≤ x.span.end → x.span.end ≤ end → FollowOne x.span.end end high l → FollowOne from end high (x ∷ l)

-- one after another between two positions, and a comment inside a token after the part that the token is, and in it
abbrev pub AreInOrder : ℕ → ℕ → List Trivium → Type 0
AreInOrder low high l = FollowOne low low high l
