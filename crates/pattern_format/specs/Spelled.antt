-- The text of a tree in the spelling of a pattern that has the same tree. Some engines read an escape, a class, a reference
-- or the name of a group only as it is spelled there: Python `(?P<n>a)` and `(?P=n)`, others `\p{Lu}` and not `\p{lu}`.
use Rattle.std.specs.Prelude.{◌≡◌, ◌≢◌, ℕ, ◌+◌, Bool, true, false, ◌&&◌, ◌||◌, not, ◌⊎◌, List, [], ◌∷◌, ◌++◌, length, chars}
use Rattle.std.specs.Prelude.{codes, nat_eq, nat_le, slice_range, if◌then◌else◌, Option, Some, None, IsUtf8}
use Rattle.std.specs.List.{list_any, starts_with}
use Rattle.fancy_lex.specs.declared.flags.Flags.{Flags}
use Rattle.fancy_grammar.specs.GroupInfo.{GroupInfo}
use Rattle.fancy_grammar.specs.Label as label
use Rattle.fancy_grammar.specs.ParseResult.{HasTree}
use Rattle.fancy_grammar.specs.ReadAs.{IsReadAs, unpositioned}
use Rattle.fancy_grammar.specs.Spans.{Span, AreSpansOf}
use Rattle.fancy_grammar.specs.Tree.{Tree, leaf, over, row, Trees, no_trees, more_trees}
use Rattle.pattern_format.specs.declared.spelled.Kept.{Kept}
use Rattle.pattern_format.specs.declared.spelled.Kept.TheVariants as kept

-- ---- which spellings are kept

-- a leaf keeps its text, unless it is a literal or empty; a capturing group keeps the `P` of `(?P<name>`
abbrev pub kept_of : Tree → Kept
kept_of (leaf label.empty) = kept.Nothing
kept_of (leaf (label.literal text casei)) = kept.Nothing
kept_of (leaf (label.literal_bytes bytes)) = kept.Nothing
kept_of (leaf l) = kept.Text
kept_of (over label.group t) = kept.Letter
kept_of t = kept.Nothing

-- only an escape, a class or parentheses: flags decide what `.`, `^` and `$` are. A comment may begin with `#`
abbrev pub is_own : List ℕ → Bool
is_own text =
    (starts_with nat_eq text (codes "\\") || (starts_with nat_eq text (codes "[") || starts_with nat_eq text (codes "(")))
    && not (list_any (λ b. nat_eq b 35) text)

abbrev mutual
  -- what is kept of each node, in preorder; the contents of an unresolved group are not its children
  pub all_kept : Tree → List Kept
  all_kept (leaf l) = kept_of (leaf l) ∷ []
  all_kept (over (label.ast_group name position) t) = kept.Nothing ∷ []
  all_kept (over w t) = kept_of (over w t) ∷ all_kept t
  all_kept (row r ts) = kept.Nothing ∷ all_kept_of ts

  pub all_kept_of : Trees → List Kept
  all_kept_of no_trees = []
  all_kept_of (more_trees t ts) = all_kept t ++ all_kept_of ts

-- ---- a text with them

-- the bytes from one position up to another; none if they are not in the text in this order
abbrev pub part : List ℕ → ℕ → ℕ → List ℕ
part text start end = if nat_le start end && nat_le end (length text) then slice_range text start end else []

-- a part of a text, and what is written there
pub record Change : Type 0 where
  pub start : ℕ
  pub end : ℕ
  pub text : List ℕ

-- the change of a node that has this span in the text, and that one in the pattern
abbrev pub change_at : List ℕ → List ℕ → Kept → Span → Span → Option Change
change_at text pattern kept.Text here there =
    if is_own (part pattern there.start there.end)
    then Some (record { start = here.start; end = here.end; text = part pattern there.start there.end })
    else None
change_at text pattern kept.Letter here there =
    if starts_with nat_eq (part text here.start here.end) (codes "(?<")
    && starts_with nat_eq (part pattern there.start there.end) (codes "(?P<")
    then Some (record { start = here.start + 2; end = here.start + 2; text = codes "P" })
    else None
change_at text pattern kept.Nothing here there = None

-- the text from a position on, with the change and then what follows it, if there is one
abbrev pub changed : List ℕ → ℕ → Option Change → (ℕ → List ℕ) → List ℕ
changed text position None rest = rest position
changed text position (Some c) rest = part text position c.start ++ (c.text ++ rest c.end)

-- the text from a position on, with the changes of nodes, which are given in preorder
abbrev pub respelled : List ℕ → List ℕ → List Kept → List Span → List Span → ℕ → List ℕ
respelled text pattern (k ∷ ks) (p ∷ ps) (q ∷ qs) position =
    changed text position (change_at text pattern k p q) (respelled text pattern ks ps qs)
respelled text pattern _ _ _ position = part text position (length text)

-- ---- the result

-- with the spellings of w the text is w
abbrev pub HasOwnSpelling : Flags → List ℕ → List Kept → List Span → List ℕ → Type 0
HasOwnSpelling f text ks ps w = (rs : List Span) × AreSpansOf f (chars w) rs × (w ≡ respelled text w ks ps rs 0)

-- w is the text with the spellings of the pattern, whose tree is t and whose nodes have the spans qs
pub record IsRespelled (f : Flags) (pattern : List ℕ) (t : Tree) (m : GroupInfo) (qs : List Span) (text w : List ℕ) :
    Type 0 where
  -- neither the pattern nor w is the text
  pub unlike : pattern ≢ text
  pub other : w ≢ text
  -- the text has a tree, and the nodes have these spans in it
  pub tree : HasTree f (chars text)
  pub here : List Span
  pub spans : AreSpansOf f (chars text) here
  pub is : w ≡ respelled text pattern (all_kept t) here qs 0
  -- w is read as the tree of the pattern
  pub utf8 : IsUtf8 w
  pub reads : IsReadAs f (chars w) t m
  -- with the spellings of w the text is w again
  pub own : HasOwnSpelling f text (all_kept t) here w

-- w is the text with the spellings of the pattern, if there is such a one, and otherwise the text
abbrev pub IsSpelledAs : Flags → List ℕ → Tree → GroupInfo → List Span → List ℕ → List ℕ → Type 0
IsSpelledAs f pattern t m qs text w =
    IsRespelled f pattern t m qs text w
    ⊎ ((w ≡ text) × ((u : List ℕ) → IsRespelled f pattern t m qs text u → ⊥))

-- the text in the spelling of w is w, whatever the positions in the tree of w
abbrev pub StaysSpelled : Flags → Tree → GroupInfo → List ℕ → List ℕ → Type 0
StaysSpelled f t m text w = (u : Tree) (rs : List Span) → unpositioned u ≡ unpositioned t → AreSpansOf f (chars w) rs →
    IsSpelledAs f w u m rs text w
