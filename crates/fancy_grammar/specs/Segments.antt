-- Every byte of a pattern: it is in a part that no node has, in a leaf, in own text of a node, or is whitespace that is
-- ignored.
use Rattle.std.specs.Prelude.{◌≡◌, ℕ, false, true, ◌&&◌, if◌then◌else◌, List, [], ◌∷◌, ◌++◌, Some, codes}
use Rattle.std.specs.List.{AllByRecursion}
use Prim.Native.Char.{code}
use Rattle.fancy_lex.specs.Layout.{is_blank}
use Rattle.fancy_lex.specs.Text.{Text, bytes, position_at, reach_of}
use Rattle.fancy_lex.specs.declared.flags.Flags.{Flags}
use Rattle.fancy_grammar.specs.AtomStart.{AtomStart, atom_start, read, of_kind, condition, body, absent_branch}
use Rattle.fancy_grammar.specs.Join.{is_empty}
use Rattle.fancy_grammar.specs.Spans.{condition_text}
use Rattle.fancy_grammar.specs.State.{State, done}
use Rattle.fancy_grammar.specs.Tree.{Tree}
use Rattle.fancy_grammar.specs.Trivia.{IsCounts, IsOperators, Trivium, is_inner}

-- a text that belongs to no atom: a bar, a closing parenthesis, or whitespace that the flags ignore
pub data IsSeparator (w : Text) : Type 0 where
  a_bar : w ≡ codes "|" → IsSeparator w
  a_closing : w ≡ codes ")" → IsSeparator w
  whitespace : (f : Flags) → AllByRecursion (λ c. (f.ignore_space && is_blank c) ≡ true) w → IsSeparator w

-- the atom that begins at s holds others, and what it holds begins at v
abbrev pub OpensAt : State → AtomStart → Text → Type 0
OpensAt s (of_kind h t) v = t.rest ≡ v
OpensAt s (condition t) v = t.rest ≡ v
OpensAt s (absent_branch t) v = t.rest ≡ v
OpensAt s (body c t) v = condition_text s ≡ Some v
OpensAt s _ v = ⊥

-- the text w, which v follows, is a leaf, own text of a node, or whitespace that is ignored
pub data IsSegment (w v : Text) : Type 0 where
  a_leaf : (d : ℕ) (s t : State) (r : Tree) → atom_start d s ≡ read (done r t) → is_empty r ≡ false → s.rest ≡ w ++ v →
      t.rest ≡ v → IsSegment w v
  -- a condition that is no alternation
  a_condition : (d : ℕ) (s t : State) (c : Tree) → atom_start d s ≡ body c t → condition_text s ≡ Some (w ++ v) →
      v ≡ code ")" ∷ t.rest → IsSegment w v
  -- the opening of a group, of a conditional or of an absent expression
  an_opening : (d : ℕ) (s : State) → OpensAt s (atom_start d s) v → s.rest ≡ w ++ v → IsSegment w v
  counts_of_node : IsCounts w v → IsSegment w v
  operators_of_node : IsOperators w → IsSegment w v
  a_separator : IsSeparator w → IsSegment w v

-- the text from t up to v is such segments, one after another
pub data AreSegments : Text → Text → Type 0 where
  no_segment : {t : Text} → AreSegments t t
  a_segment : {t u v : Text} (w : Text) → t ≡ w ++ u → IsSegment w u → AreSegments u v → AreSegments t v

-- the text from t on, in one of n bytes, is these parts, one after another, and segments before, between and after them
pub data Fills (n : ℕ) : Text → List Trivium → Type 0 where
  only_segments : {t : Text} → AreSegments t [] → Fills n t []
  a_part : {t u v : Text} {x : Trivium} {l : List Trivium} (w : Text) → AreSegments t u → u ≡ w ++ v →
      x.span ≡ record { start = position_at n (reach_of u); end = position_at n (reach_of v) } → Fills n v l →
      Fills n t (x ∷ l)

-- those that are no comments inside tokens
abbrev pub outer : List Trivium → List Trivium
outer [] = []
outer (x ∷ l) = if is_inner x.kind then outer l else x ∷ outer l

-- every byte of the text is in a part of the list, or in a segment
abbrev pub HasEveryByte : Text → List Trivium → Type 0
HasEveryByte text l = Fills (bytes text) text (outer l)
