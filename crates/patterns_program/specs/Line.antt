-- The line that a pattern is written as.
use Rattle.std.specs.Prelude.{◌≡◌, ◌≢◌, ◌==◌, ◌⊎◌, ℕ, Bool, true, false, List, [], ◌∷◌, chars}
use Rattle.std.specs.Prelude.{IsUtf8}
use Rattle.std.specs.List.{list_any}
use Prim.Native.Char.{code}
use Rattle.fancy_lex.specs.declared.flags.Flags.{Flags}
use Rattle.fancy_grammar.specs.Pattern.{pattern_text}
use Rattle.fancy_grammar.specs.ReadAs.{IsReadAs}
use Rattle.fancy_grammar.specs.Spans.{Span, AreSpansOf}
use Rattle.fancy_syntax.specs.InfoViews.{IsTreeOf}
use Rattle.fancy_syntax.specs.GroupInfo.{GroupInfo}
use Rattle.fancy_syntax.specs.Tree.{Tree}
use Rattle.pattern_files.specs.Line.{breaks_line}
use Rattle.pattern_format.specs.Spelled.{IsSpelledAs}
use Rattle.patterns_program.specs.declared.canonical.Comments.{Comments}
use Rattle.patterns_program.specs.declared.canonical.Comments.TheVariants as kept

-- comments are to be kept, and the pattern may have one: it holds a `#`
abbrev pub MayKeep : Comments → List ℕ → Type 0
MayKeep comments pattern = (comments ≡ kept.Keep) × (list_any (λ b. b == code "#") pattern ≡ true)

-- w is the canonical text of the pattern, whose tree is t and whose nodes have the spans qs: the text of the tree, in the
-- spelling of the pattern
abbrev pub IsCanonical : Flags → List ℕ → Tree → GroupInfo → List Span → List ℕ → Type 0
IsCanonical f pattern t m qs w =
    (text : List ℕ) × IsUtf8 text × (chars text ≡ pattern_text f t m) × IsSpelledAs f pattern t m qs text w

-- the bytes are the canonical text, for the line of the pattern: under the flags it is read as the tree with its group
-- information, it is its own canonical text, and it fits in a line
pub record IsLineOf (f : Flags) (pattern : List ℕ) (t : Tree) (m : GroupInfo) (qs : List Span) (w : List ℕ) : Type 0 where
  pub utf8 : IsUtf8 w
  pub is : IsCanonical f pattern t m qs w
  pub reads : IsReadAs f (chars w) t m
  pub again : (rs : List Span) → AreSpansOf f (chars w) rs → IsCanonical f w t m rs w
  pub unbroken : breaks_line w pattern ≡ false

-- the canonical text would break the line of the pattern
abbrev pub HasNoLine : Flags → List ℕ → Tree → GroupInfo → List Span → Type 0
HasNoLine f pattern t m qs = (w : List ℕ) × IsCanonical f pattern t m qs w × (breaks_line w pattern ≡ true)

-- the pattern is its canonical text, or has no such line: it is written as it is
abbrev pub Stays : Flags → List ℕ → Type 0
Stays f pattern =
    (t : Tree) × (m : GroupInfo) × (qs : List Span) × IsTreeOf f (chars pattern) t m × AreSpansOf f (chars pattern) qs
    × (IsLineOf f pattern t m qs pattern ⊎ HasNoLine f pattern t m qs)

-- the bytes are the canonical text of the pattern, and not the pattern
abbrev pub Changes : Flags → List ℕ → List ℕ → Type 0
Changes f pattern w =
    (t : Tree) × (m : GroupInfo) × (qs : List Span) × IsTreeOf f (chars pattern) t m × AreSpansOf f (chars pattern) qs
    × IsLineOf f pattern t m qs w × (w ≢ pattern)
