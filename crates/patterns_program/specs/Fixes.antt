-- What a pattern becomes by fixes.
use Rattle.std.specs.Prelude.{ℕ, List, chars}
use Rattle.fancy_lex.specs.declared.flags.Flags.{Flags}
use Rattle.fancy_grammar.specs.GroupInfo.{GroupInfo}
use Rattle.fancy_grammar.specs.Tree.{Tree}
use Rattle.fancy_grammar.specs.Trivia.{Trivium, IsTriviaOf, comment_texts}
use Rattle.fancy_syntax.specs.InfoViews.{IsTreeOf}
use Rattle.pattern_fixes.specs.Fixed.{IsFixedText}

-- the bytes are the pattern with some reports fixed: they have its tree, with these fixed, its group information and its
-- comments
abbrev pub IsFixedOnce : Flags → List ℕ → List ℕ → Type 0
IsFixedOnce f pattern w =
    (t : Tree) × (m : GroupInfo) × (l : List Trivium) × IsTreeOf f (chars pattern) t m × IsTriviaOf f (chars pattern) l
    × IsFixedText f w t m (comment_texts pattern l)

-- the bytes are what fixes make of the pattern, each of what those before it leave
pub data IsFixedRepeatedly (f : Flags) (pattern : List ℕ) : List ℕ → Type 0 where
  unchanged : IsFixedRepeatedly f pattern pattern
  further : {v w : List ℕ} → IsFixedRepeatedly f pattern v → IsFixedOnce f v w → IsFixedRepeatedly f pattern w
