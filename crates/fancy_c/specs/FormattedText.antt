-- The text of a formatted pattern, and the numbers of styles.
use Rattle.std.specs.Prelude.{◌≡◌, ◌≤◌, ℕ, List}
use Rattle.std.specs.Str.{IsUtf8}
use Rattle.fancy_lex.specs.declared.flags.Flags.{Flags}
use Rattle.fancy_grammar.specs.GroupInfo.{GroupInfo}
use Rattle.fancy_grammar.specs.Tree.{Tree}
use Rattle.pattern_format.specs.Formatted.{IsFormatted}
use Rattle.pattern_format.specs.declared.style.Style.{Style}
use Rattle.pattern_format.specs.declared.style.Style.TheVariants.{Kept, Verbose, Compact}
use Rattle.fancy_c.specs.CallResult.{IsTreeOfBytes}
use Rattle.fancy_c.specs.declared.format.TheConstants.{STYLE_KEPT, STYLE_VERBOSE, STYLE_COMPACT}

-- the number is that of a style
abbrev pub NamesStyle : ℕ → Type 0
NamesStyle n = n ≤ STYLE_COMPACT

-- the number and the width are those of the style
abbrev pub IsStyleOf : ℕ → ℕ → Style → Type 0
IsStyleOf n width Kept = n ≡ STYLE_KEPT
IsStyleOf n width (Verbose w) = (n ≡ STYLE_VERBOSE) × (w ≡ width)
IsStyleOf n width Compact = n ≡ STYLE_COMPACT

-- the bytes have a tree, and w is the UTF-8 of a text that reads back as it, with the comments of the pattern as the style
-- keeps them
pub record IsFormattedOfBytes (s : Style) (f : Flags) (bytes w : List ℕ) : Type 0 where
  pub tree : (t : Tree) × (m : GroupInfo) × IsTreeOfBytes f bytes t m
  pub utf8 : IsUtf8 w
  pub formatted : IsFormatted s f bytes w
