-- What is said of a pattern and of the text that it prints as.
use Rattle.std.specs.Prelude.{◌≡◌, ℕ, List, false, chars, encode_utf8_all}
use Rattle.fancy_lex.specs.Text.{Text}
use Rattle.fancy_lex.specs.declared.flags.Flags.{Flags}
use Rattle.fancy_syntax.specs.InfoViews.{IsTreeOf}
use Rattle.fancy_syntax.specs.GroupInfo.{GroupInfo}
use Rattle.fancy_syntax.specs.Printable.{printable}
use Rattle.fancy_syntax.specs.Printed.{printed}
use Rattle.fancy_syntax.specs.ReadBack.{IsReadBack}
use Rattle.fancy_syntax.specs.Tree.{Tree}
use Rattle.fancy_syntax.specs.declared.print.TheConstants.{WHOLE}

-- the bytes are the text of the pattern's tree; it parses back as the normal form, or fails only for its depth
abbrev pub IsFormOf : Flags → Text → List ℕ → Type 0
IsFormOf f pattern w = (t : Tree) × (m : GroupInfo) × IsTreeOf f pattern t m × (w ≡ encode_utf8_all (printed t WHOLE))
    × IsReadBack t WHOLE (chars w)

-- the pattern has a tree that is not printable
abbrev pub HasNoForm : Flags → Text → Type 0
HasNoForm f pattern = (t : Tree) × (m : GroupInfo) × IsTreeOf f pattern t m × (printable t ≡ false)

-- the text has a tree with the group information that the pattern's tree has
abbrev pub HasInfoOf : Flags → Text → Text → Type 0
HasInfoOf f pattern text = (t : Tree) × (u : Tree) × (m : GroupInfo) × IsTreeOf f pattern t m × IsTreeOf f text u m
