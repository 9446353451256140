-- The groups of a pattern.
use Rattle.std.specs.Prelude.{◌≡◌, ℕ}
use Rattle.fancy_lex.specs.Text.{Text}
use Rattle.fancy_lex.specs.declared.flags.Flags.{Flags}
use Rattle.fancy_syntax.specs.GroupInfo.{GroupInfo}
use Rattle.fancy_syntax.specs.InfoViews.{IsTreeOf}
use Rattle.fancy_syntax.specs.Tree.{Tree}

-- the pattern has a tree under the flags, with so many numbered groups
abbrev pub HasGroups : Flags → Text → ℕ → Type 0
HasGroups f pattern count = (t : Tree) × (m : GroupInfo) × IsTreeOf f pattern t m × (m.total_groups ≡ count)
