-- Trees whose texts always read back.
use Rattle.std.specs.Prelude.{◌<◌, ◌^◌}
use Rattle.fancy_lex.specs.Text.{Text, bytes}
use Rattle.fancy_lex.specs.declared.flags.Flags.{Flags}
use Rattle.fancy_grammar.specs.ParseResult.{IsTreeOf}
use Rattle.fancy_grammar.specs.GroupInfo.{GroupInfo}
use Rattle.fancy_grammar.specs.Tree.{Tree}

-- some pattern of fewer than 2 ^ 63 bytes is parsed as this tree, with this group information
abbrev pub IsOfPattern : Flags → Tree → GroupInfo → Type 0
IsOfPattern f t m = (text : Text) × IsTreeOf f text t m × (bytes text < 2 ^ 63)
