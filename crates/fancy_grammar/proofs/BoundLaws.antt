-- The size of a tree is bounded by that of its text: this holds for the raw tree, and resolving adds neither a node nor
-- a level.
use Rattle.std.proofs.Common.{ℕ, List, ap, arith, length, chars}
use Rattle.std.specs.Str.{IsUtf8}
use Rattle.fancy_lex.proofs.TextLemmas.{bytes_chars}
use Rattle.fancy_lex.specs.Text.{bytes}
use Rattle.fancy_lex.specs.declared.flags.Flags.{Flags}
use Rattle.fancy_grammar.specs.Ranks.{only_named}
use Rattle.fancy_grammar.specs.Items.{openings, numbers_in}
use Rattle.fancy_grammar.specs.Tree.{Tree, levels, nodes}
use Rattle.fancy_grammar.specs.ParseResult.{IsTreeOf}
use Rattle.fancy_grammar.specs.ParsedTree.{IsSmall}
use Rattle.fancy_grammar.specs.GroupInfo.{GroupInfo}
use Rattle.fancy_grammar.proofs.LevelLaws.{resolved_size, resolved_levels}
use Rattle.fancy_grammar.proofs.ReadLaws.{whole_read}

-- the size of a parsed tree is bounded by that of its text
pub bounded : {f : Flags} {re : List ℕ} {t : Tree} {m : GroupInfo} → IsUtf8 re → IsTreeOf f (chars re) t m →
    IsSmall t (length re)
bounded {f} {re} {t} u (r, a, none, e, d) =
    let small = (whole_read a.1).size (omega arith) in let named = only_named f (openings r) in
    let numbers_of = numbers_in f r in (
      omega (arith, ap nodes e, resolved_size (bytes (chars re)) named numbers_of 0 r, small.0, bytes_chars re u),
      omega (arith, ap levels e, resolved_levels (bytes (chars re)) named numbers_of 0 r, small.1),
    )
