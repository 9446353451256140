-- Patterns in which groups have another name.
use Rattle.std.specs.Prelude.{◌≡◌, ℕ, List, [], chars}
use Rattle.fancy_lex.specs.Flags.{flags_of}
use Rattle.fancy_lex.specs.Text.{Text}
use Rattle.fancy_grammar.specs.GroupInfo.{GroupInfo}
use Rattle.fancy_grammar.specs.Groups.{numbers_under}
use Rattle.fancy_syntax.specs.InfoViews.{IsTreeOf, info_of}
use Rattle.fancy_syntax.specs.View.{view}
use Rattle.patterns_server.specs.declared.query.ReadPattern.{ReadPattern}

-- the groups of the name have the new one afterwards, which no group had before
abbrev pub HaveNewName : GroupInfo → GroupInfo → Text → Text → Type 0
HaveNewName before after name new =
    (numbers_under after.named_groups new ≡ numbers_under before.named_groups name)
    × (numbers_under before.named_groups new ≡ [])

-- the bytes are parsed under the flags of the pattern as its tree, in which the groups of the name have the new one
abbrev pub IsRenamed : ReadPattern → List ℕ → List ℕ → List ℕ → Type 0
IsRenamed p name new text =
    (m : GroupInfo) × IsTreeOf (flags_of p.subject.flags) (chars text) (view p.parsed.now.tree.expr) m
    × HaveNewName (info_of p.parsed.now.tree) m (chars name) (chars new)
