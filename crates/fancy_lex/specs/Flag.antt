-- One flag: its letter, and whether it is set.
use Rattle.std.specs.Prelude.{ℕ, Bool}
use Prim.Native.Char.{code}
use Rattle.fancy_lex.specs.declared.flags.Flag.{Flag}
use Rattle.fancy_lex.specs.declared.flags.Flag.TheVariants.{Casei, Multi, Dotnl, SwapGreed, IgnoreSpace, Unicode, Crlf}
use Rattle.fancy_lex.specs.declared.flags.Flag.TheVariants.{OnigurumaMode, IgnoreNumberedGroups}
use Rattle.fancy_lex.specs.declared.flags.Flags.{Flags}

-- the flag's letter
abbrev pub letter : Flag → ℕ
letter Casei = code "i"
letter Multi = code "m"
letter Dotnl = code "s"
letter SwapGreed = code "U"
letter IgnoreSpace = code "x"
letter Unicode = code "u"
letter Crlf = code "R"
letter OnigurumaMode = code "o"
letter IgnoreNumberedGroups = code "n"

-- whether the flag is set
abbrev pub is_set : Flags → Flag → Bool
is_set f Casei = f.casei
is_set f Multi = f.multi
is_set f Dotnl = f.dotnl
is_set f SwapGreed = f.swap_greed
is_set f IgnoreSpace = f.ignore_space
is_set f Unicode = f.unicode
is_set f Crlf = f.crlf
is_set f OnigurumaMode = f.oniguruma_mode
is_set f IgnoreNumberedGroups = f.ignore_numbered_groups

-- the flags with this one set or cleared
abbrev pub with_flag : Flags → Flag → Bool → Flags
with_flag f Casei on = record f { casei = on }
with_flag f Multi on = record f { multi = on }
with_flag f Dotnl on = record f { dotnl = on }
with_flag f SwapGreed on = record f { swap_greed = on }
with_flag f IgnoreSpace on = record f { ignore_space = on }
with_flag f Unicode on = record f { unicode = on }
with_flag f Crlf on = record f { crlf = on }
with_flag f OnigurumaMode on = record f { oniguruma_mode = on }
with_flag f IgnoreNumberedGroups on = record f { ignore_numbered_groups = on }
