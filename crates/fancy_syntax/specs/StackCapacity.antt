-- The capacity of the parser's stack, in groups, from the start of a call.
use Rattle.std.specs.Prelude.{ℕ, ◌+◌, ◌≤◌, ◌==◌, nat_le, if◌then◌else◌, [], ◌∷◌, vec_capacity}
use Prim.Native.Char.{code}
use Rattle.fancy_lex.specs.Text.{Text}
use Rattle.fancy_grammar.specs.Depth.{most_open}
use Rattle.fancy_grammar.specs.State.{State}
use Rattle.fancy_syntax.specs.Log.{Log}
use Rattle.fancy_syntax.specs.Machine.{HasRead}
use Rattle.fancy_syntax.specs.declared.grammar.parser.Parser.{Parser}

-- how many opening parentheses a text has, whatever their role is
abbrev pub open_parens : Text → ℕ
open_parens [] = 0
open_parens (c ∷ t) = if c == code "(" then open_parens t + 1 else open_parens t

-- the largest number of groups that a text may have open at once
abbrev pub groups_at_once : Text → ℕ
groups_at_once t = if nat_le most_open (open_parens t) then most_open else open_parens t

-- the stack has capacity for all groups of the text that can be open at once
abbrev pub HasStackCapacity : Parser → Text → Type 0
HasStackCapacity r text = groups_at_once text ≤ vec_capacity r.stack

-- what has been read belongs to some text, and the stack has capacity for its groups
abbrev pub IsReserved : Parser → Type 0
IsReserved r = (start : State) × (none : Log) × (l : Log) × HasRead start none r l × HasStackCapacity r start.rest
