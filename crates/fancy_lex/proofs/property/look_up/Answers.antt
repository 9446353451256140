use Rattle.std.proofs.Common.{rules}
use Rattle.std.specs.Str.{chars}
use Rattle.fancy_lex.proofs.property.look_up.Goals as goal

pub is_word-requires : goal.is_word-requires
unfolding chars
is_word-requires c = search rules

pub is_word-requires-else-is_word : goal.is_word-requires-else-is_word
unfolding chars
is_word-requires-else-is_word c = search rules

pub is_word-requires-else-is_word-2 : goal.is_word-requires-else-is_word-2
unfolding chars
is_word-requires-else-is_word-2 c = search rules

pub is_word-requires-else-is_word-3 : goal.is_word-requires-else-is_word-3
unfolding chars
is_word-requires-else-is_word-3 c = search rules

pub is_word-requires-else-is_word-4 : goal.is_word-requires-else-is_word-4
unfolding chars
is_word-requires-else-is_word-4 c = search rules

pub is_word-requires-else-is_word-5 : goal.is_word-requires-else-is_word-5
unfolding chars
is_word-requires-else-is_word-5 c = search rules

pub is_word-requires-else-is_word-6 : goal.is_word-requires-else-is_word-6
unfolding chars
is_word-requires-else-is_word-6 c = search rules

pub returns-then-is_word : goal.returns-then-is_word
unfolding chars
returns-then-is_word c = search rules

pub returns-then-is_word-2 : goal.returns-then-is_word-2
unfolding chars
returns-then-is_word-2 c = search rules

pub returns-then-is_word-3 : goal.returns-then-is_word-3
unfolding chars
returns-then-is_word-3 c = search rules

pub returns-then-is_word-4 : goal.returns-then-is_word-4
unfolding chars
returns-then-is_word-4 c = search rules

pub returns-then-is_word-5 : goal.returns-then-is_word-5
unfolding chars
returns-then-is_word-5 c = search rules

pub returns-then-is_word-6 : goal.returns-then-is_word-6
unfolding chars
returns-then-is_word-6 c = search rules

pub returns-then-is_word-7 : goal.returns-then-is_word-7
unfolding chars
returns-then-is_word-7 c = search rules

pub returns-else-is_word-7 : goal.returns-else-is_word-7
unfolding chars
returns-else-is_word-7 c = search rules
