use Rattle.std.proofs.Common.{string_bytes}
use Rattle.fancy_lex.specs.Flags.{flags_of}
use Rattle.patterns_program.specs.Fixes.{IsFixedRepeatedly}
use Rattle.patterns_program.proofs.lint.fixed_further.Given as goal

-- the text is what fixes have made of the one that is given
abbrev pub invariant-loop : goal.invariant-loop
invariant-loop l = IsFixedRepeatedly (flags_of l.subject.flags) (string_bytes l.initial.text) (string_bytes l.text)
