use Rattle.std.proofs.Common.{subst, string_bytes}
use Rattle.fancy_lex.specs.Flags.{flags_of}
use Rattle.patterns_program.specs.Fixes.{IsFixedOnce, IsFixedRepeatedly, unchanged, further}
use Rattle.patterns_program.proofs.lint.fixed_further.Goals as goal

pub loop-init : goal.loop-init
loop-init c = unchanged

pub loop-preserved : goal.loop-preserved
loop-preserved c = further c.loop.invariant
    (subst (λ pattern. IsFixedOnce (flags_of c.args.subject.flags) pattern (string_bytes c.in-Some.next))
    c.as_str-pattern.ensures.value (rw c.in-Some.is at c.in_ok-next.ensures))
