use Rattle.std.proofs.Common.{map, subst, sym}
use Rattle.fancy_lex.specs.Flags.{flags_of}
use Rattle.fancy_syntax.specs.TriviaViews.{trivium_of}
use Rattle.fancy_c.specs.TriviumRows.{AreTriviaOfBytes}
use Rattle.fancy_c.proofs.trivia.fancy_trivia_nonnull.Goals as goal

pub returns-in-Ok-clause-read : goal.returns-in-Ok-clause-read
returns-in-Ok-clause-read c =
    let found = subst (λ l. AreTriviaOfBytes (flags_of c.args.flags) c.args.pattern.now (map trivium_of l))
    (sym c.deref.ensures.value) c.in-Ok.ensures.trivia in
    λ is. (map trivium_of c.deref.result.now, found, c.write_rows.ensures.count, c.write_rows.ensures.read is)

pub returns-in-Ok-clause-short : goal.returns-in-Ok-clause-short
returns-in-Ok-clause-short c =
    let found = subst (λ l. AreTriviaOfBytes (flags_of c.args.flags) c.args.pattern.now (map trivium_of l))
    (sym c.deref.ensures.value) c.in-Ok.ensures.trivia in
    λ is. (map trivium_of c.deref.result.now, found, c.write_rows.ensures.count, c.write_rows.ensures.short is)
