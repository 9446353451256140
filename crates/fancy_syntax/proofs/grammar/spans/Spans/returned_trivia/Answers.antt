use Rattle.std.proofs.Common.{chars}
use Rattle.fancy_lex.specs.Text.{bytes}
use Rattle.fancy_syntax.proofs.PassedLemmas.{kept_next}
use Rattle.fancy_syntax.proofs.grammar.spans.Spans.returned_trivia.Goals as goal

pub loop-passed-preserved : goal.loop-passed-preserved
loop-passed-preserved c =
    let items = c.deref-passed-items.ensures.value in
    kept_next (bytes (chars c.args.pattern.now)) c.args.named c.args.self.now.passed.items
    c.loop-passed.passed-index _ _ _
    (rw items at c.loop-passed-test.true) c.loop-passed.invariant (rw items at c.in_ok-push_kept.ensures)
