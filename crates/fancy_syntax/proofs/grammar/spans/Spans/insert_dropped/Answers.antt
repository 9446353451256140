use Rattle.std.proofs.Common.{◌≡◌, ◌==◌, false, ap, arith, length}
use Rattle.std.proofs.lemmas.Bool.Decides.{nat_tests}
use Rattle.fancy_syntax.specs.LogViews.{log_of}
use Rattle.fancy_syntax.proofs.PassedLemmas.{inserted_recorded}
use Rattle.fancy_syntax.proofs.grammar.spans.Spans.insert_dropped.Goals as goal

pub returns : goal.returns
returns c =
    let passed = c.args.self.now.passed in
    let differ : (c.args.start == c.args.end) ≡ false = grind (arith, nat_tests) in
    let many : passed.len ≡ length passed.items = omega (arith, passed.ok) in
    ap (λ p. record (log_of c.args.self.now) { passed = p })
    (inserted_recorded c.args.height c.args.start c.args.end passed.len passed.items _ c.dropped.result differ
    c.dropped.ensures (rw (c.min-height.ensures, c.len.ensures) at c.in_ok-insert.ensures.items) many)
