use Rattle.std.proofs.Common.{ap}
use Rattle.fancy_grammar.specs.PatternNeeds.{inline_flags, with_needs}
use Rattle.fancy_pattern.proofs.SettledLemmas.{flags_set, flags_kept}
use Rattle.fancy_pattern.proofs.WritesLemmas.{on_then}
use Rattle.fancy_pattern.proofs.flags.settle.Goals as goal

pub returns-in-Some : goal.returns-in-Some
returns-in-Some c =
    let passed = c.in-Some.ensures in
    on_then _ _ _ c.put_inline_flags.ensures
    (λ done. flags_set _ _ _ c.next_listed.new.self _ c.in-Some.needs.now inline_flags (λ h. h)
    (λ k h n l is. (ap (with_needs h.flags) (passed.some k h n l is), passed.passes k h n l is)) done.0 done.1)

pub returns-in-None : goal.returns-in-None
returns-in-None c =
    let passed = c.in-None.ensures in
    flags_kept _ _ _ (λ k h n l is. (passed.passes k h n l is, passed.none k h n l is))
