use Rattle.std.proofs.Common.{rules, ◌≡◌, Some}
use Rattle.json_rpc.proofs.LineLemmas.{line_grown, line_ended}
use Rattle.json_rpc.proofs.frame.read_line.Goals as goal

pub returns-then-eq : goal.returns-then-eq
returns-then-eq g c _ =
    let next = rw c.in-Some.is at c.in_ok-byte.ensures in
    let popped : c.pop.result ≡ Some 13 = search rules in
    let whole = rw popped at c.pop.ensures.items in
    line_ended _ _ _ _ _ c.loop.invariant.line c.loop.invariant.bytes next _ c.if-byte-eq10.true whole

pub loop-preserved : goal.loop-preserved
loop-preserved g c =
    let next = rw c.in-Some.is at c.in_ok-byte.ensures in
    let both = line_grown _ _ _ _ _ c.loop.invariant.line c.loop.invariant.bytes next _ c.if-byte-eq10.false
    c.in_ok-extend_from_slice.ensures.items in
    record {
      line = both.0;
      bytes = both.1;
    }
