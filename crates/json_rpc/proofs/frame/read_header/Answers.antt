use Rattle.std.proofs.Common.{rules}
use Rattle.json_rpc.specs.Header.{IsLineRead}
use Rattle.json_rpc.proofs.FieldLemmas.{after_field, no_other, at_end}
use Rattle.json_rpc.proofs.frame.read_header.Goals.{in-Length, in-Other}
use Rattle.json_rpc.proofs.frame.read_header.Goals as goal

pub loop-number-preserved : goal.loop-number-preserved
loop-number-preserved g c m rest small e =
    let read : IsLineRead (g.R.Read.remaining c.loop-number.reader) (g.R.Read.remaining c.read_line.new.reader) c.deref.result.now =
    rw c.deref.ensures.value (search rules) in
    let before = c.loop-number.invariant m rest small e in
    elim c.match-header_line.branch [
      | in-Length w ↦ rw w.length-is (after_field _ _ _ rest m small _ _ read c.header_line.ensures.end c.header_line.ensures.length _ w.in-Length.is before)
      | in-Other w ↦ absurd (no_other _ _ _ rest m small _ _ read c.header_line.ensures.end c.header_line.ensures.length w.in-Other.is before)
    ]

pub returns-in-End : goal.returns-in-End
returns-in-End g c m rest small e =
    let read : IsLineRead (g.R.Read.remaining c.loop-number.reader) (g.R.Read.remaining c.read_line.new.reader) c.deref.result.now =
    rw c.deref.ensures.value (search rules) in
    let both = at_end _ _ _ rest m small _ _ read c.header_line.ensures.end c.header_line.ensures.length c.in-End.is
    (c.loop-number.invariant m rest small e) in
    (cc (both.0, c.in-Some.is), both.1)
