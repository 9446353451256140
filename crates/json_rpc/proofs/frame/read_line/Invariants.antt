use Rattle.std.specs.Io.KnownBytes.{Consumes}
use Rattle.json_rpc.specs.Header.{IsLine}
use Rattle.json_rpc.proofs.frame.read_line.Given as goal

abbrev pub invariant-loop : goal.invariant-loop
invariant-loop g l = record {
  line : IsLine l.line.items;
  bytes : Consumes (g.R.Read.remaining l.initial.reader) (g.R.Read.remaining l.reader) l.line.items;
}
