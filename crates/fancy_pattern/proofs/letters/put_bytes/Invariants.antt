use Rattle.std.proofs.Common.{drop}
use Rattle.std.specs.List.{flat_map}
use Rattle.fancy_lex.specs.Class.{byte_text}
use Rattle.fancy_pattern.proofs.OutputLemmas.{Adding}
use Rattle.fancy_pattern.proofs.letters.put_bytes.Given as goal

abbrev pub invariant-loop-byte : goal.invariant-loop-byte
invariant-loop-byte l = Adding l.initial.out l.out (flat_map byte_text (drop l.byte-index l.bytes))
    (flat_map byte_text l.bytes)
