use Rattle.std.proofs.Common.{arith}
use Rattle.std.proofs.lemmas.List.{drop_all}
use Rattle.fancy_lex.specs.Class.{byte_text}
use Rattle.fancy_pattern.proofs.OutputLemmas.{adding_starts, adding_later, adding_ends, mapped_at, mapped_end}
use Rattle.fancy_pattern.proofs.letters.put_bytes.Goals as goal

pub loop-byte-init : goal.loop-byte-init
loop-byte-init c = adding_starts c.args.out.now _

pub loop-byte-preserved : goal.loop-byte-preserved
loop-byte-preserved c =
    adding_later _ _ _ _ _ _ _
    (mapped_at byte_text c.args.bytes.now c.loop-byte.byte-index (omega arith))
    c.loop-byte.invariant c.in_ok-put_byte.ensures

pub returns : goal.returns
returns c =
    adding_ends _ _ _ _
    (mapped_end byte_text _ (drop_all c.loop-byte.byte-index c.args.bytes.now (omega arith))) c.loop-byte.invariant
