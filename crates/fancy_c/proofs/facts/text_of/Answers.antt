use Rattle.std.proofs.Common.{string_bytes}
use Rattle.fancy_c.proofs.FactLemmas.{character_put}
use Rattle.fancy_c.proofs.facts.text_of.Goals as goal

pub loop-c-preserved : goal.loop-c-preserved
loop-c-preserved c =
    character_put (string_bytes c.loop-c.text) (string_bytes c.push.new.self) c.args.characters.now c.loop-c.c-index
    c.c-item.result c.loop-c.invariant c.loop-c-test.true c.c-item.is c.in_ok-push.ensures.bytes
