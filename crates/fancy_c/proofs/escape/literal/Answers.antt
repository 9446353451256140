use Rattle.fancy_c.proofs.EscapeLemmas.{literal_made}
use Rattle.fancy_c.proofs.escape.literal.Goals as goal

pub returns : goal.returns
returns c =
    literal_made c.args.flags c.args.c c.new-val.result c.push.new.out c.is_caseless.result c.new-val.ensures.bytes
    c.in_ok-push.ensures c.is_caseless.ensures
