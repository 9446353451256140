use Rattle.std.proofs.Common.{arith}
use Rattle.std.proofs.lemmas.List.{nil_from_length}
use Rattle.fancy_c.proofs.RowLemmas.{put_nothing, put_first}
use Rattle.fancy_c.proofs.rows.put_text.Goals as goal

pub returns-in-empty-clause-put : goal.returns-in-empty-clause-put
returns-in-empty-clause-put c =
    put_nothing c.args.bytes.now c.args.text.now c.args.offset (nil_from_length c.args.text.now (omega arith))

pub returns-in-len1-clause-put : goal.returns-in-len1-clause-put
returns-in-len1-clause-put c =
    put_first c.args.bytes.now c.args.text.now c.args.offset _ (omega arith) (omega (arith, c.requires))
