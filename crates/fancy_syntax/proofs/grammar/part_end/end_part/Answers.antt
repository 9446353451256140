use Rattle.std.proofs.lemmas.Result.{err_from_is_err_and}
use Rattle.fancy_syntax.specs.View.{view}
use Rattle.fancy_syntax.proofs.grammar.part_end.end_part.Goals as goal

pub returns-in_err-read_end-clause-value : goal.returns-in_err-read_end-clause-value
returns-in_err-read_end-clause-value g c =
    let e = err_from_is_err_and c.from_residual.result c.from_residual.ensures.1 in
    rw (e.1, e.2) (c.in_err-read_end.ensures.value (view c.args.tree.now))
