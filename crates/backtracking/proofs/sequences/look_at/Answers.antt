use Rattle.std.proofs.Common.{sym, ◌∙◌}
use Rattle.fancy_syntax.specs.Spanned.{spanned_of}
use Rattle.backtracking.proofs.SequenceLemmas.{concat_of}
use Rattle.backtracking.proofs.sequences.look_at.Goals as goal

pub returns : goal.returns
returns c root inside all = c.in_ok-add_slow.ensures root inside
    (concat_of (spanned_of c.args.node).expr c.deref-2.result.now c.in-Concat.trees (sym c.expr.ensures ∙ c.in-Concat.is)
    c.deref-2.ensures.value) all
