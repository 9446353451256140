use Rattle.std.proofs.Common.{sym, ◌∙◌, subst}
use Rattle.std.specs.List.{AllByRecursion}
use Rattle.fancy_grammar.proofs.OutcomeLemmas.{each_append}
use Rattle.fancy_syntax.specs.Spanned.{spanned_of}
use Rattle.fancy_syntax.specs.View.{views}
use Rattle.backtracking.proofs.SequenceLemmas.{pairs_in}
use Rattle.backtracking.specs.SlowSequences.{IsSlowSequenceIn}
use Rattle.backtracking.proofs.sequences.add_slow.Goals as goal

pub returns : goal.returns
returns c root inside is all =
    let unicode = c.args.options.unicode in
    subst (AllByRecursion (IsSlowSequenceIn unicode root)) (sym c.in_ok-add_pairs.ensures)
    (each_append (IsSlowSequenceIn unicode root) c.args.found.now.items c.in_ok-pairs.pairs.items all
    (pairs_in unicode root (spanned_of c.args.node) (views c.args.trees.now) c.deref.result.now c.in_ok-pairs.pairs.items inside is
    (c.deref.ensures.value ∙ c.in_ok-spans.ensures) c.in_ok-pairs.ensures))
