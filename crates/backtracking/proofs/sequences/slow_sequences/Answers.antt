use Rattle.std.proofs.Common.{sym, subst}
use Rattle.std.specs.List.{AllByRecursion}
use Rattle.fancy_syntax.specs.Spanned.{spanned_of_tree, IsNodeOf, root}
use Rattle.backtracking.specs.SlowSequences.{IsSlowSequenceIn}
use Rattle.backtracking.proofs.sequences.slow_sequences.Goals as goal

pub returns : goal.returns
returns c =
    let tree = spanned_of_tree c.args.parsed.now in
    record {
      witnessed = c.in_ok-look.ensures tree (subst (λ p. IsNodeOf p tree) (sym c.root.ensures) root)
          (subst (AllByRecursion (IsSlowSequenceIn c.args.classes.now.unicode tree)) (sym c.new-found.ensures.items) tt);
    }
