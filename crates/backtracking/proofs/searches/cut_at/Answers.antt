use Rattle.std.proofs.Common.{refl}
use Rattle.fancy_syntax.specs.View.{view}
use Rattle.backtracking.proofs.SearchLemmas.{trees_before}
use Rattle.backtracking.proofs.SequenceLemmas.{repeat_at}
use Rattle.backtracking.proofs.searches.cut_at.Goals as goal

pub returns : goal.returns
returns c =
    let es = c.args.trees.now in
    let tree = c.in_ok-get-2 in
    record {
      any = refl;
      between = trees_before es c.in_ok-get.field-0.now c.args.index c.in_ok-get.ensures.lookup.0.2;
      last = repeat_at es c.args.index tree.field-0.now (view c.in_ok-repeated_part.field-0.now) tree.ensures.lookup.3.0
          tree.ensures.lookup.1 c.in_ok-repeated_part.ensures;
    }
