use Rattle.std.proofs.Common.{sym, subst}
use Rattle.std.specs.List.{AllByRecursion}
use Rattle.fancy_syntax.specs.Spanned.{spanned_of_tree}
use Rattle.backtracking.proofs.SearchLemmas.{view_any}
use Rattle.backtracking.specs.SlowSearches.{IsBranchOf, whole, IsSlowSearchIn}
use Rattle.backtracking.proofs.searches.slow_searches.Goals as goal

pub returns : goal.returns
returns c =
    let pattern = spanned_of_tree c.args.parsed.now in
    record {
      witnessed = c.in_ok-look.ensures pattern (subst (λ p. IsBranchOf pattern p) (sym c.root.ensures) whole) view_any
          (subst (AllByRecursion (IsSlowSearchIn c.args.classes.now.unicode pattern)) (sym c.new-found.ensures.items) tt);
    }
