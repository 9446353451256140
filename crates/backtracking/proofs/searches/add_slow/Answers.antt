use Rattle.std.proofs.Common.{IfSome, sym, ◌∙◌, subst}
use Rattle.std.specs.List.{AllByRecursion}
use Rattle.fancy_syntax.specs.Spanned.{spanned_of}
use Rattle.fancy_syntax.specs.View.{views}
use Rattle.backtracking.proofs.SearchLemmas.{slow_in, one_more}
use Rattle.backtracking.specs.SlowSearches.{IsSlowFrom, IsSlowSearchIn}
use Rattle.backtracking.proofs.searches.add_slow.Goals as goal

pub returns : goal.returns
returns c pattern is_branch is is_any all =
    let unicode = c.args.searching.options.unicode in
    let slow : IsSlowFrom unicode (views c.args.trees.now) c.deref.result.now c.in-Some.slow =
    subst (λ o. IfSome o (IsSlowFrom unicode (views c.args.trees.now) c.deref.result.now)) c.in-Some.is (c.in_ok-slow.ensures is_any) in
    subst (AllByRecursion (IsSlowSearchIn unicode pattern)) (sym c.in_ok-push.ensures.items)
    (one_more (IsSlowSearchIn unicode pattern) c.args.found.now.items c.in-Some.slow
    (slow_in unicode pattern (spanned_of c.args.node) (views c.args.trees.now) c.deref.result.now c.in-Some.slow is_branch is
    (c.deref.ensures.value ∙ c.in_ok-spans.ensures) slow) all)
