use Rattle.std.proofs.Common.{IfSome, subst, ◌∙◌}
use Rattle.fancy_syntax.specs.View.{view, views}
use Rattle.backtracking.specs.ManySplits.{HasManySplits}
use Rattle.backtracking.specs.SlowSearches.{any_character}
use Rattle.backtracking.specs.ThreeWays.{AreThreeWays}
use Rattle.backtracking.proofs.searches.look_at_repeat.Goals as goal

pub returns : goal.returns
returns c is_any =
    let unicode = c.args.searching.options.unicode in
    let cut = c.in-Some.cut in
    let w = c.in-Some-2.witness in
    let word = w.word.items in
    let x = view cut.first.now in
    let ts = views cut.between.now in
    let y = view cut.last.now in
    let first = c.in-Some.ensures.any ∙ is_any in
    let three : AreThreeWays unicode x ts y word w.first.items w.across.items w.last.items =
    subst (λ o. IfSome o (λ v. AreThreeWays unicode x ts y v.word.items v.first.items v.across.items v.last.items)) c.in-Some-2.is
    c.in_ok-witness.ensures.three in
    let many : HasManySplits unicode x ts y word w.first.items w.across.items w.last.items =
    subst (λ o. IfSome o (λ v. HasManySplits unicode x ts y v.word.items v.first.items v.across.items v.last.items)) c.in-Some-2.is
    c.in_ok-witness.ensures.many in
    record {
      i = c.args.index;
      part = y;
      is_repeat = c.in-Some.ensures.last;
      span = c.in-Some-span_across.ensures;
      three = subst (λ us. AreThreeWays unicode any_character us y word w.first.items w.across.items w.last.items)
          c.in-Some.ensures.between
          (subst (λ v. AreThreeWays unicode v ts y word w.first.items w.across.items w.last.items) first three);
      many = subst (λ us. HasManySplits unicode any_character us y word w.first.items w.across.items w.last.items)
          c.in-Some.ensures.between
          (subst (λ v. HasManySplits unicode v ts y word w.first.items w.across.items w.last.items) first many);
    }
