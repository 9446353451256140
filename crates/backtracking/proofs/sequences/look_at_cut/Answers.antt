use Rattle.std.proofs.Common.{IfSome, sym, subst, arith}
use Rattle.fancy_syntax.specs.View.{view, views}
use Rattle.backtracking.proofs.ChainLemmas.{last_of_chain, ways_through}
use Rattle.backtracking.specs.Chain.{Chain, next, last_part}
use Rattle.backtracking.specs.ManySplits.{HasManySplits}
use Rattle.backtracking.specs.SlowSequences.{IsChain, more, IsCut, link_of}
use Rattle.backtracking.specs.ThreeWays.{AreThreeWays}
use Rattle.backtracking.proofs.sequences.look_at_cut.Goals as goal

pub returns : goal.returns
returns c all =
    let unicode = c.args.options.unicode in
    let trees = views c.args.row.trees.now in
    let w = c.in-Some-2.witness in
    let word = w.word.items in
    let cut = c.in-Some.cut in
    let x = view cut.first.now in
    let ts = views cut.between.now in
    let y = view cut.last.now in
    let to_first = c.chain_to.ensures unicode trees c.args.row.spans.now (view cut.first.now) c.in-Some.ensures.first all in
    let chain : Chain = to_first.0 in
    let earlier : IsChain unicode trees word chain c.args.first =
    subst (λ word. IsChain unicode trees word chain c.args.first) c.deref-2.ensures.value to_first.1 in
    let last = sym (last_of_chain unicode trees word chain c.args.first (view cut.first.now) earlier c.in-Some.ensures.first) in
    let is_cut : IsCut trees c.args.first c.args.last (last_part chain) ts y =
    subst (λ x. IsCut trees c.args.first c.args.last x ts y) last c.in-Some.ensures in
    let three : AreThreeWays unicode (last_part chain) ts y word w.first.items w.across.items w.last.items =
    subst (λ x. AreThreeWays unicode x ts y word w.first.items w.across.items w.last.items) last
    (subst (λ o. IfSome o (λ v. AreThreeWays unicode x ts y v.word.items v.first.items v.across.items v.last.items)) c.in-Some-2.is
    c.in_ok-witness.ensures.three) in
    record {
      i = c.args.first;
      earlier = chain;
      ts = ts;
      y = y;
      chain = earlier;
      cut = is_cut;
      span = c.in-Some-span_across.ensures;
      three = three;
      many = subst (λ x. HasManySplits unicode x ts y word w.first.items w.across.items w.last.items) last
          (subst (λ o. IfSome o (λ v. HasManySplits unicode x ts y v.word.items v.first.items v.across.items v.last.items))
          c.in-Some-2.is c.in_ok-witness.ensures.many);
      degree = let e = to_first.2 in let d = c.in-Some-checked_add.ensures.1 in omega (arith, e, d);
      through = ways_through unicode trees word (next chain (link_of ts y w)) c.args.last (more earlier is_cut three);
    }
