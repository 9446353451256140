use Rattle.std.proofs.Common.{◌≡◌, ◌<◌, ◌∙◌, true, ap, sym, subst, arith, map}
use Rattle.fancy_syntax.specs.Spanned.{remaining_spanned, spanned_of}
use Rattle.fancy_syntax.specs.Tree.{levels}
use Rattle.fancy_syntax.specs.View.{view, views}
use Rattle.fancy_syntax.proofs.Descents.{within_start, within_first, within_next, levels_of_child}
use Rattle.fancy_syntax.proofs.NodeLemmas.{remain_start, remain_first, remain_next}
use Rattle.backtracking.proofs.SequenceLemmas.{concat_of}
use Rattle.backtracking.specs.SlowSearches.{has_branches, below}
use Rattle.backtracking.proofs.searches.+look.Goals as goal

pub returns-in-Concat : goal.returns-in-Concat
returns-in-Concat t c pattern is_branch is_any all = c.in_ok-add_slow.ensures pattern is_branch
    (concat_of (spanned_of c.args.node).expr c.deref.result.now c.in-Concat.trees (sym c.expr.ensures ∙ c.in-Concat.is)
    c.deref.ensures.value) is_any all

pub loop-child-init : goal.loop-child-init
loop-child-init t c = record {
  within = within_start (spanned_of c.args.node).expr _
      (ap (λ i. map (λ p. p.expr) (remaining_spanned i)) c.into_iter-child-iterator.ensures.into_iter_gives
      ∙ c.children-child-items.ensures.exprs);
  left = remain_start (spanned_of c.args.node) _
      (ap remaining_spanned c.into_iter-child-iterator.ensures.into_iter_gives ∙ c.children-child-items.ensures.values);
  added = λ pattern k is all. all;
}

pub look-requires : goal.look-requires
look-requires t c =
    let e = (spanned_of c.args.node).expr in
    let child = (spanned_of c.in-Some.child).expr in
    let among = within_first e child _ _ c.loop-child.invariant.within (ap (map (λ p. p.expr)) c.in-Some.ensures.steps) in
    let less : levels (view child) < levels (view e) =
    levels_of_child e child
    (ap views (sym c.children-child-items.ensures.exprs) ∙ c.children-child-items.ensures.trees) among in
    (omega (arith, less), tt)

pub loop-child-preserved : goal.loop-child-preserved
loop-child-preserved t c =
    let node = spanned_of c.args.node in
    let child = spanned_of c.in-Some.child in
    record {
      within = within_next node.expr child.expr _ _ c.loop-child.invariant.within (ap (map (λ p. p.expr)) c.in-Some.ensures.steps);
      left = remain_next node child _ _ c.loop-child.invariant.left c.in-Some.ensures.steps;
      added = λ pattern k is all. c.in_ok-look.ensures pattern
          (below k (subst (λ e. has_branches (view e) ≡ true) c.expr-2.ensures (c.is_around_branches.ensures c.if-not-is_around_branches.false))
          (remain_first node child _ _ c.loop-child.invariant.left c.in-Some.ensures.steps))
          is (c.loop-child.invariant.added pattern k is all);
    }
