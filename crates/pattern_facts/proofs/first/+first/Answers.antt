use Rattle.std.proofs.Common.{◌+◌, ◌≤◌, IfOk, ap, sym, subst, arith}
use Rattle.fancy_grammar.specs.Tree.{levels, levels_all, trees_of}
use Rattle.fancy_syntax.proofs.Descents.{levels_item}
use Rattle.fancy_syntax.proofs.PrintLemmas.{left, left_step, left_end}
use Rattle.fancy_syntax.specs.View.{view, views}
use Rattle.pattern_matches.specs.Defined.{AreDefined}
use Rattle.pattern_facts.specs.First.{IsBeginning, IsBegun}
use Rattle.pattern_facts.proofs.FirstLemmas.{begun_first, begun_all, full_list}
use Rattle.pattern_facts.proofs.first.+first.Goals as goal

pub beginning_of-returns-in_ok-below-in-Around : goal.beginning_of-returns-in_ok-below-in-Around
beginning_of-returns-in_ok-below-in-Around t c =
    subst (λ x. IfOk c.beginning_around.result (IsBeginning c.args.unicode x)) (sym c.in-Around.ensures.node)
    (c.beginning_around.ensures c.args.unicode (view c.in-Around.child.now) c.in_ok-below-in-Around.ensures)

pub beginning_of_list-loop-tree-init : goal.beginning_of_list-loop-tree-init
beginning_of_list-loop-tree-init t c =
    let more = c.in-Some.more.now in
    let is = (rw c.in-Some.is at c.split_first.ensures.cases).0 in
    record {
      begun = subst (λ xs. IsBegun c.args.unicode c.args.kind (trees_of (views xs)) (left more 0) c.in_ok-all.all)
          (sym is) (begun_first c.args.unicode c.args.kind (trees_of (views more)) (view c.in-Some.first.now)
          c.in_ok-all.all c.in_ok-all.ensures);
      defined = λ known. (subst (λ xs. AreDefined c.args.unicode (trees_of (views xs))) is (c.requires known)).1;
    }

pub beginning_of_list-beginning_of-requires : goal.beginning_of_list-beginning_of-requires
beginning_of_list-beginning_of-requires t c =
    let is = (rw c.in-Some.is at c.split_first.ensures.cases).0 in
    let same = ap (λ xs. levels_all (trees_of (views xs))) is in (
      omega (arith, same),
      λ known. (subst (λ xs. AreDefined c.args.unicode (trees_of (views xs))) is (c.requires known)).0,
    )

pub beginning_of_list-beginning_of-requires-in-loop-tree : goal.beginning_of_list-beginning_of-requires-in-loop-tree
beginning_of_list-beginning_of-requires-in-loop-tree t c =
    let is = (rw c.in-Some.is at c.split_first.ensures.cases).0 in
    let same = ap (λ xs. levels_all (trees_of (views xs))) is in
    let low : levels (view c.tree-item.result) ≤ levels_all (trees_of (views c.in-Some.more.now)) =
    levels_item c.in-Some.more.now c.loop-tree.tree-index c.tree-item.result c.loop-tree-test.true c.tree-item.is in
    let step = left_step c.in-Some.more.now c.loop-tree.tree-index c.tree-item.result c.loop-tree-test.true c.tree-item.is in (
      omega (arith, low, same),
      λ known. (subst (AreDefined c.args.unicode) step (c.loop-tree.invariant.defined known)).0,
    )

pub beginning_of_list-loop-tree-preserved : goal.beginning_of_list-loop-tree-preserved
beginning_of_list-loop-tree-preserved t c =
    let more = c.in-Some.more.now in
    let i = c.loop-tree.tree-index in
    let one = c.tree-item.result in
    let all = trees_of (views c.args.trees.now) in
    let step = left_step more i one c.loop-tree-test.true c.tree-item.is in
    record {
      begun = c.in_ok-all-2.ensures c.args.unicode all (left more (i + 1)) (view one)
          (subst (λ ts. IsBegun c.args.unicode c.args.kind all ts c.loop-tree.all) step c.loop-tree.invariant.begun)
          c.in_ok-next.ensures;
      defined = λ known. (subst (AreDefined c.args.unicode) step (c.loop-tree.invariant.defined known)).1;
    }

pub beginning_of_list-returns-then-is_full : goal.beginning_of_list-returns-then-is_full
beginning_of_list-returns-then-is_full t c =
    let all = trees_of (views c.args.trees.now) in
    full_list c.args.unicode c.args.kind all (left c.in-Some.more.now c.loop-tree.tree-index) c.loop-tree.all
    (c.is_full.ensures c.if-is_full.true) (c.loop-tree.invariant.defined c.if-is_known.true) c.loop-tree.invariant.begun

pub beginning_of_list-returns : goal.beginning_of_list-returns
beginning_of_list-returns t c =
    let all = trees_of (views c.args.trees.now) in
    begun_all c.args.unicode c.args.kind all c.loop-tree.all
    (subst (λ ts. IsBegun c.args.unicode c.args.kind all ts c.loop-tree.all)
    (left_end c.in-Some.more.now c.loop-tree.tree-index c.loop-tree-test.false) c.loop-tree.invariant.begun)
