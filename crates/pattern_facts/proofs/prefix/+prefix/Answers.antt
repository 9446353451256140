use Rattle.std.proofs.Common.{◌+◌, ◌≤◌, ap, sym, subst, arith}
use Rattle.fancy_grammar.specs.Tree.{levels, levels_all, row, trees_of}
use Rattle.fancy_syntax.proofs.Descents.{levels_item}
use Rattle.fancy_syntax.proofs.PrintLemmas.{left, left_step, left_end}
use Rattle.fancy_syntax.specs.View.{view, views}
use Rattle.pattern_matches.specs.Defined.{AreDefined}
use Rattle.pattern_facts.specs.Prefix.{HasPrefix, IsPrefix, IsPrefixed}
use Rattle.pattern_facts.specs.Lengths.{row_of}
use Rattle.pattern_facts.proofs.ListLemmas.{no_trees_in}
use Rattle.pattern_facts.proofs.PrefixLemmas.{no_trees_prefix, prefixed_all, prefixed_first, settled}
use Rattle.pattern_facts.proofs.prefix.+prefix.Goals.{prefix_of_list-in-Some-next_character+in_ok-all-2, prefix_of_list-in_default-next_character+in_ok-next+in_ok-all-3}
use Rattle.pattern_facts.proofs.prefix.+prefix.Goals as goal

pub prefix_of-returns-in_ok-below-in-Around : goal.prefix_of-returns-in_ok-below-in-Around
prefix_of-returns-in_ok-below-in-Around t c =
    subst (λ x. IsPrefix c.args.unicode x c.prefix_around.result) (sym c.in-Around.ensures.node)
    (c.prefix_around.ensures c.args.unicode (view c.in-Around.child.now) c.in_ok-below-in-Around.ensures)

pub prefix_of_list-loop-tree-init : goal.prefix_of_list-loop-tree-init
prefix_of_list-loop-tree-init t c =
    let more = c.in-Some.more.now in
    let is = (rw c.in-Some.is at c.split_first.ensures.cases).0 in
    record {
      prefixed = subst (λ xs. IsPrefixed c.args.unicode c.args.kind (trees_of (views xs)) (left more 0) c.in_ok-all.all)
          (sym is) (prefixed_first c.args.unicode c.args.kind (trees_of (views more)) (view c.in-Some.first.now)
          c.in_ok-all.all c.in_ok-all.ensures);
      defined = λ known. (subst (λ xs. AreDefined c.args.unicode (trees_of (views xs))) is (c.requires known)).1;
    }

pub prefix_of_list-prefix_of-requires : goal.prefix_of_list-prefix_of-requires
prefix_of_list-prefix_of-requires t c =
    let is = (rw c.in-Some.is at c.split_first.ensures.cases).0 in
    let same = ap (λ xs. levels_all (trees_of (views xs))) is in (
      omega (arith, same),
      λ known. (subst (λ xs. AreDefined c.args.unicode (trees_of (views xs))) is (c.requires known)).0,
    )

pub prefix_of_list-prefix_of-requires-in_default-next_character : goal.prefix_of_list-prefix_of-requires-in_default-next_character
prefix_of_list-prefix_of-requires-in_default-next_character t c =
    let is = (rw c.in-Some.is at c.split_first.ensures.cases).0 in
    let same = ap (λ xs. levels_all (trees_of (views xs))) is in
    let low : levels (view c.tree-item.result) ≤ levels_all (trees_of (views c.in-Some.more.now)) =
    levels_item c.in-Some.more.now c.loop-tree.tree-index c.tree-item.result c.loop-tree-test.true c.tree-item.is in
    let step = left_step c.in-Some.more.now c.loop-tree.tree-index c.tree-item.result c.loop-tree-test.true c.tree-item.is in (
      omega (arith, low, same),
      λ known. (subst (AreDefined c.args.unicode) step (c.loop-tree.invariant.defined known)).0,
    )

pub prefix_of_list-loop-tree-preserved : goal.prefix_of_list-loop-tree-preserved
prefix_of_list-loop-tree-preserved t c =
    let more = c.in-Some.more.now in
    let i = c.loop-tree.tree-index in
    let one = c.tree-item.result in
    let all = trees_of (views c.args.trees.now) in
    let step = left_step more i one c.loop-tree-test.true c.tree-item.is in
    let before = subst (λ ts. IsPrefixed c.args.unicode c.args.kind all ts c.loop-tree.all) step c.loop-tree.invariant.prefixed in
    record {
      prefixed = elim c.match-next_character.branch [
        | prefix_of_list-in-Some-next_character+in_ok-all-2 w ↦
            let plain = rw w.in-Some-next_character.is at c.next_character.ensures in
            subst (IsPrefixed c.args.unicode c.args.kind all (left more (i + 1))) (sym w.all-is)
            (w.in_ok-all-2.ensures c.args.unicode c.args.kind all (left more (i + 1)) (view one) plain.0 plain.1 plain.2
            before)
        | prefix_of_list-in_default-next_character+in_ok-next+in_ok-all-3 w ↦
            subst (IsPrefixed c.args.unicode c.args.kind all (left more (i + 1))) (sym w.all-is)
            (w.in_ok-all-3.ensures c.args.unicode all (left more (i + 1)) (view one) before w.in_ok-next.ensures)
      ];
      defined = λ known. (subst (AreDefined c.args.unicode) step (c.loop-tree.invariant.defined known)).1;
    }

pub prefix_of_list-returns-then-is_settled : goal.prefix_of_list-returns-then-is_settled
prefix_of_list-returns-then-is_settled t c =
    let all = trees_of (views c.args.trees.now) in
    settled c.args.unicode c.args.kind all (left c.in-Some.more.now c.loop-tree.tree-index) c.loop-tree.all
    (c.is_settled.ensures c.if-is_settled.true) (c.loop-tree.invariant.defined c.if-is_known.true)
    c.loop-tree.invariant.prefixed

pub prefix_of_list-returns-in_default : goal.prefix_of_list-returns-in_default
prefix_of_list-returns-in_default t c =
    let none = no_trees_in c.args.trees.now (rw c.in_default.is at c.split_first.ensures.cases) in
    subst (λ ts. HasPrefix c.args.unicode (row (row_of c.args.kind) ts) c.nothing.result) none
    (no_trees_prefix c.args.unicode c.args.kind c.nothing.result c.nothing.ensures.characters)

pub prefix_of_list-returns : goal.prefix_of_list-returns
prefix_of_list-returns t c =
    let all = trees_of (views c.args.trees.now) in
    prefixed_all c.args.unicode c.args.kind all c.loop-tree.all
    (subst (λ ts. IsPrefixed c.args.unicode c.args.kind all ts c.loop-tree.all)
    (left_end c.in-Some.more.now c.loop-tree.tree-index c.loop-tree-test.false) c.loop-tree.invariant.prefixed)
