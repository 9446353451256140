use Rattle.std.proofs.Common.{◌≤◌, arith, sym, subst}
use Rattle.fancy_grammar.specs.Tree.{levels, levels_all, trees_of}
use Rattle.fancy_syntax.proofs.Descents.{levels_item}
use Rattle.fancy_syntax.specs.View.{view, views}
use Rattle.backtracking.specs.TwoWays.{Goes, passed, Turns, no_turn}
use Rattle.backtracking.specs.Remains.{rest_of}
use Rattle.backtracking.proofs.WayLemmas.{weaker, at_some, went_empty, went_group, went_concat, went_next, went_all}
use Rattle.backtracking.proofs.WayLemmas.{went_branch, went_turn, went_repeat}
use Rattle.backtracking.proofs.checker.+go_over.Goals as goal

pub go_over-returns-in-Empty : goal.go_over-returns-in-Empty
go_over-returns-in-Empty t c = went_empty c.args.unicode (view c.args.tree.now) (rest_of c.args.from) c.in-Empty.ensures

pub go_over-returns-in-Passed : goal.go_over-returns-in-Passed
go_over-returns-in-Passed t c = passed c.in-Passed.ensures

pub go_over-returns-in-Group : goal.go_over-returns-in-Group
go_over-returns-in-Group t c =
    weaker _ _ _ (λ u k. went_group c.args.unicode (view c.args.tree.now) _ (rest_of c.args.from) (rest_of u)
    c.in-Group.ensures k) c.go_over.ensures

pub go_over-returns-in-Repeat : goal.go_over-returns-in-Repeat
go_over-returns-in-Repeat t c =
    let (greedy, node) = c.in-Repeat.ensures in
    weaker _ _ _ (λ u k. subst (λ t. Goes c.args.unicode t (rest_of c.args.from) (rest_of u)) (sym node) (k greedy))
    c.go_over_repeat.ensures

pub go_over-returns-in-Possessive : goal.go_over-returns-in-Possessive
go_over-returns-in-Possessive t c =
    weaker _ _ _ (λ u k. subst (λ t. Goes c.args.unicode t (rest_of c.args.from) (rest_of u)) (sym c.in-Possessive.ensures.0) k)
    c.go_over_possessive.ensures

pub go_over-returns-in-Concat : goal.go_over-returns-in-Concat
go_over-returns-in-Concat t c =
    weaker _ _ _ (λ u k. went_concat c.args.unicode (view c.args.tree.now) _ (rest_of c.args.from) (rest_of u)
    c.in-Concat.ensures k) c.go_over_all.ensures

pub go_over_all-go_over-requires : goal.go_over_all-go_over-requires
go_over_all-go_over-requires t c =
    let low : levels (view c.tree-item.result) ≤ levels_all (trees_of (views c.args.trees.now)) =
    levels_item c.args.trees.now c.loop-tree.tree-index c.tree-item.result c.loop-tree-test.true c.tree-item.is in
    (omega (arith, low), tt)

pub go_over_branch-go_over-requires : goal.go_over_branch-go_over-requires
go_over_branch-go_over-requires t c =
    let found = c.in-Some.ensures.lookup in
    let low : levels (view c.in-Some.branch.now) ≤ levels_all (trees_of (views c.args.branches.now)) =
    levels_item c.args.branches.now c.in-Some-Branch-default.index c.in-Some.branch.now found.3.0 found.1 in
    (omega (arith, low), tt)

pub go_over_all-loop-tree-preserved : goal.go_over_all-loop-tree-preserved
go_over_all-loop-tree-preserved t c u k =
    c.loop-tree.invariant u (went_next c.args.unicode c.args.trees.now c.loop-tree.tree-index c.tree-item.result (rest_of c.loop-tree.now)
    (rest_of c.in-Some.next) u c.loop-tree-test.true c.tree-item.is
    (at_some (λ v. Goes c.args.unicode (view c.tree-item.result) (rest_of c.loop-tree.now) (rest_of v)) _ c.in-Some.next c.in-Some.is c.in_ok-next.ensures) k)

pub go_over_all-returns : goal.go_over_all-returns
go_over_all-returns t c = c.loop-tree.invariant _ (went_all c.args.unicode c.args.trees.now c.loop-tree.tree-index _ c.loop-tree-test.false)

pub go_over_branch-returns : goal.go_over_branch-returns
go_over_branch-returns t c =
    let found = c.in-Some.ensures.lookup in
    weaker _ _ _ (λ u k. went_branch c.args.unicode c.args.branches.now c.in-Some-Branch-default.index c.in-Some.branch.now
    c.in-Some-Branch-default.field-0-0.now c.args.from.decisions.now c.in-Some-Branch-default.decisions.now
    c.args.from.text.now (rest_of u) c.in-Some-Branch-default.ensures.cases.0 c.in-Some-Branch-default.field-0-0-is
    found.3.0 found.1 k) c.go_over.ensures

pub go_over_repeat-returns : goal.go_over_repeat-returns
go_over_repeat-returns t c greedy =
    let turned = c.in-Some.turned in
    went_repeat c.args.unicode (view c.args.tree.now) turned.count c.args.lo c.args.hi greedy c.in-Some-Done-default.field-0-0.now
    turned.rest.decisions.now c.in-Some-Done-default.decisions.now turned.rest.text.now (rest_of c.args.from)
    c.in-Some-Done-default.ensures.cases.0 c.in-Some-Done-default.field-0-0-is
    (at_some (λ v. Turns c.args.unicode (view c.args.tree.now) v.count (rest_of c.args.from) (rest_of v.rest)) _ turned c.in-Some.is
    c.in_ok-turned.ensures.turns) c.if-turned-lo.false
    (at_some (λ v. v.count ≤ c.args.hi) _ turned c.in-Some.is c.in_ok-turned.ensures.most)

pub take_turns-loop-count-init : goal.take_turns-loop-count-init
take_turns-loop-count-init t c = (no_turn, omega arith)

pub take_turns-loop-count-preserved : goal.take_turns-loop-count-preserved
take_turns-loop-count-preserved t c =
    let now = c.loop-count.now in
    let again = c.in-Some-Again-default in (
      went_turn c.args.unicode (view c.args.tree.now) c.loop-count.count again.field-0-0.now now.decisions.now again.decisions.now now.text.now
          (rest_of c.args.from) (rest_of c.in-Some.next) again.ensures.cases.0 again.field-0-0-is c.loop-count.invariant.0
          (at_some (λ v. Goes c.args.unicode (view c.args.tree.now) _ (rest_of v)) _ c.in-Some.next c.in-Some.is c.in_ok-next.ensures) c.if-next-now.false,
      omega arith,
    )
