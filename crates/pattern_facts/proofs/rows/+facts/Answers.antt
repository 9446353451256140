use Rattle.std.proofs.Common.{◌≡◌, ◌+◌, ◌≤◌, ap, sym, ◌∙◌, subst, arith, length}
use Rattle.std.proofs.Math.ListN.{set}
use Rattle.fancy_grammar.specs.Tree.{levels, levels_all, row, trees_of}
use Rattle.fancy_syntax.proofs.Descents.{levels_item}
use Rattle.fancy_syntax.proofs.PrintLemmas.{left, left_step, left_end}
use Rattle.fancy_syntax.specs.View.{view, views}
use Rattle.pattern_facts.specs.Known.{Adds, IsFactsOf, IsKnownAs}
use Rattle.pattern_facts.specs.Lengths.{row_of}
use Rattle.pattern_facts.specs.Lists.{IsTaken}
use Rattle.pattern_facts.specs.Nodes.{nodes_of}
use Rattle.pattern_facts.proofs.ListLemmas.{no_trees_in, no_trees_known, taken_first, taken_all}
use Rattle.pattern_facts.proofs.RowLemmas.{adds_node, adds_two, adds_three, rows_first, rows_next, rows_end}
use Rattle.pattern_facts.proofs.rows.+facts.Goals as goal

pub add_below-returns-in_ok-below-in-Around-clause-facts :
    goal.add_below-returns-in_ok-below-in-Around-clause-facts
add_below-returns-in_ok-below-in-Around-clause-facts t c =
    subst (λ x. IsFactsOf c.args.unicode x c.facts_around.result) (sym c.in-Around.ensures.node)
    (c.facts_around.ensures c.args.unicode (view c.in-Around.child.now) c.in_ok-below-in-Around.ensures.facts)

pub add_below-returns-in_ok-add_node-in-Conditional-3-clause-rows :
    goal.add_below-returns-in_ok-add_node-in-Conditional-3-clause-rows
add_below-returns-in_ok-add_node-in-Conditional-3-clause-rows t c =
    adds_three c.args.unicode (view c.args.tree.now) (view c.in-Conditional.condition.now)
    (view c.in-Conditional.true_branch.now) (view c.in-Conditional.false_branch.now) c.args.rows.now.items
    c.add_node-in-Conditional.new.rows.items c.add_node-in-Conditional-2.new.rows.items
    c.add_node-in-Conditional-3.new.rows.items c.in-Conditional.ensures.node
    c.in_ok-add_node-in-Conditional.ensures.rows c.in_ok-add_node-in-Conditional-2.ensures.rows
    c.in_ok-add_node-in-Conditional-3.ensures.rows

pub add_below-returns-in_ok-add_node-in-Expression-2-clause-rows :
    goal.add_below-returns-in_ok-add_node-in-Expression-2-clause-rows
add_below-returns-in_ok-add_node-in-Expression-2-clause-rows t c =
    adds_two c.args.unicode (view c.args.tree.now) (view c.in-Expression.absent.now) (view c.in-Expression.exp.now)
    c.args.rows.now.items c.add_node-in-Expression.new.rows.items c.add_node-in-Expression-2.new.rows.items
    c.in-Expression.ensures.node c.in_ok-add_node-in-Expression.ensures.rows
    c.in_ok-add_node-in-Expression-2.ensures.rows

pub add_list-loop-tree-init : goal.add_list-loop-tree-init
add_list-loop-tree-init t c =
    let first = c.in-Some.first.now in
    let more = c.in-Some.more.now in
    let is = (rw c.in-Some.is at c.split_first.ensures.cases).0 in
    record {
      rows = λ new h. rows_first c.args.unicode c.args.trees.now first more c.args.rows.now.items
          c.add_node.new.rows.items new is c.in_ok-all.ensures.rows h;
      taken = subst (λ xs. IsTaken c.args.unicode c.args.kind (trees_of (views xs)) (left more 0) c.in_ok-all.all)
          (sym is) (taken_first c.args.unicode c.args.kind (trees_of (views more)) (view first) c.in_ok-all.all
          c.in_ok-all.ensures.facts);
    }

pub add_list-add_node-requires-in-loop-tree : goal.add_list-add_node-requires-in-loop-tree
add_list-add_node-requires-in-loop-tree t c =
    let is = (rw c.in-Some.is at c.split_first.ensures.cases).0 in
    let same = ap (λ xs. levels_all (trees_of (views xs))) is in
    let low : levels (view c.tree-item.result) ≤ levels_all (trees_of (views c.in-Some.more.now)) =
    levels_item c.in-Some.more.now c.loop-tree.tree-index c.tree-item.result c.loop-tree-test.true c.tree-item.is in
    (omega (arith, low, same), tt)

pub add_list-loop-tree-preserved : goal.add_list-loop-tree-preserved
add_list-loop-tree-preserved t c =
    let more = c.in-Some.more.now in
    let i = c.loop-tree.tree-index in
    let one = c.tree-item.result in
    let step = left_step more i one c.loop-tree-test.true c.tree-item.is in
    let all = trees_of (views c.args.trees.now) in
    record {
      rows = λ new h. c.loop-tree.invariant.rows new
          (rows_next c.args.unicode more i one c.loop-tree.rows.items c.add_node-in-loop-tree.new.rows.items new
          c.loop-tree-test.true c.tree-item.is c.in_ok-one.ensures.rows h);
      taken = c.with_next-all.ensures c.args.unicode all (left more (i + 1)) (view one)
          (subst (λ ts. IsTaken c.args.unicode c.args.kind all ts c.loop-tree.all) step c.loop-tree.invariant.taken)
          c.in_ok-one.ensures.facts;
    }

pub add_list-returns-clause-rows : goal.add_list-returns-clause-rows
add_list-returns-clause-rows t c =
    c.loop-tree.invariant.rows c.loop-tree.rows.items
    (rows_end c.args.unicode c.in-Some.more.now c.loop-tree.tree-index c.loop-tree.rows.items c.loop-tree-test.false)

pub add_list-returns-in_default-clause-facts : goal.add_list-returns-in_default-clause-facts
add_list-returns-in_default-clause-facts t c =
    let none = no_trees_in c.args.trees.now (rw c.in_default.is at c.split_first.ensures.cases) in
    subst (λ ts. IsKnownAs c.args.unicode (row (row_of c.args.kind) ts) c.empty.result) none
    (no_trees_known c.args.unicode c.args.kind c.empty.result c.empty.ensures.characters c.empty.ensures.bytes
    (c.empty.ensures.start ∙ c.no_branch.ensures) (c.empty.ensures.end ∙ c.no_branch-in_default.ensures))

pub add_list-returns-clause-facts : goal.add_list-returns-clause-facts
add_list-returns-clause-facts t c =
    let all = trees_of (views c.args.trees.now) in
    taken_all c.args.unicode c.args.kind all c.loop-tree.all
    (subst (λ ts. IsTaken c.args.unicode c.args.kind all ts c.loop-tree.all)
    (left_end c.in-Some.more.now c.loop-tree.tree-index c.loop-tree-test.false) c.loop-tree.invariant.taken)

pub add_node-returns-in-Some-clause-rows : goal.add_node-returns-in-Some-clause-rows
add_node-returns-in-Some-clause-rows t c =
    let old = c.args.rows.now.items in
    let node = view c.args.tree.now in
    let mid = c.add_below.new.rows.items in
    let long : c.len-index.result ≡ length old = omega (arith, c.args.rows.now.ok.0) in
    subst (λ k. Adds c.args.unicode (nodes_of node) old (set mid k c.in_ok-facts.facts)) (sym long)
    (adds_node c.args.unicode node c.in_ok-facts.facts old c.push.new.self.items mid c.in_ok-push.ensures.items
    c.in_ok-facts.ensures.rows c.in_ok-facts.ensures.facts)
