use Rattle.std.proofs.Common.{◌≡◌, ◌++◌, ◌+◌, ◌∙◌, [], false, nat_lt, rules, codes, chars, sym, refl}
use Rattle.fancy_syntax.proofs.SinkLemmas.{can_as, can_front, can_first, can_second, can_third, taken_as}
use Rattle.fancy_syntax.proofs.SinkLemmas.{three_taken, taking_as, taking_can, taking_later, taking_ends}
use Rattle.fancy_grammar.specs.Quote.{quotes, quantifier}
use Rattle.fancy_grammar.specs.Printed.{printed, printed_all, caseless}
use Rattle.fancy_syntax.specs.View.{view}
use Rattle.fancy_syntax.specs.declared.expr.Expr.{the_lemmas}
use Rattle.fancy_syntax.proofs.PrintLemmas.{asked, left, branches, all_step, all_end, branches_step, branches_end}
use Rattle.fancy_syntax.proofs.PrintLemmas.{minds_case}
use Rattle.fancy_syntax.proofs.print.write.+write.Goals as goal

pub put_all-put_tree-requires : goal.put_all-put_tree-requires
put_all-put_tree-requires g t c =
    let step = all_step c.args.trees.now c.loop-tree.tree-index c.tree-item.result c.loop-tree-test.true
    c.tree-item.is in
    let fits = taking_can c.args.sink.now c.loop-tree.sink (printed (view c.tree-item.result) 2)
    (printed_all (left c.args.trees.now (c.loop-tree.tree-index + 1))) _
    (taking_as _ _ _ _ _ step c.loop-tree.invariant) in
    λ κs h. (search (rules, the_lemmas), (h, fits))

pub put_all-loop-tree-preserved : goal.put_all-loop-tree-preserved
put_all-loop-tree-preserved g t c =
    let step = all_step c.args.trees.now c.loop-tree.tree-index c.tree-item.result c.loop-tree-test.true
    c.tree-item.is in
    taking_later c.args.sink.now c.loop-tree.sink c.put_tree.new.sink (printed (view c.tree-item.result) 2)
    (printed_all (left c.args.trees.now (c.loop-tree.tree-index + 1))) _
    (taking_as _ _ _ _ _ step c.loop-tree.invariant) c.put_tree.ensures

pub put_all-returns : goal.put_all-returns
put_all-returns g t c =
    taking_ends c.args.sink.now c.loop-tree.sink _
    (taking_as _ _ _ _ _ (all_end c.args.trees.now c.loop-tree.tree-index c.loop-tree-test.false)
    c.loop-tree.invariant)

pub put_branches-put_branch-requires : goal.put_branches-put_branch-requires
put_branches-put_branch-requires g t c =
    let trees = c.args.trees.now in
    let i = c.loop-i.i in
    let step = branches_step trees i c.index-trees-i.result c.loop-i-test.true c.index-trees-i.is in
    let fits = taking_can c.args.sink.now c.loop-i.sink
    (asked (nat_lt 0 i) (codes "|") ++ printed (view c.index-trees-i.result) 1) (branches trees (i + 1)) _
    (taking_as _ _ _ _ _ step c.loop-i.invariant) in
    λ κs h. (search (rules, the_lemmas), (h, fits))

pub put_branches-loop-i-preserved : goal.put_branches-loop-i-preserved
put_branches-loop-i-preserved g t c =
    let trees = c.args.trees.now in
    let i = c.loop-i.i in
    let step = branches_step trees i c.index-trees-i.result c.loop-i-test.true c.index-trees-i.is in
    taking_later c.args.sink.now c.loop-i.sink c.put_branch.new.sink
    (asked (nat_lt 0 i) (codes "|") ++ printed (view c.index-trees-i.result) 1) (branches trees (i + 1)) _
    (taking_as _ _ _ _ _ step c.loop-i.invariant) c.put_branch.ensures

pub put_branches-returns : goal.put_branches-returns
put_branches-returns g t c =
    taking_ends c.args.sink.now c.loop-i.sink _
    (taking_as _ _ _ _ _ (branches_end c.args.trees.now c.loop-i.i c.loop-i-test.false) c.loop-i.invariant)

pub put_tree-put_quotes-requires : goal.put_tree-put_quotes-requires
put_tree-put_quotes-requires g t c =
    let text : printed (view c.args.tree.now) c.args.precedence
    ≡ caseless c.in-Literal-default-false.casei (quotes (chars c.as_str.result.now)) = search (rules, the_lemmas) in
    let minds : c.in-Literal-default-false.casei ≡ false = cc in
    let plain = minds_case _ (quotes (chars c.as_str.result.now)) minds in
    can_as c.args.sink.now _ _ (text ∙ plain) c.requires

pub put_tree-returns-in-Literal-default-false : goal.put_tree-returns-in-Literal-default-false
put_tree-returns-in-Literal-default-false g t c =
    let text : printed (view c.args.tree.now) c.args.precedence
    ≡ caseless c.in-Literal-default-false.casei (quotes (chars c.as_str.result.now)) = search (rules, the_lemmas) in
    let minds : c.in-Literal-default-false.casei ≡ false = search rules in
    let plain = minds_case _ (quotes (chars c.as_str.result.now)) minds in
    taken_as _ _ _ _ c.put_quotes.ensures (sym (text ∙ plain))

pub put_node-returns-in-Empty : goal.put_node-returns-in-Empty
put_node-returns-in-Empty g t c =
    let none : printed (view c.args.tree.now) c.args.precedence ≡ [] = search (rules, the_lemmas) in
    taken_as _ _ _ _ c.put_fixed-in-Empty.ensures (sym none)

pub put_branch-put_if-requires-clause-reserved : goal.put_branch-put_if-requires-clause-reserved
put_branch-put_if-requires-clause-reserved g t c =
    can_front c.args.sink.now _ (printed (view c.args.tree.now) 1) c.requires

pub put_branch-put_tree-requires : goal.put_branch-put_tree-requires
put_branch-put_tree-requires g t c = λ κs h. (search (rules, the_lemmas), (h, c.put_if.ensures.fits _ c.requires))

pub put_quantified-put_repeated-requires : goal.put_quantified-put_repeated-requires
put_quantified-put_repeated-requires g t c =
    let fits = can_front c.args.sink.now _ (quantifier c.args.lo c.args.hi c.args.greedy) c.requires in
    λ κs h. (search (rules, the_lemmas), (h, fits))

pub put_quantified-put_quantifier-requires : goal.put_quantified-put_quantifier-requires
put_quantified-put_quantifier-requires g t c = c.put_repeated.ensures.fits _ c.requires

pub put_group-put-requires : goal.put_group-put-requires
put_group-put-requires g t c =
    can_first c.args.sink.now (codes "(") (printed (view c.args.tree.now) 0) (codes ")") _ refl c.requires

pub put_group-put_tree-requires : goal.put_group-put_tree-requires
put_group-put_tree-requires g t c =
    let fits = can_second _ _ (codes "(") (printed (view c.args.tree.now) 0) (codes ")") _ refl c.requires c.put.ensures in
    λ κs h. (search (rules, the_lemmas), (h, fits))

pub put_group-put-requires-2 : goal.put_group-put-requires-2
put_group-put-requires-2 g t c =
    can_third _ _ _ (codes "(") (printed (view c.args.tree.now) 0) (codes ")") _ refl c.requires c.put.ensures
    c.put_tree.ensures

pub put_group-returns : goal.put_group-returns
put_group-returns g t c = three_taken _ _ _ _ _ _ _ _ refl c.put.ensures c.put_tree.ensures c.put-2.ensures
