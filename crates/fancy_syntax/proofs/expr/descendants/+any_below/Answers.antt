use Rattle.std.proofs.Common.{rules, ◌<◌, refl, arith, subst}
use Rattle.std.specs.Fn.{FnReturnsAt}
use Rattle.fancy_grammar.specs.Tree.{levels}
use Rattle.fancy_syntax.specs.View.{view}
use Rattle.fancy_syntax.specs.Descendants.{child, deeper}
use Rattle.fancy_syntax.proofs.Descents.{sweep_first, sweep_next, sweep_end, levels_of_given}
use Rattle.fancy_syntax.proofs.expr.descendants.+any_below.Goals as goal

pub holds-requires : goal.holds-requires
holds-requires g t c =
    c.requires c.in-Some.child
    (child (sweep_first _ c.args.tree.now c.in-Some.child.now _ _ c.loop-child.invariant c.in-Some.ensures.steps))

pub returns-then-holds-clause-found : goal.returns-then-holds-clause-found
returns-then-holds-clause-found g t c =
    λ _. (
      c.in-Some.child.now,
      (child (sweep_first _ c.args.tree.now c.in-Some.child.now _ _ c.loop-child.invariant c.in-Some.ensures.steps)),
      subst (FnReturnsAt g.F.Fn c.args.predicate.now c.in-Some.child.now) c.if-holds.true c.holds.ensures,
    )

pub any_below-requires : goal.any_below-requires
any_below-requires g t c κs within =
    let among = sweep_first _ c.args.tree.now c.in-Some.child.now _ _ c.loop-child.invariant c.in-Some.ensures.steps in
    let less : levels (view c.in-Some.child.now) < levels (view c.args.tree.now) =
    levels_of_given c.args.tree.now c.in-Some.child.now _ c.children_iter-children.ensures.values
    c.children_iter-children.ensures.trees among in
    (omega (arith, less), (search rules, λ x b. c.requires x (deeper among b)))

pub returns-then-any_below-clause-found : goal.returns-then-any_below-clause-found
returns-then-any_below-clause-found g t c =
    let among = sweep_first _ c.args.tree.now c.in-Some.child.now _ _ c.loop-child.invariant c.in-Some.ensures.steps in
    let f = c.if-any_below.ensures.found refl in
    λ _. (f.0, deeper among f.1, f.2)

pub loop-child-preserved : goal.loop-child-preserved
loop-child-preserved g t c =
    sweep_next _ c.args.tree.now c.in-Some.child.now _ _ c.loop-child.invariant c.in-Some.ensures.steps
    (record {
      here = subst (FnReturnsAt g.F.Fn c.args.predicate.now c.in-Some.child.now) c.if-holds.false
          c.holds.ensures;
      below = c.if-any_below.ensures.none refl;
    })

pub returns-clause-none : goal.returns-clause-none
returns-clause-none g t c = λ _. sweep_end _ c.args.tree.now _ c.loop-child.invariant c.in_default.ensures.steps.0
