use Rattle.std.proofs.Common.{ap, ◌∙◌, ◌∷◌, []}
use Rattle.std.proofs.lemmas.List.{map-append}
use Rattle.fancy_syntax.specs.View.{view, views}
use Rattle.fancy_c.proofs.RowTreeLemmas.{trees_next, built_top}
use Rattle.fancy_c.proofs.built.take_children.Goals as goal

pub loop-preserved : goal.loop-preserved
loop-preserved c = λ texts nodes h.
    let before = c.loop.invariant texts nodes h in
    let top = built_top texts nodes c.loop.next c.loop.built.items c.pop.new.self.items c.in-Some.child
    c.in-Some.ensures.items before.1 in (
      trees_next texts nodes c.args.first c.loop.next _ _ c.in-Some.child
          (ap views c.in_ok-push.ensures.items ∙ map-append view _ (c.in-Some.child.tree ∷ [])) before.0 top.0,
      top.1,
    )
