use Rattle.std.proofs.Common.{rules, refl, ◌∙◌}
use Rattle.std.specs.Box.{with_value}
use Rattle.std.specs.Vec.{with_item}
use Rattle.std.proofs.lemmas.Option.{same_Some}
use Rattle.fancy_syntax.proofs.LoanLemmas.{seen_item, on_some}
use Rattle.fancy_syntax.proofs.expr.parent.lend_child.Goals as goal

pub returns-in-Some : goal.returns-in-Some
returns-in-Some g c = (
  (
    refl,
    (λ w. on_some c.get_mut.result
        ((rw c.in-Some.is at (c.list_mut.follows.holds (with_item c.in-Some.list.now c.args.i w))).0 c.args.i w refl)),
    (rw c.in-Some.is at (c.list_mut.follows.holds c.in-Some.list.now)).1 refl,
  ),
  record {
    writes_back = tt;
    value = seen_item g.P.Parent.see c.in-Some.list.now.items c.args.i c.get_mut.result c.get_mut.ensures.item
        ∙ same_Some _ _ (rw c.in-Some.is at (c.list_mut.ensures.value c.args.i));
  },
)

pub returns-in-Some-box_mut : goal.returns-in-Some-box_mut
returns-in-Some-box_mut g c = (
  (refl, (λ w. rw c.in-Some-box_mut.is at (c.box_mut.follows.holds (with_value c.in-Some-box_mut.child.now w))), refl),
  search rules,
)
