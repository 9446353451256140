use Rattle.std.proofs.Common.{◌≡◌, [], ◌∷◌, ◌++◌, ◌+◌, Some, min, false, nat_lt, length, if◌then◌else◌, refl, sym, ap, subst}
use Rattle.std.proofs.Common.{◌∙◌, arith}
use Rattle.std.specs.List.{slice_get}
use Rattle.std.specs.Prelude.{insert}
use Rattle.std.specs.Result.{OnOk}
use Rattle.std.proofs.lemmas.Option.{slice_get_read}
use Rattle.std.proofs.lemmas.Bool.Decides.{nat_tests}
use Rattle.fancy_syntax.specs.Log.{others_put, put_at}
use Rattle.fancy_syntax.specs.LogViews.{log_of}
use Rattle.fancy_syntax.specs.declared.grammar.recorded.Recorded.TheVariants.{Node, Bar}
use Rattle.fancy_syntax.proofs.RecordingLemmas.{split_off}
use Rattle.fancy_syntax.proofs.grammar.spans.Spans.split.Goals as goal

pub returns : goal.returns
returns c =
    let self = c.args.self.now in
    let front = c.pop.new.self.items in
    let bar = c.in-Some-Bar.bar in
    let height = self.open.branches in
    let end = c.in-Some-Node.end in
    let there : self.recorded.items ≡ front ++ Bar bar ∷ [] =
    c.in-Some-Bar.ensures.items ∙ ap (λ x. front ++ x ∷ []) c.in-Some-Bar.field-0-is in
    let found : slice_get front height ≡ Some (Node c.in-Some-Node.field-0-0 end) =
    let lookup = rw (c.deref.ensures.value) at c.in-Some-Node.ensures.lookup in
    slice_get_read front (length front) height c.in-Some-Node.field-0.now refl (omega arith) lookup.1
    ∙ ap Some c.in-Some-Node.field-0-is in
    let several : nat_lt c.args.branches 3 ≡ false = grind (arith, nat_tests) in
    let left = c.remove.new.self in
    let after : min (height + bar.before) (length left.items) ≡ min c.saturating_add.result (length left.items) =
    omega (arith, c.saturating_add.ensures, left.ok, left.small) in
    let rest = Node bar.past end in
    let all = split_off c.args.branches front bar c.in-Some-Node.field-0-0 end (log_of self) there found
    ∙ ap (λ xs. record (log_of self) { recorded = others_put height c.args.branches bar end xs })
    (sym c.remove.ensures.items)
    ∙ ap (λ t. record (log_of self) {
      recorded = if t then left.items else put_at (height + bar.before) rest left.items;
    }) several
    ∙ ap (λ n. record (log_of self) { recorded = insert left.items n rest }) after in
    subst (λ m. OnOk c.put.result (log_of c.put.new.self ≡ m)) (sym all) c.put.ensures
