use Rattle.std.proofs.Common.{◌≡◌, [], ◌∷◌, true, false, refl, sym, ap, ◌∙◌, append-nil}
use Rattle.fancy_grammar.specs.Join.{is_empty}
use Rattle.fancy_syntax.specs.Log.{leaf_recorded, pass}
use Rattle.fancy_syntax.specs.LogViews.{log_of}
use Rattle.fancy_syntax.specs.TriviaViews.{recorded_part}
use Rattle.fancy_syntax.specs.View.{view}
use Rattle.fancy_syntax.proofs.grammar.spans.Spans.record_token.Goals as goal

pub returns-in_ok-pass : goal.returns-in_ok-pass
returns-in_ok-pass c =
    let empty : is_empty (view c.args.atom.now) ≡ true = sym c.is_empty.ensures ∙ c.if-is_empty.true in
    c.in_ok-pass.ensures ∙ ap (pass (recorded_part c.part_between.result ∷ [])) (c.in_ok-record_leaf.ensures _ refl)
    ∙ rw (c.part_between.ensures, c.reach.ensures, c.reach-2.ensures, empty) refl

pub returns-else-is_empty : goal.returns-else-is_empty
returns-else-is_empty c =
    let solid : is_empty (view c.args.atom.now) ≡ false = sym c.is_empty.ensures ∙ c.if-is_empty.false in
    let m = leaf_recorded c.reach.result c.reach-2.result (log_of c.args.self.now) in
    c.in_ok-record_leaf.ensures _ refl ∙ ap (λ ps. record m { passed = ps }) (sym (append-nil m.passed))
    ∙ rw (c.reach.ensures, c.reach-2.ensures, solid) refl
