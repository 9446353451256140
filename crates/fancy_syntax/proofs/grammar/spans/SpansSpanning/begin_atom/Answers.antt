use Rattle.std.proofs.Common.{◌≡◌, sym, ap, ◌∙◌}
use Rattle.fancy_lex.specs.Text.{reach_of}
use Rattle.fancy_grammar.specs.Spans.{condition_span}
use Rattle.fancy_grammar.specs.Trivia.{inner_at}
use Rattle.fancy_syntax.specs.Log.{atom_opened, body_begun, leaf_recorded, pass}
use Rattle.fancy_syntax.specs.Parsed.{state, view_start}
use Rattle.fancy_syntax.specs.Recording.{atom_begun}
use Rattle.fancy_syntax.proofs.grammar.spans.SpansSpanning.begin_atom.Goals as goal

pub returns-in_ok-record_leaf-in-Body : goal.returns-in_ok-record_leaf-in-Body
returns-in_ok-record_leaf-in-Body c l h =
    let s = state c.args.start in
    let t = state c.args.end in
    let begins : c.in-Body.inside ≡ (condition_span s t).start = rw c.in-Body.is at c.requires in
    let passed = c.in_ok-pass_start-in-Body.ensures ∙ ap (pass _) c.in_ok-open_atom-in-Body.ensures in
    c.begin_body.ensures
    ∙ ap (body_begun (reach_of t.rest)) (c.in_ok-record_leaf-in-Body.ensures _ passed)
    ∙ (λ i. body_begun (reach_of t.rest) (leaf_recorded (begins i) (c.reach_before.ensures i)
    (pass (inner_at s (begins i)) (atom_opened (c.reach-in-Body.ensures i) (begins i) (h i)))))
    ∙ sym (ap (λ a. atom_begun s (view_start a t) l) c.in-Body.is)
