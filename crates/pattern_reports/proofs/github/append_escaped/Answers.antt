use Rattle.std.proofs.Common.{◌++◌, ◌∷◌, [], ap, sym, ◌∙◌, append_assoc, rules}
use Rattle.fancy_lex.specs.Text.{Text, text_of}
use Rattle.pattern_reports.specs.WorkflowCommand.{escape, escaped}
use Rattle.pattern_reports.proofs.EscapeLemmas.{escaped-snoc}
use Rattle.pattern_reports.proofs.github.append_escaped.Goals as goal

pub loop-c-preserved : goal.loop-c-preserved
loop-c-preserved c =
    let (w, cut, written) = c.loop-c.invariant.written in
    let it = c.in-Some.c in
    record {
      text = search rules;
      written = (
        w ++ it ∷ [],
        cut ∙ ap (λ (t : Text). w ++ t) c.in-Some.ensures.value ∙ sym (append_assoc w (it ∷ []) _),
        c.in_ok-push_escaped.ensures
            ∙ ap (λ (t : Text). t ++ escape c.args.is_property it) written
            ∙ append_assoc _ (escaped c.args.is_property w) _
            ∙ ap (λ (t : Text). text_of c.args.out.now ++ t) (sym (escaped-snoc c.args.is_property w it)),
      );
    }
