use Rattle.std.proofs.Common.{ℕ, ◌++◌, ◌∷◌, [], ap, sym, ◌∙◌, append_assoc, rules}
use Rattle.std.proofs.lemmas.List.{map-append}
use Rattle.std.specs.Char.{to_ascii_lowercase}
use Rattle.fancy_lex.specs.Property.{lowercase}
use Rattle.fancy_lex.specs.Text.{Text, text_of}
use Rattle.fancy_lex.proofs.property.push_lowercase.Goals as goal

pub loop-c-preserved : goal.loop-c-preserved
loop-c-preserved c =
    let (w, cut, written) = c.loop-c.invariant.written in
    record {
      text = search rules;
      written = (
        w ++ c.in-Some.c ∷ [],
        cut ∙ ap (λ (t : Text). w ++ t) c.in-Some.ensures.value ∙ sym (append_assoc w (c.in-Some.c ∷ []) _),
        c.in_ok-push.ensures
            ∙ ap (λ (t : Text). t ++ c.to_ascii_lowercase.result ∷ []) written
            ∙ append_assoc _ (lowercase w) _
            ∙ ap (λ (t : Text). text_of c.args.out.now ++ t)
            (ap (λ (d : ℕ). lowercase w ++ d ∷ []) c.to_ascii_lowercase.ensures.value
            ∙ sym (map-append to_ascii_lowercase w (c.in-Some.c ∷ []))),
      );
    }
