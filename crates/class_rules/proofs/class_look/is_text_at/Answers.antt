use Rattle.std.proofs.Common.{◌≡◌, sym, subst, ◌∙◌}
use Rattle.std.proofs.lemmas.Slice.Eq.{bytes_eq-Decides}
use Rattle.class_rules.proofs.CutLemmas.{text_at}
use Rattle.class_rules.specs.ClassSource.{IsTextAt}
use Rattle.class_rules.proofs.class_look.is_text_at.Goals as goal

pub returns : goal.returns
returns c is =
    let same : c.in-Some.part.now ≡ c.args.text.now = (bytes_eq-Decides _ _).0 (sym c.eq.ensures ∙ is) in
    subst (IsTextAt c.args.source.now c.args.span) same
    (text_at _ _ _ c.in-Some.ensures.0 c.in-Some.ensures.1 c.in-Some.ensures.2)
