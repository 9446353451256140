use Rattle.std.proofs.Common.{sym, ap, ◌∙◌}
use Rattle.fancy_lex.specs.NameViews.{view_target}
use Rattle.fancy_c.specs.Node as spec
use Rattle.fancy_c.proofs.NodeLemmas.{string_text}
use Rattle.fancy_c.proofs.node.target_name.Goals as goal

pub returns-in-ByName : goal.returns-in-ByName
returns-in-ByName c =
    c.as_bytes.ensures.value ∙ sym (string_text c.in-ByName.name)
    ∙ ap (λ t. spec.target_name (view_target t)) (sym c.in-ByName.is)
