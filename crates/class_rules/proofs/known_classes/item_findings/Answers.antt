use Rattle.std.proofs.lemmas.List.Elements.{All-nil}
use Rattle.class_rules.proofs.known_classes.item_findings.Goals as goal

pub returns : goal.returns
returns c text =
    c.in_ok-add_hyphens.ensures text (c.in_ok-add_bar.ensures text
    (c.in_ok-add_mixed.ensures text (c.in_ok-add_needless.ensures text (rw c.new-found.ensures.items (All-nil _)))))
