use Rattle.class_rules.proofs.ProblemLemmas.{keeps_push}
use Rattle.class_rules.proofs.misread.add_bar.Goals as goal

pub returns : goal.returns
returns c = keeps_push _ _ _ _ c.args.found.now.items _ _ c.in_ok-push.ensures.items (λ text all. all) (λ text. c.in-Some.ensures)
