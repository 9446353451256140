use Rattle.std.proofs.Common.{◌++◌, ap, ◌∙◌}
use Rattle.fancy_syntax.specs.View.{view}
use Rattle.pattern_format.specs.Spelled.{all_kept}
use Rattle.pattern_format.proofs.spelled.all_kept.Goals as goal

pub returns : goal.returns
returns c = c.in_ok-push_kept.ensures ∙ ap (λ l. l ++ all_kept (view c.args.tree.now)) c.in_ok-kept.ensures.items
