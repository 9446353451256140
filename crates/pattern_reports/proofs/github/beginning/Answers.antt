use Rattle.std.proofs.Common.{rules, ◌∙◌}
use Rattle.std.specs.Str.{chars}
use Rattle.pattern_reports.proofs.EscapeLemmas.{line_steps}
use Rattle.pattern_reports.proofs.github.beginning.Goals as goal

pub returns : goal.returns
unfolding chars
returns c =
    c.in_ok-append_property.ensures
    ∙ search (rules, line_steps)
