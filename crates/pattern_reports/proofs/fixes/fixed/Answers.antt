use Rattle.std.proofs.Common.{sym}
use Rattle.pattern_reports.proofs.fixes.fixed.Goals as goal

pub returns : goal.returns
returns c =
    rw (sym c.parsed_pattern.ensures.flags, sym c.parsed_pattern.ensures.tree, sym c.parsed_pattern.ensures.pattern, sym c.parsed_pattern.ensures.trivia)
    c.fixed.ensures.fixed
