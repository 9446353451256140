use Rattle.std.proofs.Common.{ap, ◌∙◌}
use Rattle.fancy_grammar.specs.PatternNeeds.{with_needs}
use Rattle.fancy_pattern.proofs.context.Context.next_node.Goals as goal

pub returns-in-Some : goal.returns-in-Some
returns-in-Some c k h n l is =
    (ap (with_needs h.flags) (c.in-Some.ensures.some k h n l is), c.in-Some.ensures.passes k h n l is)

pub returns-in-None : goal.returns-in-None
returns-in-None c k h n l is =
    (ap (with_needs h.flags) c.no_needs.ensures ∙ c.in-None.ensures.none k h n l is, c.in-None.ensures.passes k h n l is)
