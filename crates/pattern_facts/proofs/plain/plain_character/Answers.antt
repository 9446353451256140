use Rattle.pattern_facts.proofs.PlainLemmas.{plain_view}
use Rattle.pattern_facts.proofs.plain.plain_character.Goals as goal

pub returns-in-Literal : goal.returns-in-Literal
returns-in-Literal c =
    plain_view c.args.node.now c.in-Literal.val c.in-Literal.casei c.as_str.result.now c.only_character.result
    c.in-Literal.is c.if-casei.false c.as_str.ensures.value c.only_character.ensures
