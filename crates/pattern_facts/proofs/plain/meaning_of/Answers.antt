use Rattle.fancy_syntax.specs.View.{view}
use Rattle.pattern_facts.proofs.PlainLemmas.{plain_meaning}
use Rattle.pattern_facts.proofs.plain.meaning_of.Goals as goal

pub returns-in_ok-of_char-in-Some : goal.returns-in_ok-of_char-in-Some
returns-in_ok-of_char-in-Some c =
    plain_meaning c.args.unicode (view c.args.node.now) c.in-Some.c c.in_ok-of_char-in-Some.field-0 c.in-Some.ensures.0
    c.in-Some.ensures.1 c.in_ok-of_char-in-Some.ensures
