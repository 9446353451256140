use Rattle.fancy_syntax.specs.View.{view}
use Rattle.pattern_facts.proofs.PlainLemmas.{plain_known}
use Rattle.pattern_facts.proofs.plain.plain_facts.Goals as goal

pub returns-in-Some : goal.returns-in-Some
returns-in-Some c = λ u.
    plain_known u (view c.args.node.now) c.in-Some.c c.of_character.result c.in-Some.ensures.0 c.in-Some.ensures.1
    (record {
      characters = c.of_character.ensures.characters;
      bytes = c.of_character.ensures.bytes;
      start = c.of_character.ensures.start;
      end = c.of_character.ensures.end;
    })
