use Rattle.fancy_syntax.specs.View.{view}
use Rattle.pattern_facts.proofs.EscapeLemmas.{character_known}
use Rattle.pattern_facts.proofs.plain.escape_facts.Goals as goal

pub returns-in-Some : goal.returns-in-Some
returns-in-Some c =
    character_known c.args.unicode (view c.args.node.now) c.in-Some.least c.in-Some.greatest c.of_bytes.result
    c.in-Some.ensures (record {
      characters = c.of_bytes.ensures.characters;
      bytes = c.of_bytes.ensures.bytes;
      start = c.of_bytes.ensures.start;
      end = c.of_bytes.ensures.end;
    })
