use Rattle.pattern_facts.proofs.EscapeLemmas.{dot_node}
use Rattle.pattern_facts.proofs.plain.bytes_of_node.Goals as goal

pub returns-in-Any : goal.returns-in-Any
returns-in-Any c =
    dot_node c.args.unicode c.args.node.now c.in-Any.newline c.in-Any.crlf c.if-not-unicode.false c.in-Any.is
