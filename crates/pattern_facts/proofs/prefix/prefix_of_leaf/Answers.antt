use Rattle.fancy_syntax.specs.View.{view}
use Rattle.pattern_facts.proofs.PrefixLemmas.{plain_prefix, set_prefix, unsaid_prefix}
use Rattle.pattern_facts.proofs.prefix.prefix_of_leaf.Goals as goal

pub returns-in_ok-prefix_of_set-in-Characters : goal.returns-in_ok-prefix_of_set-in-Characters
returns-in_ok-prefix_of_set-in-Characters c =
    set_prefix c.args.unicode (view c.args.node.now) c.in-Characters.set c.in_ok-prefix_of_set-in-Characters.field-0
    c.in_ok-prefix_of_set-in-Characters.ensures (rw c.in-Characters.is at c.in_ok-set.ensures)

pub returns-in-Some : goal.returns-in-Some
returns-in-Some c =
    plain_prefix c.args.unicode (view c.args.node.now) c.in-Some.c c.in_ok-one.field-0 c.in-Some.ensures.0
    c.in-Some.ensures.1 c.in_ok-one.ensures.0

pub returns-then-is_some : goal.returns-then-is_some
returns-then-is_some c =
    unsaid_prefix c.args.unicode (view c.args.node.now) c.bytes_of_node.result c.nothing-then-is_some.result
    c.if-is_some.ensures c.bytes_of_node.ensures c.nothing-then-is_some.ensures.characters
    c.nothing-then-is_some.ensures.whole
