use Rattle.std.proofs.Common.{ap}
use Rattle.fancy_syntax.specs.Shape.{label_of}
use Rattle.pattern_facts.proofs.PrefixLemmas.{group_prefix, look_prefix, repeat_prefix}
use Rattle.pattern_facts.proofs.prefix.prefix_around.Goals as goal

pub returns-in-Group : goal.returns-in-Group
returns-in-Group c = λ u t h.
    group_prefix u t (label_of c.args.wrap) c.args.child c.in-Some.child (ap label_of c.in-Group.is) c.in-Some.is h

pub returns-in-LookAround : goal.returns-in-LookAround
returns-in-LookAround c = λ u t h.
    look_prefix u t (label_of c.args.wrap) c.in-LookAround.field-0 c.args.child c.in-Some.child c.nothing.result
    (ap label_of c.in-LookAround.is) c.in-Some.is c.nothing.ensures.characters h

pub returns-in-Repeat : goal.returns-in-Repeat
returns-in-Repeat c = λ u t h.
    repeat_prefix u t (label_of c.args.wrap) c.in-Repeat.lo c.in-Repeat.hi c.in-Repeat.greedy c.args.child
    c.in-Some.child c.prefix_of_turns.result (ap label_of c.in-Repeat.is) c.in-Some.is c.if-lo-hi.true
    c.prefix_of_turns.ensures h
