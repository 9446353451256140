use Rattle.std.proofs.Common.{ap}
use Rattle.fancy_syntax.specs.Shape.{label_of}
use Rattle.pattern_facts.proofs.NodeLemmas.{group_known, look_known, repeat_known}
use Rattle.pattern_facts.proofs.rows.facts_around.Goals as goal

pub returns-in-Group : goal.returns-in-Group
returns-in-Group c = λ u t h.
    group_known u t (label_of c.args.wrap) c.args.child c.in-Some.child (ap label_of c.in-Group.is) c.in-Some.is h

pub returns-in-LookAround : goal.returns-in-LookAround
returns-in-LookAround c = λ u t h.
    look_known u t (label_of c.args.wrap) c.in-LookAround.kind c.args.child c.in-Some.child c.looked_for.result
    (ap label_of c.in-LookAround.is) c.in-Some.is c.looked_for.ensures.characters c.looked_for.ensures.bytes
    c.looked_for.ensures.start c.looked_for.ensures.end h

pub returns-in-Repeat : goal.returns-in-Repeat
returns-in-Repeat c = λ u t h.
    repeat_known u t (label_of c.args.wrap) c.in-Repeat.lo c.in-Repeat.hi c.in-Repeat.greedy c.args.child
    c.in-Some.child c.repeated.result (ap label_of c.in-Repeat.is) c.in-Some.is c.if-lo-hi.true
    (record {
      characters = c.repeated.ensures.characters;
      bytes = c.repeated.ensures.bytes;
      start = c.repeated.ensures.start;
      end = c.repeated.ensures.end;
    }) h
