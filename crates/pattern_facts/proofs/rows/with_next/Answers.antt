use Rattle.std.proofs.Common.{subst}
use Rattle.fancy_grammar.specs.Tree.{more_trees}
use Rattle.pattern_facts.specs.Known.{IsFactsOf}
use Rattle.pattern_facts.specs.Lists.{IsTaken}
use Rattle.pattern_facts.proofs.ListLemmas.{taken_next}
use Rattle.pattern_facts.proofs.rows.with_next.Goals as goal

pub returns-in-Some-next : goal.returns-in-Some-next
returns-in-Some-next c = λ u all rest t h k.
    taken_next u c.args.kind all rest t c.in-Some.before c.in-Some-next.next c.with.result
    (record {
      characters = c.with.ensures.characters;
      bytes = c.with.ensures.bytes;
      start = c.with.ensures.start;
      end = c.with.ensures.end;
    })
    (subst (IsTaken u c.args.kind all (more_trees t rest)) c.in-Some.is h)
    (subst (IsFactsOf u t) c.in-Some-next.is k)
