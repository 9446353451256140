use Rattle.pattern_facts.proofs.PrefixLemmas.{or_put, then_result}
use Rattle.pattern_facts.proofs.prefix.Prefix.with.Goals as goal

pub returns-in-Concat : goal.returns-in-Concat
returns-in-Concat c = λ u all rest t h n.
    then_result u c.args.kind all rest t c.args.self c.args.next c.then.result c.in-Concat.is c.then.ensures h n

pub returns-in-Alt : goal.returns-in-Alt
returns-in-Alt c = λ u all rest t h n.
    or_put u c.args.kind all rest t c.args.self c.args.next c.or.result c.in-Alt.is c.or.ensures h n
