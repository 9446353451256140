use Rattle.std.proofs.Common.{arith}
use Rattle.fancy_grammar.specs.PatternNeeds.{no_needs}
use Rattle.fancy_pattern.proofs.KnownLemmas.{first_known, none_known}
use Rattle.fancy_pattern.proofs.context.Context.next_listed.Goals as goal

pub returns-in-len1-up-clause-passes : goal.returns-in-len1-up-clause-passes
returns-in-len1-up-clause-passes c k h n l is = record {
  flags = is.flags;
  opened = is.opened;
  left = is.left;
  needs = (first_known k h.flags c.args.self.now.needs.now no_needs n l c.in-len1-up.len_at_least is.needs).1;
}

pub returns-in-len1-up-clause-some : goal.returns-in-len1-up-clause-some
returns-in-len1-up-clause-some c k h n l is =
    (first_known k h.flags c.args.self.now.needs.now no_needs n l c.in-len1-up.len_at_least is.needs).0

pub returns-in-empty-clause-passes : goal.returns-in-empty-clause-passes
returns-in-empty-clause-passes c k h n l is = record {
  flags = is.flags;
  opened = is.opened;
  left = is.left;
  needs = (none_known k h.flags c.args.self.now.needs.now n l (omega arith) is.needs).1;
}

pub returns-in-empty-clause-none : goal.returns-in-empty-clause-none
returns-in-empty-clause-none c k h n l is =
    (none_known k h.flags c.args.self.now.needs.now n l (omega arith) is.needs).0
