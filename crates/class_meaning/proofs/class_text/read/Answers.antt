use Rattle.class_meaning.proofs.OneCharacterLemmas.{matches_one_of, is_pattern, refused_as}
use Rattle.class_meaning.proofs.class_text.read.Goals as goal

pub returns-in-Some-clause-meaning : goal.returns-in-Some-clause-meaning
returns-in-Some-clause-meaning c =
    matches_one_of c.args.config.now c.args.text.now c.in-Ok.parsed.hir _ c.in-Some.set.class.ranges.items
    (rw c.in-Some.is at c.in_ok-set-in-Ok.ensures) c.in-Ok.ensures.ok

pub returns-in-Ok-clause-meaning : goal.returns-in-Ok-clause-meaning
returns-in-Ok-clause-meaning c = is_pattern c.args.config.now c.args.text.now c.in-Ok.parsed.hir _ c.in-Ok.ensures.ok

pub returns-clause-meaning : goal.returns-clause-meaning
returns-clause-meaning c = (
  c.in_default.not-OutOfMemory,
  refused_as c.args.config.now c.args.text.now c.in-Err.error.kind c.in_default.not-OutOfMemory c.in-Err.ensures.err,
)
