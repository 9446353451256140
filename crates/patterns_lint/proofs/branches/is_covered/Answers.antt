use Rattle.fancy_lex.specs.Flags.{flags_of}
use Rattle.fancy_syntax.specs.Spanned.{spanned_of}
use Rattle.fancy_syntax.specs.View.{view}
use Rattle.patterns_lint.proofs.BeginningLemmas.{covered_if}
use Rattle.patterns_lint.proofs.branches.is_covered.Goals as goal

pub returns : goal.returns
returns c =
    covered_if (flags_of c.args.known.now.flags).unicode (view (spanned_of c.args.later).expr)
    (view (spanned_of c.args.earlier).expr) c.begins_within.result c.begins_within.ensures
