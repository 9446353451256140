use Rattle.std.proofs.Common.{arith}
use Rattle.std.proofs.lemmas.Option.{IfSome_then}
use Rattle.fancy_syntax.specs.View.{view}
use Rattle.backtracking.proofs.SequenceLemmas.{is_repeat, group_of_repeat}
use Rattle.backtracking.proofs.sequences.+repeated_part.Goals as goal

pub returns-in-Group : goal.returns-in-Group
returns-in-Group t c =
    IfSome_then c.repeated_part.result c.repeated_part.ensures
    (λ part k. group_of_repeat (view c.args.tree.now) _ (view part.now) c.in-Group.ensures k)

pub returns-then-saturating_sub-gt-SMALL_LIMIT : goal.returns-then-saturating_sub-gt-SMALL_LIMIT
returns-then-saturating_sub-gt-SMALL_LIMIT t c =
    let repeat = c.in-Repeat in
    is_repeat (view c.args.tree.now) _ repeat.lo repeat.hi repeat.ensures.0 repeat.ensures.1 (omega arith)
