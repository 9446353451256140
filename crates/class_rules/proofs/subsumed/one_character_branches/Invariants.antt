use Rattle.std.proofs.Common.{◌<◌, ◌^◌, length}
use Rattle.std.specs.Prelude.{All}
use Rattle.fancy_syntax.specs.Spanned.{remaining_spanned, spanned_of, spanned_children}
use Rattle.class_rules.specs.Branches.{IsBranchOf}
use Rattle.class_rules.proofs.NodeLemmas.{LeftFrom}
use Rattle.class_rules.proofs.subsumed.one_character_branches.Given as goal

abbrev pub invariant-loop-node : goal.invariant-loop-node
invariant-loop-node l = record {
  left : length (spanned_children (spanned_of l.fn.alternation)) < 2 ^ 64 →
      LeftFrom (spanned_of l.fn.alternation) l.index (remaining_spanned l.node-iterator);
  branches : length (spanned_children (spanned_of l.fn.alternation)) < 2 ^ 64 →
      All (IsBranchOf (spanned_of l.fn.alternation)) l.branches.items;
}
