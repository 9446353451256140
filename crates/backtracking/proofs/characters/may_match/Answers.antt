use Rattle.std.proofs.Common.{sym}
use Rattle.fancy_syntax.specs.View.{view}
use Rattle.class_meaning.specs.EnginePattern.{engine_pattern}
use Rattle.backtracking.proofs.CharacterLemmas.{reads_ranges}
use Rattle.backtracking.proofs.characters.may_match.Goals as goal

pub returns-in-Characters : goal.returns-in-Characters
returns-in-Characters c = record {
  ranges = c.in-Characters.set.class.ranges.items;
  reads =
      reads_ranges (engine_pattern c.args.unicode (view c.args.tree.now)) _ c.in-Characters.set c.in-Characters.is
      c.in_ok-set.ensures;
  holds = sym c.contains.ensures;
}
