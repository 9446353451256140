use Rattle.std.proofs.Common.{◌≡◌, ◌≤◌, ◌<◌, length}
use Rattle.fancy_grammar.specs.Depth.{max_depth}
use Rattle.fancy_grammar.specs.Quantified as spec
use Rattle.fancy_syntax.specs.Log.{Log}
use Rattle.fancy_syntax.specs.Recording.{adjacent_recorded}
use Rattle.fancy_syntax.specs.Parsed.{state}
use Rattle.fancy_syntax.specs.View.{view}
use Rattle.fancy_syntax.proofs.grammar.quantified.quantify_adjacent.Given as goal

abbrev pub invariant-loop-past : goal.invariant-loop-past
invariant-loop-past g l = record {
  value : spec.adjacent spec.max_adjacent l.fn.depth (view l.fn.tree) (state l.fn.current)
      ≡ spec.adjacent l.more l.depth (view l.tree) (state l.current);
  deep : l.depth < max_depth;
  within : length l.current.rest.now ≤ length l.fn.current.rest.now;
  spans : (m : Log) → g.S.Spanning.records l.fn.spans m → (n : Log) × g.S.Spanning.records l.spans n
      × (adjacent_recorded spec.max_adjacent (view l.fn.tree) (state l.fn.current) m
      ≡ adjacent_recorded l.more (view l.tree) (state l.current) n);
}

abbrev pub decreases-loop-past : goal.decreases-loop-past
decreases-loop-past g l = l.more
