use Rattle.std.proofs.Common.{◌≡◌, ◌+◌, ◌≤◌, arith}
use Rattle.fancy_syntax.specs.View.{view}
use Rattle.backtracking.proofs.SequenceLemmas.{repeat_at, trees_between}
use Rattle.backtracking.proofs.sequences.cut_at.Goals as goal

pub returns : goal.returns
returns c =
    let es = c.args.trees.now in
    let one = c.in_ok-get in
    let inside = c.in_ok-get-2.ensures.lookup in
    let other = c.in_ok-get-3 in
    let start : c.in_ok-checked_add.field-0 ≡ c.args.first + 1 = c.in_ok-checked_add.ensures.1 in
    let order : c.in_ok-checked_add.field-0 ≤ c.args.last = inside.0.0 in
    record {
      order = omega (arith, start, order);
      first = repeat_at es c.args.first one.field-0.now (view c.in_ok-repeated_part.field-0.now) one.ensures.lookup.3.0
          one.ensures.lookup.1 c.in_ok-repeated_part.ensures;
      between = trees_between es c.in_ok-get-2.field-0.now c.args.first c.in_ok-checked_add.field-0 c.args.last start inside.0.2;
      last = repeat_at es c.args.last other.field-0.now (view c.in_ok-repeated_part-2.field-0.now) other.ensures.lookup.3.0
          other.ensures.lookup.1 c.in_ok-repeated_part-2.ensures;
    }
