use Rattle.std.proofs.Common.{[], refl, ap, sym, subst, ◌∙◌}
use Rattle.fancy_syntax.specs.Machine.{IsPart, top}
use Rattle.fancy_syntax.specs.Parsed.{state}
use Rattle.fancy_syntax.specs.View.{views}
use Rattle.fancy_syntax.proofs.MachineLemmas.{running_start}
use Rattle.fancy_syntax.proofs.grammar.parser.Parser.new.Goals as goal

pub returns-clause-reading : goal.returns-clause-reading
returns-clause-reading c l =
    let f = c.new.ensures in
    record {
      is = [];
      trees = [];
      same = ap views c.in_ok-with_capacity.ensures.items;
      running = running_start (state c.args.start) l _ _ [] (c.reserve_exact.ensures.items ∙ c.new-2.ensures.items) refl
          f.branches f.pieces
          (subst (λ g. IsPart c.args.start.flags.ignore_numbered_groups g top) (sym f.open_part) tt);
      found = c.new-3.ensures.found;
    }
