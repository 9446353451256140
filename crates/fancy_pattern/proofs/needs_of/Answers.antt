use Rattle.std.proofs.Common.{◌++◌, refl, sym, ap, ◌∙◌}
use Rattle.fancy_grammar.specs.PatternNeeds.{both, with_needs}
use Rattle.fancy_grammar.specs.PatternWalk.{needs_listed}
use Rattle.fancy_syntax.specs.View.{view}
use Rattle.fancy_pattern.specs.ContextViews.{listed, met}
use Rattle.fancy_pattern.proofs.KnownLemmas.{met_tree, keeps_both}
use Rattle.fancy_pattern.proofs.needs_of.Goals as goal

pub returns-then-are_met_by_leaves : goal.returns-then-are_met_by_leaves
returns-then-are_met_by_leaves c =
    let f = c.args.flags in
    let are = c.are_met_by_leaves.ensures.0 c.if-are_met_by_leaves.true in
    record {
      known = met f;
      nodes = (c.new.ensures.items, (refl, are));
      leaves = ap (with_needs f) c.no_needs.ensures
          ∙ sym (met_tree both keeps_both f f.oniguruma_mode (view c.args.tree.now) are);
    }

pub returns : goal.returns
returns c = record {
  known = listed;
  nodes = c.in_ok-needs.ensures.list
      ∙ ap (λ l. l ++ needs_listed c.args.flags.oniguruma_mode (view c.args.tree.now)) c.in_ok-listed.ensures.items;
  leaves = ap (with_needs c.args.flags) c.in_ok-needs.ensures.common;
}
