use Rattle.std.proofs.Common.{◌∙◌}
use Rattle.std.proofs.lemmas.Bool.Decides.{Decides-at}
use Rattle.fancy_grammar.specs.ReadAs.{unpositioned}
use Rattle.fancy_grammar.proofs.SameLaws.{same-Decides}
use Rattle.fancy_syntax.specs.View.{view}
use Rattle.fancy_syntax.proofs.SameLemmas.{same_without_positions}
use Rattle.fancy_syntax.proofs.expr.Expr.is_same_but_for_positions.Goals as goal

pub returns : goal.returns
returns c =
    let s = view c.args.self.now in
    let t = view c.args.other.now in
    Decides-at _ _ (c.is_same.ensures ∙ same_without_positions s t) (same-Decides (unpositioned s) (unpositioned t))
