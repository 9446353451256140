use Rattle.std.proofs.Common.{◌≡◌, rules}
use Rattle.fancy_syntax.specs.View.{view, views}
use Rattle.class_rules.specs.Beginnings.{pieces}
use Rattle.class_rules.proofs.BeginningLemmas.{pieces_Concat}
use Rattle.class_rules.proofs.beginnings.pieces.Goals as goal

pub returns : goal.returns
returns c =
    let known : pieces (view c.args.branch.now) ≡ views c.in-Concat.trees.items = pieces_Concat _ _ c.in-Concat.is in
    search rules
