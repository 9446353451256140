use Rattle.fancy_pattern.proofs.SettledLemmas.{pattern_writes}
use Rattle.fancy_pattern.proofs.WritesLemmas.{on_then}
use Rattle.fancy_syntax.specs.View.{view}
use Rattle.fancy_pattern.proofs.write.put_pattern.Goals as goal

pub returns : goal.returns
returns c = λ m f k names needed is. on_then _ _ _ (c.put_tree.ensures m names)
    (λ w. pattern_writes _ _ _ _ _ _ c.args.agreed m (view c.args.tree.now) f k needed is
    c.in_ok-put_inline_flags.ensures.0
    c.in_ok-put_inline_flags.ensures.1 w)
