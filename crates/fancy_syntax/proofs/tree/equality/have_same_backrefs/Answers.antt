use Rattle.std.proofs.lemmas.Bool.Decides.{Decides-at}
use Rattle.std.proofs.lemmas.Slice.Eq.{bytes_eq-Decides}
use Rattle.fancy_syntax.proofs.tree.equality.have_same_backrefs.Goals as goal

pub returns : goal.returns
returns c = Decides-at _ _ c.eq.ensures (bytes_eq-Decides _ _)
