use Rattle.std.proofs.lemmas.Bool.Decides.{Decides-at}
use Rattle.fancy_syntax.proofs.InfoLemmas.{names_Decides}
use Rattle.fancy_syntax.proofs.tree.equality.have_same_names.Goals as goal

pub returns : goal.returns
returns c = Decides-at _ _ c.eq.ensures (names_Decides _ _)
