use Rattle.std.proofs.Common.{false, refl}
use Rattle.fancy_syntax.specs.View.{view}
use Rattle.pattern_facts.proofs.FirstLemmas.{set_begins}
use Rattle.pattern_facts.proofs.first.beginning_of_leaf.Goals as goal

pub returns-in-Characters : goal.returns-in-Characters
returns-in-Characters c =
    set_begins c.args.unicode (view c.args.node.now)
    (record { characters = c.in-Characters.characters; can_be_empty = false }) refl
    (rw c.in-Characters.is at c.in_ok-characters.ensures)
