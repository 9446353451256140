-- Nodes that match what their one tree matches.
use Rattle.std.proofs.Common.{Bool, inl, inr, refl, subst}
use Rattle.fancy_grammar.specs.Tree.{Tree, group, concat, alt, no_trees, more_trees}
use Rattle.pattern_matches.specs.Matches.{Matches}
use Rattle.pattern_matches.specs.SameMatches.{SameMatches}

pub group_of : (u : Bool) (t : Tree) → SameMatches u (group t) t
group_of u t = record { there = λ s p q k. k; back = λ s p q k. k }

pub concat_of_one : (u : Bool) (t : Tree) → SameMatches u (concat (more_trees t no_trees)) t
concat_of_one u t = record {
  there = λ s p q k. subst (λ x. Matches u s t p x) k.second k.first;
  back = λ s p q k. record { middle = q; first = k; second = refl };
}

pub alt_of_one : (u : Bool) (t : Tree) → SameMatches u (alt (more_trees t no_trees)) t
alt_of_one u t = record {
  there = λ s p q k. elim k [ inl l ↦ l | inr n ↦ absurd n ];
  back = λ s p q k. inl k;
}
