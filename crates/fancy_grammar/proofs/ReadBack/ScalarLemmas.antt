-- Texts of scalar values.
use Rattle.std.proofs.Common.{◌≡◌, true, [], ◌∷◌, ◌++◌}
use Rattle.std.proofs.lemmas.Bool.{and_from, and_parts}
use Rattle.std.specs.Str.{all_scalars}
use Rattle.fancy_lex.specs.Text.{Text}

pub scalars_append : (a b : Text) → all_scalars a ≡ true → all_scalars b ≡ true → all_scalars (a ++ b) ≡ true
scalars_append [] b h k = k
scalars_append (c ∷ a) b h k = let (x, y) = and_parts _ (all_scalars a) h in and_from _ _ x (scalars_append a b y k)

pub scalars_after : (a b : Text) → all_scalars (a ++ b) ≡ true → all_scalars b ≡ true
scalars_after [] b h = h
scalars_after (c ∷ a) b h = scalars_after a b (and_parts _ (all_scalars (a ++ b)) h).1
