-- Whether a group gets its number only if it has a name.
use Rattle.std.proofs.Common.{◌≡◌, ℕ, Bool, true, false, List, [], ◌∷◌, length, refl, arith, is_some}
use Rattle.std.proofs.Common.{nat_lt, ◌&&◌}
use Rattle.std.specs.List.{list_any}
use Rattle.fancy_grammar.specs.Ranks.{Opening, is_named, numbered_openings_in}

any_step : (o : Opening) (l : List Opening) (b : Bool) → is_some o.name ≡ b →
    list_any is_named l ≡ nat_lt 0 (length (numbered_openings_in true l)) →
    list_any is_named (o ∷ l) ≡ nat_lt 0 (length (numbered_openings_in true (o ∷ l)))
any_step o l true e h = rw e (grind arith)
any_step o l false e h = rw e h

-- some group has a name if a group is counted by its name
pub any_named : (l : List Opening) → list_any is_named l ≡ nat_lt 0 (length (numbered_openings_in true l))
any_named [] = refl
any_named (o ∷ l) = any_step o l (is_some o.name) refl (any_named l)

pub some_counted : (ignore any : Bool) (n : ℕ) → ignore ≡ true → any ≡ nat_lt 0 n → (n ≡ 0 → ⊥) →
    ignore ≡ (ignore && any)
some_counted ignore any n e h z = rw (e, h) (grind arith)

pub none_counted : (ignore any : Bool) (n : ℕ) → any ≡ nat_lt 0 n → n ≡ 0 → false ≡ (ignore && any)
none_counted true any n h z = rw (h, z) refl
none_counted false any n h z = refl
