-- The openings among items, one part after another, and how many of them have a number.
use Rattle.std.proofs.Common.{◌≡◌, ℕ, ◌+◌, Bool, true, false, if◌then◌else◌, List, [], ◌∷◌, ◌++◌, length, length-append}
use Rattle.std.proofs.Common.{refl, ap, ◌∙◌, arith}
use Rattle.fancy_grammar.specs.Ranks.{Opening, is_counted, numbered_openings_in}
use Rattle.fancy_grammar.specs.Items.{Item, opening, reference, openings_in}

pub openings_append : (a b : List Item) → openings_in (a ++ b) ≡ openings_in a ++ openings_in b
openings_append [] b = refl
openings_append (opening o ∷ a) b = ap (λ l. o ∷ l) (openings_append a b)
openings_append (reference r p ∷ a) b = openings_append a b

pub length_openings : (a b : List Item) →
    length (openings_in (a ++ b)) ≡ length (openings_in a) + length (openings_in b)
length_openings a b = ap length (openings_append a b) ∙ length-append (openings_in a) (openings_in b)

-- how many have a number
abbrev pub counted : Bool → List Item → ℕ
counted named l = length (numbered_openings_in named (openings_in l))

pub counted_first : (named : Bool) (o : Opening) (c : ℕ) (l : List Item) →
    c + counted named (opening o ∷ l) ≡ (if is_counted named o.name then c + 1 else c) + counted named l
counted_first named o c l = by_name (is_counted named o.name) where
  rest : List Opening
  rest = numbered_openings_in named (openings_in l)

  by_name : (b : Bool) → c + length (if b then o ∷ rest else rest) ≡ (if b then c + 1 else c) + length rest
  by_name true = omega arith
  by_name false = refl
