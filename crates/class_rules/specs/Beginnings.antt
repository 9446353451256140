-- Branches that begin with what another one matches.
use Rattle.std.specs.Prelude.{◌≡◌, ℕ, ◌<◌, ◌≤◌, ◌⊎◌, Bool, true, ◌&&◌, ◌==◌, List, [], ◌∷◌}
use Rattle.fancy_grammar.specs.Tree.{Tree, repeat, concat, list_of}
use Rattle.class_rules.specs.Subsumed.{IsSubsumed}

-- the pieces of a branch
abbrev pub pieces : Tree → List Tree
pieces (concat ts) = list_of ts
pieces t = t ∷ []

-- what the tree repeats; any other tree is itself repeated once
abbrev pub operand : Tree → Tree
operand (repeat t lo hi greedy) = t
operand t = t

-- how often it repeats it at least
abbrev pub least : Tree → ℕ
least (repeat t lo hi greedy) = lo
least t = 1

-- how often it repeats it at most
abbrev pub most : Tree → ℕ
most (repeat t lo hi greedy) = hi
most t = 1

-- the earlier tree repeats one character; the later one repeats a character of the earlier one, and at least as often
abbrev pub StartsWithin : Bool → Tree → Tree → Type 0
StartsWithin unicode later earlier =
    (0 < least earlier) × (least earlier ≤ least later) × IsSubsumed unicode (operand later) (operand earlier)

-- the trees repeat always, and equally often
abbrev pub RepeatAlike : Tree → Tree → Type 0
RepeatAlike later earlier =
    (least later ≡ least earlier) × (most later ≡ least later) × (most earlier ≡ least earlier)

-- whether each of the trees may be repeated no times
abbrev pub are_optional : List Tree → Bool
are_optional [] = true
are_optional (t ∷ ts) = (least t == 0) && are_optional ts

-- The pieces of a later branch begin with what those of an earlier one match: where the later ones match one after
-- another, the earlier ones do too.
abbrev pub BeginsWithin : Bool → List Tree → List Tree → Type 0
BeginsWithin unicode (u ∷ us) (t ∷ ts) =
    StartsWithin unicode u t × ((are_optional ts ≡ true) ⊎ (RepeatAlike u t × BeginsWithin unicode us ts))
BeginsWithin unicode us ts = ⊥
