-- The text of a quantifier, and how many may follow one another.
use Rattle.std.specs.Prelude.{ℕ, ◌+◌, ◌-◌, ◌==◌, min, nat_lt, Bool, true, false, not, ◌&&◌, ◌||◌, [], ◌++◌, codes}
use Rattle.std.specs.Prelude.{decimal, Option, Some, None, is_none, if◌then◌else◌}
use Rattle.std.proofs.Math.Bool.{beq}
use Prim.Native.Char.{code}
use Rattle.fancy_lex.specs.Text.{Text}
use Rattle.fancy_lex.specs.declared.flags.Flags.{Flags}
use Rattle.fancy_grammar.specs.Quote.{operator, counts_as}
use Rattle.fancy_grammar.specs.Depth.{max_depth}
use Rattle.fancy_grammar.specs.Label.{repeat}
use Rattle.fancy_grammar.specs.Quantified.{max_adjacent}
use Rattle.fancy_grammar.specs.Tree.{Tree, over, atomic_repeat}

-- an atomic group of a Repeat with these counts is what a quantifier is parsed as: a possessive one, or in Oniguruma
-- mode one whose counts are exchanged
abbrev pub is_possessive : Flags → ℕ → ℕ → Bool
is_possessive f lo hi = not f.oniguruma_mode || nat_lt lo hi

-- the tree's text ends with its own quantifier
abbrev pub is_quantified : Flags → Tree → Bool
is_quantified f (over (repeat lo hi greedy) t) = true
is_quantified f (atomic_repeat t lo hi greedy) = is_possessive f lo hi
is_quantified f _ = false

-- the operator for the counts, if it can be used; directly after another quantifier, `?` and `+` would belong to that
-- one
abbrev pub operator_left : Bool → Option ℕ → Option ℕ
operator_left adjacent None = None
operator_left adjacent (Some c) = if adjacent && not (c == code "*") then None else Some c

-- the lazy operator if the quantifier is not greedy, or under SWAP_GREED if it is
abbrev pub lazy_operator : Flags → Bool → Text
lazy_operator f greedy = if beq greedy f.swap_greed then codes "?" else []

abbrev pub possessive_operator : Bool → Text
possessive_operator possessive = if possessive then codes "+" else []

-- the operator or the counts in braces, and what follows; in Oniguruma mode a quantifier in braces is possessive only
-- by exchanged counts
abbrev pub quantifier_by : Flags → Bool → ℕ → ℕ → Bool → Option ℕ → Text
quantifier_by f possessive lo hi greedy m =
    if f.oniguruma_mode && (possessive && is_none m) then
    codes "{" ++ (decimal hi ++ (codes "," ++ (decimal lo ++ codes "}"))) ++ lazy_operator f greedy
    else counts_as lo hi m ++ (lazy_operator f greedy ++ possessive_operator possessive)

abbrev pub quantifier_text : Flags → Bool → Bool → ℕ → ℕ → Bool → Text
quantifier_text f possessive adjacent lo hi greedy =
    quantifier_by f possessive lo hi greedy (operator_left adjacent (operator lo hi))

-- how many quantifiers may follow one another if d groups are open
abbrev pub most_quantifiers : Flags → ℕ → ℕ
most_quantifiers f d = if f.oniguruma_mode then min (max_adjacent + 1) (max_depth - d) else 1
