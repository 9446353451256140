-- What a report on a repeat rests on.
use Rattle.std.specs.Prelude.{Bool}
use Rattle.fancy_grammar.specs.Tree.{Tree}
use Rattle.backtracking.specs.ManyWays.{HasManyWays}
use Rattle.backtracking.specs.TwoWays.{AreTwoWays}
use Rattle.backtracking.specs.declared.witness.RepeatWays.{RepeatWays}
use Rattle.backtracking.specs.declared.witness.RepeatWays.TheVariants.{Exponential, NoneFound, Irregular, TooLarge}

-- a repeat of the tree is exponential only with two different ways of matching a word
abbrev pub IsWitnessed : Bool → Tree → RepeatWays → Type 0
IsWitnessed unicode t (Exponential w) = AreTwoWays unicode t w.word.items w.first.items w.second.items
IsWitnessed unicode t NoneFound = Unit {0}
IsWitnessed unicode t Irregular = Unit {0}
IsWitnessed unicode t TooLarge = Unit {0}

-- and then there are 2^n ways of matching the word n times
abbrev pub IsExponential : Bool → Tree → RepeatWays → Type 0
IsExponential unicode t (Exponential w) = HasManyWays unicode t w.word.items w.first.items w.second.items
IsExponential unicode t NoneFound = Unit {0}
IsExponential unicode t Irregular = Unit {0}
IsExponential unicode t TooLarge = Unit {0}
