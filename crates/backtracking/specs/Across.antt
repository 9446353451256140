-- What a report on two repeats of a concatenation rests on.
use Rattle.std.specs.Prelude.{Bool, List}
use Rattle.fancy_grammar.specs.Tree.{Tree}
use Rattle.backtracking.specs.ManySplits.{HasManySplits}
use Rattle.backtracking.specs.ThreeWays.{AreThreeWays}
use Rattle.backtracking.specs.declared.cut.SequenceWays.{SequenceWays}
use Rattle.backtracking.specs.declared.cut.SequenceWays.TheVariants.{Polynomial, NoneFound, Irregular, TooLarge}

-- they are polynomial only with three ways of matching a word
abbrev pub IsAcross : Bool → Tree → List Tree → Tree → SequenceWays → Type 0
IsAcross unicode x ts y (Polynomial w) =
    AreThreeWays unicode x ts y w.word.items w.first.items w.across.items w.last.items
IsAcross unicode x ts y NoneFound = Unit {0}
IsAcross unicode x ts y Irregular = Unit {0}
IsAcross unicode x ts y TooLarge = Unit {0}

-- and then there are n ways of matching the word n times
abbrev pub IsPolynomial : Bool → Tree → List Tree → Tree → SequenceWays → Type 0
IsPolynomial unicode x ts y (Polynomial w) =
    HasManySplits unicode x ts y w.word.items w.first.items w.across.items w.last.items
IsPolynomial unicode x ts y NoneFound = Unit {0}
IsPolynomial unicode x ts y Irregular = Unit {0}
IsPolynomial unicode x ts y TooLarge = Unit {0}
