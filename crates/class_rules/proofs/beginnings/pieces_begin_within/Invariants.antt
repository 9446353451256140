use Rattle.fancy_syntax.specs.View.{views}
use Rattle.class_rules.specs.Beginnings.{BeginsWithin}
use Rattle.class_rules.proofs.beginnings.pieces_begin_within.Given as goal

abbrev pub invariant-loop : goal.invariant-loop
invariant-loop l =
    BeginsWithin l.unicode (views l.rest) (views l.needed) → BeginsWithin l.unicode (views l.later) (views l.earlier)
