use Rattle.std.proofs.Common.{arith}
use Rattle.class_meaning.proofs.MemberLemmas.{in_union}
use Rattle.class_meaning.proofs.character_set.CharacterSet.union.Goals as goal

pub invariant_of-result : goal.invariant_of-result
invariant_of-result c =
    let set = c.args.self.now in
    let other = c.args.other.now in
    let either = c.in_ok-union.field-0 in
    let members = in_union set.class.ranges.items other.class.ranges.items either.ranges.items
    set.class.canonical other.class.canonical either.canonical c.in_ok-union.ensures in
    record { characters = λ d has. grind (arith, members d, has, set.characters d, other.characters d) }
