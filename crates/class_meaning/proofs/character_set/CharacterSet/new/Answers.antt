use Rattle.std.proofs.Common.{sym, ◌∙◌}
use Rattle.std.proofs.lemmas.Bool.{and_parts}
use Rattle.class_meaning.proofs.MemberLemmas.{all_characters, without_surrogates_already, without_surrogates}
use Rattle.class_meaning.proofs.character_set.CharacterSet.new.Goals as goal

pub invariant_of-result : goal.invariant_of-result
invariant_of-result c =
    record { characters = all_characters c.args.class.ranges.items (c.is_within.ensures.0 c.if-is_within.true) }

pub returns-then-is_within : goal.returns-then-is_within
returns-then-is_within c = without_surrogates_already c.args.class.ranges.items (c.is_within.ensures.0 c.if-is_within.true)

pub invariant_of-result-2 : goal.invariant_of-result-2
invariant_of-result-2 c =
    let rest = c.in_ok-difference.field-0 in
    record {
      characters = λ d has. (and_parts _ _ (sym (without_surrogates c.args.class.ranges.items _ rest.ranges.items rest.canonical
          c.in_ok-surrogates.ensures c.in_ok-difference.ensures d) ∙ has)).0;
    }

pub returns : goal.returns
returns c =
    let rest = c.in_ok-difference.field-0 in
    without_surrogates c.args.class.ranges.items _ rest.ranges.items rest.canonical c.in_ok-surrogates.ensures
    c.in_ok-difference.ensures
