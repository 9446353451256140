use Rattle.std.proofs.Common.{sym, ◌∙◌, ap, eqb-true}
use Rattle.regex_hir.specs.Text.{is_scalar}
use Rattle.regex_hir.proofs.TextLemmas.{is_scalar-of_IsScalar}
use Rattle.class_meaning.proofs.MemberLemmas.{in_single, scalar_within}
use Rattle.class_meaning.proofs.character_set.CharacterSet.of_char.Goals as goal

pub invariant_of-result : goal.invariant_of-result
invariant_of-result c =
    let class = c.in_ok-from_ranges.field-0 in
    let scalar = c.ranges.c.0 in
    let members = in_single class.ranges.items c.args.c (scalar_within c.args.c scalar) class.canonical c.in_ok-from_ranges.ensures in
    record {
      characters = λ d has.
          ap is_scalar (eqb-true d c.args.c (sym (members d) ∙ has)) ∙ is_scalar-of_IsScalar c.args.c scalar;
    }

pub returns : goal.returns
returns c =
    let class = c.in_ok-from_ranges.field-0 in
    in_single class.ranges.items c.args.c (scalar_within c.args.c c.ranges.c.0) class.canonical c.in_ok-from_ranges.ensures
