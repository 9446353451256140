use Rattle.std.proofs.Common.{◌≡◌, [], chars}
use Rattle.class_rules.proofs.CutLemmas.{empty_chars}
use Rattle.class_rules.proofs.mixed_range.plain_range.Goals as goal

pub returns-then-is_empty : goal.returns-then-is_empty
returns-then-is_empty c =
    let e : chars c.in_ok-end.rest.now ≡ [] = empty_chars _ _ c.is_empty.ensures c.if-is_empty.true in
    cc (c.in_ok-start.ensures.value, c.in_ok-hyphen.ensures.value, c.in_ok-end.ensures.value, c.if-hyphen-eq45.true)
