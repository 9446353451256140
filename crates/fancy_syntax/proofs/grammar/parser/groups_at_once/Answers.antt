use Rattle.std.proofs.Common.{◌≡◌, ◌+◌, ◌-◌, arith, ap, ◌∙◌, chars, length, take, drop}
use Rattle.std.proofs.lemmas.List.{take_rest}
use Rattle.fancy_syntax.specs.StackCapacity.{open_parens}
use Rattle.fancy_syntax.proofs.StackLemmas.{parens_of_bytes, none_found, first_found, all_counted, most_counted}
use Rattle.fancy_syntax.proofs.grammar.parser.groups_at_once.Goals as goal

pub returns-in_default : goal.returns-in_default
returns-in_default c =
    let text = chars c.args.text.now in
    let none : open_parens c.loop-count.rest.now ≡ 0 =
    none_found c.loop-count.rest.now (rw c.in_default.is at c.memchr.ensures) in
    all_counted text c.loop-count.count
    (omega (arith, none, c.loop-count.invariant.counted, parens_of_bytes c.args.text.now c.utf8.text))
    (omega (arith, c.loop-count-test.true))

pub loop-count-preserved : goal.loop-count-preserved
loop-count-preserved c =
    let rest = c.loop-count.rest.now in
    let back = c.split_at.result.1.now in
    let after : open_parens (take (length back - 1) (drop 1 back)) ≡ open_parens (drop 1 (drop c.in-Some.index rest)) =
    ap open_parens (take_rest back 1 ∙ ap (drop 1) c.split_at.ensures.back) in
    let more : open_parens rest ≡ open_parens (drop 1 (drop c.in-Some.index rest)) + 1 =
    first_found rest c.in-Some.index (rw c.in-Some.is at c.memchr.ensures) in
    record {
      counted = omega (arith, c.loop-count.invariant.counted, more, after);
      below = omega (arith, c.loop-count-test.true);
    }

pub returns : goal.returns
returns c =
    let bytes = parens_of_bytes c.args.text.now c.utf8.text in
    most_counted (chars c.args.text.now) c.loop-count.count
    (omega (arith, bytes, c.loop-count.invariant.counted, c.loop-count-test.false, c.loop-count.invariant.below))
    (omega (arith, c.loop-count-test.false, c.loop-count.invariant.below))
