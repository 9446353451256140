use Rattle.std.proofs.Common.{true, take, drop}
use Rattle.std.specs.Str.{chars}
use Rattle.fancy_grammar.specs.PatternSource.{replaced}
use Rattle.fancy_pattern.proofs.SourceWalk.{found_either}
use Rattle.fancy_pattern.proofs.source.replaced_with_unicode.Goals as goal

pub returns : goal.returns
unfolding chars
returns c =
    let seen = c.args.seen in
    let text = chars c.args.text.now in
    let rows = replaced true in
    found_either seen text (take 5 rows) (drop 5 rows) c.or-5.result c.or-4.result c.negated_set-2.result c.or-5.ensures
    (found_either seen text (take 4 rows) (take 1 (drop 4 rows)) c.or-4.result c.or-3.result c.negated_set.result
    c.or-4.ensures
    (found_either seen text (take 3 rows) (take 1 (drop 3 rows)) c.or-3.result c.or-2.result c.items-4.result
    c.or-3.ensures
    (found_either seen text (take 2 rows) (take 1 (drop 2 rows)) c.or-2.result c.or.result c.items-3.result c.or-2.ensures
    (found_either seen text (take 1 rows) (take 1 (drop 1 rows)) c.or.result c.items.result c.items-2.result c.or.ensures
    (c.items.ensures seen) (c.items-2.ensures seen)) (c.items-3.ensures seen)) (c.items-4.ensures seen))
    c.negated_set.ensures) c.negated_set-2.ensures
