use Rattle.std.proofs.Common.{chars, refl, rules}
use Rattle.fancy_grammar.specs.PatternSource.{single_part}
use Rattle.fancy_pattern.specs.Source.{part_of}
use Rattle.fancy_pattern.proofs.OutputLemmas.{adding_ends}
use Rattle.fancy_pattern.proofs.SourceWalk.{begins_replaced, begins_single, part_shorter, part_written, seen_still}
use Rattle.fancy_pattern.proofs.SourceWalk.{source_done}
use Rattle.fancy_pattern.proofs.source.put_source.Goals as goal

pub loop-c-smaller-in-Some-replaced_at : goal.loop-c-smaller-in-Some-replaced_at
loop-c-smaller-in-Some-replaced_at c =
    let found = c.in-Some-replaced_at.found in
    part_shorter c.args.unicode c.loop-c.seen (chars c.loop-c.rest.now) (chars found.rest.now) (part_of found)
    (begins_replaced _ _ c.in-Some.c (chars c.in-Some.tail.now) _ found c.in-Some.ensures.value
    (c.in-Some-replaced_at.ensures _ c.in-Some.ensures.value)) refl

pub loop-c-preserved-in-Some-replaced_at : goal.loop-c-preserved-in-Some-replaced_at
loop-c-preserved-in-Some-replaced_at c =
    let found = c.in-Some-replaced_at.found in
    record {
      text = search rules;
      writing = part_written c.args.out.now c.loop-c.out c.put_text.new.self c.args.unicode
          c.loop-c.seen
          _ (chars c.loop-c.rest.now) (chars found.rest.now) _ (part_of found)
          (begins_replaced _ _ c.in-Some.c (chars c.in-Some.tail.now) _ found c.in-Some.ensures.value
          (c.in-Some-replaced_at.ensures _ c.in-Some.ensures.value)) refl c.loop-c.invariant.writing
          (record { source = c.in_ok-put_text-in-Some-replaced_at.ensures; rest = refl });
    }

pub loop-c-smaller : goal.loop-c-smaller
loop-c-smaller c =
    part_shorter c.args.unicode c.loop-c.seen (chars c.loop-c.rest.now) (chars c.in_ok-rest-in-None.rest.now)
    (single_part c.in-Some.c (chars c.in-Some.tail.now))
    (begins_single _ _ c.in-Some.c (chars c.in-Some.tail.now) _ c.in-Some.ensures.value
    (c.in-None.ensures _ c.in-Some.ensures.value))
    c.in_ok-rest-in-None.ensures.rest

pub loop-c-preserved : goal.loop-c-preserved
loop-c-preserved c =
    record {
      text = search rules;
      writing = part_written c.args.out.now c.loop-c.out c.put_unit.new.out c.args.unicode
          c.loop-c.seen
          _ (chars c.loop-c.rest.now) (chars c.in_ok-rest-in-None.rest.now) _
          (single_part c.in-Some.c (chars c.in-Some.tail.now))
          (begins_single _ _ c.in-Some.c (chars c.in-Some.tail.now) _ c.in-Some.ensures.value
          (c.in-None.ensures _ c.in-Some.ensures.value))
          (seen_still c.loop-c.seen c.in-Some.c (chars c.in-Some.tail.now)) c.loop-c.invariant.writing
          c.in_ok-rest-in-None.ensures;
    }

pub returns : goal.returns
returns c =
    adding_ends _ _ _ _ (source_done c.args.unicode c.loop-c.seen (chars c.loop-c.rest.now)
    c.in_default.ensures.value) c.loop-c.invariant.writing
