use Rattle.std.proofs.Common.{map, arith}
use Rattle.fancy_syntax.specs.InfoViews.{info_of}
use Rattle.fancy_syntax.specs.TriviaViews.{trivium_of}
use Rattle.fancy_syntax.specs.View.{view}
use Rattle.fancy_c.proofs.NodesLemmas.{is_summary_of, suffices_but_trivia}
use Rattle.fancy_c.proofs.parse_into.fancy_parse_into_nonnull.Goals as goal

pub returns-in-Ok-clause-read : goal.returns-in-Ok-clause-read
returns-in-Ok-clause-read c =
    let p = c.in-Ok.found.parsed in
    let t = view p.tree.expr in
    let m = info_of p.tree in
    λ is. (
      t,
      m,
      p.spans.items,
      is_summary_of _ _ t m _ c.in-Ok.ensures.tree c.write_all.ensures.info,
      c.in-Ok.ensures.spans,
      c.write_all.ensures.read is,
    )

pub returns-in-Ok-clause-trivia : goal.returns-in-Ok-clause-trivia
returns-in-Ok-clause-trivia c = λ is. (
  map trivium_of c.in-Ok.found.trivia.items,
  c.in-Ok.ensures.trivia,
  c.write_all.ensures.count,
  c.write_all.ensures.trivia is,
)

pub returns-in-Ok-clause-short : goal.returns-in-Ok-clause-short
returns-in-Ok-clause-short c =
    let t = view c.in-Ok.found.parsed.tree.expr in
    let m = info_of c.in-Ok.found.parsed.tree in
    λ is none. (
      t,
      m,
      is_summary_of _ _ t m _ c.in-Ok.ensures.tree c.write_all.ensures.info,
      c.write_all.ensures.short is,
    )

pub returns-in-Ok-clause-short_count : goal.returns-in-Ok-clause-short_count
returns-in-Ok-clause-short_count c = λ is none.
    (map trivium_of c.in-Ok.found.trivia.items, c.in-Ok.ensures.trivia, c.write_all.ensures.count)

pub returns-in-Ok-clause-enough : goal.returns-in-Ok-clause-enough
returns-in-Ok-clause-enough c =
    let t = view c.in-Ok.found.parsed.tree.expr in
    let m = info_of c.in-Ok.found.parsed.tree in
    λ enough is none.
    suffices_but_trivia (is_summary_of _ _ t m _ c.in-Ok.ensures.tree c.write_all.ensures.info) enough
    (c.write_all.ensures.short is)

pub returns-in-Ok-clause-message : goal.returns-in-Ok-clause-message
returns-in-Ok-clause-message c =
    let written = c.write_all.ensures in
    record {
      refused = λ is. absurd (omega (arith, written.status, is));
      short_message = λ is some. absurd (some written.no_kind);
      no_utf8 = λ is. absurd (omega (arith, written.status, is));
      no_kind = λ _ _. written.no_kind;
      no_position = λ _ _. written.no_position;
      no_size = λ _. written.no_size;
    }
