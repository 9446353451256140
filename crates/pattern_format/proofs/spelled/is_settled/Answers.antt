use Rattle.std.proofs.Common.{chars, map, refl, ap, ap₂, subst, sym, ◌∙◌}
use Rattle.std.proofs.lemmas.Bool.{false≢true}
use Rattle.std.proofs.lemmas.Bool.Decides.{Decides-at}
use Rattle.std.specs.Str.{bytes_eq}
use Rattle.fancy_lex.specs.Flags.{flags_of}
use Rattle.fancy_grammar.specs.ReadAs.{IsReadAs}
use Rattle.fancy_grammar.proofs.ReadAsLaws.{read_as, read_as_only}
use Rattle.fancy_syntax.specs.SpanViews.{span_of, spans_of}
use Rattle.fancy_syntax.specs.View.{view}
use Rattle.pattern_format.proofs.SpelledLemmas.{own_decides, respelled_of}
use Rattle.pattern_format.proofs.spelled.is_settled.Goals as goal

pub returns-in-Err-ParseError : goal.returns-in-Err-ParseError
returns-in-Err-ParseError c =
    let only = rw c.in-Err-ParseError.field-0-is at c.in-Err-ParseError.ensures.error.error in
    (λ e. absurd (false≢true e), λ r. absurd (only.2 r.0.0 _ r.0.1.is))

pub returns-then-not-is_same_but_for_positions : goal.returns-then-not-is_same_but_for_positions
returns-then-not-is_same_but_for_positions c = (
  λ e. absurd (false≢true e),
  λ r. absurd (false≢true (sym c.if-not-is_same_but_for_positions.true
      ∙ c.is_same_but_for_positions.ensures.1 (read_as_only _ _ _ _ _ _ c.in-Ok.ensures.tree.found r.0))),
)

pub returns : goal.returns
returns c =
    let plain = c.args.plain in
    let same = c.is_same_but_for_positions.ensures.0 c.if-not-is_same_but_for_positions.false in
    let reads = subst (IsReadAs (flags_of c.args.flags) (chars c.args.written.now) (view c.args.tree.now.expr)) same.1
    (read_as _ _ _ _ _ c.in-Ok.ensures.tree.found same.0) in
    let spans = map span_of plain.spans.now in
    let again = respelled_of _ plain.text.now _ plain.text.now _ plain.kept.now plain.kept.now spans spans _ _ refl
    c.as_bytes.ensures.value refl refl (ap (map span_of) c.deref.ensures.value) c.in_ok-again.ensures in
    let own = own_decides (flags_of c.args.flags) plain.text.now plain.kept.now spans (spans_of c.in-Ok.read.spans)
    c.args.written.now c.in_ok-again.again.items c.in-Ok.ensures.spans.found c.in-Ok.ensures.spans.only again in
    let equal = Decides-at _ _
    (c.eq.ensures ∙ ap₂ bytes_eq c.as_slice.ensures.value c.as_bytes-2.ensures.value) own in
    (λ e. (reads, equal.0 e), λ r. equal.1 r.1)
