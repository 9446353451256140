use Rattle.std.proofs.Common.{map, refl, ap, sym, ◌∙◌, is_ok}
use Rattle.std.proofs.lemmas.Bool.{false≢true}
use Rattle.std.proofs.lemmas.Str.{IsUtf8-string_bytes}
use Rattle.fancy_syntax.specs.SpanViews.{span_of, spans_of}
use Rattle.pattern_format.proofs.SpelledLemmas.{no_tree_stays, unchanged_stays}
use Rattle.pattern_format.proofs.SpelledLemmas.{unsettled_stays, is_respelled, respelled_stays, respelled_of, own_of}
use Rattle.pattern_format.proofs.SpelledLemmas.{equal_texts, unequal_texts}
use Rattle.pattern_format.proofs.spelled.in_spelling_of.Goals as goal

pub returns-in-Err-ParseError-clause-spelled : goal.returns-in-Err-ParseError-clause-spelled
returns-in-Err-ParseError-clause-spelled c =
    let only = rw c.in-Err-ParseError.field-0-is at c.in-Err-ParseError.ensures.error.error in
    let none = rw c.as_str-2.ensures.value at only in
    no_tree_stays _ _ _ _ _ _ none.2

pub returns-then-eq-2-clause-spelled : goal.returns-then-eq-2-clause-spelled
returns-then-eq-2-clause-spelled c =
    let spans = rw c.as_str-2.ensures.value at c.in-Ok.ensures.spans in
    let is = respelled_of _ _ _ _ _ _ _ _ _ _ _ c.as_bytes.ensures.value c.as_bytes-2.ensures.value
    (c.deref-2.ensures.value ∙ c.in_ok-kept.ensures) (ap (map span_of) c.deref.ensures.value)
    (ap (map span_of) c.deref-3.ensures.value) c.in_ok-bytes.ensures in
    unchanged_stays _ _ _ _ _ _ _ _ spans.only is
    (equal_texts _ _ _ _ _ c.eq-2.ensures c.as_slice.ensures.value c.as_bytes-3.ensures.value c.if-eq-2.true)

pub returns-in_default-clause-spelled : goal.returns-in_default-clause-spelled
returns-in_default-clause-spelled c =
    let spans = rw c.as_str-2.ensures.value at c.in-Ok.ensures.spans in
    let is = respelled_of _ _ _ _ _ _ _ _ _ _ _ c.as_bytes.ensures.value c.as_bytes-2.ensures.value
    (c.deref-2.ensures.value ∙ c.in_ok-kept.ensures) (ap (map span_of) c.deref.ensures.value)
    (ap (map span_of) c.deref-3.ensures.value) c.in_ok-bytes.ensures in
    unsettled_stays _ _ _ _ _ _ _ _ spans.only is
    (λ utf8 settled. absurd (false≢true (sym (ap is_ok c.in_default.is) ∙ c.from_utf8.ensures.succeeds utf8)))

pub returns-then-branch-clause-spelled : goal.returns-then-branch-clause-spelled
returns-then-branch-clause-spelled c =
    let tree = rw c.as_str-2.ensures.value at c.in-Ok.ensures.tree in
    let spans = rw c.as_str-2.ensures.value at c.in-Ok.ensures.spans in
    let kept = c.deref-2.ensures.value ∙ c.in_ok-kept.ensures in
    let is = respelled_of _ _ _ _ _ _ _ _ _ _ _ c.as_bytes.ensures.value c.as_bytes-2.ensures.value kept
    (ap (map span_of) c.deref.ensures.value) (ap (map span_of) c.deref-3.ensures.value) c.in_ok-bytes.ensures in
    let bytes = ap (λ v. v.items) c.in-Ok-from_utf8.ensures.ok in
    let settled = rw c.as_str-3.ensures.value at c.in_ok-is_settled.ensures.0 c.if-branch.true in
    is_respelled _ _ _ _ _ _ _ _ spans.only (bytes ∙ is)
    (λ e. unequal_texts _ _ _ _ _ c.eq.ensures c.as_str.ensures.value refl c.if-eq.false (sym e))
    (unequal_texts _ _ _ _ _ c.eq-2.ensures (c.as_slice.ensures.value ∙ sym bytes) c.as_bytes-3.ensures.value c.if-eq-2.false)
    (_, _, tree.found) spans.found (IsUtf8-string_bytes c.in-Ok-from_utf8.written) settled.0
    (own_of _ _ _ _ _ _ _ _ c.as_bytes.ensures.value kept (ap (map span_of) c.deref.ensures.value) settled.1)

pub returns-then-branch-clause-read : goal.returns-then-branch-clause-read
returns-then-branch-clause-read c =
    λ before. (rw c.as_str-3.ensures.value at c.in_ok-is_settled.ensures.0 c.if-branch.true).0

pub returns-then-branch-clause-again : goal.returns-then-branch-clause-again
returns-then-branch-clause-again c =
    let tree = rw c.as_str-2.ensures.value at c.in-Ok.ensures.tree in
    let spans = rw c.as_str-2.ensures.value at c.in-Ok.ensures.spans in
    let kept = c.deref-2.ensures.value ∙ c.in_ok-kept.ensures in
    let is = respelled_of _ _ _ _ _ _ _ _ _ _ _ c.as_bytes.ensures.value c.as_bytes-2.ensures.value kept
    (ap (map span_of) c.deref.ensures.value) (ap (map span_of) c.deref-3.ensures.value) c.in_ok-bytes.ensures in
    let bytes = ap (λ v. v.items) c.in-Ok-from_utf8.ensures.ok in
    let settled = rw c.as_str-3.ensures.value at c.in_ok-is_settled.ensures.0 c.if-branch.true in
    respelled_stays _ c.args.pattern.now _ _ (spans_of c.args.parsed.now.spans) _ _ _ spans.only (bytes ∙ is)
    (λ e. unequal_texts _ _ _ _ _ c.eq.ensures c.as_str.ensures.value refl c.if-eq.false (sym e))
    (unequal_texts _ _ _ _ _ c.eq-2.ensures (c.as_slice.ensures.value ∙ sym bytes) c.as_bytes-3.ensures.value c.if-eq-2.false)
    (_, _, tree.found) spans.found (IsUtf8-string_bytes c.in-Ok-from_utf8.written) settled.0
    (own_of _ _ _ _ _ _ _ _ c.as_bytes.ensures.value kept (ap (map span_of) c.deref.ensures.value) settled.1)

pub returns-else-branch-clause-spelled : goal.returns-else-branch-clause-spelled
returns-else-branch-clause-spelled c =
    let spans = rw c.as_str-2.ensures.value at c.in-Ok.ensures.spans in
    let kept = c.deref-2.ensures.value ∙ c.in_ok-kept.ensures in
    let is = respelled_of _ _ _ _ _ _ _ _ _ _ _ c.as_bytes.ensures.value c.as_bytes-2.ensures.value kept
    (ap (map span_of) c.deref.ensures.value) (ap (map span_of) c.deref-3.ensures.value) c.in_ok-bytes.ensures in
    let decides = rw c.as_str-3.ensures.value at c.in_ok-is_settled.ensures in
    unsettled_stays _ _ _ _ _ _ _ _ spans.only (ap (λ v. v.items) c.in-Ok-from_utf8.ensures.ok ∙ is)
    (λ utf8 settled. absurd (false≢true (sym c.if-branch.false ∙ decides.1 (
      settled.0,
      own_of _ _ _ _ _ _ _ _ (sym c.as_bytes.ensures.value) (sym kept) (ap (map span_of) (sym c.deref.ensures.value)) settled.1,
    ))))
