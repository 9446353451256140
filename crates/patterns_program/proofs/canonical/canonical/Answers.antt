use Rattle.std.proofs.Common.{◌≡◌, ◌∙◌, sym, subst, inl, inr, string_bytes}
use Rattle.std.proofs.lemmas.Bool.{false≢true}
use Rattle.std.proofs.lemmas.Slice.Eq.{bytes_eq-Decides}
use Rattle.fancy_lex.specs.Flags.{flags_of}
use Rattle.fancy_syntax.specs.InfoViews.{info_of}
use Rattle.fancy_syntax.specs.SpanViews.{spans_of}
use Rattle.fancy_syntax.specs.View.{view}
use Rattle.patterns_program.specs.Line.{IsLineOf}
use Rattle.patterns_program.proofs.canonical.canonical.Goals as goal

pub returns-in_default-3-clause-good : goal.returns-in_default-3-clause-good
returns-in_default-3-clause-good c =
    let tree = rw c.in-Some.is at c.in_ok-parsed.ensures.tree in
    let spans = rw c.in-Some.is at c.in_ok-parsed.ensures.spans in
    let none = rw c.in_default-3.is at c.in_ok-text.ensures.none in
    λ good. (_, _, _, tree, spans, inr (none tree))

pub returns-then-eq-clause-good : goal.returns-then-eq-clause-good
returns-then-eq-clause-good c =
    let tree = rw c.in-Some.is at c.in_ok-parsed.ensures.tree in
    let spans = rw c.in-Some.is at c.in_ok-parsed.ensures.spans in
    let line = rw c.in-Some-3.is at c.in_ok-text.ensures.some in
    let t = c.in-Some.parsed in
    let same : string_bytes c.in-Some-3.text ≡ c.args.subject.pattern.now =
    sym c.as_str.ensures.value ∙ (bytes_eq-Decides _ _).0 (sym c.eq.ensures ∙ c.if-eq.true) in
    λ good. (
      _,
      _,
      _,
      tree,
      spans,
      inl (subst
          (IsLineOf (flags_of c.args.subject.flags) c.args.subject.pattern.now (view t.tree.expr) (info_of t.tree) (spans_of t.spans))
          same line),
    )

pub returns-clause-changed : goal.returns-clause-changed
returns-clause-changed c =
    let tree = rw c.in-Some.is at c.in_ok-parsed.ensures.tree in
    let spans = rw c.in-Some.is at c.in_ok-parsed.ensures.spans in
    let line = rw c.in-Some-3.is at c.in_ok-text.ensures.some in (
      _,
      _,
      _,
      tree,
      spans,
      line,
      λ e.
          false≢true (sym c.if-eq.false ∙ c.eq.ensures ∙ (bytes_eq-Decides _ _).1 (c.as_str.ensures.value ∙ e)),
    )
