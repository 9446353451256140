use Rattle.std.proofs.Common.{false, true, ◌≡◌, ◌∷◌, ◌∙◌, sym, ap, rules, chars, None, Bool, not, is_some}
use Prim.Native.Char.{code}
use Rattle.fancy_lex.specs.LayoutSteps.{after_comment_start}
use Rattle.fancy_lex.specs.Text.{Text}
use Rattle.fancy_syntax.specs.Parsed.{state}
use Rattle.fancy_grammar.proofs.PlainLemmas.{unquantified, unquantified_at_end, unquantified_at_paren}
use Rattle.fancy_syntax.proofs.PlainLaws.{unquantified_recorded, unquantified_recorded_at_end, unquantified_recorded_at_paren}
use Rattle.fancy_syntax.proofs.grammar.fast_path.is_unquantified.Goals as goal

pub returns-in_default : goal.returns-in_default
returns-in_default c = record {
  quants = λ _ d left a. unquantified_at_end (state c.args.current) d left a c.in_default.ensures.value;
  spans = λ _ left a l. unquantified_recorded_at_end (state c.args.current) left a l c.in_default.ensures.value;
}

pub returns-then-not-is_suffix-clause-quants : goal.returns-then-not-is_suffix-clause-quants
returns-then-not-is_suffix-clause-quants c e d left a =
    let no_layout : c.is_layout.result ≡ false = search rules in
    unquantified (state c.args.current) _ _ d left a c.in-Some.ensures.value (sym c.is_layout.ensures ∙ no_layout)
    (sym c.if-not-is_suffix.ensures)

pub returns-then-not-is_suffix-clause-spans : goal.returns-then-not-is_suffix-clause-spans
returns-then-not-is_suffix-clause-spans c e left a l =
    let no_layout : c.is_layout.result ≡ false = search rules in
    unquantified_recorded (state c.args.current) _ _ left a l c.in-Some.ensures.value (sym c.is_layout.ensures ∙ no_layout)
    (sym c.if-not-is_suffix.ensures)

-- a parenthesis that begins no comment
no_comment : (t : Text) (b : Bool) → b ≡ is_some (after_comment_start (code "(" ∷ t)) → not b ≡ true →
    ◌≡◌ {A = _} (after_comment_start (code "(" ∷ t)) None
no_comment t b e h = grind rules

pub returns-then-c-eq40-clause-quants : goal.returns-then-c-eq40-clause-quants
returns-then-c-eq40-clause-quants c h d left a =
    unquantified_at_paren (state c.args.current) (chars c.in-Some.rest.now) d left a
    (c.in-Some.ensures.value ∙ ap (λ x. x ∷ chars c.in-Some.rest.now) c.if-c-eq40.true)
    (no_comment (chars c.in-Some.rest.now) _ c.begins_comment.ensures h)

pub returns-then-c-eq40-clause-spans : goal.returns-then-c-eq40-clause-spans
returns-then-c-eq40-clause-spans c h left a l =
    unquantified_recorded_at_paren (state c.args.current) (chars c.in-Some.rest.now) left a l
    (c.in-Some.ensures.value ∙ ap (λ x. x ∷ chars c.in-Some.rest.now) c.if-c-eq40.true)
    (no_comment (chars c.in-Some.rest.now) _ c.begins_comment.ensures h)
