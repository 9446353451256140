use Rattle.std.proofs.Common.{◌<◌, ◌∙◌, refl, rules, arith, suc, length, [], chars, ap}
use Rattle.std.proofs.lemmas.Result.{err_from_is_err_and}
use Rattle.fancy_lex.proofs.TextLemmas.{bytes_chars}
use Rattle.fancy_lex.specs.Reading.{layout_reading}
use Rattle.fancy_lex.specs.Text.{bytes}
use Rattle.fancy_lex.proofs.LetterLemmas.{after_layout, in_layout_error, in_letter_error, in_end, in_go, letters_start}
use Rattle.fancy_lex.proofs.LetterLemmas.{after_next}
use Rattle.fancy_lex.proofs.group_starts.letters.letters_or_error.Goals as goal

pub loop-current-init : goal.loop-current-init
loop-current-init c = record {
  text = c.utf8.text;
  steps = (
    suc (bytes (chars c.args.text.now)),
    omega (arith, bytes_chars c.args.text.now c.utf8.text),
    letters_start _ _,
  );
  after = ([], refl);
  within = omega arith;
}

pub returns-in-Err-clause-value : goal.returns-in-Err-clause-value
returns-in-Err-clause-value c =
    let (k, h, e) = c.loop-current.invariant.steps in
    e ∙ in_layout_error _ _ _ _ k _ h _ (ap layout_reading (rw c.in-Err.is at c.layout.ensures.value))

pub flag_letter-requires : goal.flag_letter-requires
flag_letter-requires c =
    after_layout _ _ _ _ c.loop-current.invariant.after (rw c.in-Ok.is at c.layout.ensures.derives)

pub returns-in_err-step-clause-value : goal.returns-in_err-step-clause-value
returns-in_err-step-clause-value c =
    let (k, h, e) = c.loop-current.invariant.steps in
    let is = err_from_is_err_and c.from_residual.result c.from_residual.ensures.1 in
    let before = ap layout_reading (rw c.in-Ok.is at c.layout.ensures.value) in
    rw (is.1, is.2) (e ∙ in_letter_error _ _ _ _ k _ h _ before _ c.in_err-step.ensures.value)

pub returns-in-Ends-clause-value : goal.returns-in-Ends-clause-value
returns-in-Ends-clause-value c =
    let (k, h, e) = c.loop-current.invariant.steps in
    e
    ∙ in_end _ _ _ _ k _ h _ (ap layout_reading (rw c.in-Ok.is at c.layout.ensures.value)) _ _
    (rw c.in-Ends.is at c.in_ok-step.ensures.value)

pub loop-current-preserved : goal.loop-current-preserved
loop-current-preserved c =
    let (k, h, e) = c.loop-current.invariant.steps in
    let before = after_layout _ _ _ _ c.loop-current.invariant.after (rw c.in-Ok.is at c.layout.ensures.derives) in
    let within = rw c.in-Ok.is at c.layout.ensures.within in
    let less : length c.in_ok-step.after.now < length c.loop-current.rest.now =
    omega (arith, c.in_ok-step.ensures.shorter, within) in
    let (j, i, f) = in_go _ _ _ _ k _ h _ (ap layout_reading (rw c.in-Ok.is at c.layout.ensures.value)) _ _ _ _ less
    (rw c.in-GoesOn.is at c.in_ok-step.ensures.value) in
    let (x, y) = c.in_ok-step.ensures.one_on in record {
      text = search rules;
      steps = (j, i, e ∙ f);
      after = after_next _ _ _ _ before y;
      within = omega (arith, less, c.loop-current.invariant.within);
    }
