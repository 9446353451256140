use Rattle.std.proofs.Common.{◌≡◌, ◌∙◌, ◌<◌, ◌^◌, refl, ap, sym, arith, chars, string_bytes}
use Rattle.std.proofs.lemmas.Str.{IsUtf8-string_bytes}
use Rattle.fancy_lex.proofs.TextLemmas.{bytes_chars}
use Rattle.fancy_lex.specs.Text.{bytes}
use Rattle.pattern_files.specs.Line.{breaks_line}
use Rattle.patterns_program.proofs.canonical.line_of.Goals as goal

pub returns-then-breaks_line-clause-none : goal.returns-then-breaks_line-clause-none
returns-then-breaks_line-clause-none c =
    let first = c.in-Some.text in
    let spelled = c.in_ok-text-2.text in
    let text = rw c.in-Some.is at c.in_ok-text.ensures.text in
    λ parsed. (
      string_bytes spelled,
      (string_bytes first, IsUtf8-string_bytes first, text, c.in_ok-text-2.ensures.spelled),
      ap (λ b. breaks_line b c.args.pattern.now) (sym c.as_str.ensures.value) ∙ sym c.breaks_line.ensures ∙ c.if-breaks_line.true,
    )

pub returns-clause-some : goal.returns-clause-some
returns-clause-some c =
    let first = c.in-Some.text in
    let spelled = c.in_ok-text-2.text in
    let text = rw c.in-Some.is at c.in_ok-text.ensures.text in
    record {
      utf8 = IsUtf8-string_bytes spelled;
      is = (string_bytes first, IsUtf8-string_bytes first, text, c.in_ok-text-2.ensures.spelled);
      reads = c.in_ok-text-2.ensures.read (rw c.in-Some.is at c.in_ok-text.ensures.reads_back);
      again = λ rs of. (string_bytes first, IsUtf8-string_bytes first, text, c.in_ok-text-2.ensures.again _ rs refl of);
      unbroken = ap (λ b. breaks_line b c.args.pattern.now) (sym c.as_str.ensures.value) ∙ sym c.breaks_line.ensures ∙ c.if-breaks_line.false;
    }

pub returns-in_default-clause-none : goal.returns-in_default-clause-none
returns-in_default-clause-none c = λ parsed.
    let none = rw c.in_default.is at c.in_ok-text.ensures.parsed in
    let pattern = c.args.pattern.now in
    let few : bytes (chars pattern) < 2 ^ 63 = omega (arith, bytes_chars pattern c.utf8.pattern) in
    absurd (none (chars pattern, parsed, few))
