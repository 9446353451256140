use Rattle.std.proofs.lemmas.Str.{chars_past_char}
use Rattle.fancy_lex.proofs.text.next.Goals as goal

pub returns-clause-value : goal.returns-clause-value
returns-clause-value c =
    let step = c.in_ok-c.ensures.steps.0 in
    chars_past_char c.args.text.now c.as_str.result.now c.in_ok-c.c c.utf8.text cc
