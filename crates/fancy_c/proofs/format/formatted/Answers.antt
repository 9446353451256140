use Rattle.std.proofs.lemmas.Str.{IsUtf8-string_bytes}
use Rattle.fancy_c.proofs.FormatLemmas.{formatted_of_bytes}
use Rattle.fancy_c.proofs.ReadLemmas.{error_returned}
use Rattle.fancy_c.proofs.format.formatted.Goals as goal

pub returns-in-Ok-clause-text : goal.returns-in-Ok-clause-text
returns-in-Ok-clause-text c =
    let text = c.in_ok-text.ensures.text in
    formatted_of_bytes _ _ _ _ _ text.0 text.1 (IsUtf8-string_bytes c.in-Ok.formatted.text) c.in-Ok.ensures.formatted

pub returns-in-Err-clause-refusal : goal.returns-in-Err-clause-refusal
returns-in-Err-clause-refusal c =
    let text = c.in_ok-text.ensures.text in
    error_returned c.in-Err.error _ _ _ text.0 text.1 c.in-Err.ensures.error
