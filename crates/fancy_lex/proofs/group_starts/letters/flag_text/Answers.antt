use Rattle.std.proofs.Common.{◌≡◌, ◌∙◌, ap, codes, ◌++◌, sym, chars, string_bytes}
use Rattle.std.proofs.lemmas.Str.{chars-append, IsUtf8-string_bytes}
use Rattle.fancy_lex.proofs.LetterLemmas.{front_read, two_chars}
use Rattle.fancy_lex.proofs.group_starts.letters.flag_text.Goals as goal

pub returns : goal.returns
returns c =
    let opening : chars (string_bytes c.in_ok-text.text) ≡ codes "(?" = ap chars c.in_ok-text.ensures.ok ∙ two_chars in
    ap chars c.in_ok-push_str.ensures.bytes
    ∙ chars-append (string_bytes c.in_ok-text.text) c.front-read.result.now (IsUtf8-string_bytes c.in_ok-text.text)
    ∙ ap (λ t. t ++ chars c.front-read.result.now) opening
    ∙ ap (λ t. codes "(?" ++ t) (sym (front_read _ _ _ c.front-read.ensures))
