use Rattle.std.proofs.Common.{◌++◌, ◌∷◌, [], ap, ◌∙◌, chars}
use Rattle.std.proofs.lemmas.Str.{chars-nil}
use Prim.Native.Char.{code}
use Rattle.fancy_lex.specs.Text.{Text}
use Rattle.fancy_lex.proofs.escape.letter_name.Goals as goal

pub returns : goal.returns
returns c =
    c.in_ok-push-2.ensures
    ∙ ap (λ (t : Text). t ++ c.args.c ∷ [])
    (c.in_ok-push.ensures ∙ ap (λ (t : Text). t ++ code "\\" ∷ []) (ap chars c.new-name.ensures.bytes ∙ chars-nil))
