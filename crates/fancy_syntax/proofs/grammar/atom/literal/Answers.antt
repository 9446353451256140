use Rattle.std.proofs.Common.{◌∙◌, [], ◌∷◌, ◌++◌, ap}
use Rattle.std.proofs.lemmas.Str.{chars-nil, IsUtf8-nil}
use Rattle.fancy_lex.specs.Text.{Text}
use Rattle.fancy_lex.proofs.TextLemmas.{chars_pushed}
use Rattle.fancy_grammar.specs.Tree.{literal}
use Rattle.fancy_syntax.proofs.TreeLemmas.{view_Literal}
use Rattle.fancy_syntax.proofs.grammar.atom.literal.Goals as goal

pub returns : goal.returns
returns c =
    view_Literal _ _ ∙ ap (λ (t : Text). literal t c.args.casei)
    (rw (c.in_ok-val.ensures.ok, c.encode_utf8.ensures.value)
    (chars_pushed [] c.args.c IsUtf8-nil c.ranges.c.0 ∙ ap (λ (t : Text). t ++ c.args.c ∷ []) chars-nil))
