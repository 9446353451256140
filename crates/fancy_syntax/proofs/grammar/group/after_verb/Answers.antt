use Rattle.std.proofs.Common.{option_map, sym, ap, ◌∙◌}
use Rattle.std.specs.Str.{chars}
use Rattle.fancy_syntax.proofs.VerbLemmas.{word_first}
use Rattle.fancy_syntax.proofs.grammar.group.after_verb.Goals as goal

pub returns-in_err-after_word-clause-value : goal.returns-in_err-after_word-clause-value
returns-in_err-after_word-clause-value c =
    word_first _ _ _ _ c.word.ensures.text c.word.ensures.ascii c.in_err-after_word.ensures.value
    ∙ sym (ap (option_map (λ r. chars r.now)) c.from_residual.ensures)

pub returns-clause-value : goal.returns-clause-value
unfolding chars
returns-clause-value c =
    word_first _ _ _ _ c.word.ensures.text c.word.ensures.ascii c.in_ok-after_word.ensures.value
    ∙ c.after_word-2.ensures.value
