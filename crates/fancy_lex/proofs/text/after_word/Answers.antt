use Rattle.fancy_lex.proofs.TextLemmas.{word_stripped}
use Rattle.fancy_lex.proofs.text.after_word.Goals as goal

pub returns-clause-value : goal.returns-clause-value
returns-clause-value c =
    word_stripped c.args.text.now c.args.word.now c.utf8.text c.utf8.word c.strip_prefix.result
    c.strip_prefix.ensures.cases
