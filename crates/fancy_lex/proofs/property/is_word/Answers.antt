use Rattle.fancy_lex.proofs.PropertyLemmas.{same_word}
use Rattle.fancy_lex.proofs.property.is_word.Goals as goal

pub returns : goal.returns
returns c = same_word _ _ _ c.utf8.name c.utf8.word c.requires.small c.eq_ignore_ascii_case.ensures.test
