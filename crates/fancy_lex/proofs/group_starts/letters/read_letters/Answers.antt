use Rattle.fancy_lex.proofs.LetterLemmas.{letters_failed}
use Rattle.fancy_lex.proofs.group_starts.letters.read_letters.Goals as goal

pub returns-in-Err-clause-value : goal.returns-in-Err-clause-value
returns-in-Err-clause-value c = letters_failed _ _ _ _ c.in-Err.ensures.value c.error_of.ensures
