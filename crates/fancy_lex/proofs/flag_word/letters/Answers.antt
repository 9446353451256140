use Rattle.fancy_lex.proofs.FlagWordLemmas.{letters_fail}
use Rattle.fancy_lex.proofs.flag_word.letters.Goals as goal

pub returns-in_err-from_letter : goal.returns-in_err-from_letter
returns-in_err-from_letter c =
    rw c.from_residual.ensures
    (letters_fail _ _ _ _ _ c.loop-letter.invariant.read c.in-Some.ensures.value c.in_err-from_letter.ensures)
