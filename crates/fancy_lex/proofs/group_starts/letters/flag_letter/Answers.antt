use Rattle.fancy_lex.proofs.LetterLemmas.{after_next}
use Rattle.fancy_lex.proofs.group_starts.letters.flag_letter.Goals as goal

pub returns-then-has_no_letter-clause-error_in : goal.returns-then-has_no_letter-clause-error_in
returns-then-has_no_letter-clause-error_in c = after_next _ _ _ _ c.requires c.in-Some.ensures.value

pub returns-then-is_after_minus-clause-error_in : goal.returns-then-is_after_minus-clause-error_in
returns-then-is_after_minus-clause-error_in c = after_next _ _ _ _ c.requires c.in-Some.ensures.value

pub returns-then-clears-clause-error_in : goal.returns-then-clears-clause-error_in
returns-then-clears-clause-error_in c = after_next _ _ _ _ c.requires c.in-Some.ensures.value

pub returns-in-None-clause-error_in : goal.returns-in-None-clause-error_in
returns-in-None-clause-error_in c = after_next _ _ _ _ c.requires c.in-Some.ensures.value
