use Rattle.std.proofs.Common.{length, chars}
use denote.Text.{Utf8}
use denote.Shadow.{shadow}
use Rattle.fancy_lex.proofs.FlagWordLemmas.{ReadsLetters}
use Rattle.fancy_lex.proofs.flag_word.letters.Given as goal

abbrev pub invariant-loop-letter : goal.invariant-loop-letter
invariant-loop-letter l = record {
  text : shadow (Utf8 l.rest);
  read : ReadsLetters (chars l.word) (chars l.rest) l.flags;
}

abbrev pub decreases-loop-letter : goal.decreases-loop-letter
decreases-loop-letter l = length l.rest
