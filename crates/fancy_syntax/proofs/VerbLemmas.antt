-- The verbs, one after another.
use Rattle.std.proofs.Common.{◌≡◌, ℕ, ◌+◌, ◌<◌, List, [], ◌∷◌, ◌++◌, codes, map, drop, get_or, length, Option, Some, None}
use Rattle.std.proofs.Common.{refl, sym, ap, ◌∙◌, nat_lt, true, chars}
use Rattle.std.specs.List.{list_all}
use Rattle.std.specs.Prelude.{option_and_then}
use Rattle.std.proofs.lemmas.List.{at_drop_more}
use Rattle.std.proofs.lemmas.Str.{chars-IsAscii}
use Rattle.fancy_lex.specs.Reading.{choose}
use Rattle.fancy_lex.specs.Text.{Text, strip, strip_word}
use Rattle.fancy_syntax.proofs.CapacityLemmas.{ascii}
use Rattle.fancy_grammar.specs.Verb.{word, by_word}
use Rattle.fancy_grammar.specs.declared.kinds.BacktrackingControlVerb.{BacktrackingControlVerb}

-- the first of these verbs whose word is next
abbrev pub among : List BacktrackingControlVerb → Text → Option (BacktrackingControlVerb × Text)
among l t = by_word (map (λ v. (word v ++ codes ")", λ u. Some (v, u))) l) t None

-- if the next of them is not there, it is one of those after it
pub verb_later : (l : List BacktrackingControlVerb) (i : ℕ) (d : BacktrackingControlVerb) (t : Text) → i < length l →
    strip_word (word (get_or l i d) ++ codes ")") t ≡ None → among (drop i l) t ≡ among (drop (i + 1) l) t
verb_later l i d t more none =
    at_drop_more (λ m. among m t) l i d more
    ∙ ap (λ o. choose o (λ u. Some (get_or l i d, u)) (among (drop (i + 1) l) t)) none

-- what follows a word, and then another
words_after : (w x t : Text) → strip_word (w ++ x) t ≡ option_and_then (strip_word x) (strip_word w t)
words_after [] x t = refl
words_after (c ∷ w) x t = by_first (λ u. words_after w x u) (strip c t)
  where
    by_first : ((u : Text) → strip_word (w ++ x) u ≡ option_and_then (strip_word x) (strip_word w u)) →
        (o : Option Text) →
        option_and_then (strip_word (w ++ x)) o ≡ option_and_then (strip_word x) (option_and_then (strip_word w) o)
    by_first h None = refl
    by_first h (Some u) = h u

-- a verb's word, read from these bytes, and then the parenthesis
pub word_first : (v : BacktrackingControlVerb) (bs : List ℕ) (t : Text) (o : Option Text) → word v ≡ bs →
    list_all (λ b. nat_lt b 128) bs ≡ true → strip_word (chars bs) t ≡ o →
    strip_word (word v ++ codes ")") t ≡ option_and_then (strip_word (codes ")")) o
word_first v bs t o e a h =
    words_after (word v) (codes ")") t
    ∙ ap (λ w. option_and_then (strip_word (codes ")")) (strip_word w t)) (e ∙ sym (chars-IsAscii bs (ascii bs a)))
    ∙ ap (option_and_then (strip_word (codes ")"))) h
