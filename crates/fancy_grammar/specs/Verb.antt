-- Words that a text may begin with, and the words of verbs.
use Rattle.std.specs.Prelude.{codes, List, [], ◌∷◌, ◌++◌, map, Option, Some, None}
use Rattle.fancy_lex.specs.Reading.{choose}
use Rattle.fancy_lex.specs.Text.{Text, strip_word}
use Rattle.fancy_grammar.specs.declared.kinds.BacktrackingControlVerb.{BacktrackingControlVerb}
use Rattle.fancy_grammar.specs.declared.kinds.BacktrackingControlVerb.TheVariants.{Fail, Accept, Commit, Skip, Prune}

-- what the first of these words that the text begins with makes of the text after it; `other` if it begins with none
abbrev pub by_word : {A : Type 0} → List (Text × (Text → A)) → Text → A → A
by_word [] t other = other
by_word ((w, f) ∷ l) t other = choose (strip_word w t) f (by_word l t other)

-- the word of a verb, as it is written
abbrev pub word : BacktrackingControlVerb → Text
word Fail = codes "FAIL"
word Accept = codes "ACCEPT"
word Commit = codes "COMMIT"
word Skip = codes "SKIP"
word Prune = codes "PRUNE"

-- each word with the verb that it is read as: `F` is a second word for Fail
abbrev pub verbs : List (Text × BacktrackingControlVerb)
verbs = (codes "F", Fail) ∷ map (λ v. (word v, v)) (Fail ∷ Accept ∷ Commit ∷ Skip ∷ Prune ∷ [])

-- after `(*`: the verb whose word and closing parenthesis are next, and the text after them
unfoldable pub verb_at : Text → Option (BacktrackingControlVerb × Text)
verb_at t = by_word (map (λ v. (v.0 ++ codes ")", λ u. Some (v.1, u))) verbs) t None
