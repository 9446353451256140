-- The keys of JSON under which a text is a pattern.
use Rattle.std.specs.Prelude.{ℕ, List, [], ◌∷◌, codes}

-- the keys of the rules in TextMate's grammars
abbrev pub rule_keys : List (List ℕ)
rule_keys = codes "match" ∷ codes "begin" ∷ codes "end" ∷ codes "while" ∷ []

-- the keys of a grammar of TextMate as a whole
abbrev pub grammar_keys : List (List ℕ)
grammar_keys = codes "firstLineMatch" ∷ codes "foldingStartMarker" ∷ codes "foldingStopMarker" ∷ []
