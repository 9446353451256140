-- What other dialects read otherwise, by a node and its text.
use Rattle.std.specs.Prelude.{◌≡◌, ◌⊎◌, ◌==◌, ◌&&◌, ℕ, Bool, true, false, List, [], ◌∷◌, codes, Contains}
use Rattle.fancy_grammar.specs.Tree.{Tree, any, assertion, literal, delegate, subroutine_call, repeat, concat}
use Rattle.dialects.specs.declared.difference.Difference.{Difference}
use Rattle.dialects.specs.declared.difference.Difference.TheVariants as difference

-- the escapes for hexadecimal digits and for all other characters
abbrev pub digit_escapes : List (List ℕ)
digit_escapes = codes "\\h" ∷ codes "\\H" ∷ []

-- the escapes for the start and the end of a word
abbrev pub word_escapes : List (List ℕ)
word_escapes = codes "\\<" ∷ codes "\\>" ∷ []

-- the escapes for the start and the end of the text, and for where the last match ended
abbrev pub position_escapes : List (List ℕ)
position_escapes = codes "\\A" ∷ codes "\\G" ∷ codes "\\z" ∷ []

-- the escapes for control characters whose letters JavaScript does not escape
abbrev pub control_escapes : List (List ℕ)
control_escapes = codes "\\a" ∷ codes "\\e" ∷ []

-- the escapes for where the match is to start, and for a line break
abbrev pub match_escapes : List (List ℕ)
match_escapes = codes "\\K" ∷ codes "\\R" ∷ []

-- one of the escapes, each a backslash and a letter, that JavaScript reads as the letter
abbrev pub IsLetterEscape : List ℕ → Type 0
IsLetterEscape w = Contains position_escapes w ⊎ Contains control_escapes w ⊎ Contains match_escapes w

-- whether it is a dot, or an escape that is like one
abbrev pub is_any : Tree → Bool
is_any (any newline crlf) = true
is_any _ = false

-- whether it is a class
abbrev pub is_class : Tree → Bool
is_class (delegate text casei) = true
is_class _ = false

-- whether it is an assertion
abbrev pub is_assertion : Tree → Bool
is_assertion (assertion a) = true
is_assertion _ = false

-- whether it is a literal
abbrev pub is_literal : Tree → Bool
is_literal (literal text casei) = true
is_literal _ = false

-- whether it is a call of a group
abbrev pub is_call : Tree → Bool
is_call (subroutine_call n) = true
is_call _ = false

-- whether it is a quantifier of one or more on another one
abbrev pub is_repeat_of_repeat : Tree → Bool
is_repeat_of_repeat (repeat (repeat t low high is_greedy) lo hi greedy) = (lo == 1) && (hi == 0xFFFF_FFFF_FFFF_FFFF)
is_repeat_of_repeat _ = false

-- whether it is a quantifier that may repeat zero times
abbrev pub is_repeat_from_zero : Tree → Bool
is_repeat_from_zero (repeat t lo hi greedy) = lo == 0
is_repeat_from_zero _ = false

-- whether it may be a text of literals
abbrev pub is_literal_text : Tree → Bool
is_literal_text (literal text casei) = true
is_literal_text (concat ts) = true
is_literal_text _ = false

-- the node with this text is spelled so
abbrev pub IsSpelled : Difference → Tree → List ℕ → Type 0
IsSpelled difference.HexadecimalDigit t w = (is_class t ≡ true) × Contains digit_escapes w
IsSpelled difference.VerticalTab t w = (is_literal t ≡ true) × (w ≡ codes "\\v")
IsSpelled difference.WordBoundary t w = (is_assertion t ≡ true) × Contains word_escapes w
IsSpelled difference.EndOfText t w = (is_assertion t ≡ true) × (w ≡ codes "\\Z")
IsSpelled difference.EscapedLetter t w = (is_call t ≡ true) ⊎ IsLetterEscape w
IsSpelled difference.AnyButLineFeed t w = (is_any t ≡ true) × (w ≡ codes "\\N")
IsSpelled difference.AnyCharacter t w = (is_any t ≡ true) × (w ≡ codes "\\O")
IsSpelled difference.NumberedCall t w = is_call t ≡ true
IsSpelled difference.RepeatedBraces t w = is_repeat_of_repeat t ≡ true
IsSpelled difference.MissingCount t w = is_repeat_from_zero t ≡ true
IsSpelled difference.WordCondition t w = is_literal_text t ≡ true
IsSpelled _ t w = ⊥
