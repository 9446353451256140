-- A text as a pattern: what is written for each character, and the tree that it is read as.
use Rattle.std.specs.Prelude.{◌≡◌, ℕ, Bool, not, ◌&&◌, ◌||◌, List, [], ◌∷◌, ◌++◌, chars, codes, map, is_some}
use Rattle.std.specs.Prelude.{encode_utf8_all}
use Rattle.std.specs.List.{flat_map}
use Rattle.std.specs.Str.{IsUtf8}
use Rattle.fancy_lex.specs.Characters.{is_among, metacharacters}
use Rattle.fancy_lex.specs.Escape.{letter_of}
use Rattle.fancy_lex.specs.Text.{Text}
use Rattle.fancy_lex.specs.declared.flags.Flags.{Flags}
use Rattle.fancy_grammar.specs.PatternLetters.{character, is_printable_layout}
use Rattle.fancy_grammar.specs.ReadAs.{IsReadAs}
use Rattle.fancy_grammar.specs.ReadBack.{info_of_groups}
use Rattle.fancy_grammar.specs.Tree.{Tree, empty, literal, concat, trees_of}

-- whether the character is written after a backslash: as itself, or as its letter
abbrev pub is_escaped : Flags → ℕ → Bool
is_escaped f c = (is_among c (metacharacters ++ codes "]}") || is_some (letter_of c)) || is_printable_layout f c

-- whether its case is ignored; what is written after a backslash has none
abbrev pub is_caseless : Flags → ℕ → Bool
is_caseless f c = f.casei && not (is_escaped f c)

-- what is written for it, whatever stands before and after it
abbrev pub escape_of : Flags → ℕ → Text
escape_of f c = character f (is_caseless f c) c

-- the literal that matches it
abbrev pub literal_of : Flags → ℕ → Tree
literal_of f c = literal (c ∷ []) (is_caseless f c)

-- the tree that matches the text: a literal for each character
abbrev pub tree_of_text : Flags → Text → Tree
tree_of_text f [] = empty
tree_of_text f (c ∷ []) = literal_of f c
tree_of_text f (c ∷ d ∷ w) = concat (trees_of (map (literal_of f) (c ∷ d ∷ w)))

-- w is what is written for the characters, one by one; under the flags it is read as the tree that matches them, without
-- groups, and as nothing else
pub record IsEscapeOf (f : Flags) (t : Text) (w : List ℕ) : Type 0 where
  pub is : w ≡ encode_utf8_all (flat_map (escape_of f) t)
  pub reads_as : IsReadAs f (chars w) (tree_of_text f t) (info_of_groups 0)

-- the bytes are UTF-8, and w is what is written for their characters
abbrev pub IsEscapeOfBytes : Flags → List ℕ → List ℕ → Type 0
IsEscapeOfBytes f bytes w = IsUtf8 bytes × IsEscapeOf f (chars bytes) w
