-- Ids: the names that can be used in references.
use Rattle.std.specs.Prelude.{ℕ, Bool, true, false, ◌||◌, ◌==◌, if◌then◌else◌, [], ◌∷◌, Option, Some, None}
use Rattle.ucd_category.specs.declared.GeneralCategory.{GeneralCategory}
use Rattle.ucd_category.specs.declared.GeneralCategory.TheVariants.{DecimalNumber, LetterNumber, OtherNumber}
use Rattle.unicode.specs.Binary.{is_alphabetic}
use Rattle.unicode.specs.GeneralCategory.{general_category}
use Prim.Native.Char.{code}
use Rattle.fancy_lex.specs.Text.{Text}

-- Nd, Nl or No
abbrev pub is_number_category : GeneralCategory → Bool
is_number_category DecimalNumber = true
is_number_category LetterNumber = true
is_number_category OtherNumber = true
is_number_category _ = false

-- a letter or a number in any script, or `_`
unfoldable pub is_id_char : ℕ → Bool
is_id_char c = (c == code "_" || is_alphabetic c) || is_number_category (general_category c)

-- all the id characters at the front, and the text after them
unfoldable pub id_run : Text → Text × Text
id_run [] = ([], [])
id_run (c ∷ t) = if is_id_char c then (c ∷ (id_run t).0, (id_run t).1) else ([], c ∷ t)

-- the same pair, if its first part has one character or more
abbrev pub nonempty_front : Text × Text → Option (Text × Text)
nonempty_front ([], v) = None
nonempty_front (c ∷ w, v) = Some (c ∷ w, v)

-- an id is one or more id characters, all those at the front: the id, and the text after it
unfoldable pub id : Text → Option (Text × Text)
id t = nonempty_front (id_run t)
