-- Long texts of messages, as JSON spells them.
use Rattle.std.specs.Prelude.{◌≡◌, ℕ, List, [], ◌∷◌, ◌++◌, Some}
use Prim.Native.Char.{code}
use Rattle.json.specs.Json.{document, string}

-- between quotation marks the bytes are a string of JSON, which has this text
abbrev pub SpellsText : List ℕ → List ℕ → Type 0
SpellsText bytes text = document (code "\"" ∷ bytes ++ code "\"" ∷ []) ≡ Some (string text)

-- the bytes, cut into parts, spell the text: each part spells its part of it
pub data SpellsInParts : List ℕ → List ℕ → Type 0 where
  no_part : SpellsInParts [] []
  next_part : (bytes part text more : List ℕ) → SpellsInParts bytes text → SpellsText part more →
      SpellsInParts (bytes ++ part) (text ++ more)
