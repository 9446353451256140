-- The source of a Delegate: a text that the reader turns into the text of the Delegate.
-- Read directly, the text of the Delegate may change: `\p{Zs}` is lowered, `\x09` becomes a TAB, and `\P{^x}` becomes
-- `\p{x}`.
use Rattle.std.specs.Prelude.{ℕ, zero, suc, ◌==◌, Bool, true, false, not, ◌&&◌, ◌||◌, List, [], ◌∷◌}
use Rattle.std.specs.Prelude.{◌++◌, codes, length, Option, Some, None, if◌then◌else◌}
use Rattle.std.specs.Str.{bytes_eq}
use Prim.Native.Char.{code}
use Rattle.fancy_lex.specs.Characters.{◌∈◌}
use Rattle.fancy_lex.specs.Class.{joint}
use Rattle.fancy_lex.specs.Escaped.{hex_class, negated_hex_class}
use Rattle.fancy_lex.specs.Property.{letter}
use Rattle.fancy_lex.specs.Reading.{choose}
use Rattle.fancy_lex.specs.Text.{Text, strip, strip_word, cut_at}
use Rattle.fancy_lex.specs.declared.flags.Flags.{Flags}
use Rattle.fancy_grammar.specs.PatternLetters.{by_letter_or, plain}

-- what the reader writes for an escape, and for no other source
pub record Replaced : Type 0 where
  pub written : Text
  pub escape : Text
  pub negated : Bool  -- a negated set; the reader writes `&&` before it if it has written another negated set

abbrev pub items : Text → Text → Replaced
items written escape = record { written = written; escape = escape; negated = false }

abbrev pub negated_set : Text → Text → Replaced
negated_set written escape = record { written = written; escape = escape; negated = true }

-- with UNICODE, and without
abbrev pub replaced : Bool → List Replaced
replaced true =
    items (codes "\\p{Zs}\\x09") (codes "\\p{blank}")
    ∷ items (codes "\\x00-\\x1F\\x7F-\\x9F") (codes "\\p{cntrl}")
    ∷ items (codes "[\\p{White_Space}\\p{C}]") (codes "\\P{graph}")
    ∷ items (codes "[\\p{C}\\t\\n\\v\\f\\r]") (codes "\\P{print}")
    ∷ negated_set (codes "[^\\p{White_Space}\\p{C}]") (codes "\\p{graph}")
    ∷ negated_set (codes "[^\\p{C}\\t\\n\\v\\f\\r]") (codes "\\p{print}")
    ∷ []
replaced false = items (codes "\\t ") (codes "\\p{blank}") ∷ []

-- a part of a source: its text, the rest of the Delegate's text after it, and whether it is a negated set
pub record Part : Type 0 where
  pub source : Text
  pub rest : Text
  pub negated : Bool

abbrev pub part : Text → Text → Part
part source rest = record { source = source; rest = rest; negated = false }

-- ---- what is replaced

-- with `&&` before it if needed; `seen` says whether the source so far has a negated set
abbrev pub written_after : Bool → Replaced → Text
written_after seen r = joint (seen && r.negated) ++ r.written

-- the first of these that the text begins with
abbrev pub replaced_part : Bool → List Replaced → Text → Option Part
replaced_part seen [] t = None
replaced_part seen (r ∷ l) t =
    choose (strip_word (written_after seen r) t)
    (λ u. Some (record { source = r.escape; rest = u; negated = r.negated }))
    (replaced_part seen l t)

-- ---- what is not

-- a property by its name, without the closing brace; the reader removes one caret and inverts the letter, so one caret
-- more and the other letter are written
abbrev pub named_front : Bool → Text → Text
named_front upper name =
    choose (strip (code "^") name) (λ t. letter (not upper) ++ (codes "{^^" ++ t)) (letter upper ++ (codes "{" ++ name))

abbrev pub named_property : Bool → Text → Text
named_property upper name = named_front upper name ++ codes "}"

-- the property with this letter, whose name or opening brace is next; no reader leaves the brace open
abbrev pub property_part : Bool → Text → Part
property_part upper [] = part (letter upper) []
property_part upper (c ∷ t) =
    if not (c == code "{") then part (letter upper ++ (c ∷ [])) t
    else choose (cut_at (code "}") t) (λ q. part (named_property upper q.0) q.1) (part (letter upper) (c ∷ t))

-- the character, or the escape that it begins
abbrev pub single_part : ℕ → Text → Part
single_part c [] = part (by_letter_or c (plain c)) []
single_part c (d ∷ t) =
    if not (c == code "\\") then part (by_letter_or c (plain c)) (d ∷ t)
    else if d ∈ "pP" then property_part (d ∈ "P") t
    else part (c ∷ d ∷ []) t

-- ---- part by part

-- the part that begins with the character c before t
abbrev pub part_at : Bool → Bool → ℕ → Text → Part
part_at unicode seen c t = choose (replaced_part seen (replaced unicode) (c ∷ t)) (λ p. p) (single_part c t)

-- the source of a text, part by part, of n parts at most; `seen` says whether the source before it has a negated set
unfoldable pub parts_in : Bool → Bool → ℕ → Text → Text
parts_in unicode seen n [] = []
parts_in unicode seen zero (c ∷ t) = []
parts_in unicode seen (suc n) (c ∷ t) =
    let p = part_at unicode seen c t in
    p.source ++ parts_in unicode (seen || p.negated) n p.rest

-- the source of a whole text: each part takes a character or more, so that its length is enough
abbrev pub source_from : Bool → Bool → Text → Text
source_from unicode seen t = parts_in unicode seen (length t) t

abbrev pub source : Bool → Text → Text
source unicode t = source_from unicode false t

-- the two hex classes have escapes that no case flag applies to, for when the flag is on
abbrev pub delegate_text : Flags → Bool → Text → Text
delegate_text f casei s =
    if f.casei && not casei && bytes_eq s hex_class then codes "\\h"
    else if f.casei && not casei && bytes_eq s negated_hex_class then codes "\\H"
    else source f.unicode s
