-- Properties: the text after `\p` or `\P`, and the text that is written for the property.
use Rattle.std.specs.Prelude.{ℕ, Bool, true, false, not, ◌==◌, ◌&&◌, ◌||◌, nat_eq, if◌then◌else◌, [], ◌∷◌, ◌++◌}
use Rattle.std.specs.Prelude.{codes, map, Option, Some, None, option_map}
use Rattle.std.specs.Char.{to_ascii_lowercase}
use Rattle.std.specs.List.{starts_with}
use Rattle.std.specs.Str.{bytes_eq}
use Prim.Native.Char.{code}
use Rattle.fancy_lex.specs.Text.{Text, cut_at}
use Rattle.fancy_lex.specs.declared.property.KnownName.{KnownName}
use Rattle.fancy_lex.specs.declared.property.KnownName.TheVariants.{Alnum, Blank, Cntrl, Word, Graph, Print, Cs, Other}

-- a property's name: one character, or the text in braces
pub data PropertyName : Type 0 where
  single : ℕ → PropertyName
  braced : Text → PropertyName

-- a property after `\p`, or after `\P`, which negates it
pub record Property : Type 0 where
  pub negated : Bool
  pub name : PropertyName

-- the name after the letter, and the rest of the text; None if the text is empty, or the brace is not closed
unfoldable pub name_at : Text → Option (PropertyName × Text)
name_at [] = None
name_at (c ∷ t) =
    if c == code "{" then option_map (λ p. (braced p.0, p.1)) (cut_at (code "}") t)
    else Some (single c, t)

-- the property with this name, and the rest of the text
unfoldable pub read_property : Bool → Text → Option (Property × Text)
read_property negated t = option_map (λ p. (record { negated = negated; name = p.0 }, p.1)) (name_at t)

-- how a name is written
pub data Form : Type 0 where
  -- as a set with these items
  set : Text → Form
  -- as the first text, or as the second if the property is negated
  pair : Text → Text → Form

-- the row of the table for this name
abbrev pub look_up : Text → KnownName
look_up name =
    if bytes_eq name (codes "alnum") then Alnum
    else if bytes_eq name (codes "blank") then Blank
    else if bytes_eq name (codes "cntrl") then Cntrl
    else if bytes_eq name (codes "word") then Word
    else if bytes_eq name (codes "graph") then Graph
    else if bytes_eq name (codes "print") then Print
    else if bytes_eq name (codes "cs") then Cs
    else Other

-- the table: how each name is written with UNICODE, and without
abbrev pub form : Bool → KnownName → Text → Form
form unicode Alnum name = if unicode then set (codes "\\p{alpha}\\p{digit}") else set (codes "[:alnum:]")
form unicode Blank name = if unicode then set (codes "\\p{Zs}\\x09") else set (codes "\\t ")
form unicode Cntrl name = if unicode then set (codes "\\x00-\\x1F\\x7F-\\x9F") else set (codes "[:cntrl:]")
form unicode Word name = if unicode then pair (codes "\\w") (codes "\\W") else set (codes "_[:alnum:]")
form unicode Graph name =
    if unicode then pair (codes "[^\\p{White_Space}\\p{C}]") (codes "[\\p{White_Space}\\p{C}]")
    else set (codes "[:graph:]")
form unicode Print name =
    if unicode then pair (codes "[^\\p{C}\\t\\n\\v\\f\\r]") (codes "[\\p{C}\\t\\n\\v\\f\\r]")
    else set (codes "[:print:]")
form unicode Cs name = pair (codes "\\P{any}") (codes "\\p{any}")
form unicode Other name = pair (codes "\\p{" ++ name ++ codes "}") (codes "\\P{" ++ name ++ codes "}")

-- the text of a form, inside a class or outside
abbrev pub form_text : Bool → Bool → Form → Text
form_text inside true (set items) = codes "[^" ++ items ++ codes "]"
form_text true false (set items) = items
form_text false false (set items) = codes "[" ++ items ++ codes "]"
form_text inside true (pair plain turned) = turned
form_text inside false (pair plain turned) = plain

-- the name without a caret in front, which inverts the negation
abbrev pub without_caret : Bool → Text → Bool × Text
without_caret negated [] = (negated, [])
without_caret negated (c ∷ t) = if c == code "^" then (not negated, t) else (negated, c ∷ t)

-- the text with its ASCII letters in lower case
abbrev pub lowercase : Text → Text
lowercase = map to_ascii_lowercase

-- the text that is written for a name in braces, without its caret
abbrev pub braced_text : Bool → Bool → Bool × Text → Text
braced_text unicode inside p = form_text inside p.0 (form unicode (look_up (lowercase p.1)) (lowercase p.1))

-- `\p`, or `\P` for a negated property
abbrev pub letter : Bool → Text
letter negated = if negated then codes "\\P" else codes "\\p"

-- the text that is written for a property
unfoldable pub property_text : Bool → Bool → Property → Text
property_text unicode inside p =
    elim p.name [ single c ↦ letter p.negated ++ c ∷ [] | braced s ↦ braced_text unicode inside (without_caret p.negated s) ]

-- whether the second text occurs in the first
abbrev pub contains_text : Text → Text → Bool
contains_text [] w = starts_with nat_eq [] w
contains_text (c ∷ t) w = starts_with nat_eq (c ∷ t) w || contains_text t w

-- whether the text is a negated set that names properties or other classes
abbrev pub is_negated_set : Text → Bool
is_negated_set t =
    starts_with nat_eq t (codes "[^")
    && (contains_text t (codes "\\p{") || contains_text t (codes "\\P{") || contains_text t (codes "[:"))
