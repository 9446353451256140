-- Changes of texts.
use Rattle.std.specs.Prelude.{◌≡◌, ◌-◌, List, [], ◌∷◌, ◌++◌, length, take, chars, Option, Some, None, option_and_then, if◌then◌else◌}
use Rattle.editor_documents.specs.Position.{Text, from_position, is_after}
use Rattle.editor_documents.specs.declared.position.Encoding.{Encoding}
use Rattle.editor_documents.specs.declared.change.Range.{Range}
use Rattle.editor_documents.specs.declared.change.Change.{Change}
use Rattle.editor_documents.specs.declared.change.Change.TheVariants.{Whole, Part}

-- the text ends with the other
abbrev pub EndsWith : Text → Text → Type 0
EndsWith t end = (w : Text) × (t ≡ w ++ end)

-- the text before its end
abbrev pub before : Text → Text → Text
before t end = take (length t - length end) t

-- the text with the range replaced by a new text; there is no such text if the range ends before it starts, or if the text
-- does not have one of its positions
abbrev pub with_part : Encoding → Range → Text → Text → Option Text
with_part e range new t =
    if is_after range.start range.end then None
    else option_and_then
    (λ from_start. option_and_then
    (λ from_end. Some (before t from_start ++ (new ++ from_end)))
    (from_position e range.end t))
    (from_position e range.start t)

-- the text with the change made
unfoldable pub with_change : Encoding → Text → Change → Option Text
with_change e t (Whole new) = Some (chars new.now)
with_change e t (Part range new) = with_part e range (chars new.now) t

-- the text with the changes made, each in the text that those before it leave
unfoldable pub with_changes : Encoding → Text → List Change → Option Text
with_changes e t [] = Some t
with_changes e t (change ∷ changes) = option_and_then (λ changed. with_changes e changed changes) (with_change e t change)
