-- Bytes of a file with parts of them replaced.
use Rattle.std.specs.Prelude.{◌≤◌, ℕ, List, [], ◌∷◌, ◌++◌, take, drop, string_bytes}
use Rattle.source_literals.specs.declared.replaced.Replacement.{Replacement}

-- the parts are between the two offsets, one after another
abbrev pub AreInOrder : ℕ → List Replacement → ℕ → Type 0
AreInOrder start [] end = start ≤ end
AreInOrder start (p ∷ ps) end =
    (start ≤ p.span.start) × (p.span.start ≤ p.span.end) × AreInOrder p.span.end ps end

-- the bytes with the text of the part in its place
abbrev pub with_text : Replacement → List ℕ → List ℕ
with_text p w = take p.span.start w ++ string_bytes p.text ++ drop p.span.end w

-- the bytes with the parts replaced: the last part first, so that those before it are where they were
abbrev pub replaced : List ℕ → List Replacement → List ℕ
replaced w [] = w
replaced w (p ∷ ps) = with_text p (replaced w ps)
