-- The line on a terminal that says how far a run is.
use Rattle.std.specs.Prelude.{ℕ, Bool, true, false, List, [], ◌∷◌, codes}

-- what erases the line that the cursor is in: CR, and the escape `ESC [ K`
abbrev pub erasure : List ℕ
erasure = 13 ∷ 27 ∷ codes "[K"

-- what is written before anything else, where the line may be there or not
abbrev pub erasure_if : Bool → List ℕ
erasure_if true = erasure
erasure_if false = []
