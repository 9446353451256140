-- Some premises of the grammar are functions that loop; here they are stated as relations between a text and what it
-- gives. Each statement is proved, as a clause of `premises`.
use Rattle.std.specs.Prelude.{◌≡◌, ◌↔◌, ℕ, Bool}
use Rattle.fancy_lex.specs.Boundary.{Boundary}
use Rattle.fancy_lex.specs.BoundarySteps.{boundary}
use Rattle.fancy_lex.specs.Class.{class, OuterClass}
use Rattle.fancy_lex.specs.Escaped.{Escape}
use Rattle.fancy_lex.specs.Layout.{Before, Unclosed}
use Rattle.fancy_lex.specs.LayoutSteps.{layout, rest, failed as open_comment}
use Rattle.fancy_lex.specs.Reading.{Reading}
use Rattle.fancy_lex.specs.Text.{Text}
use Rattle.fancy_lex.specs.declared.flags.Flags.{Flags}
use Rattle.fancy_lex.specs.FlagLetters.{Letters, GroupLetters}
use Rattle.fancy_lex.specs.LetterSteps.{letters}

-- layout: what precedes the rest of the text, or an open comment
abbrev pub LayoutIsRelated : Type 0
LayoutIsRelated =
    (x : Bool) (t : Text) →
    ((v : Text) → (layout x t ≡ rest v) ↔ Before x t v)
    × ((p : ℕ) → (layout x t ≡ open_comment p) ↔ Unclosed x t p)

-- a class after its bracket
abbrev pub ClassIsRelated : Type 0
ClassIsRelated = (f : Flags) (t : Text) (o : Reading Text) → (class f t ≡ o) ↔ OuterClass f t o

-- the letters of a flag group
abbrev pub LettersAreRelated : Type 0
LettersAreRelated = (f : Flags) (t : Text) (o : Reading Letters) → (letters f t ≡ o) ↔ GroupLetters f t o

-- a boundary after its letter
abbrev pub BoundaryIsRelated : Type 0
BoundaryIsRelated =
    (x : Bool) (p : ℕ) (negated : Bool) (t : Text) (o : Reading Escape) →
    (boundary x p negated t ≡ o) ↔ Boundary x p negated t o
