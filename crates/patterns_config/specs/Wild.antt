-- Lists of pieces that match lists of items.
use Rattle.std.specs.Prelude.{List, [], ◌∷◌}

-- A star matches any number of items; another piece matches one item that it accepts.
pub data Wild {U I : Type 0} (Star : U → Type 0) (Accepts : U → I → Type 0) : List U → List I → Type 0 where
  end : Wild Star Accepts [] []
  one : {u i us is : _} → ¬ Star u → Accepts u i → Wild Star Accepts us is → Wild Star Accepts (u ∷ us) (i ∷ is)
  none : {u us is : _} → Star u → Wild Star Accepts us is → Wild Star Accepts (u ∷ us) is
  more : {u i us is : _} → Star u → Wild Star Accepts (u ∷ us) is → Wild Star Accepts (u ∷ us) (i ∷ is)

-- Pieces that are no stars are taken from the front, each with an item that it accepts.
pub data Strips {U I : Type 0} (Star : U → Type 0) (Accepts : U → I → Type 0) (us : List U) (is : List I) : List U → List I → Type 0 where
  begin : Strips Star Accepts us is us is
  next : {v j vs js : _} → Strips Star Accepts us is (v ∷ vs) (j ∷ js) → ¬ Star v → Accepts v j → Strips Star Accepts us is vs js

-- no pieces, or a star first
pub data Ends {U : Type 0} (Star : U → Type 0) : List U → Type 0 where
  nothing : Ends Star []
  star : {u us : _} → Star u → Ends Star (u ∷ us)

-- the items that are left after some items
pub data IsRestOf {I : Type 0} (js : List I) : List I → Type 0 where
  same : IsRestOf js js
  skip : {i is : _} → IsRestOf js is → IsRestOf js (i ∷ is)

-- what follows a star matches what some items leave
pub record AfterStar {U I : Type 0} (Star : U → Type 0) (Accepts : U → I → Type 0) (us : List U) (is : List I) : Type 0 where
  pub left : List I
  pub rest : IsRestOf left is
  pub wild : Wild Star Accepts us left
