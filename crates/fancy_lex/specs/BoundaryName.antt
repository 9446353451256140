-- The name of a boundary, as it is matched against the known names and as an error reports it.
use Rattle.std.specs.Prelude.{ℕ, suc, Bool, List, [], ◌∷◌, ◌++◌, length, codes, Option, Some, None, option_and_then}
use Prim.Native.Char.{code}
use Rattle.fancy_lex.specs.declared.escape.Assertion.{Assertion}
use Rattle.fancy_lex.specs.declared.escape.boundary.NotClosed.{NotClosed}
use Rattle.fancy_lex.specs.declared.escape.boundary.NotClosed.TheVariants.{Comment, Braces}
use Rattle.fancy_lex.specs.Boundary.{boundary_names}
use Rattle.fancy_lex.specs.BoundarySteps.{name}
use Rattle.fancy_lex.specs.Escaped.{Escape}
use Rattle.fancy_lex.specs.Located.{Located, invalid_escape}
use Rattle.fancy_lex.specs.ErrorTable.{boundary_start, comment_not_closed, boundary_not_closed}
use Rattle.fancy_lex.specs.LayoutSteps.{past_layout}
use Rattle.fancy_lex.specs.Reading.{Reading, error_at, ◌>=>◌, choose}
use Rattle.fancy_lex.specs.Text.{Text, strip}

-- the text after the word and a closing brace, with layout before each character, if the text begins with them
unfoldable pub after_name : Bool → Text → Text → Option Text
after_name x [] t = option_and_then (strip (code "}")) (past_layout x t)
after_name x (c ∷ word) t = option_and_then (after_name x word) (option_and_then (strip c) (past_layout x t))

-- the first boundary of a list whose name and closing brace are at the front, and the text after them
unfoldable pub boundary_among : Bool → Text → List (Text × Assertion) → Option (Assertion × Text)
boundary_among x t [] = None
boundary_among x t (row ∷ rows) = choose (after_name x row.0 t) (λ v. Some (row.1, v)) (boundary_among x t rows)

-- the boundary whose name and closing brace are at the front, and the text after them
unfoldable pub known_boundary : Bool → Text → Option (Assertion × Text)
known_boundary x t = boundary_among x t boundary_names

-- the error of a name that is unknown; `out` is the text that the error carries before the name
unfoldable pub name_error_after : Bool → ℕ → Text → ℕ → Text → Reading Escape
name_error_after x p out k t = name x p k t >=> (λ w v. error_at p (invalid_escape (out ++ (w ++ codes "}"))))

-- the same with the opening of the boundary before the name
unfoldable pub name_error : Bool → ℕ → Bool → Text → Reading Escape
name_error x p negated t = name_error_after x p (boundary_start negated) (suc (length t)) t

-- the error of a name without a closing brace, for the code's cause
abbrev pub not_closed : ℕ → NotClosed → Located
not_closed p (Comment q) = comment_not_closed q
not_closed p Braces = boundary_not_closed p
