-- Word boundaries as they are read, one character of a name after another.
use Rattle.std.specs.Prelude.{ℕ, zero, suc, Bool, ◌==◌, if◌then◌else◌, [], ◌∷◌, length}
use Prim.Native.Char.{code}
use Rattle.fancy_lex.specs.Boundary.{boundary_of_name, unnamed_boundary, at_count}
use Rattle.fancy_lex.specs.Escaped.{Escape, assertion}
use Rattle.fancy_lex.specs.ErrorTable.{boundary_not_closed, name_of_no_boundary}
use Rattle.fancy_lex.specs.LayoutSteps.{layout}
use Rattle.fancy_lex.specs.Reading.{Reading, gives, fails, ◌>=>◌, choose, layout_reading}
use Rattle.fancy_lex.specs.Text.{Text, strip}

-- the backslash is at the reach p; if x is true, blanks are layout
module _ (x : Bool) (p : ℕ) where
  -- the name up to the first closing brace outside layout, with layout taken out; k is the number of steps left: each
  -- reads a character, so it is never used up
  unfoldable pub name : ℕ → Text → Reading Text
  name zero t = fails (boundary_not_closed p)
  name (suc k) t =
      layout_reading (layout x t) >=> (λ _ u.
      elim u [
        | [] ↦ fails (boundary_not_closed p)
        | c ∷ v ↦ if c == code "}" then gives [] v else (name k v >=> (λ w v. gives (c ∷ w) v))
      ])

  -- after the opening brace
  unfoldable pub named_boundary : Bool → Text → Reading Escape
  named_boundary negated t =
      name (suc (length t)) t >=> (λ w v.
      choose (boundary_of_name negated w) (λ a. gives (assertion a) v)
      (fails (name_of_no_boundary p negated w)))

  -- after the letter: if no braces belong to the boundary, it ends right there
  unfoldable pub boundary : Bool → Text → Reading Escape
  boundary negated t =
      layout_reading (layout x t) >=> (λ _ u.
      choose (strip (code "{") u)
      (λ inside. layout_reading (layout x inside) >=> (λ _ v.
      if at_count v then gives (unnamed_boundary negated) t else named_boundary negated inside))
      (gives (unnamed_boundary negated) t))
