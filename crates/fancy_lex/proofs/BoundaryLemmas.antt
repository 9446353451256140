-- One step of a boundary's name.
use Rattle.std.proofs.Common.{◌≡◌, ◌≢◌, ℕ, zero, suc, pred, ◌<◌, ◌≤◌, Bool, false, ◌==◌, List, [], ◌∷◌, ◌++◌, length}
use Rattle.std.proofs.Common.{codes, Option, Some, None, option_map, refl, ap, sym, ◌∙◌, append_assoc, arith}
use Rattle.std.proofs.lemmas.Bool.Decides.{nat_tests}
use Prim.Native.Char.{code}
use Rattle.fancy_lex.specs.declared.escape.Assertion.{Assertion}
use Rattle.fancy_lex.specs.BoundarySteps.{name}
use Rattle.fancy_lex.specs.Located.{invalid_escape}
use Rattle.fancy_lex.specs.ErrorTable.{boundary_start, comment_not_closed}
use Rattle.fancy_lex.specs.Reading.{Reading, gives, fails, error_at, ◌>=>◌, layout_reading}
use Rattle.fancy_lex.specs.LayoutSteps.{Skipped, rest, failed, layout, past_layout}
use Rattle.fancy_lex.specs.Text.{Text, strip}
use Rattle.fancy_lex.proofs.LayoutLaws.{layout_length}
use Rattle.fancy_lex.specs.BoundaryName.{after_name, boundary_among, name_error_after, name_error}

-- if a comment is not closed, the text begins with no name
pub after_name_open : (x : Bool) (word t : Text) → past_layout x t ≡ None → after_name x word t ≡ None
unfolding after_name
after_name_open x [] t e = rw e refl
after_name_open x (c ∷ w) t e = rw e refl

module _ (x : Bool) (word t : Text) where
  pub after_name_end : (u : Text) → word ≡ [] → past_layout x t ≡ Some u → after_name x word t ≡ strip (code "}") u
  unfolding after_name
  after_name_end u z e = rw (z, after_name, e) refl

  pub after_name_step : (c : ℕ) (w u r : Text) → word ≡ c ∷ w → past_layout x t ≡ Some u → strip c u ≡ Some r →
      after_name x word t ≡ after_name x w r
  unfolding after_name
  after_name_step c w u r z e s = rw (z, after_name, e, s) refl

  pub after_name_other : (c : ℕ) (w u : Text) → word ≡ c ∷ w → past_layout x t ≡ Some u → strip c u ≡ None →
      after_name x word t ≡ None
  unfolding after_name
  after_name_other c w u z e s = rw (z, after_name, e, s) refl

pub ruleset after_name_steps = (after_name_open, after_name_end, after_name_step, after_name_other)

-- the first of the boundaries in a list, by the name that its first row has
module _ (x : Bool) (t word : Text) (a : Assertion) where
  pub named_first : (rows : List (Text × Assertion)) (v : Text) → after_name x word t ≡ Some v →
      boundary_among x t ((word, a) ∷ rows) ≡ Some (a, v)
  unfolding boundary_among
  named_first rows v e = rw e refl

  pub named_later : (rows : List (Text × Assertion)) → after_name x word t ≡ None →
      boundary_among x t ((word, a) ∷ rows) ≡ boundary_among x t rows
  unfolding boundary_among
  named_later rows e = rw e refl

  pub named_last : (o : Option Text) → after_name x word t ≡ o →
      boundary_among x t ((word, a) ∷ []) ≡ option_map (λ v. (a, v)) o
  unfolding boundary_among
  named_last None e = rw e refl
  named_last (Some v) e = rw e refl

-- layout whose reading gives a rest has that rest
pub rest_from_reading : (o : Skipped) (u : Text) → layout_reading o ≡ gives tt u → o ≡ rest u
rest_from_reading (rest v) u e = cc
rest_from_reading (failed p) u e = cc

-- a name with one more character
longer : {B : Type 0} (o : Reading Text) (f : Text → Reading B) (c : ℕ) →
    (o >=> (λ w v. gives (c ∷ w) v) >=> (λ w v. f w)) ≡ (o >=> (λ w v. f (c ∷ w)))
longer (gives w v) f c = refl
longer (fails e) f c = refl

same_after : {B : Type 0} (o : Reading Text) (f g : Text → Reading B) → ((w : Text) → f w ≡ g w) →
    (o >=> (λ w v. f w)) ≡ (o >=> (λ w v. g w))
same_after (gives w v) f g h = h w
same_after (fails e) f g h = refl

-- one step of the name that an error reports
module _ (x : Bool) (p : ℕ) (out t : Text) where
  pub name_error_comment : (k q : ℕ) → 0 < k → layout x t ≡ failed q →
      name_error_after x p out k t ≡ fails (comment_not_closed q)
  unfolding name_error_after name
  name_error_comment zero q l e = absurd (omega arith)
  name_error_comment (suc k) q l e = rw e refl

  pub name_error_end : (k : ℕ) (u : Text) → layout_reading (layout x t) ≡ gives tt u → u ≡ [] →
      name_error_after x p out k t ≡ error_at p (invalid_escape (codes "\\b{...}"))
  unfolding name_error_after name
  name_error_end zero u e z = refl
  name_error_end (suc k) u e z = rw (e, z) refl

  module _ (u : Text) (e : layout_reading (layout x t) ≡ gives tt u) (c : ℕ) (r : Text) (q : u ≡ c ∷ r) where
    pub name_error_close : (k : ℕ) (o : Text) → 0 < k → c ≡ code "}" → o ≡ out ++ c ∷ [] →
        name_error_after x p out k t ≡ error_at p (invalid_escape o)
    unfolding name_error_after name
    name_error_close zero o l h s = absurd (omega arith)
    name_error_close (suc k) o l h s = rw (e, q, s, h) refl

    pub name_error_step : (k : ℕ) (o : Text) → 0 < k → c ≢ code "}" → o ≡ out ++ c ∷ [] →
        name_error_after x p out k t ≡ name_error_after x p o (pred k) r
    unfolding name_error_after name
    name_error_step zero o l h s = absurd (omega arith)
    name_error_step (suc k) o l h s =
        let other : (c == code "}") ≡ false = grind (arith, nat_tests) in
        rw (e, q, other, s)
        (longer (name x p k r) (λ w. error_at p (invalid_escape (out ++ (w ++ codes "}")))) c
        ∙ same_after (name x p k r) _ _
        (λ w. ap (λ s. error_at p (invalid_escape s)) (sym (append_assoc out (c ∷ []) (w ++ codes "}")))))

pub name_error_from : (x : Bool) (p : ℕ) (negated : Bool) (out t : Text) → out ≡ boundary_start negated →
    name_error x p negated t ≡ name_error_after x p out (suc (length t)) t
unfolding name_error
name_error_from x p negated out t e = ap (λ o. name_error_after x p o (suc (length t)) t) (sym e)

-- the rest of the text is shorter after a step
pub step_length : (x : Bool) (t u r : Text) (c k : ℕ) → layout_reading (layout x t) ≡ gives tt u → u ≡ c ∷ r →
    length t < k → length r < pred k
step_length x t u r c k e q m = let short = layout_length x t u (rest_from_reading _ u e) in
    shorter k (ap length q) short m where
      shorter : (k : ℕ) → length u ≡ suc (length r) → length u ≤ length t → length t < k → length r < pred k
      shorter zero a b m = absurd (omega arith)
      shorter (suc k) a b m = omega arith
