-- The relation of a boundary holds exactly of the function's result.
use Rattle.std.proofs.Common.{◌≡◌, ◌≢◌, ℕ, zero, suc, ◌<◌, Bool, true, false, ◌==◌, [], ◌∷◌, length, List, Result}
use Rattle.std.proofs.Common.{Option, Some, None, refl, ap, ◌∙◌, subst, arith}
use Rattle.std.proofs.lemmas.Bool.Decides.{nat_tests}
use Rattle.std.specs.Borrow.{Bor}
use Prim.Native.Char.{code}
use Rattle.fancy_lex.specs.declared.error.ReadError.{ReadError}
use Rattle.fancy_lex.specs.declared.escape.Assertion.{Assertion}
use Rattle.fancy_lex.specs.declared.escape.Escaped.{Escaped}
use Rattle.fancy_lex.specs.Boundary.{boundary_of_name, unnamed_boundary, at_count}
use Rattle.fancy_lex.specs.BoundarySteps.{name, named_boundary, boundary}
use Rattle.fancy_lex.specs.Boundary.{BracedName, close, character, open_layout, no_end, Braces, Boundary}
use Rattle.fancy_lex.specs.Boundary.{no_brace, count, known, unknown, name_error, comment_open_before}
use Rattle.fancy_lex.specs.Boundary.{comment_open_inside}
use Rattle.fancy_lex.specs.Escaped.{Escape, assertion}
use Rattle.fancy_lex.specs.EscapeViews.{escape_of}
use Rattle.fancy_lex.specs.Located.{Located}
use Rattle.fancy_lex.specs.ErrorTable.{comment_not_closed, name_of_no_boundary}
use Rattle.fancy_lex.specs.Layout.{Before}
use Rattle.fancy_lex.specs.LayoutSteps.{Skipped, rest, failed, layout}
use Rattle.fancy_lex.specs.Reading.{Reading, gives, fails, ◌>=>◌, Returns, Derives}
use Rattle.fancy_lex.specs.Text.{Text, strip}
use Rattle.fancy_lex.proofs.BoundaryLaws.{name_open, name_unclosed, name_close, name_step}
use Rattle.fancy_lex.proofs.LayoutLaws.{layout_sound, layout_complete, unclosed_sound, unclosed_complete, layout_length}
use Rattle.fancy_lex.proofs.ReadingLemmas.{derives_returned, only_returned}
use Rattle.fancy_lex.proofs.TextLemmas.{strip_is, strip_same}

brace_is : (c : ℕ) → (c == code "}") ≡ true → c ≡ code "}"
brace_is c e = grind (arith, nat_tests)

no_brace_is : (c : ℕ) → (c == code "}") ≡ false → c ≢ code "}"
no_brace_is c e = grind (arith, nat_tests)

brace_is_not : (c : ℕ) → c ≢ code "}" → (c == code "}") ≡ false
brace_is_not c e = grind (arith, nat_tests)

-- ---- the name in braces

module _ (x : Bool) (p : ℕ) where
  -- the function's result, with more steps left than there are characters
  module _ (k : ℕ) (more : (u : Text) → length u < k → BracedName x p u (name x p k u)) (t : Text)
      (few : length t < suc k) where
    named_rest : (c : ℕ) (u : Text) → layout x t ≡ rest (c ∷ u) → (b : Bool) → (c == code "}") ≡ b →
        BracedName x p t (name x p (suc k) t)
    named_rest c u e true h =
        rw (name_close x p k t c u e h)
        (close (subst (λ d. Before x t (d ∷ u)) (brace_is c h) (layout_sound x t (c ∷ u) e)))
    named_rest c u e false h =
        let short = layout_length x t (c ∷ u) e in
        rw (name_step x p k t c u e h)
        (character (no_brace_is c h) (layout_sound x t (c ∷ u) e) (more u (omega arith)))

    named_at : (s : Skipped) → layout x t ≡ s → BracedName x p t (name x p (suc k) t)
    named_at (failed q) e = rw (name_open x p k t q e) (open_layout (unclosed_sound x t q e))
    named_at (rest []) e = rw (name_unclosed x p k t e) (no_end (layout_sound x t [] e))
    named_at (rest (c ∷ u)) e = named_rest c u e (c == code "}") refl

  named : (k : ℕ) (t : Text) → length t < k → BracedName x p t (name x p k t)
  named zero t l = absurd (omega arith)
  named (suc k) t l = named_at k (named k) t l (layout x t) refl

  -- each result in the relation is the function's: by induction on the derivation
  name_is : (k : ℕ) {t : Text} {o : Reading Text} → BracedName x p t o → length t < k → name x p k t ≡ o
  name_is zero h l = absurd (omega arith)
  name_is (suc k) {t} (close {v} b) l = name_close x p k t (code "}") v (layout_complete x t _ b) refl
  name_is (suc k) {t} (character {c} {u} d b h) l =
      let e = layout_complete x t _ b in
      let short = layout_length x t (c ∷ u) e in
      name_step x p k t c u e (brace_is_not c d)
      ∙ ap (λ o. o >=> (λ w v. gives (c ∷ w) v)) (name_is k h (omega arith))
  name_is (suc k) {t} (open_layout {q} b) l = name_open x p k t q (unclosed_complete x t q b)
  name_is (suc k) {t} (no_end b) l = name_unclosed x p k t (layout_complete x t [] b)

-- ---- the boundary after its letter

module _ (x : Bool) (p : ℕ) (negated : Bool) where
  result_open : (t : Text) (q : ℕ) → layout x t ≡ failed q → boundary x p negated t ≡ fails (comment_not_closed q)
  unfolding boundary
  result_open t q e = rw e refl

  result_no_brace : (t u : Text) → layout x t ≡ rest u → strip (code "{") u ≡ None →
      boundary x p negated t ≡ gives (unnamed_boundary negated) t
  unfolding boundary
  result_no_brace t u e s = rw (e, s) refl

  result_inside : (t u i : Text) (q : ℕ) → layout x t ≡ rest u → strip (code "{") u ≡ Some i →
      layout x i ≡ failed q →
      boundary x p negated t ≡ fails (comment_not_closed q)
  unfolding boundary
  result_inside t u i q e s l = rw (e, s, l) refl

  result_count : (t u i v : Text) → layout x t ≡ rest u → strip (code "{") u ≡ Some i → layout x i ≡ rest v →
      at_count v ≡ true → boundary x p negated t ≡ gives (unnamed_boundary negated) t
  unfolding boundary
  result_count t u i v e s l c = rw (e, s, l, c) refl

  result_named : (t u i v : Text) → layout x t ≡ rest u → strip (code "{") u ≡ Some i → layout x i ≡ rest v →
      at_count v ≡ false → boundary x p negated t ≡ named_boundary x p negated i
  unfolding boundary
  result_named t u i v e s l c = rw (e, s, l, c) refl

  result_known : (i w v : Text) (a : Assertion) → name x p (suc (length i)) i ≡ gives w v →
      boundary_of_name negated w ≡ Some a →
      named_boundary x p negated i ≡ gives (assertion a) v
  unfolding named_boundary
  result_known i w v a e b = rw (e, b) refl

  result_unknown : (i w v : Text) → name x p (suc (length i)) i ≡ gives w v → boundary_of_name negated w ≡ None →
      named_boundary x p negated i ≡ fails (name_of_no_boundary p negated w)
  unfolding named_boundary
  result_unknown i w v e b = rw (e, b) refl

  result_not_read : (i : Text) (f : Located) → name x p (suc (length i)) i ≡ fails f →
      named_boundary x p negated i ≡ fails f
  unfolding named_boundary
  result_not_read i f e = rw e refl

  -- the relation holds of the function's result
  by_name : (t i : Text) → Braces x t i false → (o : Reading Text) → name x p (suc (length i)) i ≡ o →
      BracedName x p i o →
      Boundary x p negated t (named_boundary x p negated i)
  by_name t i b (fails f) e h = rw (result_not_read i f e) (name_error b h)
  by_name t i b (gives w v) e h = by_word (boundary_of_name negated w) refl where
    by_word : (a : Option Assertion) → boundary_of_name negated w ≡ a →
        Boundary x p negated t (named_boundary x p negated i)
    by_word (Some a) s = rw (result_known i w v a e s) (known b h s)
    by_word None s = rw (result_unknown i w v e s) (unknown b h s)

  module _ (t u i : Text) (e : layout x t ≡ rest u) (s : strip (code "{") u ≡ Some i) where
    braced : Before x t (code "{" ∷ i)
    braced = subst (Before x t) (strip_is (code "{") u i s) (layout_sound x t u e)

    by_count : (v : Text) → layout x i ≡ rest v → (c : Bool) → at_count v ≡ c →
        Boundary x p negated t (boundary x p negated t)
    by_count v l true c = rw (result_count t u i v e s l c) (count (braced, v, layout_sound x i v l, c))
    by_count v l false c =
        let h = by_name t i (braced, v, layout_sound x i v l, c) (name x p (suc (length i)) i) refl
        (named x p (suc (length i)) i (omega arith)) in
        rw (result_named t u i v e s l c) h

    by_inside : (l : Skipped) → layout x i ≡ l → Boundary x p negated t (boundary x p negated t)
    by_inside (failed q) l = rw (result_inside t u i q e s l) (comment_open_inside braced (unclosed_sound x i q l))
    by_inside (rest v) l = by_count v l (at_count v) refl

  by_brace : (t u : Text) → layout x t ≡ rest u → (o : Option Text) → strip (code "{") u ≡ o →
      Boundary x p negated t (boundary x p negated t)
  by_brace t u e None s = rw (result_no_brace t u e s) (no_brace (layout_sound x t u e) s)
  by_brace t u e (Some i) s = by_inside t u i e s (layout x i) refl

  by_layout : (t : Text) (l : Skipped) → layout x t ≡ l → Boundary x p negated t (boundary x p negated t)
  by_layout t (failed q) e = rw (result_open t q e) (comment_open_before (unclosed_sound x t q e))
  by_layout t (rest u) e = by_brace t u e (strip (code "{") u) refl

  -- each result in the relation is the function's
  name_result : {i : Text} {o : Reading Text} → BracedName x p i o → name x p (suc (length i)) i ≡ o
  name_result {i} h = name_is x p (suc (length i)) h (omega arith)

  is_named : (t i : Text) → Braces x t i false → boundary x p negated t ≡ named_boundary x p negated i
  is_named t i (b, v, l, c) =
      result_named t (code "{" ∷ i) i v (layout_complete x t _ b) (strip_same (code "{") i)
      (layout_complete x i v l) c

  pub boundary_is : {t : Text} {o : Reading Escape} → Boundary x p negated t o → boundary x p negated t ≡ o
  boundary_is {t} (no_brace {u} b s) = result_no_brace t u (layout_complete x t u b) s
  boundary_is {t} (count {u} (b, v, l, c)) =
      result_count t (code "{" ∷ u) u v (layout_complete x t _ b) (strip_same (code "{") u)
      (layout_complete x u v l) c
  boundary_is {t} (known {u} {v} {w} {a} b h s) = is_named t u b ∙ result_known u w v a (name_result h) s
  boundary_is {t} (unknown {u} {v} {w} b h s) = is_named t u b ∙ result_unknown u w v (name_result h) s
  boundary_is {t} (name_error {u} {e} b h) = is_named t u b ∙ result_not_read u e (name_result h)
  boundary_is {t} (comment_open_before {q} b) = result_open t q (unclosed_complete x t q b)
  boundary_is {t} (comment_open_inside {q} {u} b l) =
      result_inside t (code "{" ∷ u) u q (layout_complete x t _ b) (strip_same (code "{") u)
      (unclosed_complete x u q l)

pub boundary_reads : (x : Bool) (p : ℕ) (negated : Bool) (t : Text) →
    Boundary x p negated t (boundary x p negated t)
boundary_reads x p negated t = by_layout x p negated t (layout x t) refl

-- ---- the clauses of the reader

module _ (x : Bool) (p : ℕ) (negated : Bool) (t : Text) (r : Result (Escaped × Bor (List ℕ)) ReadError)
    (g : Returns escape_of r (boundary x p negated t)) where
  pub boundary_derives : Derives escape_of r (Boundary x p negated t)
  boundary_derives = derives_returned escape_of r (Boundary x p negated t) (boundary x p negated t)
      (boundary_reads x p negated t) g

  pub boundary_only : (o : Reading Escape) → Boundary x p negated t o → Returns escape_of r o
  boundary_only o h = only_returned escape_of r (boundary x p negated t) o (boundary_is x p negated h) g
