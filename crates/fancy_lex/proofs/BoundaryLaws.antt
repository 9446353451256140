-- A boundary's name, and the known names at the front of a text.
use Rattle.std.proofs.Common.{◌≡◌, ℕ, zero, suc, ◌<◌, Bool, true, false, not, ◌&&◌, ◌==◌, List, [], ◌∷◌, length}
use Rattle.std.proofs.Common.{codes, Option, Some, None, refl, ap, sym, ◌∙◌, arith}
use Rattle.std.proofs.lemmas.Bool.{false≢true, cond-true, cond-false, and_parts}
use Rattle.std.specs.Map.{lookup}
use Rattle.std.specs.Str.{bytes_eq}
use Rattle.std.proofs.lemmas.Slice.Eq.{bytes_eq-Decides}
use Prim.Native.Char.{code}
use Rattle.fancy_lex.specs.declared.escape.Assertion.{Assertion}
use Rattle.fancy_lex.specs.Boundary.{boundary_names, boundary_of_name}
use Rattle.fancy_lex.specs.BoundarySteps.{name, named_boundary}
use Rattle.fancy_lex.specs.BoundaryName.{after_name, boundary_among, known_boundary, name_error, name_error_after}
use Rattle.fancy_lex.specs.Escaped.{assertion}
use Rattle.fancy_lex.specs.Located.{unclosed_open_paren, invalid_escape}
use Rattle.fancy_lex.specs.LayoutSteps.{Skipped, rest, failed, rest_of, layout}
use Rattle.fancy_lex.specs.Reading.{Reading, gives, fails, ◌>=>◌, error_at}
use Rattle.fancy_lex.specs.Text.{Text, strip}
use Rattle.fancy_lex.proofs.BoundaryLemmas.{after_name_open, after_name_end, after_name_step, after_name_other}
use Rattle.fancy_lex.proofs.BoundaryLemmas.{named_first, named_later}
use Rattle.fancy_lex.proofs.LayoutLaws.{layout_length}
use Rattle.fancy_lex.proofs.TextLemmas.{strip_is, strip_same}

-- whether the word has no closing brace
abbrev pub no_brace : Text → Bool
no_brace [] = true
no_brace (c ∷ w) = not (c == code "}") && no_brace w

-- the tests of a word, from the tests of its characters
plain_tests : (c : ℕ) (w : Text) → no_brace (c ∷ w) ≡ true → ((c == code "}") ≡ false) × (no_brace w ≡ true)
plain_tests c w b = by (c == code "}") refl b where
  by : (h : Bool) → (c == code "}") ≡ h → (not h && no_brace w) ≡ true → (h ≡ false) × (no_brace w ≡ true)
  by true e b = absurd (false≢true b)
  by false e b = (refl, b)

-- one step of a name
module _ (x : Bool) (p k : ℕ) (t : Text) where
  pub name_open : (q : ℕ) → layout x t ≡ failed q → name x p (suc k) t ≡ error_at q unclosed_open_paren
  unfolding name
  name_open q e = rw e refl

  pub name_unclosed : layout x t ≡ rest [] → name x p (suc k) t ≡ error_at p (invalid_escape (codes "\\b{...}"))
  unfolding name
  name_unclosed e = rw e refl

  pub name_close : (c : ℕ) (r : Text) → layout x t ≡ rest (c ∷ r) → (c == code "}") ≡ true →
      name x p (suc k) t ≡ gives [] r
  unfolding name
  name_close c r e h = rw (e, h) refl

  pub name_step : (c : ℕ) (r : Text) → layout x t ≡ rest (c ∷ r) → (c == code "}") ≡ false →
      name x p (suc k) t ≡ (name x p k r >=> (λ w v. gives (c ∷ w) v))
  unfolding name
  name_step c r e h = rw (e, h) refl

-- if the text begins with a word and a closing brace, the word is the name: one step, given the same for the steps left
module _ (x : Bool) (p k : ℕ) (v : Text)
    (more : (w r : Text) → no_brace w ≡ true → length r < k → after_name x w r ≡ Some v → name x p k r ≡ gives w v)
    (t : Text) (few : length t < suc k) where
  gives_rest : (u : Text) → layout x t ≡ rest u → (w : Text) → no_brace w ≡ true → after_name x w t ≡ Some v →
      name x p (suc k) t ≡ gives w v
  gives_rest u q [] b e =
      let here = strip_is (code "}") u v (sym (after_name_end x [] t u refl (ap rest_of q)) ∙ e) in
      name_close x p k t (code "}") v (q ∙ ap rest here) refl
  gives_rest u q (c ∷ w) b e = by (strip c u) refl where
    tests : ((c == code "}") ≡ false) × (no_brace w ≡ true)
    tests = plain_tests c w b

    by : (o : Option Text) → strip c u ≡ o → name x p (suc k) t ≡ gives (c ∷ w) v
    by None h = let none = sym (after_name_other x (c ∷ w) t c w u refl (ap rest_of q) h) ∙ e in absurd (cc)
    by (Some r) h =
        let here : u ≡ c ∷ r = strip_is c u r h in
        let after : after_name x w r ≡ Some v =
        sym (after_name_step x (c ∷ w) t c w u r refl (ap rest_of q) h) ∙ e in
        let short = layout_length x t u q in
        let fewer : length r < k = omega (arith, ap length here) in
        let name_is : name x p k r ≡ gives w v = more w r tests.1 fewer after in
        name_step x p k t c r (q ∙ ap rest here) tests.0 ∙ rw name_is refl

  gives_at : (o : Skipped) → layout x t ≡ o → (w : Text) → no_brace w ≡ true → after_name x w t ≡ Some v →
      name x p (suc k) t ≡ gives w v
  gives_at (rest u) q w b e = gives_rest u q w b e
  gives_at (failed m) q w b e = let none = sym (after_name_open x w t (ap rest_of q)) ∙ e in absurd (cc)

-- if the text begins with a word and a closing brace, the word is the name
pub after_name_gives : (x : Bool) (p k : ℕ) (v w t : Text) → no_brace w ≡ true → length t < k →
    after_name x w t ≡ Some v → name x p k t ≡ gives w v
after_name_gives x p zero v w t b l e = absurd (omega arith)
after_name_gives x p (suc k) v w t b l e =
    gives_at x p k v (after_name_gives x p k v) t l (layout x t) refl w b e

-- conversely, the text begins with the name and a closing brace: one step, given the same for the steps left
module _ (x : Bool) (p k : ℕ) (more : (w r v : Text) → name x p k r ≡ gives w v → after_name x w r ≡ Some v)
    (t w v : Text) (e : name x p (suc k) t ≡ gives w v) where
  spells_step : (c : ℕ) (r : Text) → layout x t ≡ rest (c ∷ r) → (c == code "}") ≡ false → (o : Reading Text) →
      name x p k r ≡ o → after_name x w t ≡ Some v
  spells_step c r q h (gives w' v') i =
      let step : gives (c ∷ w') v' ≡ gives w v = rw i at (sym (name_step x p k t c r q h)) ∙ e in
      let word : w ≡ c ∷ w' = cc in
      let left : v' ≡ v = cc in
      after_name_step x w t c w' (c ∷ r) r word (ap rest_of q) (strip_same c r) ∙ more w' r v' i
      ∙ ap Some left
  spells_step c r q h (fails f) i = let step = rw i at (sym (name_step x p k t c r q h)) ∙ e in absurd (cc)

  spells_rest : (c : ℕ) (r : Text) → layout x t ≡ rest (c ∷ r) → (b : Bool) → (c == code "}") ≡ b →
      after_name x w t ≡ Some v
  spells_rest c r q true h =
      let step : gives [] r ≡ gives w v = sym (name_close x p k t c r q h) ∙ e in
      let word : w ≡ [] = cc in
      let left : r ≡ v = cc in
      after_name_end x w t (c ∷ r) word (ap rest_of q) ∙ rw h refl ∙ ap Some left
  spells_rest c r q false h = spells_step c r q h (name x p k r) refl

  spells_at : (o : Skipped) → layout x t ≡ o → after_name x w t ≡ Some v
  spells_at (failed m) q = let step = sym (name_open x p k t m q) ∙ e in absurd (cc)
  spells_at (rest []) q = let step = sym (name_unclosed x p k t q) ∙ e in absurd (cc)
  spells_at (rest (c ∷ r)) q = spells_rest c r q (c == code "}") refl

name_out : (x : Bool) (p : ℕ) (t : Text) → name x p zero t ≡ error_at p (invalid_escape (codes "\\b{...}"))
unfolding name
name_out x p t = refl

pub gives_after_name : (x : Bool) (p k : ℕ) (w t v : Text) → name x p k t ≡ gives w v →
    after_name x w t ≡ Some v
gives_after_name x p zero w t v e = let out = sym (name_out x p t) ∙ e in absurd (cc)
gives_after_name x p (suc k) w t v e = spells_at x p k (gives_after_name x p k) t w v e (layout x t) refl

module _ (x : Bool) (p : ℕ) (t v : Text) where
  braced_word : (w : Text) → no_brace w ≡ true → (a : Assertion) → boundary_of_name false w ≡ Some a →
      after_name x w t ≡ Some v → named_boundary x p false t ≡ gives (assertion a) v
  unfolding named_boundary
  braced_word w b a q e =
      let name_is : name x p (suc (length t)) t ≡ gives w v =
      after_name_gives x p (suc (length t)) v w t b (omega arith) e in
      rw (name_is, q) refl

-- no name in the list has a closing brace
abbrev are_plain : List (Text × Assertion) → Bool
are_plain [] = true
are_plain (row ∷ rows) = no_brace row.0 && are_plain rows

module _ (x : Bool) (t : Text) where
  -- two words, of which one alone is at the front, are different
  differ : (w u v : Text) → after_name x w t ≡ Some v → after_name x u t ≡ None → bytes_eq w u ≡ false
  differ w u v e h = by (bytes_eq w u) refl where
    by : (b : Bool) → bytes_eq w u ≡ b → bytes_eq w u ≡ false
    by false q = q
    by true q =
        let some = sym h ∙ ap (λ s. after_name x s t) (sym ((bytes_eq-Decides w u).0 q)) ∙ e in
        absurd (cc)

  same_word : (w : Text) → bytes_eq w w ≡ true
  same_word w = (bytes_eq-Decides w w).1 refl

  -- the name at the front of a boundary among those in a list
  record Named (rows : List (Text × Assertion)) (v : Text) (a : Assertion) : Type 0 where
    word : Text
    plain : no_brace word ≡ true
    read : after_name x word t ≡ Some v
    is : lookup (λ known. bytes_eq word known) rows ≡ Some a

  named : (rows : List (Text × Assertion)) (v : Text) (a : Assertion) → are_plain rows ≡ true →
      boundary_among x t rows ≡ Some (a, v) → Named rows v a
  unfolding boundary_among
  named [] v a b e = absurd cc
  named (row ∷ rows) v a b e = by (named rows v a) (after_name x row.0 t) refl where
    each : (no_brace row.0 ≡ true) × (are_plain rows ≡ true)
    each = and_parts (no_brace row.0) (are_plain rows) b

    by : (are_plain rows ≡ true → boundary_among x t rows ≡ Some (a, v) → Named rows v a) → (o : Option Text) →
        after_name x row.0 t ≡ o → Named (row ∷ rows) v a
    by more (Some u) h =
        let both = sym (named_first x t row.0 row.1 rows u h) ∙ e in
        let pair : ◌≡◌ {A = Assertion × Text} (row.1, u) (a, v) = cc in
        record {
          word = row.0;
          plain = each.0;
          read = h ∙ ap (λ (q : Assertion × Text). Some q.1) pair;
          is = cond-true _ _ _ (same_word row.0) ∙ ap (λ (q : Assertion × Text). Some q.0) pair;
        }
    by more None h =
        let n = more each.1 (sym (named_later x t row.0 row.1 rows h) ∙ e) in
        record {
          word = n.word;
          plain = n.plain;
          read = n.read;
          is = cond-false _ _ _ (differ n.word row.0 v n.read h) ∙ n.is;
        }

  -- if no name in the list is at the front, a word there is not in the list
  unnamed : (w v : Text) → after_name x w t ≡ Some v → (rows : List (Text × Assertion)) →
      boundary_among x t rows ≡ None → lookup (λ known. bytes_eq w known) rows ≡ None
  unfolding boundary_among
  unnamed w v h [] e = refl
  unnamed w v h (row ∷ rows) e = by (unnamed w v h rows) (after_name x row.0 t) refl where
    by : (boundary_among x t rows ≡ None → lookup (λ known. bytes_eq w known) rows ≡ None) → (o : Option Text) →
        after_name x row.0 t ≡ o → lookup (λ known. bytes_eq w known) (row ∷ rows) ≡ None
    by more (Some u) q = let some = sym (named_first x t row.0 row.1 rows u q) ∙ e in absurd (cc)
    by more None q =
        cond-false _ _ _ (differ w row.0 v h q) ∙ more (sym (named_later x t row.0 row.1 rows q) ∙ e)

pub braced_named : (x : Bool) (p : ℕ) (t v : Text) (a : Assertion) → known_boundary x t ≡ Some (a, v) →
    named_boundary x p false t ≡ gives (assertion a) v
unfolding known_boundary
braced_named x p t v a e = let n = named x t boundary_names v a refl e in braced_word x p t v n.word n.plain a n.is n.read

pub braced_unknown : (x : Bool) (p : ℕ) (t : Text) → known_boundary x t ≡ None →
    named_boundary x p false t ≡ name_error x p false t
unfolding known_boundary named_boundary name_error name_error_after
braced_unknown x p t e = by (name x p (suc (length t)) t) refl where
  by : (o : Reading Text) → name x p (suc (length t)) t ≡ o → named_boundary x p false t ≡ name_error x p false t
  by (gives w v) h =
      let none = unnamed x t w v (gives_after_name x p (suc (length t)) w t v h) boundary_names e in
      rw (h, none) refl
  by (fails f) h = rw h refl

pub braced_negated : (x : Bool) (p : ℕ) (t : Text) → named_boundary x p true t ≡ name_error x p true t
unfolding named_boundary name_error name_error_after
braced_negated x p t = refl

pub ruleset braced_steps = (braced_named, braced_unknown, braced_negated)
