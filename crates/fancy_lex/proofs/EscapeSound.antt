-- The leaf of an escape is sound: a reference or call is inside the escape, and a byte is not an ASCII one.
use Rattle.std.proofs.Common.{◌≡◌, ℕ, ◌≤◌, Bool, true, false, ◌==◌, ◌&&◌, nat_le, not, [], ◌∷◌, arith}
use Rattle.std.proofs.Common.{◌+◌, Some, rules}
use Rattle.std.proofs.lemmas.Bool.{cond_both}
use Rattle.std.proofs.lemmas.Bool.Decides.{nat_tests}
use Rattle.std.specs.Char.{is_ascii_digit}
use Prim.Native.Char.{code}
use Rattle.fancy_lex.specs.Boundary as boundaries
use Rattle.fancy_lex.specs.BoundarySteps as boundary_steps
use Rattle.fancy_lex.specs.Characters.{◌∈◌}
use Rattle.fancy_lex.specs.Escape.{escape, escape_at, number_escape, call_escape, backref_leaf, property}
use Rattle.fancy_lex.specs.Escape.{outside, lone_escape, lone_outside}
use Rattle.fancy_lex.specs.EscapeReference.{group_number, numbered_reference, back_reference, subroutine_call}
use Rattle.fancy_lex.specs.Escaped.{Escape, literal_bytes}
use Rattle.fancy_lex.specs.Escaped.{backref, subroutine_call as called}
use Rattle.fancy_lex.specs.Hex as hexes
use Rattle.fancy_lex.specs.LayoutSteps.{layout}
use Rattle.fancy_lex.specs.Property.{read_property}
use Rattle.fancy_lex.specs.Reading.{Reading, gives, fails, ◌>=>◌, layout_reading}
use Rattle.fancy_lex.specs.Referred.{Reference, Call}
use Rattle.fancy_lex.specs.Text.{Text, EndsWith as Ends, strip, reach_of}
use Rattle.fancy_lex.specs.declared.flags.Flags.{Flags}
use Rattle.fancy_lex.proofs.LeaveLaws.{ends_whole, ends_past}
use Rattle.fancy_lex.proofs.LoneLemmas.{AtRows, of_lone}
use Rattle.fancy_lex.proofs.ReadingLemmas.{choose_both}
use Rattle.fancy_lex.proofs.ReferenceLaws.{takes_numbered_reference, takes_back_reference, takes_subroutine_call}
use Rattle.fancy_lex.proofs.ReferencePositions.{IfGives, ReferenceAt, CallAt, numbered_reference_at, back_reference_at}
use Rattle.fancy_lex.proofs.ReferencePositions.{subroutine_call_at}
use Rattle.fancy_lex.proofs.TakeLaws.{Takes, TakesOrFails, takes, takes_less}

-- p is the reach of a suffix of t that has a character or more before u
pub record LiesBefore (t u : Text) (p : ℕ) : Type 0 where
  pub tail : Text
  pub ends : Ends t tail
  pub takes : Takes 1 tail u
  pub reach : p ≡ reach_of tail

-- the leaf of an escape of t with u after it: a byte that is not an ASCII one, a reference or call inside the escape,
-- or another leaf
abbrev pub IsSound : Text → Text → Escape → Type 0
IsSound t u (literal_bytes b) = (0x80 ≤ b) × (b ≤ 0xFF)
IsSound t u (backref r casei) = LiesBefore t u r.reach
IsSound t u (called c) = LiesBefore t u c.reach
IsSound t u _ = Unit {0}

-- the same for a reading of t
abbrev pub Sound : Text → Reading Escape → Type 0
Sound t (gives e u) = IsSound t u e
Sound t (fails e) = Unit {0}

before_past : (c : ℕ) (t u : Text) (p : ℕ) → LiesBefore t u p → LiesBefore (c ∷ t) u p
before_past c t u p h = record { tail = h.tail; ends = ends_past c t h.tail h.ends; takes = h.takes; reach = h.reach }

past_one : (c : ℕ) (t u : Text) (e : Escape) → IsSound t u e → IsSound (c ∷ t) u e
past_one c t u (backref r casei) h = before_past c t u r.reach h
past_one c t u (called r) h = before_past c t u r.reach h
past_one c t u e h = h

sound_past : (c : ℕ) (t : Text) (o : Reading Escape) → Sound t o → Sound (c ∷ t) o
sound_past c t (gives e u) h = past_one c t u e h
sound_past c t (fails e) h = tt

sound_both : {A : Type 0} (t : Text) (o : Reading A) (f : A → Text → Reading Escape) →
    ((a : A) (u : Text) → Sound t (f a u)) → Sound t (o >=> f)
sound_both t (gives a u) f h = h a u
sound_both t (fails e) f h = tt

module _ (f : Flags) where
  sound_backref_leaf : (t : Text) (o : Reading Reference) → TakesOrFails (reach_of t) 1 t o →
      IfGives (ReferenceAt (reach_of t)) o → Sound t (backref_leaf f o)
  sound_backref_leaf t (gives r u) (takes a) e = record { tail = t; ends = ends_whole t; takes = a; reach = e }
  sound_backref_leaf t (fails z) h e = tt

  sound_calling : (t : Text) (o : Reading Call) → TakesOrFails (reach_of t) 1 t o →
      IfGives (CallAt (reach_of t)) o →
      Sound t (o >=> (λ c u. gives (called c) u))
  sound_calling t (gives c u) (takes a) e = record { tail = t; ends = ends_whole t; takes = a; reach = e }
  sound_calling t (fails z) h e = tt

  sound_number_escape : (inside : Bool) (p : ℕ) (t : Text) → Sound t (number_escape f inside p t)
  unfolding number_escape
  sound_number_escape inside p t =
      cond_both inside _ _ (Sound t) (λ _. sound_both t (group_number t) _ (λ k u. tt))
      (λ _. sound_backref_leaf t (numbered_reference t) (takes_numbered_reference t) (numbered_reference_at t))

  sound_named : (t : Text) → Sound t (backref_leaf f (back_reference t))
  sound_named t =
      sound_backref_leaf t (back_reference t)
      (takes_less (reach_of t) 3 t (omega arith) (takes_back_reference t)) (back_reference_at t)

  sound_call : (p c : ℕ) (t : Text) → Sound t (call_escape p c t)
  unfolding call_escape
  sound_call p c [] = tt
  sound_call p c (d ∷ t) =
      sound_calling (d ∷ t) (subroutine_call (d ∷ t)) (takes_subroutine_call (d ∷ t))
      (subroutine_call_at (d ∷ t))

  sound_coded : (width h v : ℕ) (t u : Text) → Sound t (hexes.leaf_of_value f width h v u)
  unfolding hexes.leaf_of_value
  sound_coded width h v t u =
      cond_both (width == 2 && not f.unicode && nat_le 0x80 v && nat_le v 0xFF) _ _ (Sound t)
      (λ e. high (width == 2) (not f.unicode) e)
      (λ _. cond_both (hexes.is_scalar v) _ _ (Sound t) (λ _. tt) (λ _. tt))
    where
      high : (a b : Bool) → (a && b && nat_le 0x80 v && nat_le v 0xFF) ≡ true → (0x80 ≤ v) × (v ≤ 0xFF)
      high true true e = (grind (arith, nat_tests, e), grind (arith, nat_tests, e))
      high true false e = absurd cc
      high false b e = absurd cc

  sound_hex : (width : ℕ) (t : Text) → Sound t (hexes.hex f width t)
  unfolding hexes.hex
  sound_hex width t =
      sound_both t (layout_reading (layout f.ignore_space t)) _
      (λ _ u. sound_both t (hexes.value f.ignore_space (reach_of u) width u) _
      (λ v w. sound_coded width (reach_of u) v t w))

  sound_property : (inside : Bool) (p c : ℕ) (t : Text) → Sound t (property f inside p c t)
  unfolding property
  sound_property inside p c [] = tt
  sound_property inside p c (d ∷ t) = choose_both (Sound (d ∷ t)) (read_property (c ∈ "P") (d ∷ t)) _ _ (λ q _. tt) tt

  sound_boundary : (p : ℕ) (negated : Bool) (t : Text) →
      Sound t (boundary_steps.boundary f.ignore_space p negated t)
  unfolding boundary_steps.boundary boundary_steps.named_boundary
  sound_boundary p negated t =
      sound_both t (layout_reading (layout f.ignore_space t)) _
      (λ _ u. choose_both (Sound t) (strip (code "{") u) _ _
      (λ v _. sound_both t (layout_reading (layout f.ignore_space v)) _
      (λ _ w. cond_both (boundaries.at_count w) _ _ (Sound t) (λ _. tt) (λ _. braces v))) tt)
    where
      braces : (v : Text) → Sound t (boundary_steps.named_boundary f.ignore_space p negated v)
      braces v =
          sound_both t (boundary_steps.name f.ignore_space p _ v) _
          (λ w u. choose_both (Sound t) (boundaries.boundary_of_name negated w) _ _ (λ a _. tt) tt)

  sound_outside : (p c : ℕ) (t : Text) → Sound t (outside f p c t)
  unfolding outside
  sound_outside p c t =
      let P = Sound t in
      cond_both (c ∈ "k") _ _ P (λ _. sound_named t) (λ _.
      cond_both (c ∈ "g") _ _ P (λ _. sound_call p c t) (λ _.
      cond_both (c ∈ "bB") _ _ P (λ _. sound_boundary p _ t) (λ _. tt)))

  sound_lone : (inside : Bool) (c : ℕ) (t u : Text) (e : Escape) → lone_escape f inside c ≡ Some e → IsSound t u e
  sound_lone inside c t u =
      of_lone (IsSound t u) f inside c (λ _. tt) (search rules)
      (cond_both inside _ _ (AtRows (IsSound t u) c) (λ _. search rules) (λ _. outside_rows))
    where
      outside_rows : AtRows (IsSound t u) c (lone_outside f c)
      outside_rows = search rules

  -- each escape is sound
  pub sound_escape : (inside : Bool) (t : Text) → Sound t (escape f inside t)
  unfolding escape_at
  sound_escape inside [] = tt
  sound_escape inside (c ∷ t) =
      let P = Sound (c ∷ t) in
      let p = reach_of (c ∷ t) + 1 in
      cond_both (is_ascii_digit c) _ _ P (λ _. sound_number_escape inside p (c ∷ t)) (λ _.
      cond_both (c ∈ "x") _ _ P (λ _. sound_past c t _ (sound_hex 2 t)) (λ _.
      cond_both (c ∈ "u") _ _ P (λ _. sound_past c t _ (sound_hex 4 t)) (λ _.
      cond_both (c ∈ "U") _ _ P (λ _. sound_past c t _ (sound_hex 8 t)) (λ _.
      cond_both (c ∈ "pP") _ _ P (λ _. sound_past c t _ (sound_property inside p c t)) (λ _.
      choose_both P (lone_escape f inside c) _ _ (sound_lone inside c (c ∷ t) t)
      (cond_both inside _ _ P (λ _. tt) (λ _. sound_past c t _ (sound_outside p c t))))))))
