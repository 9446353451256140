-- What escapes require of the flags, and what they refer to.
use Rattle.std.proofs.Common.{◌≡◌, ℕ, ◌+◌, Bool, true, false, not, ◌&&◌, ◌==◌, if◌then◌else◌, []}
use Rattle.std.proofs.Common.{◌∷◌}
use Rattle.std.proofs.Common.{Option, Some, None, IfSome, nat_le, refl, subst}
use Rattle.std.proofs.Common.{arith}
use Rattle.std.proofs.Common.{rules}
use Rattle.std.specs.Prelude.{codes}
use Rattle.std.specs.Char.{is_ascii_digit}
use Rattle.std.specs.Str.{bytes_eq}
use Rattle.std.proofs.lemmas.Bool.{cond_both}
use Rattle.std.proofs.lemmas.Bool.Decides.{nat_tests}
use Prim.Native.Char.{code}
use Rattle.fancy_lex.proofs.LoneLemmas.{AtRows, of_lone}
use Rattle.fancy_lex.proofs.ReadingLemmas.{choose_both}
use Rattle.fancy_lex.proofs.ReferencePositions.{IfGives}
use Rattle.fancy_lex.specs.Boundary as boundaries
use Rattle.fancy_lex.specs.BoundarySteps as boundary_steps
use Rattle.fancy_lex.specs.Characters.{◌∈◌}
use Rattle.fancy_lex.specs.Escape.{escape, escape_at, number_escape, call_escape, property, outside}
use Rattle.fancy_lex.specs.Escape.{lone_escape, lone_outside}
use Rattle.fancy_lex.specs.EscapeReference.{group_number, numbered_reference, back_reference, subroutine_call as called}
use Rattle.fancy_lex.specs.Escaped.{Escape, literal, literal_bytes, assertion, general_newline}
use Rattle.fancy_lex.specs.Escaped.{backref, subroutine_call}
use Rattle.fancy_lex.specs.Hex as hexes
use Rattle.fancy_lex.specs.LayoutSteps.{layout}
use Rattle.fancy_lex.specs.Property.{read_property}
use Rattle.fancy_lex.specs.Reading.{Reading, gives, fails, ◌>=>◌, layout_reading}
use Rattle.fancy_lex.specs.Text.{Text, strip, reach_of}
use Rattle.fancy_lex.specs.declared.escape.Assertion.{Assertion}
use Rattle.fancy_lex.specs.declared.escape.Assertion.TheVariants.{StartLine, StartLineOniguruma, LeftWordBoundary}
use Rattle.fancy_lex.specs.declared.escape.Assertion.TheVariants.{RightWordBoundary}
use Rattle.fancy_lex.specs.declared.flags.Flags.{Flags}
use Rattle.fancy_lex.proofs.ReferencePositions.{ReferenceAt, back_reference_at}
use Rattle.fancy_lex.specs.Referred.{Reference, Call}
use Rattle.fancy_pattern.proofs.Parsed.Readers.{gives_both, gives_after}
use Rattle.fancy_pattern.proofs.Parsed.Targets.{IsReferenceRead, IsCallRead, numbered_reference_read}
use Rattle.fancy_pattern.proofs.Parsed.Targets.{back_reference_read}
use Rattle.fancy_pattern.proofs.Parsed.Targets.{subroutine_call_read}
use Rattle.std.proofs.Common.{sym, ℤ}

-- the assertion is the start of a line
abbrev pub is_start_of_line : Assertion → Bool
is_start_of_line (StartLine crlf) = true
is_start_of_line (StartLineOniguruma crlf) = true
is_start_of_line _ = false

-- a reference with a level is just after the letter of `\k`, at the front of the text
abbrev pub IsAfterLetter : Text → ℕ → Type 0
IsAfterLetter [] p = ⊥
IsAfterLetter (c ∷ t) p = (c ≡ code "k") × (p ≡ reach_of t)

abbrev pub IsLevelAfter : Text → Reference → Type 0
IsLevelAfter t r = IfSome r.level (λ z. IsAfterLetter t r.reach)

-- what an escape of the text requires of the flags: a byte is read without UNICODE, a general new line records UNICODE,
-- and no assertion is the start of a line; and what it refers to
abbrev pub IsOfMode : Flags → Text → Escape → Type 0
IsOfMode f t (literal_bytes b) = f.unicode ≡ false
IsOfMode f t (general_newline unicode) = f.unicode ≡ unicode
IsOfMode f t (assertion a) = is_start_of_line a ≡ false
IsOfMode f t (backref r casei) = IsReferenceRead r × IsLevelAfter t r
IsOfMode f t (subroutine_call c) = IsCallRead c.target
IsOfMode f t _ = Unit {0}

-- an id reference in the digits of an escape has no level
numbered_plain : (t : Text) → IfGives (λ (r : Reference). r.level ≡ None) (numbered_reference t)
unfolding numbered_reference
numbered_plain t = gives_after (λ (r : Reference). r.level ≡ None) (group_number t) _ (λ k u. refl)

-- if a reading gives what P holds for, and what Q holds for, it gives what both hold for
both_given : {A : Type 0} (P Q : A → Type 0) (o : Reading A) → IfGives P o → IfGives Q o → IfGives (λ a. P a × Q a) o
both_given P Q (gives a u) h k = (h, k)
both_given P Q (fails e) h k = tt

module _ (f : Flags) (whole : Text) where
  abbrev Sound : Reading Escape → Type 0
  Sound = IfGives (IsOfMode f whole)

  after : {A : Type 0} (o : Reading A) (g : A → Text → Reading Escape) → ((a : A) (u : Text) → Sound (g a u)) →
      Sound (o >=> g)
  after = gives_after (IsOfMode f whole)

  coded_mode : (width h v : ℕ) (u : Text) → Sound (hexes.leaf_of_value f width h v u)
  unfolding hexes.leaf_of_value
  coded_mode width h v u =
      cond_both (width == 2 && not f.unicode && nat_le 0x80 v && nat_le v 0xFF) _ _ Sound
      (λ e. byte (width == 2) f.unicode e) (λ _. cond_both (hexes.is_scalar v) _ _ Sound (λ _. tt) (λ _. tt))
    where
      byte : (a b : Bool) → (a && not b && nat_le 0x80 v && nat_le v 0xFF) ≡ true → b ≡ false
      byte true false e = refl
      byte true true e = absurd cc
      byte false b e = absurd cc

  hex_mode : (width : ℕ) (t : Text) → Sound (hexes.hex f width t)
  unfolding hexes.hex
  hex_mode width t =
      after (layout_reading (layout f.ignore_space t)) _ (λ _ u.
      after (hexes.value f.ignore_space (reach_of u) width u) _ (λ v w. coded_mode width (reach_of u) v w))

  boundary_mode : (p : ℕ) (negated : Bool) (t : Text) → Sound (boundary_steps.boundary f.ignore_space p negated t)
  unfolding boundary_steps.boundary boundary_steps.named_boundary
  boundary_mode p negated t =
      after (layout_reading (layout f.ignore_space t)) _ (λ _ u.
      choose_both Sound (strip (code "{") u) _ _ (λ v _.
      after (layout_reading (layout f.ignore_space v)) _ (λ _ w.
      cond_both (boundaries.at_count w) _ _ Sound (λ _. unnamed negated) (λ _. braces v))) (unnamed negated))
    where
      unnamed : (b : Bool) → IsOfMode f whole (boundaries.unnamed_boundary b)
      unnamed true = refl
      unnamed false = refl

      names : (w : Text) → IfSome (boundaries.boundary_of_name negated w) (λ a. is_start_of_line a ≡ false)
      names w =
          let P = λ (o : Option Assertion). IfSome o (λ a. is_start_of_line a ≡ false) in
          cond_both negated _ _ P (λ _. tt) (λ _.
          cond_both (bytes_eq w (codes "start")) _ _ P (λ _. refl) (λ _.
          cond_both (bytes_eq w (codes "end")) _ _ P (λ _. refl) (λ _.
          cond_both (bytes_eq w (codes "start-half")) _ _ P (λ _. refl) (λ _.
          cond_both (bytes_eq w (codes "end-half")) _ _ P (λ _. refl) (λ _. tt)))))

      named : (w u : Text) (o : Option Assertion) → IfSome o (λ a. is_start_of_line a ≡ false) → (a : Assertion) →
          o ≡ Some a → is_start_of_line a ≡ false
      named w u o h a e = subst (λ q. IfSome q (λ a. is_start_of_line a ≡ false)) e h

      braces : (v : Text) → Sound (boundary_steps.named_boundary f.ignore_space p negated v)
      braces v =
          after (boundary_steps.name f.ignore_space p _ v) _ (λ w u.
          choose_both Sound (boundaries.boundary_of_name negated w) _ _
          (λ a e. named w u (boundaries.boundary_of_name negated w) (names w) a e) tt)

  call_mode : (p c : ℕ) (t : Text) → Sound (call_escape p c t)
  unfolding call_escape
  call_mode p c [] = tt
  call_mode p c (d ∷ t) =
      gives_both (λ (k : Call). IsCallRead k.target) (IsOfMode f whole) (called (d ∷ t))
      (λ r u. gives (subroutine_call r) u) (subroutine_call_read (d ∷ t)) (λ r u h. h)

  number_mode : (p : ℕ) (t : Text) → Sound (number_escape f false p t)
  unfolding number_escape
  number_mode p t =
      gives_both (λ r. IsReferenceRead r × (r.level ≡ None)) (IsOfMode f whole) (numbered_reference t)
      (λ r u. gives (backref r f.casei) u)
      (both_given IsReferenceRead (λ r. r.level ≡ None) (numbered_reference t) (numbered_reference_read t)
      (numbered_plain t))
      (λ r u h. (h.0, subst (λ o. IfSome o (λ z. IsAfterLetter whole r.reach)) (sym h.1) tt))

  property_mode : (p c : ℕ) (t : Text) → Sound (property f false p c t)
  unfolding property
  property_mode p c [] = tt
  property_mode p c (d ∷ t) = choose_both Sound (read_property (c ∈ "P") (d ∷ t)) _ _ (λ q _. tt) tt

  outside_mode : (p c : ℕ) (t : Text) → whole ≡ c ∷ t → Sound (outside f p c t)
  unfolding outside
  outside_mode p c t is =
      cond_both (c ∈ "k") _ _ Sound
      (λ e. gives_both (λ r. IsReferenceRead r × ReferenceAt (reach_of t) r) (IsOfMode f whole) (back_reference t)
      (λ r u. gives (backref r f.casei) u)
      (both_given IsReferenceRead (ReferenceAt (reach_of t)) (back_reference t) (back_reference_read t)
      (back_reference_at t))
      (λ r u h. (h.0, at_letter e r h.1))) (λ _.
      cond_both (c ∈ "g") _ _ Sound (λ _. call_mode p c t) (λ _.
      cond_both (c ∈ "bB") _ _ Sound (λ _. boundary_mode p _ t) (λ _. tt)))
    where
      is_letter : (c ∈ "k") ≡ true → c ≡ code "k"
      is_letter e = grind (arith, nat_tests)

      at_letter : (c ∈ "k") ≡ true → (r : Reference) → r.reach ≡ reach_of t → IsLevelAfter whole r
      at_letter e r i =
          subst (λ s. IfSome r.level (λ z. IsAfterLetter s r.reach)) (sym is) (by_level r.level)
        where
          by_level : (o : Option ℤ) → IfSome o (λ z. IsAfterLetter (c ∷ t) r.reach)
          by_level None = tt
          by_level (Some z) = (is_letter e, i)

  lone_mode : (c : ℕ) (t : Text) (e : Escape) → lone_escape f false c ≡ Some e → IsOfMode f whole e
  lone_mode c t =
      of_lone (IsOfMode f whole) f false c (λ _. tt) (search rules) outside_rows
    where
      pointed : (b : Bool) (x : ℕ) (a : Assertion) → is_start_of_line a ≡ false →
          IsOfMode f whole (if b then literal x false else assertion a)
      pointed true x a e = tt
      pointed false x a e = e

      outside_rows : AtRows (IsOfMode f whole) c (lone_outside f c)
      outside_rows =
          let here = pointed f.oniguruma_mode c in (
            λ _. refl,
            (
              λ _. refl,
              (
                λ _. refl,
                (
                  λ _. tt,
                  (
                    λ _. tt,
                    (
                      λ _. refl,
                      (λ _. tt, (λ _. tt, (λ _. here LeftWordBoundary refl, (λ _. here RightWordBoundary refl, tt)))),
                    ),
                  ),
                ),
              ),
            ),
          )

-- for everything that an escape may be read as
pub escape_mode : (f : Flags) (t : Text) → IfGives (IsOfMode f t) (escape f false t)
unfolding escape_at
escape_mode f [] = tt
escape_mode f (c ∷ t) =
    let whole = c ∷ t in
    let p = reach_of whole + 1 in
    let P = IfGives (IsOfMode f whole) in
    cond_both (is_ascii_digit c) _ _ P (λ _. number_mode f whole p whole) (λ _.
    cond_both (c ∈ "x") _ _ P (λ _. hex_mode f whole 2 t) (λ _.
    cond_both (c ∈ "u") _ _ P (λ _. hex_mode f whole 4 t) (λ _.
    cond_both (c ∈ "U") _ _ P (λ _. hex_mode f whole 8 t) (λ _.
    cond_both (c ∈ "pP") _ _ P (λ _. property_mode f whole p c t) (λ _.
    choose_both P (lone_escape f false c) _ _ (λ e i. lone_mode f whole c t e i) (outside_mode f whole p c t refl))))))
