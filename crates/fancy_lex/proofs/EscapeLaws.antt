-- What holds of every escape: the rest of the text is a suffix of it, and the error is at a character boundary of the
-- text or one past its end.
use Rattle.std.proofs.Common.{length, ◌≡◌, ℕ, zero, suc, ◌+◌, ◌*◌, ◌≤◌, Bool, true, false, ◌==◌, nat_lt}
use Rattle.std.proofs.Common.{if◌then◌else◌, [], ◌∷◌, ◌++◌, Option, Some, None, option_map, refl, subst, arith}
use Rattle.std.specs.Char.{digit_value}
use Prim.Native.Char.{code}
use Rattle.fancy_lex.specs.declared.flags.Flags.{Flags}
use Rattle.fancy_lex.specs.Boundary as boundaries
use Rattle.fancy_lex.specs.BoundarySteps as boundary_steps
use Rattle.fancy_lex.specs.Characters.{◌∈◌}
use Rattle.fancy_lex.specs.Escape.{escape, escape_at, number_escape, call_escape, backref_leaf, property, outside}
use Rattle.fancy_lex.specs.EscapeReference.{back_reference}
use Rattle.fancy_lex.specs.Escaped.{Escape}
use Rattle.fancy_lex.specs.Located.{Kind}
use Rattle.fancy_lex.specs.ErrorTable.{boundary_not_closed}
use Rattle.fancy_lex.specs.Hex as hexes
use Rattle.fancy_lex.specs.LayoutSteps.{Skipped, rest, failed, layout}
use Rattle.fancy_lex.specs.Property.{single, braced, name_at, read_property}
use Rattle.fancy_lex.specs.Reading.{Reading, gives, fails, error_at, ◌>=>◌, choose, layout_reading}
use Rattle.fancy_lex.specs.Referred.{Reference}
use Rattle.fancy_lex.specs.Text.{Text, EndsWith as Ends, bytes, strip, reach_of, cut_at}
use Rattle.fancy_lex.proofs.LayoutLaws.{layout_cut, layout_lies}
use Rattle.fancy_lex.proofs.LeaveLaws.{ends_whole, ends_past, ends_twice, lies_at_start, lies_past, Leaves, whole}
use Rattle.fancy_lex.proofs.LeaveLaws.{whole_next, leaves_none, leaves_given, leaves_trans, leaves_past, leaves_if}
use Rattle.fancy_lex.proofs.LeaveLaws.{leaves_both, ends_strip, LeavesSome, ends_some, some_if}
use Rattle.fancy_lex.proofs.LeaveLaws.{some_past, some_both, leaves}
use Rattle.fancy_lex.proofs.ReadingLemmas.{choose_both}
use Rattle.fancy_lex.proofs.ReferenceLaws.{takes_number, takes_numbered_reference, takes_back_reference}
use Rattle.fancy_lex.proofs.ReferenceLaws.{takes_subroutine_call}
use Rattle.fancy_lex.proofs.TakeLaws.{takes_leaves}
use Rattle.fancy_lex.proofs.TextLemmas.{bytes-append}

-- hex digits
leaves_digit : (t : Text) → LeavesSome t (hexes.hex_digit t)
unfolding hexes.hex_digit
leaves_digit [] = tt
leaves_digit (c ∷ t) = some_if (c ∷ t) (nat_lt (digit_value c) 16) (digit_value c, t) (ends_past c t t (ends_whole t))

leaves_fixed : (k v : ℕ) (t : Text) → LeavesSome t (hexes.fixed_digits k v t)
unfolding hexes.fixed_digits
leaves_fixed zero v t = ends_whole t
leaves_fixed (suc k) v t = some_both t (hexes.hex_digit t) _ (leaves_digit t) (λ p. leaves_fixed k (v * 16 + p.0) p.1)

-- properties
some_map : {A B : Type 0} (t : Text) (o : Option (A × Text)) (f : A → B) → LeavesSome t o →
    LeavesSome t (option_map (λ p. (f p.0, p.1)) o)
some_map t (Some p) f l = l
some_map t None f l = tt

leaves_cut : (delimiter : ℕ) (t : Text) → LeavesSome t (cut_at delimiter t)
leaves_cut delimiter [] = tt
leaves_cut delimiter (c ∷ t) = at (c == delimiter) (leaves_cut delimiter t) where
  past : Ends (c ∷ t) t
  past = ends_past c t t (ends_whole t)

  at : (b : Bool) → LeavesSome t (cut_at delimiter t) →
      LeavesSome (c ∷ t) (if b then Some ([], t) else option_map (λ p. (c ∷ p.0, p.1)) (cut_at delimiter t))
  at true l = past
  at false l = some_past (c ∷ t) t _ past (some_map t (cut_at delimiter t) _ l)

leaves_name_at : (t : Text) → LeavesSome t (name_at t)
unfolding name_at
leaves_name_at [] = tt
leaves_name_at (c ∷ t) = at (c == code "{") where
  past : Ends (c ∷ t) t
  past = ends_past c t t (ends_whole t)

  at : (b : Bool) →
      LeavesSome (c ∷ t) (if b then option_map (λ p. (braced p.0, p.1)) (cut_at (code "}") t) else Some (single c, t))
  at true = some_past (c ∷ t) t _ past (some_map t (cut_at (code "}") t) _ (leaves_cut (code "}") t))
  at false = past

leaves_read : (negated : Bool) (t : Text) → LeavesSome t (read_property negated t)
unfolding read_property
leaves_read negated t = some_map t (name_at t) _ (leaves_name_at t)

-- readers that get the reach p
module _ (p : ℕ) where
  pub leaves_layout : (x : Bool) (t : Text) → Leaves p t (layout_reading (layout x t))
  leaves_layout x t = at (layout x t) refl where
    at : (o : Skipped) → layout x t ≡ o → Leaves p t (layout_reading o)
    at (rest u) e = leaves (layout_cut x t u e)
    at (failed q) e = leaves_none (layout_lies p x t q e)

-- hex codes, which get the reach h
module _ (h : ℕ) where
  module _ (x : Bool) where
    leaves_closed : (some : Bool) (v : ℕ) (t : Text) → Leaves h t (hexes.closing_brace h some v (strip (code "}") t))
    leaves_closed some v t = at some (strip (code "}") t) refl where
      at : (some : Bool) (o : Option Text) → strip (code "}") t ≡ o → Leaves h t (hexes.closing_brace h some v o)
      at true (Some u) e = leaves (ends_strip (code "}") t u e)
      at true None e = leaves_given
      at false o e = leaves_given

    leaves_digits : (k : ℕ) (some : Bool) (v : ℕ) (t : Text) → Leaves h t (hexes.hex_digits x h k some v t)
    unfolding hexes.hex_digits
    leaves_digits zero some v t = leaves_closed some v t
    leaves_digits (suc k) some v t =
        choose_both (Leaves h t) (hexes.hex_digit t) _ _
        (λ p e. leaves_past (ends_some t _ p (leaves_digit t) e)
        (leaves_both (leaves_layout h x p.1) (λ _ u. leaves_digits k true (v * 16 + p.0) u)))
        (leaves_closed some v t)

    leaves_braced : (t : Text) → Leaves h t (hexes.braced_value x h t)
    unfolding hexes.braced_value
    leaves_braced t = leaves_both (leaves_layout h x t) (λ _ u. leaves_digits 8 false 0 u)

    leaves_value : (width : ℕ) (t : Text) → Leaves h t (hexes.value x h width t)
    unfolding hexes.value
    leaves_value width t =
        choose_both (Leaves h t) (hexes.fixed_digits width 0 t) _ _
        (λ p e. leaves (ends_some t _ p (leaves_fixed width 0 t) e))
        (choose_both (Leaves h t) (strip (code "{") t) _ _
        (λ u e. leaves_past (ends_strip (code "{") t u e) (leaves_braced u))
        (leaves_given))

  module _ (f : Flags) (width : ℕ) where
    none_at_code : {A : Type 0} {k : Kind} {t : Text} → Leaves {A = A} h t (error_at h k)
    none_at_code = leaves_given

    leaves_coded : (v : ℕ) (t : Text) → Leaves h t (hexes.leaf_of_value f width h v t)
    unfolding hexes.leaf_of_value
    leaves_coded v t = search (leaves_if, whole, none_at_code)

module _ (p : ℕ) where
  pub leaves_hex : (f : Flags) (width : ℕ) (t : Text) → Leaves p t (hexes.hex f width t)
  unfolding hexes.hex
  leaves_hex f width t =
      leaves_both (leaves_layout p f.ignore_space t)
      (λ _ u. leaves_trans (lies_at_start u)
      (leaves_both (leaves_value (reach_of u) f.ignore_space width u) (leaves_coded (reach_of u) f width)))

  -- word boundaries
  module _ (x : Bool) where
    leaves_name_after : (k : ℕ) → ((t : Text) → Leaves p t (boundary_steps.name x p k t)) → (t : Text) →
        Leaves {A = Text} p t (elim t [
          | [] ↦ fails (boundary_not_closed p)
          | c ∷ v ↦ if c == code "}" then gives [] v else (boundary_steps.name x p k v >=> (λ w v. gives (c ∷ w) v))
        ])
    leaves_name_after k more [] = leaves_given
    leaves_name_after k more (c ∷ t) =
        let past = ends_past c t t (ends_whole t) in
        leaves_if (c == code "}") (leaves past) (leaves_past past (leaves_both (more t) (λ w v. whole v)))

    leaves_name : (k : ℕ) (t : Text) → Leaves p t (boundary_steps.name x p k t)
    unfolding boundary_steps.name
    leaves_name zero t = leaves_given
    leaves_name (suc k) t = leaves_both (leaves_layout p x t) (λ _ u. leaves_name_after k (leaves_name k) u)

    leaves_named : (negated : Bool) (t : Text) → Leaves p t (boundary_steps.named_boundary x p negated t)
    unfolding boundary_steps.named_boundary
    leaves_named negated t = leaves_both (leaves_name (suc (length t)) t)
        (λ w u. choose_both (Leaves p u) (boundaries.boundary_of_name negated w) _ _ (λ a e. whole u) leaves_given)

    pub leaves_boundary : (negated : Bool) (t : Text) → Leaves p t (boundary_steps.boundary x p negated t)
    unfolding boundary_steps.boundary
    leaves_boundary negated t = at (layout x t) refl where
      at : (o : Skipped) → layout x t ≡ o →
          Leaves p t (layout_reading o >=>
          (λ _ u. choose (strip (code "{") u)
          (λ inside. layout_reading (layout x inside) >=>
          (λ _ v. if boundaries.at_count v then gives (boundaries.unnamed_boundary negated) t
          else boundary_steps.named_boundary x p negated inside)) (gives (boundaries.unnamed_boundary negated) t)))
      at (rest u) e = choose_both (Leaves p t) (strip (code "{") u) _ _
          (λ inside h. braces u inside e h (layout x inside) refl)
          (whole t) where
            braces : (u inside : Text) → layout x t ≡ rest u → strip (code "{") u ≡ Some inside → (o : Skipped) →
                layout x inside ≡ o → Leaves p t
                (layout_reading o >=>
                (λ _ v. if boundaries.at_count v then gives (boundaries.unnamed_boundary negated) t
                else boundary_steps.named_boundary x p negated inside))
            braces u inside e h (rest v) i =
                leaves_if (boundaries.at_count v) (whole t)
                (leaves_past (ends_twice t u inside (layout_cut x t u e) (ends_strip (code "{") u inside h))
                (leaves_named negated inside))
            braces u inside e h (failed q) i = leaves_none
                (lies_past (ends_twice t u inside (layout_cut x t u e) (ends_strip (code "{") u inside h))
                (layout_lies p x inside q i))
      at (failed q) e = leaves_none (layout_lies p x t q e)

-- escapes
module _ (f : Flags) (inside : Bool) (p : ℕ) where
  none_here : {A : Type 0} {k : Kind} {t : Text} → Leaves {A = A} p t (error_at p k)
  none_here = leaves_given

  leaves_property : (c : ℕ) (t : Text) → Leaves p t (property f inside p c t)
  unfolding property
  leaves_property c [] = none_here
  leaves_property c (d ∷ t) =
      choose_both (Leaves p (d ∷ t)) (read_property (c ∈ "P") (d ∷ t)) _ _
      (λ q e. leaves (ends_some (d ∷ t) _ q (leaves_read (c ∈ "P") (d ∷ t)) e)) none_here

  leaves_backref_leaf : {t : Text} {o : Reading Reference} → Leaves p t o → Leaves p t (backref_leaf f o)
  leaves_backref_leaf h = leaves_both h (λ r u. whole u)

  leaves_number_escape : (t : Text) → Leaves p t (number_escape f inside p t)
  unfolding number_escape
  leaves_number_escape t =
      leaves_if inside (leaves_both (takes_leaves (reach_of t) 1 t (lies_at_start t) (takes_number t))
      (λ k u. none_here))
      (leaves_backref_leaf (takes_leaves (reach_of t) 1 t (lies_at_start t) (takes_numbered_reference t)))

  leaves_named_reference : (t : Text) → Leaves p t (backref_leaf f (back_reference t))
  leaves_named_reference t = leaves_backref_leaf
      (takes_leaves (reach_of t) 3 t (lies_at_start t) (takes_back_reference t))

  leaves_call : (c : ℕ) (t : Text) → Leaves p t (call_escape p c t)
  unfolding call_escape
  leaves_call c [] = none_here
  leaves_call c (d ∷ t) =
      leaves_both (takes_leaves (reach_of (d ∷ t)) 1 (d ∷ t) (lies_at_start (d ∷ t)) (takes_subroutine_call (d ∷ t)))
      (λ r u. whole u)

  boundary_here : (negated : Bool) (t : Text) → Leaves p t (boundary_steps.boundary f.ignore_space p negated t)
  boundary_here = leaves_boundary p f.ignore_space

  leaves_outside : (c : ℕ) (t : Text) → Leaves p t (outside f p c t)
  unfolding outside
  leaves_outside c t = search (leaves_if, none_here, boundary_here, leaves_named_reference, leaves_call)

  -- the same after the letter
  module _ (c d : ℕ) (t : Text) where
    past : Ends (d ∷ t) t
    past = ends_past d t t (ends_whole t)

    hex_next : (width : ℕ) → Leaves p (d ∷ t) (hexes.hex f width t)
    hex_next width = leaves_past past (leaves_hex p f width t)

    property_next : Leaves p (d ∷ t) (property f inside p c t)
    property_next = leaves_past past (leaves_property c t)

    lone_next : (o : Option Escape) (r : Reading Escape) → Leaves p (d ∷ t) r →
        Leaves p (d ∷ t) (choose o (λ e. gives e t) r)
    lone_next o r = choose_both (Leaves p (d ∷ t)) o _ _ (λ e _. whole_next t)

    outside_next : Leaves p (d ∷ t) (outside f p c t)
    outside_next = leaves_past past (leaves_outside c t)

  leaves_escape_at : (t : Text) → Leaves p t (escape_at f inside p t)
  unfolding escape_at
  leaves_escape_at [] = none_here
  leaves_escape_at (c ∷ t) =
      search (leaves_if, none_here, leaves_number_escape, hex_next, property_next, lone_next, outside_next) depth 10

-- the rest of the text is a suffix of it, or the error is at a suffix or at the backslash
pub leaves_escape : (f : Flags) (inside : Bool) (t : Text) → Leaves (reach_of t + 1) t (escape f inside t)
leaves_escape f inside t = leaves_escape_at f inside (reach_of t + 1) t

-- the rest of the text is a suffix of it
pub escape_cut : (f : Flags) (b : Bool) (t u : Text) (e : Escape) → escape f b t ≡ gives e u →
    (w : Text) × (t ≡ w ++ u)
escape_cut f b t u e q = at (escape f b t) (leaves_escape f b t) q where
  at : (o : Reading Escape) → Leaves (reach_of t + 1) t o → o ≡ gives e u → Ends t u
  at (gives a v) (leaves h) q = let same : v ≡ u = cc in subst (Ends t) same h
  at (fails g) l q = absurd (cc)

pub escape_within : (f : Flags) (b : Bool) (t u : Text) (e : Escape) → escape f b t ≡ gives e u → bytes u ≤ bytes t
escape_within f b t u e q = let (w, cut) = escape_cut f b t u e q in rw cut (omega (arith, bytes-append w u))
