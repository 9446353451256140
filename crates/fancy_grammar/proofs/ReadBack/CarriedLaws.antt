-- A class, and an escape for one, is read the same whatever follows it, and up to the same end under other flags.
use Rattle.std.proofs.Common.{◌≡◌, ℕ, zero, suc, ◌+◌, ◌-◌, ◌≤◌, Bool, true, false, not, ◌&&◌, ◌||◌, ◌==◌, nat_le}
use Rattle.std.proofs.Common.{if◌then◌else◌, [], ◌∷◌, ◌++◌, Option, Some, None, refl, sym, ap, ◌∙◌, subst, arith}
use Rattle.std.proofs.lemmas.Bool.{false≢true}
use Rattle.std.proofs.lemmas.Bool.Decides.{nat_tests}
use Rattle.fancy_lex.specs.Boundary.{boundary_of_name, at_count}
use Rattle.fancy_lex.specs.BoundarySteps.{boundary, named_boundary, name}
use Rattle.std.specs.Char.{is_ascii_digit}
use Rattle.std.specs.Option.{option_or}
use Prim.Native.Char.{code}
use Rattle.fancy_lex.specs.Characters.{◌∈◌}
use Rattle.fancy_lex.specs.Class.{class_from, class, class_start, with_symbol, escape_in_class, is_negated}
use Rattle.fancy_lex.specs.Escape.{escape, escape_at, backref_leaf, number_escape, call_escape, property, outside}
use Rattle.fancy_lex.specs.Escape.{is_itself, lone_anywhere, lone_in_class, lone_outside, row_of, lone_escape}
use Rattle.fancy_lex.specs.ErrorTable.{letter_of_no_escape}
use Rattle.fancy_lex.specs.EscapeReference as reference
use Rattle.fancy_lex.specs.EscapeReference.{group_number}
use Rattle.fancy_lex.specs.Escaped.{Escape, literal, literal_bytes, assertion, delegate, backref, subroutine_call}
use Rattle.fancy_lex.specs.Located.{Located, invalid_class, invalid_codepoint_value, unclosed_unicode_name}
use Rattle.fancy_lex.specs.Hex.{hex, value, leaf_of_value, is_scalar}
use Rattle.fancy_lex.specs.LayoutSteps.{layout}
use Rattle.fancy_lex.specs.Property.{Property, read_property, property_text}
use Rattle.fancy_lex.specs.Reading.{Reading, gives, fails, error_at, choose, layout_reading, ◌>=>◌}
use Rattle.fancy_lex.specs.Referred.{Reference}
use Rattle.fancy_lex.specs.Text.{Text, bytes, reach_of, strip}
use Rattle.fancy_lex.specs.declared.escape.Assertion.{Assertion}
use Rattle.fancy_lex.specs.declared.flags.Flags.{Flags}
use Rattle.fancy_lex.proofs.ClassLaws.{class_start_frame}
use Rattle.fancy_lex.proofs.EscapeFrame.{StaysSome, read_stays, escape_frame}
use Rattle.fancy_lex.proofs.ReadingLemmas.{choose_both}
use Rattle.fancy_lex.proofs.TextLemmas.{bytes-append}
use Rattle.fancy_grammar.specs.Normal.{case_flags, unicode_flags}

-- ---- the same text under other flags

-- if the first reading gives something, the second gives something with the same rest
abbrev Too : Reading Escape → Reading Escape → Type 0
Too (gives a u) other = (b : Escape) × (other ≡ gives b u)
Too (fails e) other = Unit {0}

too_if : (b : Bool) (p q p' q' : Reading Escape) → Too p p' → Too q q' → Too (if b then p else q) (if b then p' else q')
too_if true p q p' q' h k = h
too_if false p q p' q' h k = k

too_then : {A : Type 0} (o : Reading A) (k k' : A → Text → Reading Escape) →
    ((a : A) (t : Text) → Too (k a t) (k' a t)) → Too (o >=> k) (o >=> k')
too_then (gives a u) k k' h = h a u
too_then (fails e) k k' h = tt

number_escape_too : (p : ℕ) (t : Text) (other : Reading Escape) →
    Too (number_escape (unicode_flags false) true p t) other
unfolding number_escape
number_escape_too p t other = by_number (group_number t)
  where
    by_number : (o : Reading ℕ) → Too (o >=> (λ k u. error_at p invalid_class)) other
    by_number (gives k u) = tt
    by_number (fails e) = tt

property_too : (u i inside : Bool) (p c : ℕ) (t : Text) →
    Too (property (unicode_flags false) inside p c t) (property (case_flags u i) inside p c t)
unfolding property
property_too u i inside p c [] = tt
property_too u i inside p c (d ∷ t) = by_property (read_property (c ∈ "P") (d ∷ t)) where
  by_property : (o : Option (Property × Text)) →
      Too (choose o (λ q. gives (delegate (property_text false inside q.0) false) q.1)
      (error_at p unclosed_unicode_name)) (choose o (λ q. gives (delegate (property_text u inside q.0) i) q.1)
      (error_at p unclosed_unicode_name))
  by_property None = tt
  by_property (Some q) = (_, refl)

-- a byte is a scalar value
byte_scalar : (v : ℕ) (a : Bool) → (a && nat_le v 0xFF) ≡ true → is_scalar v ≡ true
byte_scalar v false h = absurd cc
byte_scalar v true h = grind (arith, nat_tests)

both_too : (b s : Bool) (x y z : Escape) (t : Text) (e : Located) → (b ≡ true → s ≡ true) →
    Too (if b then gives x t else if s then gives y t else fails e) (if s then gives z t else fails e)
both_too true true x y z t e h = (z, refl)
both_too true false x y z t e h = absurd (false≢true (h refl))
both_too false true x y z t e h = (z, refl)
both_too false false x y z t e h = tt

same_too : (b s : Bool) (x y x' y' : Escape) (t : Text) (e e' : Located) →
    Too (if b then gives x t else if s then gives y t else fails e)
    (if b then gives x' t else if s then gives y' t else fails e')
same_too true s x y x' y' t e e' = (x', refl)
same_too false true x y x' y' t e e' = (y', refl)
same_too false false x y x' y' t e e' = tt

never : (a b c : Bool) → (((a && false) && b) && c) ≡ false
never true b c = refl
never false b c = refl

coded_too : (u i : Bool) (w h v : ℕ) (t : Text) →
    Too (leaf_of_value (unicode_flags false) w h v t) (leaf_of_value (case_flags u i) w h v t)
unfolding leaf_of_value
coded_too false i w h v t = same_too (w == 2 && not false && nat_le 0x80 v && nat_le v 0xFF) (is_scalar v) _ _ _ _ t _ _
coded_too true i w h v t =
    rw (never (w == 2) (nat_le 0x80 v) (nat_le v 0xFF))
    (both_too (((w == 2) && true) && nat_le 0x80 v && nat_le v 0xFF) (is_scalar v) _ _ _ t _ (byte_scalar v _))

hex_too : (u i : Bool) (w : ℕ) (t : Text) → Too (hex (unicode_flags false) w t) (hex (case_flags u i) w t)
unfolding hex
hex_too u i w t =
    too_then (layout_reading (layout false t)) _ _
    (λ _ v. too_then (value false (reach_of v) w v) _ _ (λ a r. coded_too u i w (reach_of v) a r))

-- if the first is a Delegate, the second is one
abbrev Likewise : Escape → Escape → Type 0
Likewise (delegate w c) (delegate x b) = Unit {0}
Likewise (delegate w c) _ = ⊥
Likewise _ _ = Unit {0}

-- both are `None`, or both are such escapes
abbrev Alike : Option Escape → Option Escape → Type 0
Alike (Some e) (Some d) = Likewise e d
Alike None None = Unit {0}
Alike _ _ = ⊥

alike_if : (b : Bool) (o q o' q' : Option Escape) → Alike o o' → Alike q q' →
    Alike (if b then o else q) (if b then o' else q')
alike_if true o q o' q' h k = h
alike_if false o q o' q' h k = k

alike_or : (o q o' q' : Option Escape) → Alike o o' → Alike q q' → Alike (option_or o q) (option_or o' q')
alike_or (Some e) q (Some d) q' h k = h
alike_or None q None q' h k = k
alike_or (Some e) q None q' h k = absurd h
alike_or None q (Some d) q' h k = absurd h

boundary_alike : (b : Bool) (c : ℕ) (a : Assertion) (e : Escape) →
    Likewise (if b then literal c false else assertion a) e
boundary_alike true c a e = tt
boundary_alike false c a e = tt

-- a character is read as such escapes under any flags
lone_alike : (f g : Flags) (inside : Bool) (c : ℕ) → Alike (lone_escape f inside c) (lone_escape g inside c)
unfolding lone_escape
lone_alike f g inside c =
    alike_if (is_itself inside c) _ _ _ _ tt
    (alike_or (row_of c (lone_anywhere f c)) _ (row_of c (lone_anywhere g c)) _ anywhere (by_position inside))
  where
    anywhere : Alike (row_of c (lone_anywhere f c)) (row_of c (lone_anywhere g c))
    anywhere = search alike_if depth 30

    by_position : (inside : Bool) → Alike (row_of c (if inside then lone_in_class c else lone_outside f c))
        (row_of c (if inside then lone_in_class c else lone_outside g c))
    by_position true = search alike_if depth 30
    by_position false = search (alike_if, boundary_alike) depth 30

lone_too : (p c : ℕ) (t : Text) (o q : Option Escape) → Alike o q →
    Too (choose o (λ e. gives e t) (fails (letter_of_no_escape p c)))
    (choose q (λ e. gives e t) (fails (letter_of_no_escape p c)))
lone_too p c t (Some e) (Some d) h = (d, refl)
lone_too p c t (Some e) None h = absurd h
lone_too p c t None q h = tt

escape_too : (u i : Bool) (t : Text) →
    Too (escape (unicode_flags false) true t) (escape (case_flags u i) true t)
unfolding escape_at
escape_too u i [] = tt
escape_too u i (c ∷ t) =
    let p = reach_of (c ∷ t) + 1 in
    too_if (is_ascii_digit c) _ _ _ _ (number_escape_too p (c ∷ t) _)
    (too_if (c ∈ "x") _ _ _ _ (hex_too u i 2 t)
    (too_if (c ∈ "u") _ _ _ _ (hex_too u i 4 t)
    (too_if (c ∈ "U") _ _ _ _ (hex_too u i 8 t)
    (too_if (c ∈ "pP") _ _ _ _ (property_too u i true p c t)
    (lone_too p c t _ _ (lone_alike (unicode_flags false) (case_flags u i) true c))))))

-- ---- a class

-- if the reading gives something, the others, with k steps or more, all give one thing, and what follows comes after
-- the rest
abbrev Carries : ℕ → Reading Text → (ℕ → Text → Reading Text) → Type 0
Carries k (gives w v) there = (x : Text) × ((j : ℕ) (s : Text) → k ≤ j → there j s ≡ gives x (v ++ s))
Carries k (fails e) there = Unit {0}

carry_if : (k : ℕ) (b : Bool) (p q : Reading Text) (p' q' : ℕ → Text → Reading Text) → Carries k p p' →
    Carries k q q'
    → Carries k (if b then p else q) (λ j s. if b then p' j s else q' j s)
carry_if k true p q p' q' g h = g
carry_if k false p q p' q' g h = h

carry_same : (k : ℕ) (o : Reading Text) (there here : ℕ → Text → Reading Text) →
    ((j : ℕ) (s : Text) → here j s ≡ there j s) → Carries k o there → Carries k o here
carry_same k (gives w v) there here e (x, h) = (x, λ j s l. e j s ∙ h j s l)
carry_same k (fails z) there here e h = tt

-- one step more
carry_step : (k : ℕ) (o : Reading Text) (there here : ℕ → Text → Reading Text) →
    ((j : ℕ) (s : Text) → here (suc j) s ≡ there j s) → Carries k o there → Carries (suc k) o here
carry_step k (gives w v) there here e (x, h) = (x, late) where
  late : (j : ℕ) (s : Text) → suc k ≤ j → here j s ≡ gives x (v ++ s)
  late zero s l = absurd (omega arith)
  late (suc j) s l = e j s ∙ h j s (omega arith)
carry_step k (fails z) there here e h = tt

-- what is left does not depend on what was written
symbol_left : (m : ℕ) (out out' t : Text) → (with_symbol m (out, t)).1 ≡ (with_symbol m (out', t)).1
symbol_left m out out' [] = refl
symbol_left m out out' (d ∷ r) = by_test (d == m) where
  by_test : (x : Bool) →
      (choose {B = Text × Text} (if x then Some r else None) (λ u. (out ++ m ∷ [], u))
      (out, d ∷ r)).1 ≡ (choose {B = Text × Text} (if x then Some r else None) (λ u. (out' ++ m ∷ [], u))
      (out', d ∷ r)).1
  by_test true = refl
  by_test false = refl

opening_left : (out out' t : Text) → (class_start out t).1 ≡ (class_start out' t).1
unfolding class_start
opening_left out out' t =
    let p = with_symbol (code "^") (out ++ code "[" ∷ [], t) in
    let q = with_symbol (code "^") (out' ++ code "[" ∷ [], t) in
    symbol_left (code "]") p.0 q.0 p.1
    ∙ ap (λ r. (with_symbol (code "]") (q.0, r)).1)
    (symbol_left (code "^") (out ++ code "[" ∷ []) (out' ++ code "[" ∷ []) t)

rest_is : (a w r v : Text) → gives a r ≡ gives w v → r ≡ v
rest_is a w r v e = cc

module _ (u i : Bool) where
  abbrev ItemsCarry : ℕ → Type 0
  ItemsCarry k = (depth : ℕ) (seen seen' : Bool) (out out' t : Text)
      → Carries k (class_from (unicode_flags false) k depth seen out t)
      (λ j s. class_from (case_flags u i) j depth seen' out' (t ++ s))

  end_carries : (k depth : ℕ) (seen : Bool) (out : Text) (there : ℕ → Text → Reading Text) →
      Carries k (class_from (unicode_flags false) k depth seen out []) there
  unfolding class_from
  end_carries zero depth seen out there = tt
  end_carries (suc k) depth seen out there = tt

  -- after an opening bracket
  open_carries : (k : ℕ) → ItemsCarry k → (depth : ℕ) (seen seen' : Bool) (out out' t : Text)
      → Carries k (class_from (unicode_flags false) k depth seen (class_start out t).0 (class_start out t).1)
      (λ j s. class_from (case_flags u i) j depth seen' (class_start out' (t ++ s)).0
      (class_start out' (t ++ s)).1)
  open_carries k more depth seen seen' out out' t = by_left (class_start out t).1 refl where
    by_left : (v : Text) → (class_start out t).1 ≡ v →
        Carries k (class_from (unicode_flags false) k depth seen (class_start out t).0 v)
        (λ j s. class_from (case_flags u i) j depth seen' (class_start out' (t ++ s)).0
        (class_start out' (t ++ s)).1)
    by_left [] e = end_carries k depth seen (class_start out t).0 _
    by_left (c ∷ v) e =
        let left = sym (opening_left out out' t) ∙ e in
        carry_same k _ (λ j s. class_from (case_flags u i) j depth seen' (class_start out' t).0
        ((c ∷ v) ++ s)) _
        (λ j s. ap (λ (p : Text × Text). class_from (case_flags u i) j depth seen' p.0 p.1)
        (class_start_frame out' t s c v left)
        ∙ ap (λ (r : Text). class_from (case_flags u i) j depth seen' (class_start out' t).0 (r ++ s)) left)
        (more depth seen seen' (class_start out t).0 (class_start out' t).0 (c ∷ v))

  inner_carries : (k : ℕ) → ItemsCarry k →
      (depth : ℕ) (seen seen' : Bool) (out out' t : Text)
      → Carries k (escape (unicode_flags false) true t >=>
      (λ e v. class_from (unicode_flags false) k depth (seen || is_negated e) (out ++ escape_in_class seen e) v))
      (λ j s. escape (case_flags u i) true (t ++ s) >=>
      (λ e v. class_from (case_flags u i) j depth (seen' || is_negated e) (out' ++ escape_in_class seen' e) v))
  inner_carries k more depth seen seen' out out' t =
      by_escape (escape (unicode_flags false) true t) (escape_too u i t) where
        by_escape : (o : Reading Escape) → Too o (escape (case_flags u i) true t)
            → Carries k (o >=>
            (λ e v. class_from (unicode_flags false) k depth (seen || is_negated e)
            (out ++ escape_in_class seen e) v))
            (λ j s. escape (case_flags u i) true (t ++ s) >=>
            (λ e v. class_from (case_flags u i) j depth (seen' || is_negated e)
            (out' ++ escape_in_class seen' e) v))
        by_escape (gives e v) (x, h) =
            carry_same k _ (λ j s. class_from (case_flags u i) j depth (seen' || is_negated x)
            (out' ++ escape_in_class seen' x) (v ++ s)) _
            (λ j s. ap (λ o. o >=> (λ e v. class_from (case_flags u i) j depth (seen' || is_negated e)
            (out' ++ escape_in_class seen' e) v)) (escape_frame (case_flags u i) t v s x h))
            (more depth (seen || is_negated e) (seen' || is_negated x) (out ++ escape_in_class seen e)
            (out' ++ escape_in_class seen' x) v)
        by_escape (fails e) h = tt

  items_carry : (k : ℕ) → ItemsCarry k
  unfolding class_from
  items_carry zero depth seen seen' out out' t = tt
  items_carry (suc k) depth seen seen' out out' [] = tt
  items_carry (suc k) depth seen seen' out out' (c ∷ t) =
      let more = items_carry k in
      carry_step k _
      (λ j s.
      if c == code "\\" then escape (case_flags u i) true (t ++ s) >=>
      (λ e v. class_from (case_flags u i) j depth (seen' || is_negated e) (out' ++ escape_in_class seen' e) v)
      else if c == code "[" then class_from (case_flags u i) j (depth + 1) seen'
      (class_start out' (t ++ s)).0 (class_start out' (t ++ s)).1
      else if c == code "]"
      then (if depth == 0 then gives (out' ++ c ∷ []) (t ++ s) else class_from (case_flags u i) j
      (depth - 1) seen' (out' ++ c ∷ []) (t ++ s))
      else class_from (case_flags u i) j depth seen' (out' ++ c ∷ []) (t ++ s))
      _ (λ j s. refl)
      (carry_if k (c == code "\\") _ _ _ _
      (inner_carries k more depth seen seen' out out' t)
      (carry_if k (c == code "[") _ _ _ _ (open_carries k more (depth + 1) seen seen' out out' t)
      (carry_if k (c == code "]") _ _ _ _
      (carry_if k (depth == 0) _ _ _ _ (out' ++ c ∷ [], λ j s l. refl)
      (more (depth - 1) seen seen' (out ++ c ∷ []) (out' ++ c ∷ []) t))
      (more depth seen seen' (out ++ c ∷ []) (out' ++ c ∷ []) t))))

  pub class_carries : (t w v : Text) → class (unicode_flags false) t ≡ gives w v →
      (x : Text) × ((s : Text) → class (case_flags u i) (t ++ s) ≡ gives x (v ++ s))
  unfolding class
  class_carries t w v e =
      from (class (unicode_flags false) t) e
      (open_carries (suc (bytes t)) (items_carry (suc (bytes t))) 0 false false [] [] t) where
        from : (o : Reading Text) → o ≡ gives w v
            → Carries (suc (bytes t)) o
            (λ j s. class_from (case_flags u i) j 0 false (class_start [] (t ++ s)).0
            (class_start [] (t ++ s)).1)
            → (x : Text) × ((s : Text) →
            class_from (case_flags u i) (suc (bytes (t ++ s))) 0 false (class_start [] (t ++ s)).0
            (class_start [] (t ++ s)).1 ≡ gives x (v ++ s))
        from (gives a r) e (x, h) = (
          x,
          λ s. h (suc (bytes (t ++ s))) s (omega (arith, bytes-append t s))
              ∙ ap (λ z. gives x (z ++ s)) (rest_is a w r v e),
        )
        from (fails z) e h = absurd cc

-- ---- a class escape

-- if the reading gives a Delegate, the others all give one, and what follows comes after the rest
abbrev Keeps : Reading Escape → (ℕ → Text → Reading Escape) → Type 0
Keeps (gives (delegate w c) u) there =
    (x : Text) × (b : Bool) × ((q : ℕ) (s : Text) → there q s ≡ gives (delegate x b) (u ++ s))
Keeps _ there = Unit {0}

abbrev pub NoDelegate : Reading Escape → Type 0
NoDelegate (gives (delegate w c) u) = ⊥
NoDelegate _ = Unit {0}

keep_none : (o : Reading Escape) (there : ℕ → Text → Reading Escape) → NoDelegate o → Keeps o there
keep_none (gives (delegate w c) u) there h = absurd h
keep_none _ there h = tt

keep_if : (b : Bool) (p q : Reading Escape) (p' q' : ℕ → Text → Reading Escape) → Keeps p p' → Keeps q q' →
    Keeps (if b then p else q) (λ r s. if b then p' r s else q' r s)
keep_if true p q p' q' g h = g
keep_if false p q p' q' g h = h

none_if : (b : Bool) (p q : Reading Escape) → NoDelegate p → NoDelegate q → NoDelegate (if b then p else q)
none_if true p q g h = g
none_if false p q g h = h

none_then : {A : Type 0} (o : Reading A) (k : A → Text → Reading Escape) → ((a : A) (t : Text) → NoDelegate (k a t)) →
    NoDelegate (o >=> k)
none_then (gives a u) k h = h a u
none_then (fails e) k h = tt

coded_none : (f : Flags) (w h v : ℕ) (t : Text) → NoDelegate (leaf_of_value f w h v t)
unfolding leaf_of_value
coded_none f w h v t = by_tests (w == 2 && not f.unicode && nat_le 0x80 v && nat_le v 0xFF) (is_scalar v) where
  by_tests : (b s : Bool) →
      NoDelegate (if b then gives (literal_bytes v) t else if s then gives
      (literal v f.casei) t else error_at h invalid_codepoint_value)
  by_tests true s = tt
  by_tests false true = tt
  by_tests false false = tt

pub hex_none : (f : Flags) (w : ℕ) (t : Text) → NoDelegate (hex f w t)
unfolding hex
hex_none f w t =
    none_then (layout_reading (layout f.ignore_space t)) _
    (λ _ v. none_then (value f.ignore_space (reach_of v) w v) _ (λ a r. coded_none f w (reach_of v) a r))

boundary_none : (x : Bool) (p : ℕ) (negated : Bool) (t : Text) → NoDelegate (boundary x p negated t)
unfolding boundary named_boundary
boundary_none x p negated t =
    none_then (layout_reading (layout x t)) _
    (λ _ v. choose_both NoDelegate (strip (code "{") v) _ _
    (λ inside _. none_then (layout_reading (layout x inside)) _
    (λ _ w. none_if (at_count w) _ _ tt
    (none_then (name x p (suc _) inside) _
    (λ word r. choose_both NoDelegate (boundary_of_name negated word) _ _ (λ a _. tt) tt)))) tt)

pub backref_leaf_none : (f : Flags) (o : Reading Reference) → NoDelegate (backref_leaf f o)
backref_leaf_none f o = none_then o (λ r u. gives (backref r f.casei) u) (λ r u. tt)

call_none : (p c : ℕ) (t : Text) → NoDelegate (call_escape p c t)
unfolding call_escape
call_none p c [] = tt
call_none p c (d ∷ t) =
    none_then (reference.subroutine_call (d ∷ t)) (λ r u. gives (subroutine_call r) u) (λ r u. tt)

pub outside_none : (u i : Bool) (p c : ℕ) (t : Text) → NoDelegate (outside (case_flags u i) p c t)
unfolding outside
outside_none u i p c t =
    none_if (c ∈ "k") _ _ (backref_leaf_none (case_flags u i) (reference.back_reference t))
    (none_if (c ∈ "g") _ _ (call_none p c t)
    (none_if (c ∈ "bB") _ _ (boundary_none false p (c ∈ "B") t) tt))

-- properties

module _ (u i : Bool) where
  property_keeps : (p c : ℕ) (t : Text) →
      Keeps (property (unicode_flags false) false p c t) (λ q s. property (case_flags u i) false q c (t ++ s))
  unfolding property
  property_keeps p c [] = tt
  property_keeps p c (d ∷ t) = by_property (read_property (c ∈ "P") (d ∷ t)) (read_stays (c ∈ "P") d t) where
    by_property : (o : Option (Property × Text)) → StaysSome o (λ s. read_property (c ∈ "P") (d ∷ (t ++ s)))
        → Keeps (choose o (λ r. gives (delegate (property_text false false r.0) false) r.1)
        (error_at p unclosed_unicode_name))
        (λ q s. choose (read_property (c ∈ "P") (d ∷ (t ++ s)))
        (λ r. gives (delegate (property_text u false r.0) i) r.1) (error_at q unclosed_unicode_name))
    by_property None h = tt
    by_property (Some a) h = (
      property_text u false a.0,
      i,
      λ q s. ap
          (λ o. choose o (λ r. gives (delegate (property_text u false r.0) i) r.1) (error_at q unclosed_unicode_name))
          (h s),
    )

  lone_keeps : (t : Text) (x : Reading Escape) (y : ℕ → Text → Reading Escape) (o q : Option Escape) → NoDelegate x →
      Alike o q → Keeps (choose o (λ e. gives e t) x) (λ r s. choose q (λ e. gives e (t ++ s)) (y r s))
  lone_keeps t x y (Some (delegate w c)) (Some (delegate v b)) none h = (v, b, λ r s. refl)
  lone_keeps t x y (Some (delegate w c)) _ none h = absurd h
  lone_keeps t x y (Some _) q none h = tt
  lone_keeps t x y None q none h = keep_none x _ none

  escape_keeps : (p : ℕ) (t : Text) →
      Keeps (escape_at (unicode_flags false) false p t) (λ q s. escape_at (case_flags u i) false q (t ++ s))
  unfolding escape_at number_escape
  escape_keeps p [] = tt
  escape_keeps p (c ∷ t) =
      keep_if (is_ascii_digit c) _ _ _ _
      (keep_none _ _ (backref_leaf_none (unicode_flags false) (reference.numbered_reference (c ∷ t))))
      (keep_if (c ∈ "x") _ _ _ _ (keep_none _ _ (hex_none (unicode_flags false) 2 t))
      (keep_if (c ∈ "u") _ _ _ _ (keep_none _ _ (hex_none (unicode_flags false) 4 t))
      (keep_if (c ∈ "U") _ _ _ _ (keep_none _ _ (hex_none (unicode_flags false) 8 t))
      (keep_if (c ∈ "pP") _ _ _ _ (property_keeps p c t)
      (lone_keeps t _ _ _ _ (outside_none false false p c t)
      (lone_alike (unicode_flags false) (case_flags u i) false c))))))

  pub escape_carries : (t w v : Text) (b : Bool) → escape (unicode_flags false) false t ≡ gives (delegate w b) v →
      (x : Text) × (c : Bool)
      × ((s : Text) → escape (case_flags u i) false (t ++ s) ≡ gives (delegate x c) (v ++ s))
  escape_carries t w v b e =
      let (x, c, same) = subst (λ o. Keeps o (λ q s. escape_at (case_flags u i) false q (t ++ s))) e
      (escape_keeps (reach_of t + 1) t) in
      (x, c, λ s. same (reach_of (t ++ s) + 1) s)
