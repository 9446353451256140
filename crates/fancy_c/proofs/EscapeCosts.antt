-- What an escape or a class is read as has at most six bytes of text for each byte that is read.
use Rattle.std.proofs.Common.{◌≡◌, ℕ, ◌+◌, ◌-◌, ◌*◌, ◌<◌, ◌≤◌, ◌==◌, Bool, true, false, ◌&&◌, if◌then◌else◌}
use Rattle.std.proofs.Common.{[], ◌∷◌, ◌++◌, Option, Some, None, IfSome, option_map, nat_le, refl, ap, arith, rules}
use Rattle.std.proofs.lemmas.Bool.{cond_both}
use Rattle.std.proofs.lemmas.Bool.Decides.{nat_tests}
use Rattle.std.proofs.lemmas.Str.{len_utf8_ascii, len_utf8_bounds}
use Rattle.std.specs.Char.{is_ascii_digit, len_utf8, to_ascii_lowercase}
use Rattle.std.specs.Option.{option_and_then}
use Rattle.std.specs.Prelude.{codes, nat_lt, not}
use Rattle.std.specs.Str.{bytes_eq}
use Prim.Native.Char.{code}
use Rattle.fancy_lex.proofs.LoneLemmas.{AtRows, of_lone}
use Rattle.fancy_lex.proofs.ReadingLemmas.{choose_both}
use Rattle.fancy_lex.proofs.ReferenceLaws.{IsCut, cut_is}
use Rattle.fancy_lex.proofs.TextLemmas.{bytes-append}
use Rattle.fancy_lex.specs.Boundary as boundaries
use Rattle.fancy_lex.specs.BoundarySteps as boundary_steps
use Rattle.fancy_lex.specs.Characters.{◌∈◌}
use Rattle.fancy_lex.specs.Class.{joint}
use Rattle.fancy_lex.specs.Delimited.{delimited_name, name_before, of_name}
use Rattle.fancy_lex.specs.Escape.{escape, escape_at, number_escape, call_escape, backref_leaf, property, outside}
use Rattle.fancy_lex.specs.Escape.{lone_escape, lone_anywhere, lone_outside}
use Rattle.fancy_lex.specs.EscapeReference.{group_number, numbered_reference, back_reference, is_relative}
use Rattle.fancy_lex.specs.EscapeReference.{relative_target, call_target, written_call, delimited_call, numbered_call}
use Rattle.fancy_lex.specs.EscapeReference as reference
use Rattle.fancy_lex.specs.Escaped.{Escape}
use Rattle.fancy_lex.specs.Escaped.{delegate, subroutine_call, hex_class}
use Rattle.fancy_lex.specs.Escaped.{negated_hex_class}
use Rattle.fancy_lex.specs.ErrorTable.{property_not_closed}
use Rattle.fancy_lex.specs.Hex as hexes
use Rattle.fancy_lex.specs.Id.{nonempty_front}
use Rattle.fancy_lex.specs.IdReference.{IdReference, id_alone, id_and_amount, amount_alone, id_reference}
use Rattle.fancy_lex.specs.LayoutSteps.{layout}
use Rattle.fancy_lex.specs.Number.{at_digit}
use Rattle.fancy_lex.specs.NumberText.{number_text}
use Rattle.fancy_lex.specs.Property.{Property, PropertyName, single, braced, name_at, read_property, Form, set, pair}
use Rattle.fancy_lex.specs.Property.{look_up, form, form_text, without_caret, lowercase, braced_text, property_text}
use Rattle.fancy_lex.specs.Property.{is_negated_set}
use Rattle.fancy_lex.specs.Reading.{Reading, gives, fails, choose, ◌>=>◌, layout_reading}
use Rattle.fancy_lex.specs.Referred.{Reference, Call, call_to, target_of_name, name_reading}
use Rattle.fancy_lex.specs.Target.{Target, by_number, by_name, relative}
use Rattle.fancy_lex.specs.Text.{Text, bytes, strip, reach_of, cut_at}
use Rattle.fancy_lex.specs.declared.flags.Flags.{Flags}

-- ---- the text of a property

pub by_test : (m n : ℕ) → nat_le m n ≡ true → m ≤ n
by_test m n e = grind (arith, nat_tests)

lowercase_size : (c : ℕ) → len_utf8 (to_ascii_lowercase c) ≤ len_utf8 c
lowercase_size c =
    cond_both (nat_lt c 65) _ _ (λ d. len_utf8 d ≤ len_utf8 c) (λ _. omega arith) (λ _.
    cond_both (nat_lt c 91) _ _ (λ d. len_utf8 d ≤ len_utf8 c)
    (λ e. omega (arith, len_utf8_ascii (c + 32) (below e), (len_utf8_bounds c).0)) (λ _. omega arith))
  where
    below : nat_lt c 91 ≡ true → c + 32 < 128
    below e = grind (arith, nat_tests)

lowercase_bytes : (t : Text) → bytes (lowercase t) ≤ bytes t
unfolding bytes
lowercase_bytes [] = omega arith
lowercase_bytes (c ∷ t) = omega (arith, lowercase_size c, lowercase_bytes t)

without_caret_bytes : (negated : Bool) (t : Text) → bytes (without_caret negated t).1 ≤ bytes t
unfolding bytes
without_caret_bytes negated [] = omega arith
without_caret_bytes negated (c ∷ t) =
    cond_both (c == code "^") _ _ (λ (p : Bool × Text). bytes p.1 ≤ bytes (c ∷ t)) (λ _. omega arith) (λ _. omega arith)

-- however the form is written, it has at most n bytes
abbrev IsShort : ℕ → Form → Type 0
IsShort n f = (inside negated : Bool) → bytes (form_text inside negated f) ≤ n

set_short : (n : ℕ) (items : Text) → bytes items + 3 ≤ n → IsShort n (set items)
unfolding bytes
set_short n items h inside true =
    omega (arith, h, bytes-append (codes "[^") (items ++ codes "]"), bytes-append items (codes "]"))
set_short n items h true false = omega (arith, h)
set_short n items h false false =
    omega (arith, h, bytes-append (codes "[") (items ++ codes "]"), bytes-append items (codes "]"))

pair_short : (n : ℕ) (plain turned : Text) → bytes plain ≤ n → bytes turned ≤ n → IsShort n (pair plain turned)
pair_short n plain turned h k inside true = k
pair_short n plain turned h k inside false = h

known_set : (n : ℕ) (items : Text) → nat_le (bytes items + 3) 23 ≡ true → IsShort (23 + n) (set items)
known_set n items e = set_short (23 + n) items (omega (arith, by_test (bytes items + 3) 23 e))

known_pair : (n : ℕ) (plain turned : Text) → nat_le (bytes plain) 23 ≡ true → nat_le (bytes turned) 23 ≡ true →
    IsShort (23 + n) (pair plain turned)
known_pair n plain turned e f =
    pair_short (23 + n) plain turned (omega (arith, by_test (bytes plain) 23 e)) (omega (arith, by_test (bytes turned) 23 f))

form_short : (unicode : Bool) (word name : Text) → IsShort (23 + bytes name) (form unicode (look_up word) name)
unfolding bytes
form_short unicode word name =
    cond_both (bytes_eq word (codes "alnum")) _ _ (λ k. IsShort (23 + bytes name) (form unicode k name))
    (λ _. either unicode _ _ (known_set (bytes name) _ refl) (known_set (bytes name) _ refl)) (λ _.
    cond_both (bytes_eq word (codes "blank")) _ _ (λ k. IsShort (23 + bytes name) (form unicode k name))
    (λ _. either unicode _ _ (known_set (bytes name) _ refl) (known_set (bytes name) _ refl)) (λ _.
    cond_both (bytes_eq word (codes "cntrl")) _ _ (λ k. IsShort (23 + bytes name) (form unicode k name))
    (λ _. either unicode _ _ (known_set (bytes name) _ refl) (known_set (bytes name) _ refl)) (λ _.
    cond_both (bytes_eq word (codes "word")) _ _ (λ k. IsShort (23 + bytes name) (form unicode k name))
    (λ _. either unicode _ _ (known_pair (bytes name) _ _ refl refl) (known_set (bytes name) _ refl)) (λ _.
    cond_both (bytes_eq word (codes "graph")) _ _ (λ k. IsShort (23 + bytes name) (form unicode k name))
    (λ _. either unicode _ _ (known_pair (bytes name) _ _ refl refl) (known_set (bytes name) _ refl)) (λ _.
    cond_both (bytes_eq word (codes "print")) _ _ (λ k. IsShort (23 + bytes name) (form unicode k name))
    (λ _. either unicode _ _ (known_pair (bytes name) _ _ refl refl) (known_set (bytes name) _ refl)) (λ _.
    cond_both (bytes_eq word (codes "cs")) _ _ (λ k. IsShort (23 + bytes name) (form unicode k name))
    (λ _. known_pair (bytes name) _ _ refl refl) (λ _. other)))))))
  where
    either : (b : Bool) (with without : Form) → IsShort (23 + bytes name) with → IsShort (23 + bytes name) without →
        IsShort (23 + bytes name) (if b then with else without)
    either true with without h k = h
    either false with without h k = k

    other : IsShort (23 + bytes name) (pair (codes "\\p{" ++ name ++ codes "}") (codes "\\P{" ++ name ++ codes "}"))
    other =
        pair_short (23 + bytes name) _ _
        (omega (arith, bytes-append (codes "\\p{") (name ++ codes "}"), bytes-append name (codes "}")))
        (omega (arith, bytes-append (codes "\\P{") (name ++ codes "}"), bytes-append name (codes "}")))

braced_short : (unicode inside negated : Bool) (s : Text) →
    bytes (braced_text unicode inside (without_caret negated s)) + 2 ≤ 24 + 6 * bytes s
unfolding bytes
braced_short unicode inside true [] = by_test _ _ refl
braced_short unicode inside false [] = by_test _ _ refl
braced_short unicode inside negated (c ∷ s) =
    let p = without_caret negated (c ∷ s) in
    omega (
      arith,
      form_short unicode (lowercase p.1) (lowercase p.1) inside p.0,
      lowercase_bytes p.1,
      without_caret_bytes negated (c ∷ s),
      (len_utf8_bounds c).0,
    )

-- six bytes for each byte of a name, of the letter and of the backslash
abbrev name_budget : PropertyName → ℕ
name_budget (single c) = 12 + 6 * len_utf8 c
name_budget (braced s) = 24 + 6 * bytes s

property_short : (unicode inside : Bool) (q : Property) →
    bytes (property_text unicode inside q) + 2 ≤ name_budget q.name
unfolding bytes property_text
property_short unicode inside q = by_name_of q.negated q.name
  where
    by_name_of : (negated : Bool) (n : PropertyName) →
        bytes (property_text unicode inside (record { negated = negated; name = n })) + 2 ≤ name_budget n
    by_name_of true (single c) = omega (arith, (len_utf8_bounds c).0)
    by_name_of false (single c) = omega (arith, (len_utf8_bounds c).0)
    by_name_of negated (braced s) = braced_short unicode inside negated s

cut_bytes : (delimiter : ℕ) (t : Text) → IfSome (cut_at delimiter t) (λ p. bytes p.0 + bytes p.1 + 1 ≤ bytes t)
unfolding bytes
cut_bytes delimiter t = by_cut (cut_at delimiter t) (cut_is delimiter t)
  where
    by_cut : (o : Option (Text × Text)) → IsCut delimiter t o → IfSome o (λ p. bytes p.0 + bytes p.1 + 1 ≤ bytes t)
    by_cut None e = tt
    by_cut (Some (w, u)) e =
        omega (arith, ap bytes e, bytes-append w (delimiter ∷ u), (len_utf8_bounds delimiter).0)

-- the property that was read, and the text after it, are as long as the text at most
abbrev IsRead : Text → Option (Property × Text) → Type 0
IsRead t o = IfSome o (λ p. name_budget p.0.name + 6 * bytes p.1 ≤ 6 * bytes t + 12)

property_read : (negated : Bool) (t : Text) → IsRead t (read_property negated t)
unfolding bytes read_property name_at
property_read negated [] = tt
property_read negated (c ∷ t) =
    cond_both (c == code "{") _ _ (λ (o : Option (PropertyName × Text)). IsRead (c ∷ t) (option_map with_sign o))
    (λ _. by_cut (cut_at (code "}") t) (cut_bytes (code "}") t)) (λ _. omega arith)
  where
    with_sign : PropertyName × Text → Property × Text
    with_sign p = (record { negated = negated; name = p.0 }, p.1)

    by_cut : (o : Option (Text × Text)) → IfSome o (λ p. bytes p.0 + bytes p.1 + 1 ≤ bytes t) →
        IsRead (c ∷ t) (option_map with_sign (option_map (λ p. (braced p.0, p.1)) o))
    by_cut None h = tt
    by_cut (Some p) h = omega (arith, h, (len_utf8_bounds c).0)

-- ---- calls by name

-- the name of the target has at most n bytes
abbrev pub NamesWithin : ℕ → Target → Type 0
NamesWithin n (by_name w) = bytes w ≤ n
NamesWithin n _ = Unit {0}

abbrev pub IsCallWithin : ℕ → Option Call → Type 0
IsCallWithin n o = IfSome o (λ c. NamesWithin n c.target)

-- the name of the call, and the text after it, are as long as the text at most
abbrev pub IsCallIn : Text → Reading Call → Type 0
IsCallIn t (gives c u) = NamesWithin (bytes t - bytes u) c.target
IsCallIn t (fails e) = Unit {0}

pub target_within : (w : Text) → NamesWithin (bytes w) (target_of_name w)
unfolding target_of_name
target_within w = by_number_text (number_text w)
  where
    by_number_text : (o : Option ℕ) → NamesWithin (bytes w) (choose o by_number (by_name w))
    by_number_text (Some n) = tt
    by_number_text None = omega arith

called_within : (p : ℕ) (w : Text) → IsCallWithin (bytes w) (written_call p w)
unfolding written_call call_target
called_within p w =
    cond_both (is_relative w) _ _ (λ o. IsCallWithin (bytes w) (option_map (call_to p) o))
    (λ _. by_reference (id_reference true w)) (λ _. target_within w)
  where
    by_reference : (o : Option IdReference) →
        IsCallWithin (bytes w) (option_map (call_to p) (option_and_then relative_target o))
    by_reference None = tt
    by_reference (Some (id_alone v)) = tt
    by_reference (Some (id_and_amount v z)) = tt
    by_reference (Some (amount_alone z)) = tt

pub more_within : (m n : ℕ) (g : Target) → m ≤ n → NamesWithin m g → NamesWithin n g
more_within m n (by_name w) l h = omega (arith, l, h)
more_within m n (by_number k) l h = tt
more_within m n (relative z) l h = tt

-- a name, and the text after it, are shorter than the text
abbrev pub IsNameIn : Text → Option (Text × Text) → Type 0
IsNameIn t o = IfSome o (λ p. bytes p.0 + bytes p.1 + 1 ≤ bytes t)

pub name_in : (delimiter : ℕ) (t : Text) → IsNameIn t (name_before delimiter t)
unfolding name_before
name_in delimiter t = by_cut (cut_at delimiter t) (cut_bytes delimiter t)
  where
    by_cut : (o : Option (Text × Text)) → IsNameIn t o → IsNameIn t (option_and_then nonempty_front o)
    by_cut None h = tt
    by_cut (Some ([], u)) h = tt
    by_cut (Some (c ∷ w, u)) h = h

delimited_in : (t : Text) → IsNameIn t (delimited_name t)
unfolding delimited_name bytes
delimited_in [] = tt
delimited_in (c ∷ t) =
    cond_both (c == code "<") _ _ (IsNameIn (c ∷ t)) (λ _. further (name_before (code ">") t) (name_in (code ">") t)) (λ _.
    cond_both (c == code "'") _ _ (IsNameIn (c ∷ t)) (λ _. further (name_before (code "'") t) (name_in (code "'") t))
    (λ _. tt))
  where
    further : (o : Option (Text × Text)) → IsNameIn t o → IsNameIn (c ∷ t) o
    further None h = tt
    further (Some p) h = omega (arith, h)

pub call_in : (p : ℕ) (t : Text) (f : Text → Option Call) (o : Option (Text × Text)) → IsNameIn t o →
    ((w : Text) → IsCallWithin (bytes w) (f w)) → IsCallIn t (name_reading p (of_name f o))
call_in p t f None h k = tt
call_in p t f (Some (w, u)) h k = by_call (f w) (k w)
  where
    by_call : (o : Option Call) → IsCallWithin (bytes w) o → IsCallIn t (name_reading p (option_map (λ a. (a, u)) o))
    by_call None i = tt
    by_call (Some c) i = more_within (bytes w) (bytes t - bytes u) c.target (omega (arith, h)) i

subroutine_in : (t : Text) → IsCallIn t (reference.subroutine_call t)
unfolding reference.subroutine_call numbered_call delimited_call
subroutine_in t =
    cond_both (at_digit t) _ _ (IsCallIn t) (λ _. by_digits (group_number t))
    (λ _. call_in (reach_of t) t (written_call (reach_of t)) (delimited_name t) (delimited_in t) (called_within (reach_of t)))
  where
    by_digits : (o : Reading ℕ) → IsCallIn t (o >=> (λ k u. gives (call_to (reach_of t) (by_number k)) u))
    by_digits (gives k u) = tt
    by_digits (fails e) = tt

-- ---- escapes

-- The leaf of an escape of t, with u after it: a delegate has six bytes for each byte that was read and for the
-- backslash, with two for its joint in a class; and the name of a call was read.
abbrev pub IsPaid : Text → Text → Escape → Type 0
IsPaid t u (delegate w casei) = bytes (joint (is_negated_set w)) + bytes w + 6 * bytes u ≤ 6 * (bytes t + 1)
IsPaid t u (subroutine_call c) = NamesWithin (bytes t - bytes u) c.target
IsPaid t u _ = Unit {0}

abbrev pub IsPaidIn : Text → Reading Escape → Type 0
IsPaidIn t (gives e u) = IsPaid t u e
IsPaidIn t (fails e) = Unit {0}

joint_short : (b : Bool) → bytes (joint b) ≤ 2
unfolding bytes
joint_short true = by_test _ _ refl
joint_short false = by_test _ _ refl

paid_both : {A : Type 0} (t : Text) (o : Reading A) (f : A → Text → Reading Escape) →
    ((a : A) (u : Text) → IsPaidIn t (f a u)) → IsPaidIn t (o >=> f)
paid_both t (gives a u) f h = h a u
paid_both t (fails e) f h = tt

paid_past : (c : ℕ) (t : Text) (o : Reading Escape) → IsPaidIn t o → IsPaidIn (c ∷ t) o
unfolding bytes
paid_past c t (gives (delegate w casei) u) h = omega (arith, h)
paid_past c t (gives (subroutine_call r) u) h =
    more_within (bytes t - bytes u) (bytes (c ∷ t) - bytes u) r.target (omega arith) h
paid_past c t (gives e u) h = h
paid_past c t (fails e) h = tt

module _ (f : Flags) where
  backref_paid : (t : Text) (o : Reading Reference) → IsPaidIn t (backref_leaf f o)
  backref_paid t (gives r u) = tt
  backref_paid t (fails e) = tt

  number_paid : (inside : Bool) (p : ℕ) (t : Text) → IsPaidIn t (number_escape f inside p t)
  unfolding number_escape
  number_paid inside p t =
      cond_both inside _ _ (IsPaidIn t) (λ _. paid_both t (group_number t) _ (λ k u. tt))
      (λ _. backref_paid t (numbered_reference t))

  call_paid : (p c : ℕ) (t : Text) → IsPaidIn t (call_escape p c t)
  unfolding call_escape
  call_paid p c [] = tt
  call_paid p c (d ∷ t) = by_call (reference.subroutine_call (d ∷ t)) (subroutine_in (d ∷ t))
    where
      by_call : (o : Reading Call) → IsCallIn (d ∷ t) o → IsPaidIn (d ∷ t) (o >=> (λ r u. gives (subroutine_call r) u))
      by_call (gives r u) h = h
      by_call (fails e) h = tt

  hex_paid : (width : ℕ) (t : Text) → IsPaidIn t (hexes.hex f width t)
  unfolding hexes.hex hexes.leaf_of_value
  hex_paid width t =
      paid_both t (layout_reading (layout f.ignore_space t)) _ (λ _ u.
      paid_both t (hexes.value f.ignore_space (reach_of u) width u) _ (λ v w.
      cond_both (width == 2 && not f.unicode && nat_le 0x80 v && nat_le v 0xFF) _ _ (IsPaidIn t) (λ _. tt)
      (λ _. cond_both (hexes.is_scalar v) _ _ (IsPaidIn t) (λ _. tt) (λ _. tt))))

  -- the letter is one byte before the text
  property_paid : (inside : Bool) (p c : ℕ) (t : Text) → IsPaidIn (c ∷ t) (property f inside p c t)
  unfolding property bytes
  property_paid inside p c [] = tt
  property_paid inside p c (d ∷ t) =
      by_property (read_property (c ∈ "P") (d ∷ t)) (property_read (c ∈ "P") (d ∷ t))
    where
      by_property : (o : Option (Property × Text)) → IsRead (d ∷ t) o → IsPaidIn (c ∷ d ∷ t)
          (choose o (λ q. gives (delegate (property_text f.unicode inside q.0) f.casei) q.1) (fails (property_not_closed p)))
      by_property None h = tt
      by_property (Some (q, u)) h =
          omega (
            arith,
            h,
            property_short f.unicode inside q,
            joint_short (is_negated_set (property_text f.unicode inside q)),
            (len_utf8_bounds c).0,
          )

  boundary_paid : (p : ℕ) (negated : Bool) (t : Text) → IsPaidIn t (boundary_steps.boundary f.ignore_space p negated t)
  unfolding boundary_steps.boundary boundary_steps.named_boundary
  boundary_paid p negated t =
      paid_both t (layout_reading (layout f.ignore_space t)) _
      (λ _ u. choose_both (IsPaidIn t) (strip (code "{") u) _ _
      (λ v _. paid_both t (layout_reading (layout f.ignore_space v)) _
      (λ _ w. cond_both (boundaries.at_count w) _ _ (IsPaidIn t) (λ _. tt) (λ _. braces v))) tt)
    where
      braces : (v : Text) → IsPaidIn t (boundary_steps.named_boundary f.ignore_space p negated v)
      braces v =
          paid_both t (boundary_steps.name f.ignore_space p _ v) _
          (λ w u. choose_both (IsPaidIn t) (boundaries.boundary_of_name negated w) _ _ (λ a _. tt) tt)

  outside_paid : (p c : ℕ) (t : Text) → IsPaidIn t (outside f p c t)
  unfolding outside
  outside_paid p c t =
      let P = IsPaidIn t in
      cond_both (c ∈ "k") _ _ P (λ _. backref_paid t (back_reference t)) (λ _.
      cond_both (c ∈ "g") _ _ P (λ _. call_paid p c t) (λ _.
      cond_both (c ∈ "bB") _ _ P (λ _. boundary_paid p _ t) (λ _. tt)))

  lone_paid : (inside : Bool) (c : ℕ) (t : Text) (e : Escape) → lone_escape f inside c ≡ Some e → IsPaid (c ∷ t) t e
  unfolding bytes
  lone_paid inside c t =
      of_lone (IsPaid (c ∷ t) t) f inside c (λ _. tt) anywhere
      (cond_both inside _ _ (AtRows (IsPaid (c ∷ t) t) c) (λ _. search rules) (λ _. outside_rows))
    where
      outside_rows : AtRows (IsPaid (c ∷ t) t) c (lone_outside f c)
      outside_rows = search rules

      letter_paid : bytes (joint (is_negated_set (code "\\" ∷ c ∷ []))) + bytes (code "\\" ∷ c ∷ []) + 6 * bytes t
          ≤ 6 * (bytes (c ∷ t) + 1)
      letter_paid = omega (arith, (len_utf8_bounds c).0)

      text_paid : (w : Text) → nat_le (bytes (joint (is_negated_set w)) + bytes w) 12 ≡ true →
          bytes (joint (is_negated_set w)) + bytes w + 6 * bytes t ≤ 6 * (bytes (c ∷ t) + 1)
      text_paid w e = omega (arith, by_test _ 12 e, (len_utf8_bounds c).0)

      anywhere : AtRows (IsPaid (c ∷ t) t) c (lone_anywhere f c)
      anywhere = (
        λ _. letter_paid,
        (
          λ _. text_paid hex_class refl,
          (
            λ _. text_paid negated_hex_class refl,
            (λ _. tt, (λ _. tt, (λ _. tt, (λ _. tt, (λ _. tt, (λ _. tt, (λ _. tt, tt))))))),
          ),
        ),
      )

  pub escape_paid : (inside : Bool) (t : Text) → IsPaidIn t (escape f inside t)
  unfolding escape_at
  escape_paid inside [] = tt
  escape_paid inside (c ∷ t) =
      let P = IsPaidIn (c ∷ t) in
      let p = reach_of (c ∷ t) + 1 in
      cond_both (is_ascii_digit c) _ _ P (λ _. number_paid inside p (c ∷ t)) (λ _.
      cond_both (c ∈ "x") _ _ P (λ _. paid_past c t _ (hex_paid 2 t)) (λ _.
      cond_both (c ∈ "u") _ _ P (λ _. paid_past c t _ (hex_paid 4 t)) (λ _.
      cond_both (c ∈ "U") _ _ P (λ _. paid_past c t _ (hex_paid 8 t)) (λ _.
      cond_both (c ∈ "pP") _ _ P (λ _. property_paid inside p c t) (λ _.
      choose_both P (lone_escape f inside c) _ _ (lone_paid inside c t)
      (cond_both inside _ _ P (λ _. tt) (λ _. paid_past c t _ (outside_paid p c t))))))))
