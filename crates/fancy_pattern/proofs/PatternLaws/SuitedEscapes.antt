-- What is read without parentheses suits the flags that hold there.
use Rattle.std.proofs.Common.{◌≡◌, ℕ, ◌+◌, Bool, true, false, not, ◌&&◌, ◌==◌, [], ◌∷◌, codes}
use Rattle.std.proofs.Common.{Option, Some, None, IfSome, refl, sym, ap, ◌∙◌, subst, nat_le, arith}
use Rattle.std.specs.Prelude.{option_map, nat_eq}
use Rattle.std.specs.Option.{option_and_then}
use Rattle.std.specs.Str.{bytes_eq}
use Rattle.std.specs.List.{starts_with, list_all}
use Rattle.std.specs.Char.{is_ascii_digit}
use Rattle.std.proofs.lemmas.Bool.{cond_both, cond-true, false≢true, and_parts}
use Rattle.std.proofs.lemmas.Bool.Decides.{nat_tests}
use Prim.Native.Char.{code}
use Rattle.fancy_lex.specs.Boundary as boundaries
use Rattle.fancy_lex.specs.BoundarySteps as boundary_steps
use Rattle.fancy_lex.specs.Characters.{◌∈◌, is_among}
use Rattle.fancy_lex.specs.Delimited.{delimited_name, of_name}
use Rattle.fancy_lex.specs.Escape.{escape, escape_at, number_escape, call_escape, backref_leaf, property}
use Rattle.fancy_lex.specs.Escape.{outside, lone_escape, lone_anywhere, lone_outside}
use Rattle.fancy_lex.specs.EscapeReference.{group_number, numbered_reference, back_reference, subroutine_call}
use Rattle.fancy_lex.specs.EscapeReference.{numbered_call, delimited_call, written_call, call_target, is_relative}
use Rattle.fancy_lex.specs.EscapeReference.{relative_target}
use Rattle.fancy_lex.specs.Escaped.{Escape, hex_class, negated_hex_class}
use Rattle.fancy_lex.specs.Escaped as escaped
use Rattle.fancy_lex.specs.Hex as hexes
use Rattle.fancy_lex.specs.IdReference.{IdReference, id_alone, id_and_amount, amount_alone, id_reference}
use Rattle.fancy_lex.specs.ErrorTable.{name_of_no_boundary}
use Rattle.fancy_lex.specs.LayoutSteps.{layout}
use Rattle.fancy_lex.specs.Number.{at_digit}
use Rattle.fancy_lex.specs.NumberText.{number_text}
use Rattle.fancy_lex.specs.Property.{read_property, property_text}
use Rattle.fancy_lex.specs.Reading.{Reading, gives, fails, layout_reading, choose}
use Rattle.fancy_lex.specs.Referred.{Reference, Call, call_to, target_of_name, name_reading}
use Rattle.fancy_lex.specs.Target.{Target, by_number, by_name}
use Rattle.fancy_lex.specs.Text.{Text, strip, reach_of}
use Rattle.fancy_lex.specs.declared.escape.Assertion.{Assertion}
use Rattle.fancy_lex.specs.declared.escape.Assertion.TheVariants.{LeftWordBoundary, RightWordBoundary}
use Rattle.fancy_lex.specs.declared.flags.Flags.{Flags}
use Rattle.fancy_lex.proofs.LoneLemmas.{AtRows, of_lone}
use Rattle.fancy_lex.proofs.ReadingLemmas.{choose_both}
use Rattle.fancy_lex.proofs.ReferencePositions.{IfGives}
use Rattle.std.proofs.Math.Bool.{beq}
use Rattle.fancy_grammar.specs.AtomStart.{leaf_node, start_anchor, end_anchor}
use Rattle.fancy_grammar.specs.Label.{AstReference, ast_call}
use Rattle.fancy_grammar.specs.Label as label
use Rattle.fancy_grammar.specs.PatternNeeds.{is_hex_class, is_kept_by_backslash}
use Rattle.fancy_grammar.specs.PatternReference.{unresolved_text}
use Rattle.fancy_grammar.specs.Tree.{leaf}
use Rattle.fancy_grammar.proofs.Writable.{IsNameWritable}
use Rattle.fancy_pattern.proofs.Parsed.Readers.{gives_both, gives_after}
use Rattle.fancy_pattern.proofs.Parsed.Targets.{IfNamed, delimited_writable}
use Rattle.fancy_pattern.proofs.PatternLaws.Suited.{AreMet, none_met, Suits}

-- ---- leaves with the case flag that holds

module _ (f : Flags) where
  pub literal_suits : (s : Text) (b : Bool) → b ≡ f.casei → Suits f (leaf (label.literal s b))
  literal_suits s true e = record { casei = e; multi = tt; dotnl = tt; crlf = tt }
  literal_suits s false e =
      cond_both (list_all (is_kept_by_backslash f.oniguruma_mode) s) _ _ (λ n. AreMet n f) (λ _. none_met f)
      (λ _. record { casei = e; multi = tt; dotnl = tt; crlf = tt })

  pub delegate_suits : (s : Text) (b : Bool) → b ≡ f.casei → Suits f (leaf (label.delegate s b))
  delegate_suits s true e = record { casei = e; multi = tt; dotnl = tt; crlf = tt }
  delegate_suits s false e =
      cond_both (is_hex_class s) _ _ (λ n. AreMet n f) (λ _. none_met f)
      (λ _. record { casei = e; multi = tt; dotnl = tt; crlf = tt })

  pub dot_suits : Suits f (leaf (label.any f.dotnl f.crlf))
  dot_suits =
      cond_both (beq f.dotnl f.crlf) _ _ (λ n. AreMet n f) (λ _. none_met f)
      (λ _. record { casei = tt; multi = tt; dotnl = refl; crlf = refl })

  pub start_suits : Suits f (leaf (label.assertion (start_anchor f)))
  start_suits =
      let P = λ (a : Assertion). Suits f (leaf (label.assertion a)) in
      cond_both f.multi _ _ P
      (λ e. cond_both f.oniguruma_mode _ _ P (λ _. record { casei = tt; multi = sym e; dotnl = tt; crlf = refl })
      (λ _. record { casei = tt; multi = sym e; dotnl = tt; crlf = refl })) (λ _. none_met f)

  pub end_suits : Suits f (leaf (label.assertion (end_anchor f)))
  end_suits =
      cond_both f.multi _ _ (λ a. Suits f (leaf (label.assertion a)))
      (λ e. record { casei = tt; multi = sym e; dotnl = tt; crlf = refl }) (λ _. none_met f)

-- ---- calls between delimiters have a name that is written so

-- the call is not written as a group
abbrev pub IsBare : Target → Type 0
IsBare g = starts_with nat_eq (unresolved_text (ast_call g)) (codes "(") ≡ false

bare_name : (w : Text) → is_relative w ≡ false → IsNameWritable w → IsBare (by_name w)
bare_name [] r h = absurd h
bare_name (c ∷ w) r h =
    let P = λ (t : Text). starts_with nat_eq t (codes "(") ≡ false in
    let angle = is_among (code ">") (c ∷ w) in
    let quote = is_among (code "'") (c ∷ w) in
    cond_both (is_relative (c ∷ w)) _ _ P (λ e. absurd (false≢true (sym r ∙ e))) (λ _.
    cond_both (not angle) _ _ P (λ _. refl) (λ e.
    cond_both (not quote) _ _ P (λ _. refl) (λ k. absurd (false≢true (sym h ∙ both angle quote e k)))))
  where
    both : (a b : Bool) → not a ≡ false → not b ≡ false → (a && b) ≡ true
    both true true e k = refl
    both true false e k = absurd cc
    both false b e k = absurd cc

bare_target : (w : Text) → IsNameWritable w → IfSome (call_target w) IsBare
unfolding call_target target_of_name
bare_target w h =
    let P = λ (o : Option Target). IfSome o IsBare in
    cond_both (is_relative w) _ _ P (λ _. of_amount (id_reference true w)) (λ e. of_number e (number_text w))
  where
    of_amount : (o : Option IdReference) → IfSome (option_and_then relative_target o) IsBare
    of_amount None = tt
    of_amount (Some (amount_alone z)) = refl
    of_amount (Some (id_alone v)) = tt
    of_amount (Some (id_and_amount v z)) = tt

    of_number : is_relative w ≡ false → (o : Option ℕ) → IsBare (choose o by_number (by_name w))
    of_number e (Some n) = refl
    of_number e None = bare_name w e h

bare_written : (p : ℕ) (w : Text) → IsNameWritable w → IfSome (written_call p w) (λ c. IsBare c.target)
unfolding written_call
bare_written p w h = seen (call_target w) (bare_target w h)
  where
    seen : (o : Option Target) → IfSome o IsBare → IfSome (option_map (call_to p) o) (λ c. IsBare c.target)
    seen None k = tt
    seen (Some g) k = k

bare_delimited : (p : ℕ) (t : Text) → IfSome (delimited_call p t) (λ q. IsBare (q.0).target)
unfolding delimited_call
bare_delimited p t = by_name_of (delimited_name t) (delimited_writable t)
  where
    seen : (u : Text) (o : Option Call) → IfSome o (λ c. IsBare c.target) →
        IfSome (option_map (λ a. (a, u)) o) (λ (q : Call × Text). IsBare (q.0).target)
    seen u None k = tt
    seen u (Some c) k = k

    by_name_of : (o : Option (Text × Text)) → IfNamed o →
        IfSome (of_name (written_call p) o) (λ (q : Call × Text). IsBare (q.0).target)
    by_name_of None h = tt
    by_name_of (Some (w, u)) h = seen u (written_call p w) (bare_written p w h)

bare_call : (t : Text) → IfGives (λ c. IsBare c.target) (subroutine_call t)
unfolding subroutine_call numbered_call
bare_call t =
    let P = IfGives (λ (c : Call). IsBare c.target) in
    cond_both (at_digit t) _ _ P (λ _. gives_after (λ (c : Call). IsBare c.target) (group_number t) _ (λ k u. refl))
    (λ _. read_so (delimited_call (reach_of t) t) (bare_delimited (reach_of t) t))
  where
    read_so : (o : Option (Call × Text)) → IfSome o (λ q. IsBare (q.0).target) →
        IfGives (λ c. IsBare c.target) (name_reading (reach_of t) o)
    read_so None h = tt
    read_so (Some q) h = h

-- ---- escapes

-- what denotes itself after a backslash outside Oniguruma mode does so in it
kept_in : (o : Bool) (c : ℕ) → is_kept_by_backslash false c ≡ true → is_kept_by_backslash o c ≡ true
kept_in false c e = e
kept_in true c e = ap (λ b. b && true) (and_parts _ _ e).0

left_kept : (c : ℕ) → (c ∈ "<") ≡ true → is_kept_by_backslash true c ≡ true
left_kept c e =
    let same : c ≡ code "<" = grind (arith, nat_tests) in
    subst (λ a. is_kept_by_backslash true a ≡ true) (sym same) refl

right_kept : (c : ℕ) → (c ∈ ">") ≡ true → is_kept_by_backslash true c ≡ true
right_kept c e =
    let same : c ≡ code ">" = grind (arith, nat_tests) in
    subst (λ a. is_kept_by_backslash true a ≡ true) (sym same) refl

-- a back reference has the case flag that holds, a call is not in parentheses, and any other leaf suits the flags
abbrev pub IsSuited : Flags → Escape → Type 0
IsSuited f (escaped.backref r casei) = casei ≡ f.casei
IsSuited f (escaped.subroutine_call c) = IsBare c.target
IsSuited f e = Suits f (leaf_node e)

module _ (f : Flags) where
  suited_backref : (q : Reading Reference) → IfGives (IsSuited f) (backref_leaf f q)
  suited_backref q = gives_after (IsSuited f) q _ (λ r u. refl)

  suited_number : (p : ℕ) (t : Text) → IfGives (IsSuited f) (number_escape f false p t)
  unfolding number_escape
  suited_number p t = suited_backref (numbered_reference t)

  suited_call : (p c : ℕ) (t : Text) → IfGives (IsSuited f) (call_escape p c t)
  unfolding call_escape
  suited_call p c [] = tt
  suited_call p c (d ∷ t) =
      gives_both (λ (c : Call). IsBare c.target) (IsSuited f) (subroutine_call (d ∷ t)) _ (bare_call (d ∷ t)) (λ a u h. h)

  suited_coded : (width h v : ℕ) (u : Text) → IfGives (IsSuited f) (hexes.leaf_of_value f width h v u)
  unfolding hexes.leaf_of_value
  suited_coded width h v u =
      cond_both (width == 2 && not f.unicode && nat_le 0x80 v && nat_le v 0xFF) _ _ (IfGives (IsSuited f))
      (λ _. none_met f)
      (λ _. cond_both (hexes.is_scalar v) _ _ (IfGives (IsSuited f)) (λ _. literal_suits f (v ∷ []) f.casei refl)
      (λ _. tt))

  suited_hex : (width : ℕ) (t : Text) → IfGives (IsSuited f) (hexes.hex f width t)
  unfolding hexes.hex
  suited_hex width t =
      gives_after (IsSuited f) (layout_reading (layout f.ignore_space t)) _
      (λ _ u. gives_after (IsSuited f) (hexes.value f.ignore_space (reach_of u) width u) _
      (λ v w. suited_coded width (reach_of u) v w))

  suited_property : (p c : ℕ) (t : Text) → IfGives (IsSuited f) (property f false p c t)
  unfolding property
  suited_property p c [] = tt
  suited_property p c (d ∷ t) =
      choose_both (IfGives (IsSuited f)) (read_property (c ∈ "P") (d ∷ t)) _ _
      (λ q _. delegate_suits f (property_text f.unicode false q.0) f.casei refl) tt

  boundary_suits : (negated : Bool) (w : Text) →
      IfSome (boundaries.boundary_of_name negated w) (λ a. Suits f (leaf (label.assertion a)))
  boundary_suits true w = tt
  boundary_suits false w =
      let P = λ (o : Option Assertion). IfSome o (λ a. Suits f (leaf (label.assertion a))) in
      cond_both (bytes_eq w (codes "start")) _ _ P (λ _. none_met f) (λ _.
      cond_both (bytes_eq w (codes "end")) _ _ P (λ _. none_met f) (λ _.
      cond_both (bytes_eq w (codes "start-half")) _ _ P (λ _. none_met f) (λ _.
      cond_both (bytes_eq w (codes "end-half")) _ _ P (λ _. none_met f) (λ _. tt))))

  unnamed_suits : (negated : Bool) → IsSuited f (boundaries.unnamed_boundary negated)
  unnamed_suits true = none_met f
  unnamed_suits false = none_met f

  suited_named : (p : ℕ) (negated : Bool) (t : Text) →
      IfGives (IsSuited f) (boundary_steps.named_boundary f.ignore_space p negated t)
  unfolding boundary_steps.named_boundary
  suited_named p negated t =
      gives_after (IsSuited f) (boundary_steps.name f.ignore_space p _ t) _
      (λ w u. read_so u (boundaries.boundary_of_name negated w) (boundary_suits negated w) w)
    where
      read_so : (u : Text) (o : Option Assertion) → IfSome o (λ a. Suits f (leaf (label.assertion a))) → (w : Text) →
          IfGives (IsSuited f) (choose o (λ a. gives (escaped.assertion a) u)
          (fails (name_of_no_boundary p negated w)))
      read_so u None h w = tt
      read_so u (Some a) h w = h

  suited_boundary : (p : ℕ) (negated : Bool) (t : Text) →
      IfGives (IsSuited f) (boundary_steps.boundary f.ignore_space p negated t)
  unfolding boundary_steps.boundary
  suited_boundary p negated t =
      gives_after (IsSuited f) (layout_reading (layout f.ignore_space t)) _
      (λ _ u. choose_both (IfGives (IsSuited f)) (strip (code "{") u) _ _
      (λ v _. gives_after (IsSuited f) (layout_reading (layout f.ignore_space v)) _
      (λ _ w. cond_both (boundaries.at_count w) _ _ (IfGives (IsSuited f)) (λ _. unnamed_suits negated)
      (λ _. suited_named p negated v))) (unnamed_suits negated))

  suited_outside : (p c : ℕ) (t : Text) → IfGives (IsSuited f) (outside f p c t)
  unfolding outside
  suited_outside p c t =
      let P = IfGives (IsSuited f) in
      cond_both (c ∈ "k") _ _ P (λ _. suited_backref (back_reference t)) (λ _.
      cond_both (c ∈ "g") _ _ P (λ _. suited_call p c t) (λ _.
      cond_both (c ∈ "bB") _ _ P (λ _. suited_boundary p _ t) (λ _. tt)))

  kept_suits : (c : ℕ) → is_kept_by_backslash f.oniguruma_mode c ≡ true → Suits f (leaf (label.literal (c ∷ []) false))
  kept_suits c k = subst (λ n. AreMet n f) (sym (cond-true _ _ _ (ap (λ b. b && true) k))) (none_met f)

  anywhere_rows : (c : ℕ) → AtRows (IsSuited f) c (lone_anywhere f c)
  anywhere_rows c =
      let e = none_met f in
      let k = λ (a : ℕ) (h : is_kept_by_backslash false a ≡ true). kept_suits a (kept_in f.oniguruma_mode a h) in (
        λ _. delegate_suits f (code "\\" ∷ c ∷ []) f.casei refl,
        (
          λ _. e,
          (
            λ _. e,
            (
              λ _. k (code "\u{7}") refl,
              (
                λ _. k (code "\u{c}") refl,
                (
                  λ _. k (code "\n") refl,
                  (
                    λ _. k (code "\r") refl,
                    (
                      λ _. k (code "\t") refl,
                      (λ _. k (code "\u{b}") refl, (λ _. k (code "\u{1b}") refl, tt)),
                    ),
                  ),
                ),
              ),
            ),
          ),
        ),
      )

  outside_rows : (c : ℕ) → AtRows (IsSuited f) c (lone_outside f c)
  outside_rows c =
      let last = λ (at : is_kept_by_backslash true c ≡ true) (a : Assertion) (k : Suits f (leaf (label.assertion a))).
      cond_both f.oniguruma_mode (escaped.literal c false) (escaped.assertion a) (IsSuited f)
      (λ on. kept_suits c (subst (λ o. is_kept_by_backslash o c ≡ true) (sym on) at)) (λ _. k) in (
        λ _. none_met f,
        (
          λ _. none_met f,
          (
            λ _. record { casei = tt; multi = tt; dotnl = tt; crlf = refl },
            (
              λ _. none_met f,
              (
                λ _. none_met f,
                (
                  λ _. none_met f,
                  (
                    λ _. none_met f,
                    (
                      λ _. none_met f,
                      (
                        λ e. last (left_kept c e) LeftWordBoundary (none_met f),
                        (λ e. last (right_kept c e) RightWordBoundary (none_met f), tt),
                      ),
                    ),
                  ),
                ),
              ),
            ),
          ),
        ),
      )

  suited_lone : (c : ℕ) (e : Escape) → lone_escape f false c ≡ Some e → IsSuited f e
  suited_lone c =
      of_lone (IsSuited f) f false c
      (λ e. kept_suits c (kept_in f.oniguruma_mode c e))
      (anywhere_rows c) (outside_rows c)

  -- for everything that an escape may be read as
  pub suited_escape : (t : Text) → IfGives (IsSuited f) (escape f false t)
  unfolding escape_at
  suited_escape [] = tt
  suited_escape (c ∷ t) =
      let P = IfGives (IsSuited f) in
      let p = reach_of (c ∷ t) + 1 in
      cond_both (is_ascii_digit c) _ _ P (λ _. suited_number p (c ∷ t)) (λ _.
      cond_both (c ∈ "x") _ _ P (λ _. suited_hex 2 t) (λ _.
      cond_both (c ∈ "u") _ _ P (λ _. suited_hex 4 t) (λ _.
      cond_both (c ∈ "U") _ _ P (λ _. suited_hex 8 t) (λ _.
      cond_both (c ∈ "pP") _ _ P (λ _. suited_property p c t) (λ _.
      choose_both P (lone_escape f false c) _ _ (suited_lone c) (suited_outside p c t))))))
