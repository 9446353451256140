-- Characters that are the whole escape.
use Rattle.std.proofs.Common.{◌≡◌, ℕ, Bool, true, false, not, ◌||◌, ◌&&◌, if◌then◌else◌, List, [], ◌∷◌, Option, Some}
use Rattle.std.proofs.Common.{None, IfSome, refl, ap, ◌∙◌, subst, arith}
use Rattle.std.proofs.lemmas.Bool.{cond_both}
use Rattle.std.proofs.lemmas.Bool.Decides.{nat_tests}
use Rattle.std.specs.Char.{is_ascii_digit}
use Rattle.std.specs.List.{AllByRecursion}
use Rattle.std.specs.Option.{option_or}
use Rattle.fancy_lex.specs.Characters.{is_among, ◌∈◌}
use Rattle.fancy_lex.specs.Escape.{escape_at, outside, is_itself, lone_anywhere, lone_in_class, lone_outside, row_of}
use Rattle.fancy_lex.specs.Escape.{lone_escape}
use Rattle.fancy_lex.specs.ErrorTable.{letter_of_no_escape}
use Rattle.fancy_lex.specs.Escaped.{Escape, literal}
use Rattle.fancy_lex.specs.Reading.{gives, fails, choose}
use Rattle.fancy_lex.specs.Text.{Text}
use Rattle.fancy_lex.specs.declared.flags.Flags.{Flags}

-- P holds for each row that has c among its letters
abbrev pub AtRows : (Escape → Type 0) → ℕ → List (Text × Escape) → Type 0
AtRows P c rows = AllByRecursion (λ r. is_among c r.0 ≡ true → P r.1) rows

by_row : (P : Escape → Type 0) (c : ℕ) (rows : List (Text × Escape)) → AtRows P c rows → IfSome (row_of c rows) P
by_row P c [] h = tt
by_row P c (r ∷ rows) h = cond_both (is_among c r.0) _ _ (λ o. IfSome o P) h.0 (λ _. by_row P c rows h.1)

by_either : (P : Escape → Type 0) (o q : Option Escape) → IfSome o P → IfSome q P → IfSome (option_or o q) P
by_either P (Some e) q h k = h
by_either P None q h k = k

-- what holds for the character as a literal and for each row holds for the leaf of the character
pub of_lone : (P : Escape → Type 0) (f : Flags) (inside : Bool) (c : ℕ) →
    (is_itself inside c ≡ true → P (literal c false)) → AtRows P c (lone_anywhere f c) →
    AtRows P c (if inside then lone_in_class c else lone_outside f c) →
    (e : Escape) → lone_escape f inside c ≡ Some e → P e
unfolding lone_escape
of_lone P f inside c itself anywhere there e same =
    subst (λ o. IfSome o P) same
    (cond_both (is_itself inside c) _ _ (λ o. IfSome o P) itself
    (λ _. by_either P _ _ (by_row P c (lone_anywhere f c) anywhere) (by_row P c _ there)))

-- whether more than the character belongs to its escape
abbrev pub reads_on : Bool → ℕ → Bool
reads_on inside c = is_ascii_digit c || (c ∈ "xuUpP" || (not inside && c ∈ "kgbB"))

module _ (f : Flags) (p c : ℕ) (t : Text) where
  by_position : (inside : Bool) → is_ascii_digit c ≡ false → (c ∈ "xuUpP") ≡ false →
      escape_at f inside p (c ∷ t) ≡ choose (lone_escape f inside c) (λ e. gives e t)
      (if inside then fails (letter_of_no_escape p c) else outside f p c t)
  unfolding escape_at
  by_position inside digit on =
      let two : (c ∈ "x") ≡ false = grind (arith, nat_tests) in
      let four : (c ∈ "u") ≡ false = grind (arith, nat_tests) in
      let eight : (c ∈ "U") ≡ false = grind (arith, nat_tests) in
      let property : (c ∈ "pP") ≡ false = grind (arith, nat_tests) in
      rw (digit, two, four, eight, property) refl

  no_other : (c ∈ "kgbB") ≡ false → outside f p c t ≡ fails (letter_of_no_escape p c)
  unfolding outside
  no_other on =
      let name : (c ∈ "k") ≡ false = grind (arith, nat_tests) in
      let call : (c ∈ "g") ≡ false = grind (arith, nat_tests) in
      let boundary : (c ∈ "bB") ≡ false = grind (arith, nat_tests) in
      rw (name, call, boundary) refl

  -- if nothing more belongs to it, the character is the whole escape, or is no escape
  pub alone : (inside : Bool) → reads_on inside c ≡ false →
      escape_at f inside p (c ∷ t) ≡ choose (lone_escape f inside c) (λ e. gives e t) (fails (letter_of_no_escape p c))
  alone true on = by_position true (grind (arith, nat_tests)) (grind (arith, nat_tests))
  alone false on =
      by_position false (grind (arith, nat_tests)) (grind (arith, nat_tests))
      ∙ ap (choose (lone_escape f false c) (λ e. gives e t)) (no_other (grind (arith, nat_tests)))
