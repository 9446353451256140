-- The cases of a property after its letter.
use Rattle.std.proofs.Common.{◌≡◌, ℕ, Bool, [], ◌∷◌, Option, Some, None, refl, ap, sym, ◌∙◌}
use Rattle.fancy_lex.specs.declared.flags.Flags.{Flags}
use Rattle.fancy_lex.specs.Characters.{◌∈◌}
use Rattle.fancy_lex.specs.Delimited.{delimited_name}
use Rattle.fancy_lex.specs.Escape.{call_escape, property}
use Rattle.fancy_lex.specs.ErrorTable.{letter_of_no_escape}
use Rattle.fancy_lex.specs.EscapeReference.{delimited_call, subroutine_call}
use Rattle.fancy_lex.specs.Escaped as leaf
use Rattle.fancy_lex.specs.Escaped.{delegate}
use Rattle.fancy_lex.specs.Located.{unclosed_unicode_name}
use Rattle.fancy_lex.specs.Property.{Property, read_property, name_at, property_text}
use Rattle.fancy_lex.specs.Reading.{gives, fails, error_at}
use Rattle.fancy_lex.specs.Referred.{Call}
use Rattle.fancy_lex.specs.Text.{Text}

module _ (f : Flags) (inside : Bool) (p c : ℕ) (t : Text) where
  pub property_end : t ≡ [] → property f inside p c t ≡ fails (letter_of_no_escape p c)
  unfolding property
  property_end e = rw e refl

  pub property_unclosed : (d : ℕ) (r : Text) → t ≡ d ∷ r → read_property (c ∈ "P") t ≡ None →
      property f inside p c t ≡ error_at p unclosed_unicode_name
  unfolding property
  property_unclosed d r e h =
      let here : read_property (c ∈ "P") (d ∷ r) ≡ None = ap (read_property (c ∈ "P")) (sym e) ∙ h in
      rw (e, property, here) refl

pub property_read : (f : Flags) (inside : Bool) (p c : ℕ) (t : Text) (q : Property) (v : Text) →
    read_property (c ∈ "P") t ≡ Some (q, v) →
    property f inside p c t ≡ gives (delegate (property_text f.unicode inside q) f.casei) v
unfolding property read_property name_at
property_read f inside p c [] q v h = absurd (nothing h) where
  nothing : {A : Type 0} {a : A} → ◌≡◌ {A = Option A} None (Some a) → ⊥
  nothing h = cc
property_read f inside p c (d ∷ r) q v h = rw h refl

-- a call after its letter
pub call_is : (p c : ℕ) (t : Text) (k : Call) (v : Text) → subroutine_call t ≡ gives k v →
    call_escape p c t ≡ gives (leaf.subroutine_call k) v
unfolding call_escape subroutine_call delimited_call delimited_name
call_is p c [] k v e = absurd cc
call_is p c (d ∷ t) k v e = rw e refl

pub ruleset property_steps = (property_end, property_unclosed, property_read)
