-- What holds of every class: the rest of the text is a suffix of it, and the error is at a character boundary of the
-- text or one past its end.
use Rattle.std.proofs.Common.{◌≡◌, ℕ, zero, suc, ◌+◌, ◌-◌, Bool, true, false, ◌||◌, ◌==◌, [], ◌∷◌, ◌++◌, Option, Some}
use Rattle.std.proofs.Common.{None, refl, ◌<◌, arith}
use Rattle.std.proofs.lemmas.Bool.{cond_both}
use Rattle.std.proofs.lemmas.Bool.Decides.{nat_tests}
use Prim.Native.Char.{code}
use Rattle.fancy_lex.specs.Class.{class, class_from, escape_in_class, is_negated, class_start, with_symbol}
use Rattle.fancy_lex.specs.Reading.{choose}
use Rattle.fancy_lex.specs.Text.{Text, EndsWith as Ends, bytes, strip}
use Rattle.fancy_lex.specs.declared.flags.Flags.{Flags}
use Rattle.fancy_lex.proofs.EscapeLaws.{leaves_escape}
use Rattle.fancy_lex.proofs.LeaveLaws.{ends_whole, ends_past, ends_twice, ends_strip, lies_before, lies_at_end, Leaves}
use Rattle.fancy_lex.proofs.LeaveLaws.{whole_next, leaves_none, leaves_past, leaves_trans, leaves_if, leaves_both}

-- the text after the opening of a class is a suffix of the text
ends_symbol : (m : ℕ) (p : Text × Text) → Ends p.1 (with_symbol m p).1
ends_symbol m p = at (strip m p.1) refl where
  at : (o : Option Text) → strip m p.1 ≡ o → Ends p.1 (choose {B = Text × Text} o (λ u. (p.0 ++ m ∷ [], u)) p).1
  at None e = ends_whole p.1
  at (Some u) e = ends_strip m p.1 u e

ends_class_start : (out t : Text) → Ends t (class_start out t).1
unfolding class_start
ends_class_start out t =
    let start : Text × Text = (out ++ code "[" ∷ [], t) in
    ends_twice t _ _ (ends_symbol (code "^") start) (ends_symbol (code "]") (with_symbol (code "^") start))

is_ascii : (c : ℕ) → (c == code "\\") ≡ true → c < 128
is_ascii c e = grind (arith, nat_tests)

-- the reach that is given is that of one past the end
module _ (f : Flags) where
  leaves_items : (k depth : ℕ) (seen : Bool) (out t : Text) → Leaves 0 t (class_from f k depth seen out t)
  unfolding class_from
  leaves_items zero depth seen out t = leaves_none (lies_at_end t)
  leaves_items (suc k) depth seen out [] = leaves_none (lies_at_end [])
  leaves_items (suc k) depth seen out (c ∷ t) =
      let past = ends_past c t t (ends_whole t) in
      cond_both (c == code "\\") _ _ (Leaves 0 (c ∷ t))
      (λ e. leaves_both (leaves_trans (lies_before (is_ascii c e) (ends_whole (c ∷ t)))
      (leaves_past past (leaves_escape f true t)))
      (λ e u. leaves_items k depth (seen || is_negated e) (out ++ escape_in_class seen e) u))
      (λ _. leaves_if (c == code "[")
      (leaves_past past
      (leaves_past (ends_class_start out t)
      (leaves_items k (depth + 1) seen (class_start out t).0 (class_start out t).1)))
      (leaves_if (c == code "]")
      (leaves_if (depth == 0) (whole_next t) (leaves_past past (leaves_items k (depth - 1) seen (out ++ c ∷ []) t)))
      (leaves_past past (leaves_items k depth seen (out ++ c ∷ []) t))))

  -- the rest of the text is a suffix of it, or the error is at a character boundary of the text or one past its end
  pub leaves_class : (t : Text) → Leaves 0 t (class f t)
  unfolding class
  leaves_class t = leaves_past (ends_class_start [] t)
      (leaves_items (suc (bytes t)) 0 false (class_start [] t).0 (class_start [] t).1)
