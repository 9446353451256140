-- The letters of a flag group: the rest of the text is a suffix of it, and the error is at a character boundary of the
-- text or one past its end.
use Rattle.std.proofs.Common.{ℕ, zero, suc, Bool, false, [], ◌∷◌, Option, Some, None}
use Rattle.fancy_lex.proofs.EscapeLaws.{leaves_layout}
use Rattle.fancy_lex.proofs.LeaveLaws.{ends_whole, lies_at_start, lies_at_end, Leaves, leaves, whole_next, leaves_none}
use Rattle.fancy_lex.proofs.LeaveLaws.{leaves_given, leaves_if, leaves_both}
use Rattle.fancy_lex.specs.ErrorTable.{mode_changed}
use Rattle.fancy_lex.specs.Reading.{Reading, gives, fails, choose}
use Rattle.fancy_lex.specs.Text.{Text, bytes, reach_of}
use Rattle.fancy_lex.specs.declared.flags.Flags.{Flags}
use Rattle.fancy_lex.specs.FlagLetters.{Letters, LetterStep, flags_end, flags_go_on}
use Rattle.fancy_lex.specs.LetterSteps.{step, unknown_letter, after_step, letters_in, letters}

-- t is the text that begins with the letters; its reach is given
module _ (t : Text) where
  abbrev given : ℕ
  given = reach_of t

  leaves_unknown : (u v : Text) → Leaves given v (unknown_letter t u)
  leaves_unknown u v = leaves_given

  leaves_letter : (clears : Bool) (c : ℕ) (u : Text) (o : Option Flags) →
      Leaves given (c ∷ u) (choose o (λ g. gives (flags_go_on clears g) u) (unknown_letter t u))
  leaves_letter clears c u (Some f) = whole_next u
  leaves_letter clears c u None = leaves_unknown u (c ∷ u)

  leaves_changing : (c : ℕ) (u : Text) → Leaves {A = LetterStep} given (c ∷ u) (fails (mode_changed (c ∷ u)))
  leaves_changing c u = leaves_none (lies_at_start (c ∷ u))

  leaves_step : (clears : Bool) (f : Flags) (u : Text) → Leaves given u (step t clears f u)
  leaves_step clears f [] = leaves_none (lies_at_end [])
  leaves_step clears f (c ∷ u) =
      search (leaves_if, whole_next, leaves_unknown, leaves_changing, leaves_letter) depth 60 fits 3000

  leaves_after : (more : Bool → Flags → Text → Reading Letters) →
      ((c : Bool) (f : Flags) (u : Text) → Leaves given u (more c f u)) →
      (s : LetterStep) (u : Text) → Leaves given u (after_step more s u)
  leaves_after more h (flags_end l) u = leaves (ends_whole u)
  leaves_after more h (flags_go_on c f) u = h c f u

  leaves_letters_in : (k : ℕ) (clears : Bool) (f : Flags) (u : Text) → Leaves given u (letters_in t k clears f u)
  unfolding letters_in
  leaves_letters_in zero clears f u = leaves_none (lies_at_end u)
  leaves_letters_in (suc k) clears f u =
      leaves_both (leaves_layout given f.ignore_space u)
      (λ _ v. leaves_both (leaves_step clears f v) (leaves_after (letters_in t k) (leaves_letters_in k)))

pub leaves_letters : (f : Flags) (t : Text) → Leaves (reach_of t) t (letters f t)
unfolding letters
leaves_letters f t = (leaves_letters_in t (suc (bytes t)) false f t)
