-- The letters of a flag group, one step after another.
use Rattle.std.proofs.Common.{◌≡◌, ◌≢◌, ◌==◌, ℕ, suc, ◌-◌, ◌<◌, [], ◌∷◌, ◌++◌, length, length-append, take, chars}
use Rattle.std.proofs.Common.{Bool, false, None, refl, sym, ap, ◌∙◌, arith, append_assoc}
use Rattle.std.proofs.lemmas.Bool.{ne_eqb}
use Rattle.std.proofs.Math.Seq.{take-append_seam}
use Rattle.std.specs.Str.{chars as the_chars}
use Rattle.std.proofs.Common.{zero}
use Rattle.fancy_lex.proofs.ReadingLemmas.{reports_first}
use Prim.Native.Char.{code}
use Rattle.fancy_lex.specs.Layout.{Before}
use Rattle.fancy_lex.specs.LayoutSteps.{layout}
use Rattle.fancy_lex.specs.Located.{Located}
use Rattle.fancy_lex.specs.Reading.{Reading, gives, fails, layout_reading, Reports}
use Rattle.fancy_lex.specs.Text.{Text, bytes}
use Rattle.fancy_lex.specs.Flag.{letter}
use Rattle.fancy_lex.specs.declared.flags.Flag.{Flag}
use Rattle.fancy_lex.specs.declared.flags.Flag.TheVariants.{Casei, Multi, Dotnl, SwapGreed, IgnoreSpace, Crlf}
use Rattle.fancy_lex.specs.declared.flags.Flags.{Flags}
use Rattle.fancy_lex.specs.declared.error.ReadError.{ReadError}
use Rattle.fancy_lex.specs.FlagReads.{error_of, failed_step}
use Rattle.fancy_lex.specs.declared.group_starts.letters.LetterError.{LetterError}
use Rattle.fancy_lex.specs.FlagLetters.{Letters, with_letter, flags_end, flags_go_on}
use Rattle.fancy_lex.specs.LetterSteps.{step, letters_in, letters}

-- the text that was read is the front of the whole text
pub front_read : (t w u : Text) → t ≡ w ++ u → take (length t - length u) t ≡ w
front_read t w u e =
    let n : length t - length u ≡ length w = omega (arith, ap length e, length-append w u) in
    rw n (ap (take (length w)) e ∙ take-append_seam w u)

-- one more character is read
pub after_next : (t h : Text) (c : ℕ) (u : Text) → (w : Text) × (t ≡ w ++ h) → h ≡ c ∷ u → (w : Text) × (t ≡ w ++ u)
after_next t h c u (w, e) f = (w ++ c ∷ [], e ∙ ap (λ x. w ++ x) f ∙ sym (append_assoc w (c ∷ []) u))

-- layout is read
pub after_layout : (t h : Text) (x : Bool) (u : Text) → (w : Text) × (t ≡ w ++ h) → Before x h u → (w : Text) × (t ≡ w ++ u)
after_layout t h x u (w, e) b = (w ++ b.w, e ∙ ap (λ x. w ++ x) b.cut ∙ sym (append_assoc w b.w u))

pub two_chars : chars (code "(" ∷ code "?" ∷ []) ≡ code "(" ∷ code "?" ∷ []
unfolding the_chars
two_chars = refl

-- the letter of none of the flags changes none
pub letter_of_none : (f : Flags) (on : Bool) (c : ℕ) → ((flag : Flag) → letter flag ≢ c) → with_letter f on c ≡ None
letter_of_none f on c none =
    let other : (flag : Flag) → (c == letter flag) ≡ false = λ flag. ne_eqb c (letter flag) (λ e. none flag (sym e)) in
    rw (other Casei, other Multi, other Crlf, other Dotnl, other SwapGreed, other IgnoreSpace) refl

-- ---- the letters, from one layout and letter to the next

module _ (t : Text) (clears : Bool) (f : Flags) (u : Text) where
  -- the layout before the letter
  abbrev before : Reading (Unit {0})
  before = layout_reading (layout f.ignore_space u)

  layout_error : (k : ℕ) (p : Located) → before ≡ fails p → letters_in t (suc k) clears f u ≡ fails p
  unfolding letters_in
  layout_error k p e = rw e refl

  letter_error : (k : ℕ) (v : Text) (p : Located) → before ≡ gives tt v → step t clears f v ≡ fails p →
      letters_in t (suc k) clears f u ≡ fails p
  unfolding letters_in
  letter_error k v p e h = rw (e, h) refl

  letters_end : (k : ℕ) (v : Text) (l : Letters) (w : Text) → before ≡ gives tt v →
      step t clears f v ≡ gives (flags_end l) w →
      letters_in t (suc k) clears f u ≡ gives l w
  unfolding letters_in
  letters_end k v l w e h = rw (e, h) refl

  letters_go : (k : ℕ) (v : Text) (c : Bool) (g : Flags) (w : Text) → before ≡ gives tt v →
      step t clears f v ≡ gives (flags_go_on c g) w →
      letters_in t (suc k) clears f u ≡ letters_in t k c g w
  unfolding letters_in
  letters_go k v c g w e h = rw (e, h) refl

  -- the same if more than m steps are left
  module _ (k m : ℕ) (some : m < k) where
    pub in_layout_error : (p : Located) → before ≡ fails p → letters_in t k clears f u ≡ fails p
    in_layout_error p e = by_steps k some
      where
        by_steps : (k : ℕ) → m < k → letters_in t k clears f u ≡ fails p
        by_steps zero h = absurd (omega arith)
        by_steps (suc k) h = layout_error k p e

    module _ (v : Text) (e : before ≡ gives tt v) where
      pub in_letter_error : (p : Located) → step t clears f v ≡ fails p → letters_in t k clears f u ≡ fails p
      in_letter_error p i = by_steps k some
        where
          by_steps : (k : ℕ) → m < k → letters_in t k clears f u ≡ fails p
          by_steps zero h = absurd (omega arith)
          by_steps (suc k) h = letter_error k v p e i

      pub in_end : (l : Letters) (w : Text) → step t clears f v ≡ gives (flags_end l) w →
          letters_in t k clears f u ≡ gives l w
      in_end l w i = by_steps k some
        where
          by_steps : (k : ℕ) → m < k → letters_in t k clears f u ≡ gives l w
          by_steps zero h = absurd (omega arith)
          by_steps (suc k) h = letters_end k v l w e i

      pub in_go : (q : ℕ) (c : Bool) (g : Flags) (w : Text) → q < m → step t clears f v ≡ gives (flags_go_on c g) w →
          (j : ℕ) × (q < j) × (letters_in t k clears f u ≡ letters_in t j c g w)
      in_go q c g w l i = by_steps k some
        where
          by_steps : (k : ℕ) → m < k → (j : ℕ) × (q < j) × (letters_in t k clears f u ≡ letters_in t j c g w)
          by_steps zero h = absurd (omega arith)
          by_steps (suc k) h = (k, omega arith, letters_go k v c g w e i)

pub letters_start : (f : Flags) (t : Text) → letters f t ≡ letters_in t (suc (bytes t)) false f t
unfolding letters
letters_start f t = refl

-- the error of the letters, with its text
pub letters_failed : (f : Flags) (t : Text) (e : LetterError) (b : ReadError) → letters f t ≡ fails (error_of t e) →
    Reports b (failed_step t e) → Reports b (letters f t)
letters_failed f t e b h r = rw h (reports_first (failed_step t e) (λ _ u. letters f u) b r)
