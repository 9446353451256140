-- What the readers of parts without trees give: flags of the same mode, counts that fit in a word, and names that can
-- be written.
use Rattle.std.proofs.Common.{◌≡◌, ℕ, zero, suc, ◌<◌, ◌^◌, Bool, true, false, not, ◌&&◌, ◌==◌, if◌then◌else◌, []}
use Rattle.std.proofs.Common.{List, ◌∷◌}
use Rattle.std.proofs.Common.{Option, Some, None, IfSome, option_map, unwrap_or, nat_lt, refl, ◌∙◌}
use Rattle.std.proofs.Common.{arith}
use Rattle.std.specs.Prelude.{option_and_then}
use Rattle.std.specs.List.{find}
use Rattle.std.proofs.lemmas.Bool.{cond_both}
use Rattle.std.proofs.lemmas.Bool.Decides.{nat_tests}
use Rattle.std.proofs.Math.Bool.{beq}
use Prim.Native.Char.{code}
use Rattle.fancy_lex.proofs.ReferencePositions.{IfGives}
use Rattle.fancy_lex.specs.Characters.{is_among}
use Rattle.fancy_lex.specs.Delimited.{name_before}
use Rattle.fancy_lex.specs.ErrorTable.{group_not_named}
use Rattle.fancy_lex.specs.Flag.{letter, with_flag}
use Rattle.fancy_lex.specs.Id.{nonempty_front}
use Rattle.fancy_lex.specs.LayoutSteps.{layout, past_layout}
use Rattle.fancy_lex.specs.Number.{number}
use Rattle.fancy_lex.specs.Reading.{Reading, gives, fails, ◌>=>◌, choose, layout_reading, read_or}
use Rattle.fancy_lex.specs.Text.{Text, strip, bytes, cut_at}
use Rattle.fancy_lex.specs.declared.flags.Flag.{Flag}
use Rattle.fancy_lex.specs.declared.flags.Flags.{Flags}
use Rattle.fancy_lex.specs.FlagLetters.{Letters, inline_flags, flag_group, LetterStep, flags_end, flags_go_on}
use Rattle.fancy_lex.specs.FlagLetters.{pattern_flags, with_letter}
use Rattle.fancy_lex.specs.GroupName.{group_name}
use Rattle.fancy_lex.specs.LetterSteps.{step, unknown_letter, after_step, letters_in, letters}
use Rattle.fancy_lex.specs.Quantifier.{counts, braced_counts, counts_from, in_braces, spaced_count, count}
use Rattle.fancy_lex.specs.Quantifier.{exact_or_range, most}
use Rattle.fancy_lex.specs.declared.counts.Counts.{Counts}
use Rattle.fancy_grammar.proofs.Writable.{IsNameWritable}

-- one step after another
pub gives_both : {A B : Type 0} (P : A → Type 0) (Q : B → Type 0) (o : Reading A) (f : A → Text → Reading B) →
    IfGives P o → ((a : A) (u : Text) → P a → IfGives Q (f a u)) → IfGives Q (o >=> f)
gives_both P Q (gives a u) f h g = g a u h
gives_both P Q (fails e) f h g = tt

-- whatever was read before
pub gives_after : {A B : Type 0} (Q : B → Type 0) (o : Reading A) (f : A → Text → Reading B) →
    ((a : A) (u : Text) → IfGives Q (f a u)) → IfGives Q (o >=> f)
gives_after Q (gives a u) f g = g a u
gives_after Q (fails e) f g = tt

-- ---- flags

-- the flags without those that have a letter
abbrev pub unlettered : Flags → Flags
unlettered f = record f {
  casei = false;
  multi = false;
  dotnl = false;
  crlf = false;
  swap_greed = false;
  ignore_space = false;
}

-- the flags differ only in those, as a pattern may set them
abbrev pub IsSameMode : Flags → Flags → Type 0
IsSameMode f g = unlettered g ≡ unlettered f

-- so do the flags that letters set
abbrev pub IsModeOf : Flags → Letters → Type 0
IsModeOf f (inline_flags g) = IsSameMode f g
IsModeOf f (flag_group g) = IsSameMode f g

abbrev IsStepOf : Flags → LetterStep → Type 0
IsStepOf f (flags_end l) = IsModeOf f l
IsStepOf f (flags_go_on clears g) = IsSameMode f g

-- each of these flags keeps the mode
abbrev KeepMode : Flags → Bool → List Flag → Type 0
KeepMode f on [] = Unit {0}
KeepMode f on (flag ∷ l) = IsSameMode f (with_flag f flag on) × KeepMode f on l

-- whichever of them has the letter
among_mode : (f : Flags) (on : Bool) (c : ℕ) (l : List Flag) → KeepMode f on l →
    IfSome (option_map (λ flag. with_flag f flag on) (find (λ flag. c == letter flag) l)) (λ g. IsSameMode f g)
among_mode f on c [] h = tt
among_mode f on c (flag ∷ l) (e, h) =
    cond_both (c == letter flag) (Some flag) (find (λ flag. c == letter flag) l)
    (λ o. IfSome (option_map (λ flag. with_flag f flag on) o) (λ g. IsSameMode f g))
    (λ _. e) (λ _. among_mode f on c l h)

letter_mode : (f : Flags) (on : Bool) (c : ℕ) → IfSome (with_letter f on c) (λ g. IsSameMode f g)
letter_mode f on c = among_mode f on c pattern_flags (refl, (refl, (refl, (refl, (refl, (refl, tt))))))

module _ (t : Text) where
  step_mode : (f g : Flags) → IsSameMode f g → (clears : Bool) (u : Text) → IfGives (IsStepOf f) (step t clears g u)
  step_mode f g h clears [] = tt
  step_mode f g h clears (c ∷ u) =
      let P = IfGives (IsStepOf f) in
      cond_both (c == code ")") _ _ P
      (λ _. cond_both _ (unknown_letter t u) (gives (flags_end (inline_flags g)) u) P (λ _. tt) (λ _. h)) (λ _.
      cond_both (c == code ":") _ _ P
      (λ _. cond_both _ (unknown_letter t u) (gives (flags_end (flag_group g)) u) P (λ _. tt) (λ _. h)) (λ _.
      cond_both (c == code "-") _ _ P
      (λ _. cond_both clears (unknown_letter t u) (gives (flags_go_on true g) u) P (λ _. tt) (λ _. h)) (λ _.
      cond_both (c == code "u") _ _ P (λ _. cond_both (beq clears g.unicode) _ _ P (λ _. tt) (λ _. h))
      (λ _. by_letter (with_letter g (not clears) c) (letter_mode g (not clears) c)))))
    where
      by_letter : (o : Option Flags) → IfSome o (λ k. IsSameMode g k) →
          IfGives (IsStepOf f) (choose o (λ g. gives (flags_go_on clears g) u) (unknown_letter t u))
      by_letter None k = tt
      by_letter (Some j) k = k ∙ h

  letters_in_mode : (k : ℕ) (f g : Flags) → IsSameMode f g → (clears : Bool) (u : Text) →
      IfGives (IsModeOf f) (letters_in t k clears g u)
  unfolding letters_in
  letters_in_mode zero f g h clears u = tt
  letters_in_mode (suc k) f g h clears u =
      gives_after (IsModeOf f) (layout_reading (layout g.ignore_space u)) _ (λ _ v.
      gives_both (IsStepOf f) (IsModeOf f) (step t clears g v) _ (step_mode f g h clears v)
      (λ s w i. after s w i (λ b j x e. letters_in_mode k f j e b x)))
    where
      after : (s : LetterStep) (w : Text) → IsStepOf f s →
          ((b : Bool) (j : Flags) (x : Text) → IsSameMode f j → IfGives (IsModeOf f) (letters_in t k b j x)) →
          IfGives (IsModeOf f) (after_step (letters_in t k) s w)
      after (flags_end l) w i more = i
      after (flags_go_on b j) w i more = more b j w i

-- the letters of a flag group keep the mode
pub letters_mode : (f : Flags) (t : Text) → IfGives (IsModeOf f) (letters f t)
unfolding letters
letters_mode f t = letters_in_mode t (suc (bytes t)) f f refl false t

-- ---- counts

-- both counts fit in a word
abbrev pub AreWords : Counts → Type 0
AreWords c = (c.low < 2 ^ 64) × (c.high < 2 ^ 64)

abbrev IsWordOrNone : Option ℕ → Type 0
IsWordOrNone n = IfSome n (λ k. k < 2 ^ 64)

abbrev pub IfWords : Option (Counts × Text) → Type 0
IfWords o = IfSome o (λ p. AreWords p.0)

abbrev IfWord : Option (Option ℕ × Text) → Type 0
IfWord o = IfSome o (λ p. IsWordOrNone p.0)

count_word : (t : Text) → IfWord (count t)
unfolding count
count_word t = by_number (number t)
  where
    by_number : (o : Option (ℕ × Text)) →
        IfWord (choose o (λ p. if nat_lt p.0 (2 ^ 64) then Some (Some p.0, p.1) else None) (Some (None, t)))
    by_number None = tt
    by_number (Some (n, u)) =
        cond_both (nat_lt n (2 ^ 64)) _ _ IfWord (λ e. grind (arith, nat_tests, e)) (λ _. tt)

spaced_word : (x : Bool) (t : Text) → IfWord (spaced_count x t)
unfolding spaced_count
spaced_word x t = by_first (past_layout x t)
  where
    by_last : (n : Option ℕ) → IsWordOrNone n → (o : Option Text) → IfWord (option_map (λ v. (n, v)) o)
    by_last n h None = tt
    by_last n h (Some v) = h

    by_count : (o : Option (Option ℕ × Text)) → IfWord o →
        IfWord (option_and_then (λ p. option_map (λ v. (p.0, v)) (past_layout x p.1)) o)
    by_count None h = tt
    by_count (Some (n, v)) h = by_last n h (past_layout x v)

    by_first : (o : Option Text) →
        IfWord
        (option_and_then (λ u. option_and_then (λ p. option_map (λ v. (p.0, v)) (past_layout x p.1)) (count u)) o)
    by_first None = tt
    by_first (Some u) = by_count (count u) (count_word u)

word_or : (n : Option ℕ) (k : ℕ) → IsWordOrNone n → k < 2 ^ 64 → unwrap_or n k < 2 ^ 64
word_or None k h e = e
word_or (Some n) k h e = h

from_words : (x : Bool) (low : ℕ) (t : Text) → low < 2 ^ 64 → IfWords (counts_from x low t)
unfolding counts_from
from_words x low t l = by_count (spaced_count x t) (spaced_word x t)
  where
    closed : (n : Option ℕ) → IsWordOrNone n → (o : Option Text) →
        IfWords (option_map (λ v. (in_braces low (unwrap_or n most), v)) o)
    closed n h None = tt
    closed n h (Some v) = (l, word_or n most h (omega arith))

    by_count : (o : Option (Option ℕ × Text)) → IfWord o →
        IfWords (option_and_then
        (λ p. option_map (λ v. (in_braces low (unwrap_or p.0 most), v)) (strip (code "}") p.1)) o)
    by_count None h = tt
    by_count (Some p) h = closed p.0 h (strip (code "}") p.1)

braced_words : (x : Bool) (t : Text) → IfWords (braced_counts x t)
unfolding braced_counts
braced_words x t = by_count (spaced_count x t) (spaced_word x t)
  where
    exact : (low : Option ℕ) (v : Text) → IsWordOrNone low → IfWords (option_map (λ n. (in_braces n n, v)) low)
    exact None v h = tt
    exact (Some n) v h = (h, h)

    range : (low : ℕ) → low < 2 ^ 64 → (o : Option Text) → IfWords (option_and_then (counts_from x low) o)
    range low l None = tt
    range low l (Some v) = from_words x low v l

    closed : (low : Option ℕ) (u : Text) → IsWordOrNone low → (o : Option Text) → IfWords (exact_or_range x low u o)
    closed low u h (Some v) = exact low v h
    closed low u h None = range (unwrap_or low 0) (word_or low 0 h (omega arith)) (strip (code ",") u)

    by_count : (o : Option (Option ℕ × Text)) → IfWord o →
        IfWords (option_and_then (λ p. exact_or_range x p.0 p.1 (strip (code "}") p.1)) o)
    by_count None h = tt
    by_count (Some p) h = closed p.0 p.1 h (strip (code "}") p.1)

-- each count of a quantifier fits in a word
pub counts_words : (x : Bool) (t : Text) → IfWords (counts x t)
unfolding counts
counts_words x [] = tt
counts_words x (c ∷ t) =
    cond_both (c == code "?") _ _ IfWords (λ _. (omega arith, omega arith)) (λ _.
    cond_both (c == code "*") _ _ IfWords (λ _. (omega arith, omega arith)) (λ _.
    cond_both (c == code "+") _ _ IfWords (λ _. (omega arith, omega arith)) (λ _.
    cond_both (c == code "{") _ _ IfWords (λ _. braced_words x t) (λ _. tt))))

-- ---- names

-- the text is not empty, and does not contain the delimiter
abbrev pub IsFreeOf : ℕ → Text → Type 0
IsFreeOf delimiter [] = ⊥
IsFreeOf delimiter (c ∷ w) = is_among delimiter (c ∷ w) ≡ false

-- what is cut off the front does not contain it
abbrev IfFree : ℕ → Option (Text × Text) → Type 0
IfFree delimiter o = IfSome o (λ p. is_among delimiter p.0 ≡ false)

none_before : (delimiter : ℕ) (t : Text) → IfFree delimiter (cut_at delimiter t)
none_before delimiter [] = tt
none_before delimiter (c ∷ t) = by_test (c == delimiter) refl (cut_at delimiter t) (none_before delimiter t)
  where
    other : (c == delimiter) ≡ false → (delimiter == c) ≡ false
    other e = grind (arith, nat_tests)

    by_test : (b : Bool) → (c == delimiter) ≡ b → (o : Option (Text × Text)) → IfFree delimiter o →
        IfFree delimiter (if b then Some ([], t) else option_map (λ p. (c ∷ p.0, p.1)) o)
    by_test true e o h = refl
    by_test false e None h = tt
    by_test false e (Some ([], u)) h = other e
    by_test false e (Some (d ∷ w, u)) h = rw (other e) h

-- neither does a name
abbrev pub IfNameFree : ℕ → Option (Text × Text) → Type 0
IfNameFree delimiter o = IfSome o (λ p. IsFreeOf delimiter p.0)

pub before_free : (delimiter : ℕ) (t : Text) → IfNameFree delimiter (name_before delimiter t)
unfolding name_before
before_free delimiter t = by_cut (cut_at delimiter t) (none_before delimiter t)
  where
    by_cut : (o : Option (Text × Text)) → IfFree delimiter o → IfNameFree delimiter (option_and_then nonempty_front o)
    by_cut None h = tt
    by_cut (Some ([], v)) h = tt
    by_cut (Some (c ∷ w, v)) h = h

-- nor the name of a group
pub name_free : (delimiter : ℕ) (t u : Text) → IfGives (IsFreeOf delimiter) (group_name delimiter t u)
unfolding group_name
name_free delimiter t u = by_name (name_before delimiter u) (before_free delimiter u)
  where
    by_name : (o : Option (Text × Text)) → IfNameFree delimiter o → IfGives (IsFreeOf delimiter)
        (read_or (group_not_named t) o)
    by_name None h = tt
    by_name (Some (w, v)) h = h

-- such a name can be written
pub angled_writable : (w : Text) → IsFreeOf (code ">") w → IsNameWritable w
angled_writable [] h = absurd h
angled_writable (c ∷ w) h = rw h refl

pub quoted_writable : (w : Text) → IsFreeOf (code "'") w → IsNameWritable w
quoted_writable [] h = absurd h
quoted_writable (c ∷ w) h = by_test (is_among (code ">") (c ∷ w)) _ h
  where
    by_test : (a b : Bool) → b ≡ false → (a && b) ≡ false
    by_test true b e = e
    by_test false b e = refl
