-- The letters of a flag group as they are read, one after another.
-- The definition is `letters`; `Premises` of `fancy_grammar` states that `GroupLetters` of `FlagLetters` agrees with it.
use Rattle.std.specs.Prelude.{ℕ, zero, suc, ◌+◌, ◌-◌, ◌==◌, ◌&&◌, ◌||◌, Bool, true, false, not, [], ◌∷◌, length, take}
use Rattle.std.specs.Prelude.{if◌then◌else◌}
use Rattle.std.proofs.Math.Bool.{beq}
use Prim.Native.Char.{code}
use Rattle.fancy_lex.specs.ErrorTable.{group_not_closed, no_flag_letter, mode_changed}
use Rattle.fancy_lex.specs.LayoutSteps.{layout}
use Rattle.fancy_lex.specs.Reading.{Reading, gives, fails, ◌>=>◌, choose, layout_reading}
use Rattle.fancy_lex.specs.Text.{Text, bytes}
use Rattle.fancy_lex.specs.declared.flags.Flags.{Flags}
use Rattle.fancy_lex.specs.FlagLetters.{Letters, inline_flags, flag_group, with_letter, LetterStep, flags_end}
use Rattle.fancy_lex.specs.FlagLetters.{flags_go_on}

-- the letters of `t` before `u`
abbrev pub letters_before : Text → Text → Text
letters_before t u = take (length t - length u) t

-- whether none of the letters of `t` was read before `u`
abbrev pub is_first : Text → Text → Bool
is_first t u = bytes u == bytes t

-- whether only a minus sign was read of the letters of `t` before `u`
abbrev pub is_after_minus : Text → Bool → Text → Bool
is_after_minus t clears u = clears && bytes u + 1 == bytes t

-- after one letter: the end, or more letters
abbrev pub after_step : (Bool → Flags → Text → Reading Letters) → LetterStep → Text → Reading Letters
after_step more (flags_end l) u = gives l u
after_step more (flags_go_on clears f) u = more clears f u

-- `t` is the text that begins with the letters
module _ (t : Text) where
  -- the error of the character before `u`
  abbrev pub unknown_letter : Text → Reading LetterStep
  unknown_letter u = fails (no_flag_letter t (letters_before t u))

  -- the letter at the front of the text
  abbrev pub step : Bool → Flags → Text → Reading LetterStep
  step clears f [] = fails group_not_closed
  step clears f (c ∷ u) =
      if c == code ")" then (
      if is_first t (c ∷ u) || is_after_minus t clears (c ∷ u) then unknown_letter u
      else gives (flags_end (inline_flags f)) u)
      else if c == code ":" then (
      if is_after_minus t clears (c ∷ u) then unknown_letter u else gives (flags_end (flag_group f)) u)
      else if c == code "-" then (
      if clears then unknown_letter u else gives (flags_go_on true f) u)
      -- the Unicode mode can be repeated, but not changed
      else if c == code "u" then (
      if beq clears f.unicode then fails (mode_changed (c ∷ u))
      else gives (flags_go_on clears f) u)
      else choose (with_letter f (not clears) c) (λ g. gives (flags_go_on clears g) u) (unknown_letter u)

  -- at most k letters, each with layout before it; each step reads a byte or more, so in `letters` the steps are never
  -- used up
  unfoldable pub letters_in : ℕ → Bool → Flags → Text → Reading Letters
  letters_in zero clears f u = fails group_not_closed
  letters_in (suc k) clears f u =
      layout_reading (layout f.ignore_space u) >=> (λ _ v. step clears f v >=> after_step (letters_in k))

-- the letters of a flag group, whose text begins after the `(?`
unfoldable pub letters : Flags → Text → Reading Letters
letters f t = letters_in t (suc (bytes t)) false f t
