-- The letters after the `(?` of a flag group, as a relation.
-- The definition is `letters` of `LetterSteps`; `Premises` of `fancy_grammar` states that `GroupLetters` agrees with it.
use Rattle.std.specs.Prelude.{◌≡◌, ◌≢◌, ◌⊎◌, ℕ, ◌==◌, Bool, true, false, not, List, [], ◌∷◌, ◌++◌, codes}
use Rattle.std.specs.Prelude.{Option, Some, None, option_map}
use Rattle.std.specs.List.{find}
use Prim.Native.Char.{code}
use Rattle.fancy_lex.specs.Characters.{◌∈◌}
use Rattle.fancy_lex.specs.Flag.{letter, with_flag}
use Rattle.fancy_lex.specs.ErrorTable.{comment_not_closed, group_not_closed, no_flag_letter, mode_changed}
use Rattle.fancy_lex.specs.Layout.{Before, Unclosed}
use Rattle.fancy_lex.specs.Reading.{Reading, gives, fails}
use Rattle.fancy_lex.specs.Text.{Text}
use Rattle.fancy_lex.specs.declared.flags.Flag.{Flag}
use Rattle.fancy_lex.specs.declared.flags.Flag.TheVariants.{Casei, Multi, Dotnl, SwapGreed, IgnoreSpace, Crlf}
use Rattle.fancy_lex.specs.declared.flags.Flags.{Flags}

-- the result of the letters
pub data Letters : Type 0 where
  inline_flags : Flags → Letters  -- closed by a parenthesis: these flags hold from there on
  flag_group : Flags → Letters  -- closed by a colon: these flags hold inside the group

-- the flags that a pattern can set and clear
abbrev pub pattern_flags : List Flag
pattern_flags = Casei ∷ Multi ∷ Dotnl ∷ SwapGreed ∷ IgnoreSpace ∷ Crlf ∷ []

-- the flags with the flag of this letter set or cleared; None if a pattern changes no flag by this letter
abbrev pub with_letter : Flags → Bool → ℕ → Option Flags
with_letter f on c = option_map (λ flag. with_flag f flag on) (find (λ flag. c == letter flag) pattern_flags)

-- the result of one character: the letters end with it, or go on under these flags; then `clears` says whether the next
-- ones clear their flags or set them
pub data LetterStep : Type 0 where
  flags_end : Letters → LetterStep
  flags_go_on : (clears : Bool) → Flags → LetterStep

-- the character c is an error there; `w` is the text of the letters before it, and `clears` says whether a minus was
-- read
pub data NoLetter (w : Text) (clears : Bool) (f : Flags) (c : ℕ) : Type 0 where
  closed_without_letter : c ≡ code ")" → (w ≡ []) ⊎ (w ≡ codes "-") → NoLetter w clears f c
  scoped_without_letter : c ≡ code ":" → w ≡ codes "-" → NoLetter w clears f c
  second_minus : c ≡ code "-" → clears ≡ true → NoLetter w clears f c
  names_no_flag : (c ∈ ")-:u") ≡ false → with_letter f (not clears) c ≡ None → NoLetter w clears f c

-- `t` is the text that begins with the letters
module _ (t : Text) where
  -- one character, a flag letter, a minus, a `)`, a `:` or none of these, before `u`
  pub data Letter (w : Text) (clears : Bool) (f : Flags) (c : ℕ) (u : Text) : Reading LetterStep → Type 0 where
    flag : {g : _} → with_letter f (not clears) c ≡ Some g → Letter w clears f c u (gives (flags_go_on clears g) u)
    same_mode : c ≡ code "u" → f.unicode ≡ not clears → Letter w clears f c u (gives (flags_go_on clears f) u)
    minus : c ≡ code "-" → clears ≡ false → Letter w clears f c u (gives (flags_go_on true f) u)
    parenthesis : c ≡ code ")" → w ≢ [] → w ≢ codes "-" → Letter w clears f c u (gives (flags_end (inline_flags f)) u)
    colon : c ≡ code ":" → w ≢ codes "-" → Letter w clears f c u (gives (flags_end (flag_group f)) u)
    no_letter : NoLetter w clears f c → Letter w clears f c u (fails (no_flag_letter t (w ++ c ∷ [])))
    other_mode : c ≡ code "u" → f.unicode ≡ clears → Letter w clears f c u (fails (mode_changed (c ∷ u)))

  -- layout, and after it one character, before `v`; `w` is the text of the letters before it
  pub record Next (clears : Bool) (f : Flags) (u v : Text) (q : Reading LetterStep) : Type 0 where
    pub c : ℕ
    pub w : Text
    pub layout : Before f.ignore_space u (c ∷ v)
    pub read : t ≡ w ++ (c ∷ v)
    pub letter : Letter w clears f c v q

  -- the rest of the letters under these flags; `clears` says whether a minus was read
  pub data LettersFrom : Bool → Flags → Text → Reading Letters → Type 0 where
    last : {clears f u v l : _} → Next clears f u v (gives (flags_end l) v) → LettersFrom clears f u (gives l v)
    more : {clears b f g u v o : _} → Next clears f u v (gives (flags_go_on b g) v) → LettersFrom b g v o →
        LettersFrom clears f u o
    letter_error : {clears f u v e : _} → Next clears f u v (fails e) → LettersFrom clears f u (fails e)
    text_end : {clears u : _} {f : Flags} → Before f.ignore_space u [] → LettersFrom clears f u (fails group_not_closed)
    open_layout : {clears u q : _} {f : Flags} → Unclosed f.ignore_space u q →
        LettersFrom clears f u (fails (comment_not_closed q))

-- the letters of a flag group, starting after the `(?`
abbrev pub GroupLetters : Flags → Text → Reading Letters → Type 0
GroupLetters f t o = LettersFrom t false f t o
