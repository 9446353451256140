-- The word that names flags: `-` for none, or letters.
use Rattle.std.specs.Prelude.{◌≡◌, Bool, true, false, ◌||◌, ◌==◌, ◌⊎◌, ℕ, [], ◌∷◌, codes, map}
use Rattle.std.specs.List.{list_all}
use Rattle.fancy_lex.specs.Flag.{letter}
use Rattle.fancy_lex.specs.Text.{Text}
use Rattle.fancy_lex.specs.declared.flags.Flag.TheVariants.{Casei, Multi, Dotnl, SwapGreed, IgnoreSpace, Unicode, Crlf}
use Rattle.fancy_lex.specs.declared.flags.Flag.TheVariants.{OnigurumaMode, IgnoreNumberedGroups}
use Rattle.fancy_lex.specs.declared.flags.Flags.{Flags}

-- whether the word contains the character
abbrev pub has : ℕ → Text → Bool
has c [] = false
has c (d ∷ t) = d == c || has c t

-- the flags that the letters of a word name
abbrev pub named_flags : Text → Flags
named_flags w = record {
  casei = has (letter Casei) w;
  multi = has (letter Multi) w;
  dotnl = has (letter Dotnl) w;
  swap_greed = has (letter SwapGreed) w;
  ignore_space = has (letter IgnoreSpace) w;
  unicode = has (letter Unicode) w;
  crlf = has (letter Crlf) w;
  oniguruma_mode = has (letter OnigurumaMode) w;
  ignore_numbered_groups = has (letter IgnoreNumberedGroups) w;
}

-- the letters of all flags
abbrev pub letters : Text
letters =
    map letter
    (Casei ∷ Multi ∷ Dotnl ∷ SwapGreed ∷ IgnoreSpace ∷ Unicode ∷ Crlf ∷ OnigurumaMode ∷ IgnoreNumberedGroups ∷ [])

-- whether the character is the letter of a flag
abbrev pub is_letter : ℕ → Bool
is_letter c = has c letters

-- the word is `-`, or one letter or more and nothing else
abbrev pub NamesFlags : Text → Type 0
NamesFlags [] = ⊥
NamesFlags (c ∷ t) = (c ∷ t ≡ codes "-") ⊎ (list_all is_letter (c ∷ t) ≡ true)
