-- What each letter adds to the flags of a word.
use Rattle.std.proofs.Common.{◌≡◌, ℕ, Bool, true, false, ◌||◌, ◌==◌, [], ◌∷◌, ◌≢◌, codes, refl, sym, ap, subst, ◌∙◌}
use Rattle.std.proofs.Common.{inl, inr, ⊎_elim, true≢false}
use Rattle.std.specs.List.{list_all}
use Rattle.std.proofs.Math.Bool.{or-true, or-false}
use Rattle.std.proofs.lemmas.Bool.{ne_eqb}
use Rattle.fancy_lex.specs.Flags.{flags_of}
use Rattle.fancy_lex.specs.Text.{Text}
use Rattle.fancy_lex.specs.Flag.{letter, with_flag}
use Rattle.fancy_lex.specs.declared.flags.Flag.{Flag}
use Rattle.fancy_lex.specs.declared.flags.Flag.TheVariants.{Casei, Multi, Dotnl, SwapGreed, IgnoreSpace, Unicode, Crlf}
use Rattle.fancy_lex.specs.declared.flags.Flag.TheVariants.{OnigurumaMode, IgnoreNumberedGroups}
use Rattle.fancy_lex.specs.declared.flags.Flags.{Flags}
use Rattle.fancy_lex.specs.FlagWord.{named_flags, is_letter, NamesFlags}

-- the flags that one of the two has
abbrev pub either : Flags → Flags → Flags
either f g = record {
  casei = f.casei || g.casei;
  multi = f.multi || g.multi;
  dotnl = f.dotnl || g.dotnl;
  swap_greed = f.swap_greed || g.swap_greed;
  ignore_space = f.ignore_space || g.ignore_space;
  unicode = f.unicode || g.unicode;
  crlf = f.crlf || g.crlf;
  oniguruma_mode = f.oniguruma_mode || g.oniguruma_mode;
  ignore_numbered_groups = f.ignore_numbered_groups || g.ignore_numbered_groups;
}

-- ---- the flag of a letter

letter_named : (flag : Flag) → is_letter (letter flag) ≡ true
letter_named Casei = refl
letter_named Multi = refl
letter_named Dotnl = refl
letter_named SwapGreed = refl
letter_named IgnoreSpace = refl
letter_named Unicode = refl
letter_named Crlf = refl
letter_named OnigurumaMode = refl
letter_named IgnoreNumberedGroups = refl

letter_of_none : (c : ℕ) → ((flag : Flag) → letter flag ≢ c) → is_letter c ≡ false
letter_of_none c none =
    let other : (flag : Flag) → (letter flag == c) ≡ false = λ flag. ne_eqb (letter flag) c (none flag) in
    rw (
      other Casei,
      other Multi,
      other Dotnl,
      other SwapGreed,
      other IgnoreSpace,
      other Unicode,
      other Crlf,
      other OnigurumaMode,
      other IgnoreNumberedGroups,
    ) refl

flag_set : (f : Flags) (flag : Flag) → with_flag f flag true ≡ either f (named_flags (letter flag ∷ []))
flag_set f Casei = simp (or-true, or-false) refl
flag_set f Multi = simp (or-true, or-false) refl
flag_set f Dotnl = simp (or-true, or-false) refl
flag_set f SwapGreed = simp (or-true, or-false) refl
flag_set f IgnoreSpace = simp (or-true, or-false) refl
flag_set f Unicode = simp (or-true, or-false) refl
flag_set f Crlf = simp (or-true, or-false) refl
flag_set f OnigurumaMode = simp (or-true, or-false) refl
flag_set f IgnoreNumberedGroups = simp (or-true, or-false) refl

-- ---- the letters of a word

or_assoc : (a b c : Bool) → ((a || b) || c) ≡ (a || (b || c))
or_assoc true b c = refl
or_assoc false b c = refl

either_assoc : (f g h : Flags) → either (either f g) h ≡ either f (either g h)
either_assoc f g h = simp or_assoc refl

named_first : (c : ℕ) (t : Text) → either (named_flags (c ∷ [])) (named_flags t) ≡ named_flags (c ∷ t)
named_first c t = simp or-false refl

either_none : (f : Flags) → either f (named_flags []) ≡ f
either_none f = simp or-false refl

-- the letters before the rest name the flags
pub record ReadsLetters (word rest : Text) (f : Flags) : Type 0 where
  pub checked : list_all is_letter word ≡ list_all is_letter rest
  pub named : named_flags word ≡ either f (named_flags rest)

pub letters_start : (word : Text) → ReadsLetters word word (flags_of 0)
letters_start word = record { checked = refl; named = refl }

pub letters_next : (word rest t : Text) (c : ℕ) (f : Flags) (flag : Flag) → ReadsLetters word rest f → rest ≡ c ∷ t →
    letter flag ≡ c → ReadsLetters word t (with_flag f flag true)
letters_next word rest t c f flag r is named =
    let is_one : is_letter c ≡ true = ap is_letter (sym named) ∙ letter_named flag in record {
      checked = r.checked ∙ ap (list_all is_letter) is ∙ rw is_one refl;
      named = r.named ∙ ap (λ u. either f (named_flags u)) is ∙ ap (either f) (sym (named_first c t))
          ∙ sym (either_assoc f (named_flags (c ∷ [])) (named_flags t))
          ∙ ap (λ d. either (either f (named_flags (d ∷ []))) (named_flags t)) (sym named)
          ∙ ap (λ g. either g (named_flags t)) (sym (flag_set f flag));
    }

pub letters_end : (word rest : Text) (f : Flags) → ReadsLetters word rest f → rest ≡ []
    → (list_all is_letter word ≡ true) × (f ≡ named_flags word)
letters_end word rest f r is = (
  r.checked ∙ ap (list_all is_letter) is,
  sym (r.named ∙ ap (λ u. either f (named_flags u)) is ∙ either_none _),
)

pub letters_fail : (word rest t : Text) (c : ℕ) (f : Flags) → ReadsLetters word rest f → rest ≡ c ∷ t →
    ((flag : Flag) → letter flag ≢ c) → list_all is_letter word ≡ false
letters_fail word rest t c f r is none =
    r.checked ∙ ap (list_all is_letter) is ∙ rw (letter_of_none c none) refl

pub names_none : (w : Text) → w ≡ [] → NamesFlags w → ⊥
names_none w is h = subst NamesFlags is h

pub names_dash : (w : Text) → w ≡ codes "-" → NamesFlags w × (flags_of 0 ≡ named_flags w)
names_dash w is = (subst NamesFlags (sym is) (inl refl), ap named_flags (sym is))

pub names_letters : (w t : Text) (c : ℕ) → w ≡ c ∷ t → list_all is_letter w ≡ true → NamesFlags w
names_letters w t c is all = subst NamesFlags (sym is) (inr (ap (list_all is_letter) (sym is) ∙ all))

pub names_other : (w t : Text) (c : ℕ) → w ≡ c ∷ t → w ≢ codes "-" → list_all is_letter w ≡ false → NamesFlags w → ⊥
names_other w t c is not_dash none h = ⊎_elim (λ e. not_dash (is ∙ e))
    (λ e. true≢false (sym e ∙ ap (list_all is_letter) (sym is) ∙ none)) (subst NamesFlags is h)
