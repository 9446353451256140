-- What is known of the flags and the pattern is also known of the arguments that name them.
use Rattle.std.proofs.Common.{◌≡◌, List, [], ◌∷◌, String, Global, sym, subst}
use Rattle.fancy_lex.specs.Text.{Text, text_of}
use Rattle.fancy_lex.specs.declared.flags.Flags.{Flags}
use Rattle.fre_program.specs.Words.{OfWords}

pub of_words : (P : Flags → Text → Type 0) (words : List (String Global)) (f : Flags) (pattern : Text)
    → OfWords (λ g text. (g ≡ f) × (text ≡ pattern)) words → P f pattern → OfWords P words
of_words P (w ∷ p ∷ []) f pattern named h =
    (named.0, subst (λ g. P g (text_of p)) (sym named.1.0) (subst (P f) (sym named.1.1) h))
of_words P [] f pattern h x = absurd h
of_words P (w ∷ []) f pattern h x = absurd h
of_words P (w ∷ p ∷ q ∷ qs) f pattern h x = absurd h
