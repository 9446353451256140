-- Whether the number that a text begins with fits in a word.
use Rattle.std.proofs.Common.{◌≡◌, ℕ, ◌+◌, Option, Some, None, refl, sym, ap, ◌∙◌, subst}
use Rattle.fancy_lex.specs.Number.{number, IsWord}
use Rattle.fancy_lex.specs.Text.{Text, bytes}
use Rattle.fancy_c.specs.TextStart.{IsDecimalOf, written, too_large}

pub decimal_written : (t rest : Text) (r : Option ℕ) (n m size old : ℕ) → number t ≡ Some (n, rest) → IsWord r n →
    r ≡ Some m → size + bytes rest ≡ bytes t → IsDecimalOf t size old m
decimal_written t rest r n m size old is word fits sizes =
    written (is ∙ ap (λ k. Some (k, rest)) (sym (subst (λ o. IsWord o n) fits word))) sizes

pub decimal_too_large : (t rest : Text) (r : Option ℕ) (n old : ℕ) → number t ≡ Some (n, rest) → IsWord r n → r ≡ None →
    IsDecimalOf t 0 old old
decimal_too_large t rest r n old is word none = too_large is (subst (λ o. IsWord o n) none word) refl refl
