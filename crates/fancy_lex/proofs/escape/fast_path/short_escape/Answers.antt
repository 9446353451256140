use Rattle.std.proofs.Common.{◌≡◌, ℕ, [], ◌∷◌, chars, refl, ap, ◌∙◌, arith}
use Rattle.std.proofs.lemmas.Bool.{cond_both}
use Rattle.fancy_lex.specs.Characters.{◌∈◌}
use Rattle.fancy_lex.specs.Text.{Text, reach_of}
use Rattle.fancy_lex.specs.TokenComments.{escape_comments}
use Rattle.fancy_lex.proofs.TokenCommentLemmas.{at_end}
use Rattle.fancy_lex.proofs.escape.fast_path.short_escape.Goals as goal

-- an escape of one character
none_after_letter : (c : ℕ) (t : Text) → escape_comments (c ∷ t) (reach_of t) ≡ []
none_after_letter c t =
    cond_both (c ∈ "xuUbB") _ _ (λ l. l ≡ []) (λ _. at_end (reach_of t) t (omega arith)) (λ _. refl)

pub returns-clause-no_comments : goal.returns-clause-no_comments
returns-clause-no_comments c =
    let rest = chars c.in_ok-c.rest.now in
    ap (λ t. escape_comments t (reach_of rest)) c.in_ok-c.ensures.value ∙ none_after_letter c.in_ok-c.c rest
