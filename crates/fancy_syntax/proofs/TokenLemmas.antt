-- The comments in a token: one after another, and in the token that begins an atom, by its first character.
use Rattle.std.proofs.Common.{◌≡◌, ◌≢◌, ℕ, List, [], ◌∷◌, ◌++◌, ◌==◌, if◌then◌else◌, map, ap, refl, sym, ◌∙◌, arith}
use Rattle.std.proofs.lemmas.List.{map-append}
use Rattle.std.proofs.lemmas.Bool.Decides.{nat_tests}
use Prim.Native.Char.{code}
use Rattle.fancy_lex.specs.Comments.{Comment}
use Rattle.fancy_lex.specs.Text.{Text}
use Rattle.fancy_lex.specs.TokenComments.{class_comments, escape_comments, token_comments}
use Rattle.fancy_grammar.specs.State.{State}
use Rattle.fancy_grammar.specs.Trivia.{comments_in_start, inner_at, of_inner}
use Rattle.fancy_syntax.specs.Log.{Log, pass}
use Rattle.fancy_syntax.proofs.PassedLemmas.{nothing_passed, pass_both, pass_first}

-- where no comment is, nothing is passed
pub none_passed : (cs : List Comment) (l : Log) → cs ≡ [] → l ≡ pass (map of_inner cs) l
none_passed cs l e = sym (nothing_passed l) ∙ ap (λ z. pass (map of_inner z) l) (sym e)

-- the first comment is passed before the others
pub one_passed : (c : Comment) (cs ds : List Comment) (l m : Log) → ds ≡ c ∷ cs → m ≡ pass (of_inner c ∷ []) l →
    pass (map of_inner ds) l ≡ pass (map of_inner cs) m
one_passed c cs ds l m e f =
    ap (λ z. pass (map of_inner z) l) e ∙ pass_first (of_inner c) (map of_inner cs) l
    ∙ ap (pass (map of_inner cs)) (sym f)

-- the comments of a first escape are passed before the others
pub escape_passed : (bs cs ds : List Comment) (l m : Log) → ds ≡ bs ++ cs → m ≡ pass (map of_inner bs) l →
    pass (map of_inner ds) l ≡ pass (map of_inner cs) m
escape_passed bs cs ds l m e f =
    ap (λ z. pass (map of_inner z) l) e ∙ ap (λ z. pass z l) (map-append of_inner bs cs)
    ∙ pass_both (map of_inner bs) (map of_inner cs) l ∙ ap (pass (map of_inner cs)) (sym f)

module _ (s : State) (end : ℕ) where
  pub in_nothing : s.rest ≡ [] → inner_at s end ≡ []
  in_nothing e = ap (λ u. map of_inner (comments_in_start s.flags u end)) e

  module _ (c : ℕ) (t : Text) (e : s.rest ≡ c ∷ t) where
    first_is : inner_at s end ≡ map of_inner (if c == code "(" then token_comments t end
        else if c == code "\\" then escape_comments t end
        else if c == code "[" then class_comments s.flags t end else [])
    first_is = ap (λ u. map of_inner (comments_in_start s.flags u end)) e

    pub in_parenthesis : c ≡ code "(" → inner_at s end ≡ map of_inner (token_comments t end)
    in_parenthesis i = rw (e, i) refl

    pub in_backslash : c ≡ code "\\" → inner_at s end ≡ map of_inner (escape_comments t end)
    in_backslash i = rw (e, i) refl

    pub in_bracket : c ≡ code "[" → inner_at s end ≡ map of_inner (class_comments s.flags t end)
    in_bracket i = rw (e, i) refl

    pub in_other : c ≢ code "(" → c ≢ code "\\" → c ≢ code "[" → inner_at s end ≡ []
    in_other i j k = let step = first_is in grind (arith, nat_tests)
