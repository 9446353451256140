-- Texts that are read again.
use Rattle.std.proofs.Common.{◌≡◌, ℕ, List, Option, IfSome, chars, refl, sym, subst}
use Rattle.std.proofs.lemmas.Option.{IfSome_then}
use Rattle.fancy_lex.specs.declared.flags.Flags.{Flags}
use Rattle.fancy_grammar.specs.GroupInfo.{GroupInfo}
use Rattle.fancy_grammar.specs.ParseResult.{IsTreeOf}
use Rattle.fancy_grammar.specs.ReadAs.{unpositioned}
use Rattle.fancy_grammar.specs.Tree.{Tree}
use Rattle.fancy_grammar.specs.Trivia.{Trivium, IsTriviaOf}
use Rattle.pattern_format.specs.declared.style.Style.{Style}
use Rattle.pattern_format.specs.Formatted.{comments, ReadsBack, IsFormatted}

-- the text is parsed as the tree u, which is t but for positions, with the group information and the comments
pub read_back : (s : Style) (f : Flags) (text : List ℕ) (t u : Tree) (m n : GroupInfo) (cs : List (List ℕ)) (l : List Trivium) →
    IsTreeOf f (chars text) u n → IsTriviaOf f (chars text) l → (unpositioned t ≡ unpositioned u) × (m ≡ n) →
    cs ≡ comments s text l → ReadsBack s f text t m cs
read_back s f text t u m n cs l tree trivia same e =
    (u, l, subst (IsTreeOf f (chars text) u) (sym same.1) tree, trivia, same.0, e)

-- a pattern whose tree and trivia are known, and a text that reads back
pub formatted : (s : Style) (f : Flags) (pattern text : List ℕ) (t : Tree) (m : GroupInfo) (l : List Trivium) →
    IsTreeOf f (chars pattern) t m → IsTriviaOf f (chars pattern) l → ReadsBack s f text t m (comments s pattern l) →
    IsFormatted s f pattern text
formatted s f pattern text t m l tree trivia back = (t, m, l, tree, trivia, back)

-- the pattern itself
pub unchanged : (s : Style) (f : Flags) (pattern text : List ℕ) (t : Tree) (m : GroupInfo) (l : List Trivium) → text ≡ pattern →
    IsTreeOf f (chars pattern) t m → IsTriviaOf f (chars pattern) l → IsFormatted s f pattern text
unchanged s f pattern text t m l e tree trivia =
    subst (IsFormatted s f pattern) (sym e) (t, m, l, tree, trivia, (t, l, tree, trivia, refl, refl))

-- a pattern whose tree and trivia are known, and a text, if there is one, that is parsed as that tree, with its comments
pub formatted_if : {A : Type 0} (text : A → List ℕ) (o : Option A) (s : Style) (f : Flags) (pattern : List ℕ) (t : Tree) (m : GroupInfo)
    (cs : List (List ℕ)) (l : List Trivium) → IsTreeOf f (chars pattern) t m → IsTriviaOf f (chars pattern) l →
    cs ≡ comments s pattern l → IfSome o (λ a. ReadsBack s f (text a) t m cs) → IfSome o (λ a. IsFormatted s f pattern (text a))
formatted_if text o s f pattern t m cs l tree trivia e back =
    IfSome_then o {P = λ a. ReadsBack s f (text a) t m cs} {Q = λ a. IsFormatted s f pattern (text a)} back
    (λ a one. formatted s f pattern (text a) t m l tree trivia (subst (ReadsBack s f (text a) t m) e one))
