use Rattle.std.proofs.Common.{List, ℕ, Bor, Result, Ok, Err, IfOk, chars, rules}
use Rattle.std.specs.Str.{IsUtf8}
use Rattle.fancy_lex.specs.Text.{EndsWith}
use Rattle.fancy_lex.specs.declared.error.ReadError.{ReadError}
use Rattle.fancy_lex.proofs.TextLemmas.{cut_nothing}
use Rattle.fancy_syntax.specs.Parsed.{IsUnmoved}
use Rattle.fancy_syntax.proofs.grammar.state.skip_layout.Goals as goal

unmoved : (t : List ℕ) (r : Result (Bor (List ℕ)) ReadError) → IsUtf8 t → IfOk r (λ u. IsUtf8 u.now) →
    IfOk r (λ u. EndsWith (chars t) (chars u.now)) → IfOk r (λ u. IsUnmoved t u.now)
unmoved t (Ok u) v w (front, cut) = cut_nothing t u.now front v w cut
unmoved t (Err e) v w h = tt

pub returns-clause-unmoved : goal.returns-clause-unmoved
returns-clause-unmoved c = unmoved _ c.skip.result (search rules) (search rules) c.skip.ensures.cut
