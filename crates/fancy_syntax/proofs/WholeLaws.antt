-- What is recorded for a whole text shows its spans, and what no node has.
use Rattle.std.proofs.Common.{◌≡◌, ℕ, false, ◌==◌, [], ◌∷◌, length, ap, ◌∙◌, sym, arith}
use Rattle.std.proofs.lemmas.Bool.{cond-true, cond-false}
use Rattle.std.proofs.lemmas.Bool.Decides.{nat_tests}
use Rattle.fancy_lex.specs.Text.{Text, reach_of}
use Rattle.fancy_lex.specs.ErrorTable.{close_paren_left_over}
use Rattle.fancy_lex.specs.declared.flags.Flags.{Flags}
use Rattle.fancy_grammar.specs.Grammar.{whole, start, ended}
use Rattle.fancy_grammar.specs.State.{State, done, failed}
use Rattle.fancy_grammar.specs.Tree.{Tree}
use Rattle.fancy_syntax.specs.Log.{Log, shown, started}
use Rattle.fancy_syntax.specs.RecordedWhole.{ShowsWhole}
use Rattle.fancy_syntax.specs.Recording.{AlternationTo}
use Rattle.fancy_syntax.proofs.PassedLaws.{alternation_passed}
use Rattle.fancy_syntax.proofs.RecordingLaws.{whole_recorded}

-- nothing is left
pub ended_done : (r : Tree) (s : State) → s.rest ≡ [] → ended r s ≡ done r s
ended_done r s e = cond-true _ _ _ (ap (λ t. length t == 0) e)

-- a character is left
pub ended_left : (r : Tree) (s : State) (c : ℕ) (t : Text) → s.rest ≡ c ∷ t →
    ended r s ≡ failed (close_paren_left_over s.rest)
ended_left r s c t e =
    let some : (length s.rest == 0) ≡ false = rw e (grind (arith, nat_tests)) in cond-false _ _ _ some

pub whole_shown : {f : Flags} {text : Text} {r : Tree} {t : State} {m : Log} →
    AlternationTo 0 (start f text) (done r t) (started (reach_of text)) m → ShowsWhole f text (ended r t) m
whole_shown {text} (a, e) = (
  whole a,
  λ named. ap (λ (m : Log). shown named m.recorded) (sym e) ∙ whole_recorded named a,
  ap (λ (m : Log). m.passed) (sym e) ∙ alternation_passed a (started (reach_of text)),
)
