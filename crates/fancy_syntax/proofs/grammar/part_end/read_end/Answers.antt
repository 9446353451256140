use Rattle.std.proofs.Common.{◌≡◌, refl, sym, ◌∙◌, subst}
use Rattle.std.specs.Prelude.{MatchResult}
use Rattle.fancy_grammar.specs.Errors.{IsErrorAmong}
use Rattle.fancy_grammar.specs.State.{done}
use Rattle.fancy_syntax.specs.Machine.{ended_with, made_of}
use Rattle.fancy_syntax.specs.Parsed.{state}
use Rattle.fancy_grammar.proofs.ErrorLemmas.{says_no_body}
use Rattle.fancy_syntax.proofs.MachineLemmas.{ended_without_body, ended_closed}
use Rattle.fancy_grammar.proofs.OutcomeLemmas.{IsErrorAmong-is}
use Rattle.fancy_syntax.proofs.grammar.part_end.read_end.Goals as goal

pub returns-then-lacks_body-clause-value : goal.returns-then-lacks_body-clause-value
returns-then-lacks_body-clause-value c =
    λ r. IsErrorAmong-is (λ q. ended_with c.args.open_part.now r (state c.args.current.now) ≡ q)
    c.general.result _
    (says_no_body c.general.result c.reach.result c.general.ensures)
    (rw c.reach.ensures
    (ended_without_body _ _ _ (sym (c.lacks_body.ensures (state c.args.current.now) refl) ∙ c.if-lacks_body.true)))

pub returns-clause-value : goal.returns-clause-value
returns-clause-value c =
    λ r. let node = made_of c.args.open_part.now r in
    subst (λ o. MatchResult c.close_paren.result (λ _. o ≡ done node (state c.close_paren.new.current))
    (λ e. IsErrorAmong e (λ q. o ≡ q)))
    (sym (ended_closed _ _ _ (sym (c.lacks_body.ensures (state c.args.current.now) refl) ∙ c.if-lacks_body.false)))
    (c.close_paren.ensures.value node)
