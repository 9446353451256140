use Rattle.std.proofs.Common.{ap}
use Rattle.fancy_lex.specs.Located.{general_parse_error}
use Rattle.fancy_lex.specs.ErrorTable.{close_paren_expected}
use Rattle.fancy_syntax.specs.Machine.{IsErrorOfBar, part_of}
use Rattle.fancy_grammar.specs.State.{failed}
use Rattle.fancy_grammar.proofs.ErrorLemmas.{says_close_paren}
use Rattle.fancy_grammar.proofs.OutcomeLemmas.{IsErrorAmong-is}
use Rattle.fancy_syntax.proofs.grammar.frame.Frame.bar.Goals as goal

pub returns-in-Second-clause-error : goal.returns-in-Second-clause-error
returns-in-Second-clause-error g c t h =
    IsErrorAmong-is (IsErrorOfBar (part_of c.args.self.now.open_part) t) c.general.result _
    (says_close_paren c.general.result c.args.reach c.general.ensures)
    (rw c.in-Second.is (ap (λ n. failed (record { reach = n; kind = general_parse_error close_paren_expected })) h))
