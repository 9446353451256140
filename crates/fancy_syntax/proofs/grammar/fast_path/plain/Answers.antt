use Rattle.std.proofs.Common.{sym}
use Rattle.fancy_syntax.specs.Parsed.{state}
use Rattle.fancy_syntax.proofs.PlainLaws.{is_plain_literal}
use Rattle.fancy_syntax.proofs.grammar.fast_path.plain.Goals as goal

pub returns-clause-plain : goal.returns-clause-plain
returns-clause-plain c =
    is_plain_literal (state c.args.current) _ _ (sym c.if-is_layout.ensures) c.in_ok-c.ensures.value
    (sym c.if-is_special.ensures)
