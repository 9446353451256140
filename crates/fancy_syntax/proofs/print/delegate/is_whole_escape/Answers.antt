use Rattle.std.proofs.Common.{false, chars}
use Rattle.fancy_lex.specs.Escape.{escape}
use Rattle.fancy_grammar.proofs.DelegateLemmas.{escape_read, escape_other, escape_fails, failed}
use Rattle.fancy_lex.proofs.ReadingLemmas.{report_fails}
use Rattle.fancy_syntax.proofs.print.delegate.is_whole_escape.Goals as goal

pub returns-then-is_class : goal.returns-then-is_class
returns-then-is_class c =
    escape_read c.args.text.now c.from_bits.result c.from_bits.ensures _ _ c.next.result c.is_class.result
    c.is_none.result c.in-Ok.ensures.value c.is_class.ensures c.if-is_class.true c.is_none.ensures c.next.ensures.value

pub returns-else-is_class : goal.returns-else-is_class
returns-else-is_class c =
    escape_other c.args.text.now c.from_bits.result c.from_bits.ensures _ _ c.is_class.result c.in-Ok.ensures.value
    c.is_class.ensures c.if-is_class.false

pub returns-in-Err : goal.returns-in-Err
returns-in-Err c =
    failed c.is_no_class.result c.in-Err.error (escape c.from_bits.result false (chars c.args.text.now)) _
    c.is_no_class.ensures.no c.is_no_class.ensures.error (report_fails c.in-Err.error _ c.in-Err.ensures.value)
    (escape_fails c.args.text.now c.from_bits.result c.from_bits.ensures)
