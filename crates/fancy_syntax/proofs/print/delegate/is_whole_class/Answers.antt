use Rattle.std.proofs.Common.{chars}
use Rattle.fancy_lex.specs.Class.{class}
use Rattle.fancy_grammar.proofs.DelegateLemmas.{class_read, class_fails, failed}
use Rattle.fancy_syntax.proofs.print.delegate.is_whole_class.Goals as goal

pub returns-in-Ok : goal.returns-in-Ok
returns-in-Ok c =
    class_read c.args.text.now c.from_bits.result c.from_bits.ensures _ _
    c.next.result c.is_none.result c.in-Ok.ensures.value c.is_none.ensures c.next.ensures.value

pub returns : goal.returns
returns c =
    failed c.is_no_class.result c.in-Err.error (class c.from_bits.result (chars c.args.text.now)) _
    c.is_no_class.ensures.no c.is_no_class.ensures.error c.in-Err.ensures.value
    (class_fails c.args.text.now c.from_bits.result c.from_bits.ensures)
