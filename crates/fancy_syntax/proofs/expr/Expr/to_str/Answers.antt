use Rattle.std.proofs.Common.{arith, rules, ap, ◌++◌, ◌∙◌}
use Rattle.std.specs.Prelude.{encode_utf8_all}
use Rattle.fancy_syntax.proofs.CapacityLemmas.{capacity_counted}
use Rattle.fancy_syntax.proofs.SinkLemmas.{can_take}
use Rattle.fancy_grammar.specs.Printed.{printed}
use Rattle.fancy_syntax.specs.View.{view}
use Rattle.fancy_syntax.proofs.PrintLemmas.{added, bytes_none}
use Rattle.fancy_grammar.proofs.ReadBack.Theorem.{bytes_read_back, same_texts}
use Rattle.fancy_syntax.proofs.expr.Expr.to_str.Goals as goal

pub put_tree-requires : goal.put_tree-requires
put_tree-requires c =
    can_take _ _ (capacity_counted c.reserve.new.self _ c.tree_len.result c.tree_len.ensures (search rules))

pub returns-in_err-reserve-clause-nothing_to_print : goal.returns-in_err-reserve-clause-nothing_to_print
returns-in_err-reserve-clause-nothing_to_print c h =
    let w = c.args.buf.now.bytes.ok in
    absurd (omega (arith, bytes_none _ h, c.tree_len.ensures, c.in_err-reserve.ensures.full))

pub returns-clause-appended : goal.returns-clause-appended
returns-clause-appended c =
    added c.reserve.new.self c.put_tree.new.sink _ c.put_tree.ensures
    ∙ ap (λ bs. bs ++ encode_utf8_all (printed (view c.args.self.now) c.args.precedence)) c.reserve.ensures.bytes

pub returns-clause-reads_back : goal.returns-clause-reads_back
returns-clause-reads_back c h =
    let t = view c.args.self.now in
    (encode_utf8_all (printed t c.args.precedence), returns-clause-appended c, bytes_read_back t c.args.precedence h)

pub returns-clause-same_text : goal.returns-clause-same_text
returns-clause-same_text c h l s q u k e = same_texts (view c.args.self.now) s c.args.precedence q u h k l e

pub returns-in_err-reserve-clause-same_text : goal.returns-in_err-reserve-clause-same_text
returns-in_err-reserve-clause-same_text c h l s q u k e =
    same_texts (view c.args.self.now) s c.args.precedence q u h k l e
