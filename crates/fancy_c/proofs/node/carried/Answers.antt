use Rattle.std.proofs.Common.{rules, ◌≡◌, sym, ◌∙◌}
use Rattle.std.specs.Prelude.{encode_utf8_all}
use Rattle.fancy_lex.specs.Text.{text_of}
use Rattle.fancy_syntax.specs.View.{view}
use Rattle.fancy_syntax.specs.declared.expr.Expr.{the_lemmas}
use Rattle.fancy_c.specs.Node as spec
use Rattle.fancy_c.proofs.NodeLemmas.{string_text}
use Rattle.fancy_c.proofs.node.carried.Goals as goal

pub returns-in-Literal : goal.returns-in-Literal
returns-in-Literal c =
    let is : spec.carried (view c.args.tree.now) ≡ encode_utf8_all (text_of c.in-Literal.val) =
    search (rules, the_lemmas) in
    c.as_bytes.ensures.value ∙ sym (string_text c.in-Literal.val) ∙ sym is

pub returns-in-Delegate : goal.returns-in-Delegate
returns-in-Delegate c =
    let is : spec.carried (view c.args.tree.now) ≡ encode_utf8_all (text_of c.in-Delegate.inner) =
    search (rules, the_lemmas) in
    c.as_bytes-in-Delegate.ensures.value ∙ sym (string_text c.in-Delegate.inner) ∙ sym is
