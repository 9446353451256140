use Rattle.std.proofs.Common.{◌≡◌, false, ap, sym, is_some, IfOk, string_bytes, rules, ◌∙◌}
use Rattle.std.proofs.lemmas.Str.{scalars-chars, IsUtf8-string_bytes}
use Rattle.fancy_lex.specs.Text.{text_of}
use Rattle.fancy_grammar.specs.Normal.{unicode_flags, class_of}
use Rattle.fancy_grammar.specs.Printable.{printable}
use Rattle.fancy_grammar.specs.Tree.{literal, delegate}
use Rattle.fancy_syntax.specs.View.{view}
use Rattle.fancy_syntax.specs.declared.expr.Expr.{the_lemmas}
use Rattle.fancy_grammar.proofs.DelegateLemmas.{delegate_determined}
use Rattle.fancy_syntax.proofs.print.printable.is_printable_leaf.Goals as goal

pub returns-in-Literal-clause-exact : goal.returns-in-Literal-clause-exact
returns-in-Literal-clause-exact c = λ leaf.
    let val = c.in-Literal.val in
    let seen : view c.args.leaf.now ≡ literal (text_of val) c.in-Literal.casei = search (rules, the_lemmas) in
    sym (ap printable seen ∙ scalars-chars (string_bytes val) (IsUtf8-string_bytes val))

pub returns-in-Delegate-clause-exact : goal.returns-in-Delegate-clause-exact
returns-in-Delegate-clause-exact c = λ leaf.
    let inner = c.in-Delegate.inner in
    let seen : view c.args.leaf.now ≡ delegate (text_of inner) c.in-Delegate.casei = search (rules, the_lemmas) in
    let whole : IfOk c.is_whole.result (λ b. b ≡ is_some (class_of (unicode_flags false) (text_of inner))) =
    search rules in
    delegate_determined c.is_whole.result (text_of inner) c.in-Delegate.casei _
    (scalars-chars (string_bytes inner) (IsUtf8-string_bytes inner)) whole seen
