use Rattle.std.proofs.Common.{◌++◌, ◌∙◌, ap, sym, chars}
use Rattle.std.proofs.lemmas.Str.{chars-nil}
use Rattle.fancy_lex.specs.EscapeViews.{escape_of, delegate_text}
use Rattle.fancy_grammar.specs.AtomStart as spec
use Rattle.fancy_grammar.specs.Tree.{delegate}
use Rattle.fancy_syntax.proofs.TreeLemmas.{view_Delegate}
use Rattle.fancy_syntax.proofs.grammar.atom.leaf_node.Goals as goal

pub returns-in_ok-push_delegate-in-Delegate : goal.returns-in_ok-push_delegate-in-Delegate
returns-in_ok-push_delegate-in-Delegate c =
    let start = ap chars c.in_ok-inner-in-Delegate.ensures.bytes ∙ chars-nil in
    let inner = c.in_ok-push_delegate-in-Delegate.ensures.grown
    ∙ ap (λ t. t ++ delegate_text c.in-Delegate.text) start in
    view_Delegate _ _ ∙ ap (λ t. delegate t c.in-Delegate.casei) inner
    ∙ ap (λ e. spec.leaf_node (escape_of e)) (sym c.in-Delegate.is)
