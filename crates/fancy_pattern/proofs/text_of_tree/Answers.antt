use Rattle.std.proofs.Common.{◌++◌, subst, ap, sym, ◌∙◌}
use Rattle.fancy_grammar.specs.Pattern.{pattern_text}
use Rattle.fancy_grammar.specs.PatternWalk.{needs_listed}
use Rattle.fancy_lex.specs.Text.{text_of}
use Rattle.fancy_syntax.specs.InfoViews.{info_of}
use Rattle.fancy_syntax.specs.View.{view}
use Rattle.fancy_pattern.specs.ContextViews.{IsListFor}
use Rattle.fancy_pattern.proofs.text_of_tree.Goals as goal

pub returns : goal.returns
returns c =
    let f = c.args.flags in
    let tree = view c.args.tree.now.expr in
    let knows = c.in_ok-listed.ensures in
    let nodes = needs_listed f.oniguruma_mode tree in
    let at = c.at_start-context.ensures knows.known nodes
    (subst (λ l. IsListFor knows.known f l nodes) (sym c.as_slice.ensures.value) knows.nodes) in
    let written = (c.in_ok-put_pattern.ensures (info_of c.args.tree.now) f knows.known c.in_ok-names.ensures
    knows.leaves at).after in
    ap text_of c.into_string.ensures ∙ written ∙ ap (λ t. t ++ pattern_text f tree (info_of c.args.tree.now)) c.in_ok-out.ensures
