use Rattle.std.proofs.Common.{chars, refl, sym, ap, ◌∙◌, subst}
use Rattle.fancy_lex.specs.Text.{reach_of}
use Rattle.fancy_grammar.specs.Spans.{AreSpansOf}
use Rattle.fancy_grammar.specs.Trivia.{IsTriviaOf}
use Rattle.fancy_syntax.specs.Log.{started}
use Rattle.fancy_syntax.specs.LogViews.{returned_spans, returned_trivia}
use Rattle.fancy_syntax.proofs.tree.read_recorded.Goals as goal

pub returns-clause-spans : goal.returns-clause-spans
returns-clause-spans c =
    let text = chars c.args.re.now in
    let (m, n, a, b) =
    c.in_ok-tree.ensures.spans (started (reach_of text)) refl (c.in_ok-recorded.ensures ∙ ap started c.reach.ensures) in
    subst (AreSpansOf c.args.flags text)
    (sym (ap (returned_spans text c.in_ok-tree.tree.numbered_groups_ignored) n)) a

pub returns-clause-trivia : goal.returns-clause-trivia
returns-clause-trivia c =
    let text = chars c.args.re.now in
    let (m, n, a, b) =
    c.in_ok-tree.ensures.spans (started (reach_of text)) refl (c.in_ok-recorded.ensures ∙ ap started c.reach.ensures) in
    subst (IsTriviaOf c.args.flags text)
    (sym (ap (returned_trivia text c.in_ok-tree.tree.numbered_groups_ignored) n)) b
