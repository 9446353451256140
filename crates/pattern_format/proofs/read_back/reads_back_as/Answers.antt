use Rattle.std.proofs.Common.{ap, map, ◌∙◌}
use Rattle.fancy_lex.specs.Flags.{flags_of}
use Rattle.fancy_syntax.specs.InfoViews.{info_of}
use Rattle.fancy_syntax.specs.TriviaViews.{trivia_of, trivium_of}
use Rattle.fancy_syntax.specs.View.{view}
use Rattle.pattern_format.specs.Formatted.{comments}
use Rattle.pattern_format.proofs.ReadBackLemmas.{read_back}
use Rattle.pattern_format.proofs.read_back.reads_back_as.Goals as goal

pub returns : goal.returns
returns c same =
    let text = c.args.text.now in
    let old = c.args.tree.now in
    let read = c.in-Ok.read in
    let trivia = ap (λ l. comments c.args.style text (map trivium_of l)) c.deref.ensures.value in
    read_back c.args.style (flags_of c.args.flags) text (view old.expr) (view read.0.expr) (info_of old) (info_of read.0)
    (map (λ t. t.now) c.args.comments.now) (trivia_of read.2) c.in-Ok.ensures.tree.found c.in-Ok.ensures.trivia.found
    (c.is_same_but_for_positions.ensures.0 c.if-not-is_same_but_for_positions.false)
    (c.in_ok-is_same.ensures same ∙ trivia)
