use Rattle.std.proofs.Common.{ℕ, List, Bor, ap, map, subst, ◌∙◌}
use Rattle.fancy_lex.specs.Flags.{flags_of}
use Rattle.fancy_syntax.specs.InfoViews.{info_of}
use Rattle.fancy_syntax.specs.TriviaViews.{trivium_of}
use Rattle.fancy_syntax.specs.View.{view}
use Rattle.pattern_format.specs.Formatted.{ReadsBack, comments}
use Rattle.pattern_format.proofs.read_back.reads_back.Goals as goal

pub returns : goal.returns
returns c same =
    let parsed = c.args.parsed.now in
    let texts = ap (map {A = Bor (List ℕ)} {B = List ℕ} (λ t. t.now)) c.deref-2.ensures.value
    ∙ (rw c.in-Some.is at c.in_ok-comments.ensures)
    ∙ ap (λ l. comments c.args.style c.args.pattern.now (map trivium_of l)) c.deref.ensures.value in
    subst (ReadsBack c.args.style (flags_of c.args.flags) c.args.text.now (view parsed.tree.expr) (info_of parsed.tree)) texts
    (c.in_ok-is_same.ensures same)
