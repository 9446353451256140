use Rattle.std.proofs.Common.{◌∙◌, sym}
use Rattle.pattern_fixes.proofs.CommentLemmas.{texts_equal}
use Rattle.pattern_fixes.proofs.comments.are_same.Goals as goal

pub returns : goal.returns
returns c same = texts_equal c.args.texts.now c.args.others.now (sym c.eq.ensures ∙ same)
