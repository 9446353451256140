use Rattle.std.proofs.Common.{◌≡◌, map, subst}
use Rattle.fancy_lex.specs.Flags.{flags_of}
use Rattle.fancy_syntax.specs.InfoViews.{info_of}
use Rattle.fancy_grammar.specs.Trivia.{comment_texts}
use Rattle.fancy_syntax.specs.TriviaViews.{trivium_of}
use Rattle.fancy_syntax.specs.View.{view}
use Rattle.pattern_fixes.specs.Edits.{with_edit}
use Rattle.pattern_fixes.specs.Fixed.{IsFixedText}
use Rattle.pattern_fixes.proofs.fixed.ParsedPattern.fix.Goals as goal

pub returns-then-branch-clause-fixed : goal.returns-then-branch-clause-fixed
returns-then-branch-clause-fixed c =
    let pattern = c.args.self.now in
    let edited = rw c.in-Some-2.is at c.in_ok-text.ensures.value in
    let is : c.as_str.result.now ≡ with_edit c.args.self.now.pattern.now c.in-Some.edit = cc in
    subst (λ text. IsFixedText (flags_of pattern.flags) text (view pattern.tree.now.expr) (info_of pattern.tree.now)
    (comment_texts pattern.pattern.now (map trivium_of pattern.trivia.now)))
    is (c.in_ok-is_fixed_as.ensures.fixed c.if-branch.true)
