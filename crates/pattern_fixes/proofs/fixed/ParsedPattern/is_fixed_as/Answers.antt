use Rattle.std.proofs.Common.{ap, map, ◌∙◌}
use Rattle.fancy_lex.specs.Flags.{flags_of}
use Rattle.fancy_grammar.specs.Trivia.{comment_texts}
use Rattle.fancy_syntax.specs.InfoViews.{info_of}
use Rattle.fancy_syntax.specs.TriviaViews.{trivia_of, trivium_of}
use Rattle.fancy_syntax.specs.View.{view}
use Rattle.pattern_fixes.proofs.FixedLemmas.{if_true, text_case}
use Rattle.pattern_fixes.proofs.MatchesLemmas.{keeps_matches}
use Rattle.pattern_fixes.proofs.fixed.ParsedPattern.is_fixed_as.Goals as goal

pub returns-clause-fixed : goal.returns-clause-fixed
returns-clause-fixed c =
    let old = c.args.self.now.tree.now in
    let text = c.args.text.now in
    let parsed = rw c.in-Ok.is at c.parse_tree_with_trivia.ensures.tree in
    let parsed_trivia = rw c.in-Ok.is at c.parse_tree_with_trivia.ensures.trivia in
    text_case c.is_fixed.result (flags_of c.args.self.now.flags) text (view old.expr)
    (view c.in-Ok.new.0.expr) (info_of old) (info_of c.in-Ok.new.0) _ (trivia_of c.in-Ok.new.2)
    (comment_texts c.args.self.now.pattern.now (map trivium_of c.args.self.now.trivia.now)) parsed.found
    parsed_trivia.found
    (c.in_ok-has_same_comments.ensures c.if-not-branch.false
    ∙ ap (λ xs. comment_texts text (map trivium_of xs)) c.deref.ensures.value)
    (c.has_same_groups.ensures c.if-not-has_same_groups.false)
    (ap (λ f. f.unicode) c.from_bits-unicode.ensures) c.is_fixed.ensures

pub returns-clause-matches : goal.returns-clause-matches
returns-clause-matches c =
    let old = c.args.self.now.tree.now in
    if_true c.is_fixed.result
    (keeps_matches (flags_of c.args.self.now.flags) c.args.text.now (view old.expr) (info_of old)
    (comment_texts c.args.self.now.pattern.now (map trivium_of c.args.self.now.trivia.now)))
    (returns-clause-fixed c)
