use Rattle.std.proofs.Common.{◌≡◌, map, take}
use Rattle.fancy_grammar.specs.Trivia.{comment_texts}
use Rattle.fancy_syntax.specs.TriviaViews.{trivium_of}
use Rattle.pattern_fixes.proofs.comments.comments_of.Given as goal

abbrev pub invariant-loop-trivium : goal.invariant-loop-trivium
invariant-loop-trivium l =
    map (λ t. t.now) l.comments.items ≡ comment_texts l.text (map trivium_of (take l.trivium-index l.fn.trivia))
