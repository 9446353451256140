use Rattle.std.proofs.Common.{◌≡◌, map, take}
use Rattle.fancy_syntax.specs.TriviaViews.{trivium_of}
use Rattle.pattern_format.specs.Formatted.{comments}
use Rattle.pattern_format.proofs.comments.comments_of.Given as goal

abbrev pub invariant-loop-trivium : goal.invariant-loop-trivium
invariant-loop-trivium l =
    map (λ t. t.now) l.texts.items ≡ comments l.style l.pattern (map trivium_of (take l.trivium-index l.fn.trivia))
