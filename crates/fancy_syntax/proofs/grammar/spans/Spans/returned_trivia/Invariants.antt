use Rattle.std.proofs.Common.{◌≡◌, chars, map, take}
use Rattle.fancy_lex.specs.Text.{bytes}
use Rattle.fancy_grammar.specs.Trivia.{located, kept}
use Rattle.fancy_syntax.specs.TriviaViews.{recorded_part, trivia_of}
use Rattle.fancy_syntax.proofs.grammar.spans.Spans.returned_trivia.Given as goal

abbrev pub invariant-loop-passed : goal.invariant-loop-passed
invariant-loop-passed l =
    trivia_of l.trivia ≡ map (located (bytes (chars l.pattern)))
    (kept l.named (map recorded_part (take l.passed-index l.fn.self.passed.items)))
