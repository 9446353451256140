-- What is recorded when a whole text has been read.
use Rattle.std.specs.Prelude.{◌≡◌, Bool}
use Rattle.fancy_lex.specs.Text.{Text}
use Rattle.fancy_lex.specs.declared.flags.Flags.{Flags}
use Rattle.fancy_grammar.specs.Grammar.{Whole}
use Rattle.fancy_grammar.specs.Spans.{in_preorder, whole_spans}
use Rattle.fancy_grammar.specs.State.{State, Outcome, done}
use Rattle.fancy_grammar.specs.Tree.{Tree}
use Rattle.fancy_grammar.specs.Trivia.{whole_trivia}
use Rattle.fancy_syntax.specs.Log.{Log, shown}

-- a derivation exists, the spans of its nodes are what the log shows, and what no node has is what was passed
abbrev pub ShowsWhole : Flags → Text → Outcome Tree → Log → Type 0
ShowsWhole f text o m =
    (a : Whole f text o) × ((named : Bool) → shown named m.recorded ≡ in_preorder (whole_spans named a))
    × (m.passed ≡ whole_trivia a)

-- the log records the nodes of the raw tree r of the text
abbrev pub IsRecordedWhole : Flags → Text → Tree → Log → Type 0
IsRecordedWhole f text r m = (t : State) × ShowsWhole f text (done r t) m
