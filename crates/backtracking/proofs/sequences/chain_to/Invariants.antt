use Rattle.std.proofs.Common.{◌≡◌, ◌+◌, Bool, List}
use Rattle.std.specs.List.{AllByRecursion}
use Rattle.std.specs.Prelude.{IsSomeAnd, slice_get}
use Rattle.fancy_grammar.specs.Tree.{Tree}
use Rattle.fancy_syntax.specs.declared.span.Span.{Span}
use Rattle.backtracking.specs.Chain.{Chain, links}
use Rattle.backtracking.specs.SlowSequences.{IsRepeatOf, IsChain, IsSlowAcross}
use Rattle.backtracking.proofs.sequences.chain_to.Given as goal

abbrev pub invariant-loop-pair : goal.invariant-loop-pair
invariant-loop-pair l = (unicode : Bool) → (trees : List Tree) → (spans : List Span) → (part : Tree) →
    IsSomeAnd (slice_get trees l.index) (IsRepeatOf part) →
    AllByRecursion (IsSlowAcross unicode trees spans) l.pairs →
    (c : Chain) × IsChain unicode trees l.word c l.index × (l.longest ≡ links c + 1)
