use Rattle.std.proofs.Common.{◌≡◌, ◌<◌, ◌^◌, ◌++◌, ℕ, List, Some}
use Rattle.json_rpc.specs.Header.{header}
use Rattle.json_rpc.proofs.FieldLemmas.{IsHeaderLeft}
use Rattle.json_rpc.proofs.frame.read_header.Given as goal

abbrev pub invariant-loop-number : goal.invariant-loop-number
invariant-loop-number g l =
    (m : ℕ) (rest : List ℕ) → m < 2 ^ 64 → g.R.Read.remaining l.initial.reader ≡ Some (header m ++ rest) →
    IsHeaderLeft m rest (g.R.Read.remaining l.reader) l.length
