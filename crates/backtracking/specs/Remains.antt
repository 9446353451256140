-- What remains, as the checker holds it.
use Rattle.backtracking.specs.TwoWays.{Rest}
use Rattle.backtracking.specs.declared.checker.Remaining.{Remaining}

abbrev pub rest_of : Remaining → Rest
rest_of r = record { decisions = r.decisions.now; text = r.text.now }
