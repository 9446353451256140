-- Patterns that are fixed repeatedly.
use Rattle.std.specs.Prelude.{ℕ, List, Result, Ok, Err, IfOk, IfSome}
use Rattle.std.specs.Result.{result_ok}
use Rattle.fancy_lex.specs.declared.flags.Flags.{Flags}
use Rattle.patterns_program.specs.Fixes.{IsFixedRepeatedly, unchanged, further}

-- fixes of what fixes make of a pattern are fixes of the pattern; by induction on the later ones
pub fixed_repeatedly_again : {f : Flags} {pattern v w : List ℕ} →
    IsFixedRepeatedly f pattern v → IsFixedRepeatedly f v w → IsFixedRepeatedly f pattern w
fixed_repeatedly_again first unchanged = first
fixed_repeatedly_again first (further later once) = further (fixed_repeatedly_again first later) once

-- what holds of the value of an `Ok` holds of it where an error is dropped
pub if_some_of_ok : {T E : Type 0} (P : T → Type 0) (r : Result T E) → IfOk r P → IfSome (result_ok r) P
if_some_of_ok P (Ok x) k = k
if_some_of_ok P (Err e) k = k
