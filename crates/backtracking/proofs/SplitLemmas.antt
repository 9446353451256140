-- Three ways over a word make n ways over n repetitions of it.
use Rattle.std.proofs.Common.{ℕ, zero, suc, ◌<◌, Bool, List, [], ◌∷◌, ◌++◌, arith}
use Rattle.fancy_grammar.specs.Tree.{Tree, trees_of}
use Rattle.backtracking.specs.ManySplits.{repeated, split, HasManySplits}
use Rattle.backtracking.specs.ManyWays.{times}
use Rattle.backtracking.specs.ThreeWays.{IsWayAcross, AreThreeWays}
use Rattle.backtracking.specs.TwoWays.{at, no_turn, Part, IsWay}
use Rattle.backtracking.specs.declared.decision.Decision.{Decision}
use Rattle.backtracking.specs.declared.decision.Decision.TheVariants.{Done}
use Rattle.backtracking.proofs.ManyLemmas.{and_then, more_goes_all, more_turns, joined, both, part_more, part_same, part_turned}

-- turns of x, and then a way across
turns_before : (unicode : Bool) (x : Tree) (ts : List Tree) (y : Tree) (w v : List ℕ) (ds es : List Decision) →
    IsWay unicode x w ds → IsWayAcross unicode x ts y v es → IsWayAcross unicode x ts y (w ++ v) (ds ++ es)
turns_before unicode x ts y w v ds es k a =
    let all = joined unicode x k.count a.count (at (ds ++ es) (w ++ v)) (at es v) (at (Done ∷ a.left.decisions) a.left.text)
    (more_turns unicode x k.count (at ds w) (at [] []) (at es v) k.goes) a.turns_of_x in
    record {
      count = all.0;
      left = a.left;
      crossed = a.crossed;
      turns_of_x = all.1;
      between = a.between;
      turns_of_y = a.turns_of_y;
    }

-- a way across, and then turns of y
turns_after : (unicode : Bool) (x : Tree) (ts : List Tree) (y : Tree) (w v : List ℕ) (es fs : List Decision) →
    IsWayAcross unicode x ts y w es → IsWay unicode y v fs → IsWayAcross unicode x ts y (w ++ v) (es ++ fs)
turns_after unicode x ts y w v es fs a k = record {
  count = a.count;
  left = and_then a.left (at fs v);
  crossed = and_then a.crossed (at fs v);
  turns_of_x = more_turns unicode x a.count (at es w) (at (Done ∷ a.left.decisions) a.left.text) (at fs v) a.turns_of_x;
  between = more_goes_all unicode (trees_of ts) a.left a.crossed (at fs v) a.between;
  turns_of_y = both unicode y a.crossed.text v a.crossed.decisions fs a.turns_of_y k;
}

turns_times : (unicode : Bool) (y : Tree) (w : List ℕ) (fs : List Decision) → IsWay unicode y w fs → (n : ℕ) →
    IsWay unicode y (times n w) (repeated n fs)
turns_times unicode y w fs k zero = record { count = 0; goes = no_turn }
turns_times unicode y w fs k (suc n) = both unicode y w (times n w) fs (repeated n fs) k (turns_times unicode y w fs k n)

split_way : (unicode : Bool) (x : Tree) (ts : List Tree) (y : Tree) (w : List ℕ) (ds es fs : List Decision) →
    AreThreeWays unicode x ts y w ds es fs → (n k : ℕ) → k < n → IsWayAcross unicode x ts y (times n w) (split ds es fs n k)
split_way unicode x ts y w ds es fs h zero k less = absurd (omega (arith, less))
split_way unicode x ts y w ds es fs h (suc n) zero less =
    turns_after unicode x ts y w (times n w) es (repeated n fs) h.across (turns_times unicode y w fs h.last n)
split_way unicode x ts y w ds es fs h (suc n) (suc k) less =
    turns_before unicode x ts y w (times n w) ds (split ds es fs n k) h.first
    (split_way unicode x ts y w ds es fs h n k (omega (arith, less)))

splits_part : (ds es fs : List Decision) → Part ds es → (n j k : ℕ) → j < k → k < n →
    Part (split ds es fs n j) (split ds es fs n k)
splits_part ds es fs p zero j k below less = absurd (omega (arith, less))
splits_part ds es fs p (suc n) j zero below less = absurd (omega (arith, below))
splits_part ds es fs p (suc n) zero (suc k) below less = part_more es ds _ _ (part_turned ds es p)
splits_part ds es fs p (suc n) (suc j) (suc k) below less =
    part_same ds _ _ (splits_part ds es fs p n j k (omega (arith, below)) (omega (arith, less)))

pub many_splits : (unicode : Bool) (x : Tree) (ts : List Tree) (y : Tree) (w : List ℕ) (ds es fs : List Decision) →
    AreThreeWays unicode x ts y w ds es fs → HasManySplits unicode x ts y w ds es fs
many_splits unicode x ts y w ds es fs h = record {
  ways = split_way unicode x ts y w ds es fs h;
  different = splits_part ds es fs h.part;
}
