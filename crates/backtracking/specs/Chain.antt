-- A chain of repeats of a concatenation, and the ways through it: turns of the first repeat, the trees up to the next one,
-- turns of that, and so on through the last one.
use Rattle.std.specs.Prelude.{◌≡◌, ◌≢◌, ℕ, zero, suc, ◌*◌, ◌<◌, Bool, List, [], ◌∷◌, ◌++◌, length}
use Rattle.std.specs.List.{AllByRecursion}
use Rattle.fancy_grammar.specs.Tree.{Tree, trees_of}
use Rattle.backtracking.specs.ManySplits.{split}
use Rattle.backtracking.specs.ManyWays.{times}
use Rattle.backtracking.specs.TwoWays.{Rest, at, GoesAll, Turns, Part}
use Rattle.backtracking.specs.declared.decision.Decision.{Decision}
use Rattle.backtracking.specs.declared.decision.Decision.TheVariants.{Done}

-- a repeat after another one of a chain: the trees between the two, what it repeats, and three lists of decisions over a
-- word: by turns of the repeat before it, across, and by turns of this one
pub record Link : Type 0 where
  pub between : List Tree
  pub part : Tree
  pub before : List Decision
  pub across : List Decision
  pub after : List Decision

-- a chain: what its first repeat repeats, and the links after it
pub data Chain : Type 0 where
  start : Tree → Chain
  next : Chain → Link → Chain

-- what the last repeat repeats
abbrev pub last_part : Chain → Tree
last_part (start x) = x
last_part (next c l) = l.part

-- how many links there are
abbrev pub links : Chain → ℕ
links (start x) = zero
links (next c l) = suc (links c)

-- Through unicode c s u: the chain takes the first decisions and matches the first characters of s, and u is what remains.
pub data Through (unicode : Bool) : Chain → Rest → Rest → Type 0 where
  turns_of_first : {x n s u : _} → Turns unicode x n s u → Through unicode (start x) s u
  turns_of_next : {c n s ds w u v : _} → {l : Link} → Through unicode c s (at (Done ∷ ds) w) → GoesAll unicode (trees_of l.between) (at ds w) u →
      Turns unicode l.part n u v → Through unicode (next c l) s v

-- for each link, over m words, the way that crosses in the word with its number; the numbers begin with the last link's
abbrev pub crossings : ℕ → Chain → List ℕ → List Decision
crossings m (start x) ks = []
crossings m (next c l) [] = []
crossings m (next c l) (k ∷ ks) = crossings m c ks ++ split l.before l.across l.after m k

-- the numbers are one for each link, all below m
abbrev pub IsChoice : ℕ → Chain → List ℕ → Type 0
IsChoice m c ks = (length ks ≡ links c) × AllByRecursion (λ k. k < m) ks

-- Over m words for each link each choice of a number below m for each link is a way of matching all of the text, and no
-- two choices give the same one: with p links there are m^p ways.
pub record HasWaysThrough (unicode : Bool) (c : Chain) (w : List ℕ) : Type 0 where
  pub ways : (m : ℕ) (ks : List ℕ) → IsChoice m c ks → Through unicode c (at (crossings m c ks) (times (links c * m) w)) (at [] [])
  pub different : (m : ℕ) (js ks : List ℕ) → IsChoice m c js → IsChoice m c ks → js ≢ ks → Part (crossings m c js) (crossings m c ks)
