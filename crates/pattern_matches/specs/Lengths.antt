-- How many characters the parts have that a tree matches: at least, and at most.
use Rattle.std.specs.Prelude.{ℕ, ◌+◌, ◌*◌, ◌≤◌, min, max, length, nat_lt, ◌==◌, ◌||◌, Option, None, Some, if◌then◌else◌}
use Rattle.fancy_lex.specs.Quantifier.{most}
use Rattle.fancy_grammar.specs.Label as label
use Rattle.fancy_grammar.specs.Label.{Leaf, Wrap, Row}
use Rattle.fancy_grammar.specs.Tree.{Tree, Trees, leaf, over, row, no_trees, more_trees}
use Rattle.pattern_matches.specs.Parts.{Position}

-- the part from p to q has at least n characters, or at most n
abbrev pub HasAtLeast : ℕ → Position → Position → Type 0
HasAtLeast n p q = length p.before + n ≤ length q.before

abbrev pub HasAtMost : ℕ → Position → Position → Type 0
HasAtMost n p q = length q.before ≤ length p.before + n

-- ---- at least

abbrev pub leaf_least : Leaf → ℕ
leaf_least (label.any newline crlf) = 1
leaf_least (label.literal text casei) = 1
leaf_least (label.delegate text casei) = 1
leaf_least _ = 0

abbrev pub wrap_least : Wrap → ℕ → ℕ
wrap_least label.group n = n
wrap_least (label.repeat lo hi greedy) n = lo * n
wrap_least _ n = 0

-- a tree before others, of which None says that there are none
abbrev pub row_least : Row → ℕ → Option ℕ → Option ℕ
row_least label.concat n (Some k) = Some (n + k)
row_least label.alt n (Some k) = Some (min n k)
row_least label.alt n None = Some n
row_least _ n o = o

abbrev pub least_of_none : Row → Option ℕ
least_of_none label.concat = Some 0
least_of_none _ = None

abbrev pub or_zero : Option ℕ → ℕ
or_zero (Some n) = n
or_zero None = 0

abbrev mutual
  pub min_length : Tree → ℕ
  min_length (leaf l) = leaf_least l
  min_length (over w t) = wrap_least w (min_length t)
  min_length (row r ts) = or_zero (min_lengths r ts)

  pub min_lengths : Row → Trees → Option ℕ
  min_lengths r no_trees = least_of_none r
  min_lengths r (more_trees t ts) = row_least r (min_length t) (min_lengths r ts)

-- ---- at most; None where there is no limit, or none is known

abbrev pub leaf_most : Leaf → Option ℕ
leaf_most label.empty = Some 0
leaf_most (label.any newline crlf) = Some 1
leaf_most (label.assertion a) = Some 0
leaf_most (label.literal text casei) = Some 1
leaf_most (label.delegate text casei) = Some 1
leaf_most _ = None

-- at most hi turns of a tree; where it takes no character, or there is no turn, no limit of the turns is needed
abbrev pub turns_most : ℕ → Option ℕ → Option ℕ
turns_most hi (Some n) = if nat_lt hi most || (n == 0) then Some (hi * n) else None
turns_most hi None = if hi == 0 then Some 0 else None

abbrev pub wrap_most : Wrap → Option ℕ → Option ℕ
wrap_most label.group o = o
wrap_most (label.look_around l) o = Some 0
wrap_most (label.repeat lo hi greedy) o = turns_most hi o
wrap_most _ o = None

abbrev pub row_most : Row → Option ℕ → Option ℕ → Option ℕ
row_most label.concat (Some n) (Some k) = Some (n + k)
row_most label.alt (Some n) (Some k) = Some (max n k)
row_most _ o l = None

abbrev mutual
  pub max_length : Tree → Option ℕ
  max_length (leaf l) = leaf_most l
  max_length (over w t) = wrap_most w (max_length t)
  max_length (row r ts) = max_lengths r ts

  pub max_lengths : Row → Trees → Option ℕ
  max_lengths r no_trees = Some 0
  max_lengths r (more_trees t ts) = row_most r (max_length t) (max_lengths r ts)
