-- What a report on a repeat of a pattern rests on.
use Rattle.std.specs.Prelude.{◌≡◌, ℕ, ◌<◌, Bool}
use Rattle.fancy_grammar.specs.Tree.{Tree, repeat}
use Rattle.fancy_syntax.specs.Spanned.{Spanned, first_span, IsNodeOf}
use Rattle.fancy_syntax.specs.View.{view}
use Rattle.backtracking.specs.ManyWays.{HasManyWays}
use Rattle.backtracking.specs.TwoWays.{AreTwoWays}
use Rattle.backtracking.specs.declared.repeats.Looked.{Looked}
use Rattle.backtracking.specs.declared.repeats.Looked.TheVariants.{Slow, Fast, Unknown}
use Rattle.backtracking.specs.declared.repeats.SlowRepeat.{SlowRepeat}

-- the node repeats a part without a limit, or with one above 20; the report has its span, and a word over which turns of the
-- part have two ways, so that there are 2^n ways over the word n times
pub record IsSlowAt (unicode : Bool) (p : Spanned) (r : SlowRepeat) : Type 0 where
  pub part : Tree
  pub lo : ℕ
  pub hi : ℕ
  pub greedy : Bool
  pub is_repeat : view p.expr ≡ repeat part lo hi greedy
  pub limit : 20 < hi
  pub span : r.span ≡ first_span p.spans
  pub two : AreTwoWays unicode part r.witness.word.items r.witness.first.items r.witness.second.items
  pub many : HasManyWays unicode part r.witness.word.items r.witness.first.items r.witness.second.items

-- the same of some node of the tree
pub record IsSlowIn (unicode : Bool) (tree : Spanned) (r : SlowRepeat) : Type 0 where
  pub node : Spanned
  pub inside : IsNodeOf node tree
  pub slow : IsSlowAt unicode node r

-- a look at a node reports only what is slow
abbrev pub IsLooked : Bool → Spanned → Looked → Type 0
IsLooked unicode p (Slow r) = IsSlowAt unicode p r
IsLooked unicode p Fast = Unit {0}
IsLooked unicode p Unknown = Unit {0}
