-- What a report on a search rests on, which goes through a repeat again from each start.
use Rattle.std.specs.Prelude.{◌≡◌, ℕ, Bool, true, false, List, map, take, slice_get, IsSomeAnd}
use Rattle.std.specs.List.{IsAmong}
use Rattle.fancy_grammar.specs.Tree.{Tree, trees_of, any, group, alt, concat}
use Rattle.fancy_syntax.specs.Spanned.{Spanned, first_span, spanned_children}
use Rattle.fancy_syntax.specs.View.{view}
use Rattle.fancy_syntax.specs.declared.span.Span.{Span}
use Rattle.backtracking.specs.ManySplits.{HasManySplits}
use Rattle.backtracking.specs.SlowSequences.{IsRepeatOf, IsSpanAcross}
use Rattle.backtracking.specs.ThreeWays.{AreThreeWays}
use Rattle.backtracking.specs.declared.searches.SlowSearch.{SlowSearch}

-- a dot that matches each character: what a search passes over to the next start
abbrev pub any_character : Tree
any_character = any true false

-- what is below the node are branches of the pattern if it is one: it is a group or an alternation
abbrev pub has_branches : Tree → Bool
has_branches (group t) = true
has_branches (alt ts) = true
has_branches _ = false

-- the node is all of the pattern, or is below such a branch of it
pub data IsBranchOf (pattern : Spanned) : Spanned → Type 0 where
  whole : IsBranchOf pattern pattern
  below : {p c : Spanned} → IsBranchOf pattern p → has_branches (view p.expr) ≡ true → IsAmong (spanned_children p) c → IsBranchOf pattern c

-- The report has the span of the trees through a repeat, and a word that is passed over, is matched by turns of the repeat, and
-- across the trees before it. So over the word n times there is a way for each k below n: k words are passed over, and the
-- trees and the repeat match the rest.
pub record IsSlowFrom (unicode : Bool) (trees : List Tree) (spans : List Span) (r : SlowSearch) : Type 0 where
  pub i : ℕ
  pub part : Tree
  pub is_repeat : IsSomeAnd (slice_get trees i) (IsRepeatOf part)
  pub span : IsSpanAcross spans 0 i r.span
  pub three : AreThreeWays unicode any_character (take i trees) part r.witness.word.items r.witness.first.items r.witness.across.items r.witness.last.items
  pub many : HasManySplits unicode any_character (take i trees) part r.witness.word.items r.witness.first.items r.witness.across.items r.witness.last.items

-- the same of a concatenation that is a branch of the pattern
pub record IsSlowSearchIn (unicode : Bool) (pattern : Spanned) (r : SlowSearch) : Type 0 where
  pub node : Spanned
  pub is_branch : IsBranchOf pattern node
  pub trees : List Tree
  pub is_concat : view node.expr ≡ concat (trees_of trees)
  pub slow : IsSlowFrom unicode trees (map (λ c. first_span c.spans) (spanned_children node)) r
