-- What is found in the tree of a pattern.
use Rattle.std.specs.Prelude.{◌≡◌, ℕ, ◌+◌, ◌⊎◌, Bool, List, chars, All}
use Rattle.fancy_grammar.specs.Tree.{Trees, delegate, alt}
use Rattle.fancy_lex.specs.declared.flags.Flags.{Flags}
use Rattle.fancy_syntax.specs.Spanned.{Spanned, first_span, IsNodeOf}
use Rattle.fancy_syntax.specs.View.{view}
use Rattle.fancy_syntax.specs.declared.span.Span.{Span}
use Rattle.class_rules.specs.ClassProblems.{IsProblemAt}
use Rattle.class_rules.specs.ClassSource.{IsTextAt}
use Rattle.class_rules.specs.Nodes.{IsChildAt}
use Rattle.class_rules.specs.Subsumed.{IsSubsumed}
use Rattle.class_rules.specs.declared.class_problem.ClassFinding.{ClassFinding}
use Rattle.class_rules.specs.declared.class_problem.ClassProblem.{ClassProblem}
use Rattle.class_rules.specs.declared.class_problem.ClassProblem.TheVariants.{SubsumedBranch}

-- the span in a pattern of what is at the span in a part of it that begins at the position
abbrev pub moved : ℕ → Span → Span
moved position span = record { start = position + span.start; end = position + span.end }

-- The node is a class, which the pattern has as `source`, and for which the engine is given `text`. The finding is a
-- problem of this class, at the span `inside` of its source.
pub record IsOfClass (f : Flags) (pattern : List ℕ) (node : Spanned) (finding : ClassFinding) : Type 0 where
  pub source : List ℕ
  pub text : List ℕ
  pub casei : Bool
  pub inside : Span
  pub is_class : view node.expr ≡ delegate (chars text) casei
  pub is_source : IsTextAt pattern (first_span node.spans) source
  pub is_at : finding.span ≡ moved (first_span node.spans).start inside
  pub is_problem : IsProblemAt f casei source text inside finding.problem

-- The problem of the branch with this index is that another branch matches each character that it matches. The problem
-- has the number of the other one, counted from 1, and its span.
pub record IsContained (unicode : Bool) (node : Spanned) (index : ℕ) (branch : Spanned) (problem : ClassProblem) : Type 0 where
  pub other_index : ℕ
  pub other : Spanned
  pub is_branch : IsChildAt node other_index other
  pub is_another : other_index ≡ index → ⊥
  pub is_subsumed : IsSubsumed unicode (view branch.expr) (view other.expr)
  pub is_problem : problem ≡ SubsumedBranch (other_index + 1) (first_span other.spans)

-- The node is an alternation, and the finding a problem of the branch at its span.
pub record IsOfBranch (f : Flags) (node : Spanned) (finding : ClassFinding) : Type 0 where
  pub trees : Trees
  pub index : ℕ
  pub branch : Spanned
  pub is_alternation : view node.expr ≡ alt trees
  pub is_branch : IsChildAt node index branch
  pub is_at : finding.span ≡ first_span branch.spans
  pub is_contained : IsContained f.unicode node index branch finding.problem

-- the finding is a problem of a node of the tree: of a class, or of a branch
pub record IsFoundIn (f : Flags) (pattern : List ℕ) (tree : Spanned) (finding : ClassFinding) : Type 0 where
  pub node : Spanned
  pub inside : IsNodeOf node tree
  pub of_node : IsOfClass f pattern node finding ⊎ IsOfBranch f node finding

-- each finding is a problem of a node of the tree
abbrev pub AreFoundIn : Flags → List ℕ → Spanned → List ClassFinding → Type 0
AreFoundIn f pattern tree = All (IsFoundIn f pattern tree)

-- if each finding of the earlier list is a problem of a node of a tree that has this node, then so is each of the later one
abbrev pub KeepsFound : Flags → List ℕ → Spanned → List ClassFinding → List ClassFinding → Type 0
KeepsFound f pattern node old new =
    (tree : Spanned) → IsNodeOf node tree → ∥ AreFoundIn f pattern tree old ∥₁ → ∥ AreFoundIn f pattern tree new ∥₁
