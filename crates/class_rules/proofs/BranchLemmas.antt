-- Branches of one character that another one contains.
use Rattle.std.proofs.Common.{◌≡◌, ℕ, ◌+◌, ◌-◌, ◌<◌, ◌^◌, min, List, Some, Vec, Global, length, rules, sym, ap, subst, ◌∙◌, arith}
use Rattle.std.proofs.lemmas.Option.{slice_get_within, get_or_from_slice_get}
use Rattle.std.specs.List.{slice_get}
use Rattle.std.specs.Prelude.{All}
use Rattle.fancy_lex.specs.Flags.{flags_of}
use Rattle.fancy_syntax.specs.Spanned.{Spanned, first_span, spanned_of, spanned_children}
use Rattle.fancy_syntax.specs.Children.{children_of}
use Rattle.fancy_syntax.specs.View.{view}
use Rattle.fancy_syntax.specs.declared.expr.Expr.{Expr, Alt, the_lemmas}
use Rattle.fancy_syntax.proofs.ChildrenLemmas.{view_Alt}
use Rattle.fancy_syntax.specs.declared.span.Span.{Span}
use Rattle.class_rules.specs.Branches.{AreBranchesOf, IsBranchOf, IsWithin}
use Rattle.class_rules.specs.ClassFindings.{IsContained, IsOfBranch}
use Rattle.class_rules.specs.Nodes.{IsChildAt}
use Rattle.class_rules.specs.Subsumed.{IsSubsumed}
use Rattle.class_rules.specs.declared.class_problem.ClassFinding.{ClassFinding}
use Rattle.class_rules.specs.declared.class_problem.ClassProblem.TheVariants.{SubsumedBranch}
use Rattle.class_rules.specs.declared.subsumed.OneCharacterBranch.{OneCharacterBranch}
use Rattle.class_rules.proofs.NodeLemmas.{length_children}

-- two children with the same index are the same
same_child : (p c d : Spanned) (i j : ℕ) → IsChildAt p i c → IsChildAt p j d → i ≡ j → c ≡ d
same_child p c d i j h k e = cc

-- a branch of the list is a child of the node
pub branch_of : (node : Spanned) (branches : List OneCharacterBranch) (one : OneCharacterBranch) (k : ℕ) →
    All (IsBranchOf node) branches → Some one ≡ slice_get branches k → IsBranchOf node one
branch_of node branches one k all is =
    subst (IsBranchOf node) (get_or_from_slice_get branches k one one (sym is))
    (all k one (slice_get_within branches k one (sym is)))

-- a branch is contained in one of the list that matches each of its characters, and differs from it
pub contained : (old now : ℕ) (node : Spanned) (branches : List OneCharacterBranch) (one other : OneCharacterBranch)
    (k number : ℕ) (span : Span) → now ≡ old → AreBranchesOf node branches → IsBranchOf node one →
    Some other ≡ slice_get branches k → IsWithin (flags_of now).unicode one other →
    number ≡ min (other.index + 1) (2 ^ 64 - 1) → span ≡ first_span (spanned_of other.node).spans →
    IsContained (flags_of old).unicode node one.index (spanned_of one.node) (SubsumedBranch number span)
contained old now node branches one other k number span flags (few, all) here is (differ, subsumed) counted at =
    let there : IsBranchOf node other = branch_of node branches other k all is in
    let exact : number ≡ other.index + 1 =
    omega (arith, counted, few, slice_get_within (spanned_children node) other.index (spanned_of other.node) there) in
    record {
      other_index = other.index;
      other = spanned_of other.node;
      is_branch = there;
      is_another = λ same. differ (ap (λ p. view p.expr) (same_child node _ _ _ _ here there (sym same)));
      is_subsumed = subst (λ f. IsSubsumed (flags_of f).unicode (view (spanned_of one.node).expr) (view (spanned_of other.node).expr))
          flags subsumed;
      is_problem = cc;
    }

-- the children of an alternation can be counted
children_Alt : (v : Vec Expr Global) → children_of (Alt v) ≡ v.items
children_Alt v = search (rules, the_lemmas)

pub few_branches : (node : Spanned) (v : Vec Expr Global) → node.expr ≡ Alt v → length (spanned_children node) < 2 ^ 64
few_branches node v h =
    let same : length (children_of node.expr) ≡ length v.items = ap length (ap children_of h ∙ children_Alt v) in
    omega (arith, length_children node, same, v.ok, v.small)

-- a problem of a branch of the list
pub branch_problem : (old now : ℕ) (node : Spanned) (v : Vec Expr Global) (branches : List OneCharacterBranch)
    (one : OneCharacterBranch) (k : ℕ) (x : ClassFinding) → now ≡ old → node.expr ≡ Alt v → AreBranchesOf node branches →
    Some one ≡ slice_get branches k → x.span ≡ first_span (spanned_of one.node).spans →
    ((p : Spanned) → AreBranchesOf p branches → IsBranchOf p one →
    IsContained (flags_of now).unicode p one.index (spanned_of one.node) x.problem) →
    IsOfBranch (flags_of old) node x
branch_problem old now node v branches one k x flags h are is at contains =
    let here : IsBranchOf node one = branch_of node branches one k are.1 is in
    record {
      trees = _;
      index = one.index;
      branch = spanned_of one.node;
      is_alternation = ap view h ∙ view_Alt v;
      is_branch = here;
      is_at = at;
      is_contained = subst (λ f. IsContained (flags_of f).unicode node one.index (spanned_of one.node) x.problem) flags
          (contains node are here);
    }
