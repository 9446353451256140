-- Repeats of a concatenation, by the expressions that hold them, and lists of slow pairs.
use Rattle.std.proofs.Common.{◌≡◌, ℕ, ◌-◌, ◌<◌, Bool, List, [], ◌∷◌, map, Vec, Global, refl}
use Rattle.std.proofs.Common.{zero, suc, arith, sym, ap, ◌∙◌, subst, ◌+◌, length, get_or, take, drop}
use Rattle.std.proofs.lemmas.List.{drop-map, take-map}
use Rattle.std.proofs.lemmas.Option.{slice_get-map, slice_get_read}
use Rattle.std.specs.List.{AllByRecursion, slice_range}
use Rattle.std.specs.Prelude.{IsSomeAnd, slice_get, option_map}
use Rattle.fancy_grammar.specs.Tree.{Tree, concat, group, repeat, trees_of}
use Rattle.fancy_syntax.specs.Spanned.{Spanned, first_span, IsNodeOf, spanned_children}
use Rattle.fancy_syntax.proofs.ChildrenLemmas.{view_Concat}
use Rattle.fancy_syntax.specs.View.{view, views}
use Rattle.fancy_syntax.specs.declared.expr.Expr.{Expr, Concat}
use Rattle.fancy_syntax.specs.declared.span.Span.{Span}
use Rattle.backtracking.specs.Chain.{Chain, next, links}
use Rattle.backtracking.specs.SlowSequences.{IsRepeatOf, itself, inside, IsChain, more, link_of, IsSlowAcross, IsSlowSequenceIn}
use Rattle.backtracking.specs.declared.sequences.SlowSequence.{SlowSequence}

pub is_repeat : (t x : Tree) (lo hi : ℕ) (greedy : Bool) → t ≡ repeat x lo hi greedy → 20 < hi - lo → IsRepeatOf x t
is_repeat t x lo hi greedy is less = subst (IsRepeatOf x) (sym is) (itself less)

pub group_of_repeat : (t x part : Tree) → t ≡ group x → IsRepeatOf part x → IsRepeatOf part t
group_of_repeat t x part is k = subst (IsRepeatOf part) (sym is) (inside k)

pub concat_of : (e : Expr) (es : List Expr) (v : Vec Expr Global) → e ≡ Concat v → es ≡ v.items → view e ≡ concat (trees_of (views es))
concat_of e es v h is = ap view h ∙ view_Concat v ∙ ap (λ ys. concat (trees_of (views ys))) (sym is)

-- the tree at an index is a repeat
pub repeat_at : (es : List Expr) (i : ℕ) (e : Expr) (part : Tree) → i < length es → e ≡ get_or es i e → IsRepeatOf part (view e) →
    IsSomeAnd (slice_get (views es) i) (IsRepeatOf part)
repeat_at es i e part h is k = subst (λ o. IsSomeAnd o (IsRepeatOf part))
    (sym (slice_get-map view es i ∙ ap (option_map view) (slice_get_read es (length es) i e refl h is))) k

-- the trees of a range
pub trees_between : (es bs : List Expr) (i s j : ℕ) → s ≡ i + 1 → bs ≡ slice_range es s j →
    views bs ≡ slice_range (views es) (i + 1) j
trees_between es bs i s j start is = ap views is ∙ ap (λ n. views (slice_range es n j)) start
    ∙ sym (ap (take (j - (i + 1))) (drop-map view (i + 1) es) ∙ take-map view (j - (i + 1)) (drop (i + 1) es))

-- the chain of a report, with its own two repeats as the last link
pub chain_of : (unicode : Bool) (trees : List Tree) (spans : List Span) (r : SlowSequence) → IsSlowAcross unicode trees spans r →
    (c : Chain) × IsChain unicode trees r.witness.word.items c r.last × (r.degree ≡ links c + 1)
chain_of unicode trees spans r slow =
    (next slow.earlier (link_of slow.ts slow.y r.witness), more slow.chain slow.cut slow.three, slow.degree)

-- a pair of repeats of a node of a tree is one of the tree
slow_in : (unicode : Bool) (tree node : Spanned) (trees : List Tree) (spans : List Span) (r : SlowSequence) → IsNodeOf node tree →
    view node.expr ≡ concat (trees_of trees) → spans ≡ map (λ c. first_span c.spans) (spanned_children node) →
    IsSlowAcross unicode trees spans r → IsSlowSequenceIn unicode tree r
slow_in unicode tree node trees spans r k is h slow = record {
  node = node;
  inside = k;
  trees = trees;
  is_concat = is;
  slow = subst (λ ss. IsSlowAcross unicode trees ss r) h slow;
}

-- and so are several
pub pairs_in : (unicode : Bool) (tree node : Spanned) (trees : List Tree) (spans : List Span) (rs : List SlowSequence) → IsNodeOf node tree →
    view node.expr ≡ concat (trees_of trees) → spans ≡ map (λ c. first_span c.spans) (spanned_children node) →
    AllByRecursion (IsSlowAcross unicode trees spans) rs → AllByRecursion (IsSlowSequenceIn unicode tree) rs
pairs_in unicode tree node trees spans [] k is h all = tt
pairs_in unicode tree node trees spans (r ∷ rs) k is h all =
    (slow_in unicode tree node trees spans r k is h all.0, pairs_in unicode tree node trees spans rs k is h all.1)

-- the pair at an index of a list
pub pair_at : (P : SlowSequence → Type 0) (rs : List SlowSequence) (i : ℕ) (r : SlowSequence) → i < length rs → r ≡ get_or rs i r →
    AllByRecursion P rs → P r
pair_at P (x ∷ xs) zero r h is all = subst P (sym is) all.0
pair_at P (x ∷ xs) (suc i) r h is all = pair_at P xs i r (omega (arith, h)) is all.1
pair_at P [] i r h is all = absurd (omega (arith, h))
