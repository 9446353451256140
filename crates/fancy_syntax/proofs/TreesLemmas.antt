-- The trees of the open groups, one above the other.
use Rattle.std.proofs.Common.{◌≡◌, ◌≢◌, ◌≤◌, ℕ, zero, suc, ◌+◌, List, [], ◌∷◌, ◌++◌, length, take, drop, arith, refl, sym, ap, ◌∙◌}
use Rattle.std.proofs.Common.{get_or, set}
use Rattle.std.proofs.lemmas.List.{append_assoc, length-append, length-map, length-drop, drop-map, length_push, map-set, map-append}
use Rattle.std.proofs.Math.ListN.{get_or-map}
use Rattle.std.proofs.Math.Seq.{take-append_seam, drop-append_seam, get_or-append_seam, set-append_seam}
use Rattle.fancy_grammar.specs.Join.{one_or, choice}
use Rattle.fancy_grammar.specs.Tree.{Tree, Trees, concat, alt, trees_of}
use Rattle.fancy_syntax.specs.Machine.{HoldsTrees}
use Rattle.fancy_syntax.specs.View.{view, views}
use Rattle.fancy_syntax.specs.declared.expr.Expr.{Expr}
use Rattle.fancy_syntax.specs.declared.grammar.frame.Frame.{Frame}

-- the trees above the height of a group's pieces are its pieces; those below are its branches and the trees around it
pub holds_pieces : (f : Frame) {trees : List Tree} (below branches : List Tree) (pieces : List Tree) →
    HoldsTrees f trees below branches pieces →
    (drop f.pieces trees ≡ pieces) × (take f.pieces trees ≡ below ++ branches)
holds_pieces f below branches pieces h =
    rw (h.0, h.2) (drop-append_seam (below ++ branches) pieces, take-append_seam (below ++ branches) pieces)

-- the heights of a group are within all trees
pub holds_below : (f : Frame) {trees : List Tree} (below branches pieces : List Tree) →
    HoldsTrees f trees below branches pieces → (f.branches ≤ f.pieces) × (f.pieces ≤ length trees)
holds_below f below branches pieces h = (
  omega (arith, h.1, h.2, length-append below branches),
  omega (arith, ap length h.0, h.2, length-append (below ++ branches) pieces),
)

pub views_length : (es : List Expr) → length (views es) ≡ length es
views_length es = length-map es view

-- the last tree, and the trees once it is replaced
pub last_is : (es : List Expr) (i : ℕ) (e : Expr) (below : List Tree) (t : Tree) → views es ≡ below ++ t ∷ [] →
    i + 1 ≡ length es → e ≡ get_or es i e → view e ≡ t
last_is es i e below t h n is =
    let k : i ≡ length below = omega (arith, n, views_length es, ap length h, length_push below t) in
    ap view is ∙ sym (get_or-map view es i e) ∙ rw (h, k) (get_or-append_seam below t [] (view e))

pub last_set : (es : List Expr) (i : ℕ) (x : Expr) (below : List Tree) (t : Tree) → views es ≡ below ++ t ∷ [] →
    i + 1 ≡ length es → views (set es i x) ≡ below ++ view x ∷ []
last_set es i x below t h n =
    let k : i ≡ length below = omega (arith, n, views_length es, ap length h, length_push below t) in
    map-set view es i x ∙ rw (h, k) (set-append_seam below t [] (view x))

pub push-same : {A : Type 0} (l m : List A) (x y : A) → l ++ x ∷ [] ≡ m ++ y ∷ [] → (l ≡ m) × (x ≡ y)
push-same [] [] x y e = (refl, cc)
push-same [] (b ∷ []) x y e = absurd cc
push-same [] (b ∷ c ∷ m) x y e = absurd cc
push-same (a ∷ []) [] x y e = absurd cc
push-same (a ∷ c ∷ l) [] x y e = absurd cc
push-same (a ∷ l) (b ∷ m) x y e = let t : l ++ x ∷ [] ≡ m ++ y ∷ [] = cc in let h = push-same l m x y t in (cc, h.1)

-- the last tree is taken, and those below it are left
pub last_taken : (es fs : List Expr) (e : Expr) (below : List Tree) (t : Tree) → views es ≡ below ++ t ∷ [] →
    es ≡ fs ++ e ∷ [] → (views fs ≡ below) × (view e ≡ t)
last_taken es fs e below t h i =
    push-same (views fs) below (view e) t (sym (ap views i ∙ map-append view fs (e ∷ [])) ∙ h)

-- two trees or more are a node
several : (node : Trees → Tree) (ts : List Tree) → 2 ≤ length ts → one_or node ts ≡ node (trees_of ts)
several node [] h = absurd (omega (arith, h))
several node (t ∷ []) h = absurd (omega (arith, h))
several node (t ∷ u ∷ ts) h = refl

-- the node of what was split off
pub split_node : (node : Trees → Tree) (height : ℕ) (es ws : List Expr) → ws ≡ drop height es →
    height + 2 ≤ length es → one_or node (drop height (views es)) ≡ node (trees_of (views ws))
split_node node height es ws e h =
    let n : 2 ≤ length (views ws) = omega (arith, h, views_length ws, ap length e, length-drop height es) in
    rw (drop-map view height es, ← e) (several node (views ws) n)

-- one tree above the others is the tree of its branch, and stays where it is
pub one_above : (node : Trees → Tree) (height : ℕ) (ts : List Tree) → length ts ≡ height + 1 →
    ts ≡ take height ts ++ one_or node (drop height ts) ∷ []
one_above node zero [] h = absurd (omega (arith, h))
one_above node zero (t ∷ []) h = refl
one_above node zero (t ∷ u ∷ ts) h = absurd (omega (arith, h))
one_above node (suc height) [] h = absurd (omega (arith, h))
one_above node (suc height) (t ∷ ts) h = ap (λ l. t ∷ l) (one_above node height ts (omega (arith, h)))

-- the trees once the last branch was put after the others
branches_put : (f : Frame) {trees : List Tree} (below branches pieces all : List Tree) (x : Tree) →
    HoldsTrees f trees below branches pieces → x ≡ one_or concat (drop f.pieces trees) →
    all ≡ take f.pieces trees ++ x ∷ [] → all ≡ below ++ (branches ++ one_or concat pieces ∷ [])
branches_put f below branches pieces all x h e i =
    let p = holds_pieces f below branches pieces h in
    i ∙ ap (λ l. l ++ x ∷ []) p.1 ∙ append_assoc below branches (x ∷ [])
    ∙ ap (λ y. below ++ (branches ++ y ∷ [])) (e ∙ ap (one_or concat) p.0)

-- the branches of a group, with the last put after the others, are taken: a choice among them
pub branches_taken : (f : Frame) {trees : List Tree} (below branches pieces : List Tree) (x : Tree)
    (es ws : List Expr) → HoldsTrees f trees below branches pieces → x ≡ one_or concat (drop f.pieces trees) →
    views es ≡ take f.pieces trees ++ x ∷ [] → f.branches ≢ f.pieces → ws ≡ drop f.branches es →
    alt (trees_of (views ws)) ≡ choice (branches ++ one_or concat pieces ∷ [])
branches_taken f below branches pieces x es ws h e i d w =
    let put = branches_put f below branches pieces (views es) x h e i in
    let all = branches ++ one_or concat pieces ∷ [] in
    let n : f.branches + 2 ≤ length es =
    omega (
      arith,
      d,
      h.1,
      h.2,
      length-append below branches,
      ap length put,
      length-append below all,
      length-append branches (one_or concat pieces ∷ []),
      views_length es,
    ) in
    let cut : drop f.branches (views es) ≡ all = rw (put, h.1) (drop-append_seam below all) in
    sym (split_node alt f.branches es ws w n) ∙ ap (one_or alt) cut

-- and below them are the trees of the groups around it
pub branches_below : (f : Frame) {trees : List Tree} (below branches pieces : List Tree) (x : Tree)
    (es : List Expr) → HoldsTrees f trees below branches pieces → x ≡ one_or concat (drop f.pieces trees) →
    views es ≡ take f.pieces trees ++ x ∷ [] → take f.branches (views es) ≡ below
branches_below f below branches pieces x es h e i =
    rw (branches_put f below branches pieces (views es) x h e i, h.1)
    (take-append_seam below (branches ++ one_or concat pieces ∷ []))
