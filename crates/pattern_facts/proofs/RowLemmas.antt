-- Rows that are added.
use Rattle.std.proofs.Common.{◌≡◌, ℕ, ◌+◌, ◌<◌, ◌≤◌, Bool, List, [], ◌∷◌, ◌++◌, length, get_or, Option, None, sym, ap, ◌∙◌, append-nil, append_assoc, subst}
use Rattle.std.specs.List.{AllZip}
use Rattle.std.proofs.Math.ListN.{set}
use Rattle.std.proofs.Math.Seq.{set-append_seam}
use Rattle.fancy_grammar.specs.Tree.{Tree, conditional, expression, trees_of}
use Rattle.fancy_syntax.proofs.PrintLemmas.{left, left_step, left_end}
use Rattle.fancy_syntax.specs.View.{view, views}
use Rattle.fancy_syntax.specs.declared.expr.Expr.{Expr}
use Rattle.pattern_facts.specs.Known.{Adds, IsFactsOf}
use Rattle.pattern_facts.specs.Nodes.{nodes_of, nodes_below, nodes_of_all}
use Rattle.pattern_facts.specs.declared.node_facts.Facts.{Facts}

zip_append : {A B : Type 0} (R : A → B → Type 0) (xs ys : List A) (vs ws : List B) → AllZip R xs vs → AllZip R ys ws →
    AllZip R (xs ++ ys) (vs ++ ws)
zip_append R [] ys [] ws h k = k
zip_append R [] ys (v ∷ vs) ws h k = absurd h
zip_append R (x ∷ xs) ys [] ws h k = absurd h
zip_append R (x ∷ xs) ys (v ∷ vs) ws h k = (h.0, zip_append R xs ys vs ws h.1 k)

pub adds_none : (u : Bool) (old : List (Option Facts)) → Adds u [] old old
adds_none u old = ([], sym (append-nil old), tt)

pub adds_then : (u : Bool) (ts us : List Tree) (old mid new : List (Option Facts)) → Adds u ts old mid →
    Adds u us mid new → Adds u (ts ++ us) old new
adds_then u ts us old mid new h k =
    (h.0 ++ k.0, k.1 ∙ ap (λ l. l ++ k.0) h.1 ∙ append_assoc old h.0 k.0, zip_append (IsFactsOf u) ts us h.0 k.0 h.2 k.2)

-- the row of a node is set after those of the nodes below it
pub adds_node : (u : Bool) (t : Tree) (o : Option Facts) (old begun mid : List (Option Facts)) →
    begun ≡ old ++ None ∷ [] → Adds u (nodes_below t) begun mid → IsFactsOf u t o →
    Adds u (nodes_of t) old (set mid (length old) o)
adds_node u t o old begun mid start below own =
    let is : mid ≡ old ++ None ∷ below.0 =
    below.1 ∙ ap (λ l. l ++ below.0) start ∙ append_assoc old (None ∷ []) below.0 in
    (o ∷ below.0, ap (λ l. set l (length old) o) is ∙ set-append_seam old None below.0 o, (own, below.2))

-- nothing else but the rows of these nodes
pub adds_all : (u : Bool) (ts : List Tree) (new : List (Option Facts)) → Adds u ts [] new → AllZip (IsFactsOf u) ts new
adds_all u ts new h = subst (AllZip (IsFactsOf u) ts) (sym h.1) h.2

-- ---- the children of a node

pub adds_two : (u : Bool) (t a b : Tree) (begun mid new : List (Option Facts)) → t ≡ expression a b →
    Adds u (nodes_of a) begun mid → Adds u (nodes_of b) mid new → Adds u (nodes_below t) begun new
adds_two u t a b begun mid new is h k =
    subst (λ x. Adds u (nodes_below x) begun new) (sym is)
    (adds_then u (nodes_of a) (nodes_of b ++ []) begun mid new h
    (adds_then u (nodes_of b) [] mid new new k (adds_none u new)))

pub adds_three : (u : Bool) (t a b c : Tree) (begun mid more new : List (Option Facts)) → t ≡ conditional a b c →
    Adds u (nodes_of a) begun mid → Adds u (nodes_of b) mid more → Adds u (nodes_of c) more new →
    Adds u (nodes_below t) begun new
adds_three u t a b c begun mid more new is h k l =
    subst (λ x. Adds u (nodes_below x) begun new) (sym is)
    (adds_then u (nodes_of a) (nodes_of b ++ (nodes_of c ++ [])) begun mid new h
    (adds_then u (nodes_of b) (nodes_of c ++ []) mid more new k
    (adds_then u (nodes_of c) [] more new new l (adds_none u new))))

-- ---- the trees of a list

pub rows_first : (u : Bool) (es : List Expr) (first : Expr) (more : List Expr) (begun mid new : List (Option Facts)) →
    es ≡ first ∷ more → Adds u (nodes_of (view first)) begun mid → Adds u (nodes_of_all (left more 0)) mid new →
    Adds u (nodes_of_all (trees_of (views es))) begun new
rows_first u es first more begun mid new is h k =
    subst (λ xs. Adds u (nodes_of_all (trees_of (views xs))) begun new) (sym is)
    (adds_then u (nodes_of (view first)) (nodes_of_all (trees_of (views more))) begun mid new h k)

pub rows_next : (u : Bool) (es : List Expr) (i : ℕ) (e : Expr) (begun mid new : List (Option Facts)) → i < length es →
    e ≡ get_or es i e → Adds u (nodes_of (view e)) begun mid → Adds u (nodes_of_all (left es (i + 1))) mid new →
    Adds u (nodes_of_all (left es i)) begun new
rows_next u es i e begun mid new h is k l =
    subst (λ ts. Adds u (nodes_of_all ts) begun new) (sym (left_step es i e h is))
    (adds_then u (nodes_of (view e)) (nodes_of_all (left es (i + 1))) begun mid new k l)

pub rows_end : (u : Bool) (es : List Expr) (i : ℕ) (rows : List (Option Facts)) → length es ≤ i →
    Adds u (nodes_of_all (left es i)) rows rows
rows_end u es i rows h = subst (λ ts. Adds u (nodes_of_all ts) rows rows) (sym (left_end es i h)) (adds_none u rows)
