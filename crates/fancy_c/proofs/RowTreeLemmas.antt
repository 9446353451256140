-- Trees that are built from rows.
use Rattle.std.proofs.Common.{◌≡◌, ℕ, ◌+◌, List, [], ◌∷◌, ◌++◌, length, drop, reverse, refl, sym, ap}
use Rattle.std.proofs.Common.{subst, ◌∙◌, append_assoc, append-nil, length-append, arith}
use Rattle.std.proofs.lemmas.List.{drop-drop, reverse-append}
use Rattle.fancy_grammar.specs.Tree.{Tree, children}
use Rattle.fancy_syntax.specs.View.{view}
use Rattle.fancy_c.specs.Node.{listed, listed_each}
use Rattle.fancy_c.specs.RowTree.{IsRowOf, BeginWith, AreRowsOfTree, IsBuiltAt, FollowFrom, AreBuiltFrom, AreTreesOf}
use Rattle.fancy_c.specs.declared.built.Built.{Built}
use Rattle.fancy_c.specs.declared.node.Node.{Node}
use Rattle.fancy_c.proofs.RowLemmas.{listed_is}

begin_both : (texts : List ℕ) (i : ℕ) (rs : List Node) (xs ys : List Tree) → BeginWith texts i rs xs →
    BeginWith texts (i + length xs) (drop (length xs) rs) ys → BeginWith texts i rs (xs ++ ys)
begin_both texts i rs [] ys h k = subst (λ j. BeginWith texts j rs ys) (omega arith) k
begin_both texts i [] (x ∷ xs) ys h k = absurd h
begin_both texts i (r ∷ rs) (x ∷ xs) ys h k =
    let at : i + length (x ∷ xs) ≡ (i + 1) + length xs = omega arith in (
      h.0,
      h.1,
      begin_both texts (i + 1) rs xs ys h.2 (subst (λ j. BeginWith texts j (drop (length xs) rs) ys) at k),
    )

listed_both : (xs ys : List Tree) → listed_each (xs ++ ys) ≡ listed_each xs ++ listed_each ys
listed_both [] ys = refl
listed_both (x ∷ xs) ys = ap (λ l. listed x ++ l) (listed_both xs ys) ∙ sym (append_assoc (listed x) (listed_each xs) (listed_each ys))

listed_last : (xs : List Tree) (t : Tree) → listed_each (xs ++ t ∷ []) ≡ listed_each xs ++ listed t
listed_last xs t = listed_both xs (t ∷ []) ∙ ap (λ l. listed_each xs ++ l) (append-nil (listed t))

-- ---- trees that follow one another

module _ (texts : List ℕ) (nodes : List Node) where
  -- no tree yet
  pub trees_none : (first next : ℕ) → next ≡ first → AreTreesOf texts nodes first next []
  trees_none first next e = record { rows = tt; ends = omega (arith, e) }

  -- one tree more
  pub trees_next : (first next : ℕ) (ts us : List Tree) (b : Built) → us ≡ ts ++ view b.tree ∷ [] →
      AreTreesOf texts nodes first next ts → IsBuiltAt texts nodes next b → AreTreesOf texts nodes first b.end us
  trees_next first next ts us b is h k =
      let t = view b.tree in
      let all = is_all ts t us is in
      let seam : drop (length (listed_each ts)) (drop first nodes) ≡ drop next nodes =
      drop-drop (length (listed_each ts)) first nodes ∙ ap (λ n. drop n nodes) (sym h.ends) in
      record {
        rows =
            subst (BeginWith texts first (drop first nodes)) (sym all)
            (begin_both texts first (drop first nodes) (listed_each ts) (listed t) h.rows
            (subst (λ n. BeginWith texts n (drop (length (listed_each ts)) (drop first nodes)) (listed t)) h.ends
            (subst (λ l. BeginWith texts next l (listed t)) (sym seam) k.rows)));
        ends = omega (arith, h.ends, k.ends, ap length all, length-append (listed_each ts) (listed t));
      }
    where
      is_all : (ts : List Tree) (t : Tree) (us : List Tree) → us ≡ ts ++ t ∷ [] → listed_each us ≡ listed_each ts ++ listed t
      is_all ts t us is = ap listed_each is ∙ listed_last ts t

  -- the tree on top
  pub built_top : (next : ℕ) (built init : List Built) (b : Built) → built ≡ init ++ b ∷ [] →
      AreBuiltFrom texts nodes next built → IsBuiltAt texts nodes next b × AreBuiltFrom texts nodes b.end init
  built_top next built init b is h =
      subst (FollowFrom texts nodes next) (ap reverse is ∙ reverse-append init (b ∷ [])) h

  -- a tree is put on top
  pub built_more : (index : ℕ) (built init : List Built) (b : Built) → built ≡ init ++ b ∷ [] →
      IsBuiltAt texts nodes index b → AreBuiltFrom texts nodes b.end init → AreBuiltFrom texts nodes index built
  built_more index built init b is h k =
      subst (FollowFrom texts nodes index) (sym (ap reverse is ∙ reverse-append init (b ∷ []))) (h, k)

  -- the tree of a row and of the trees below it
  pub row_built : (index end : ℕ) (row : Node) (t : Tree) (ts : List Tree) →
      drop index nodes ≡ row ∷ drop (index + 1) nodes → end ≡ row.end → IsRowOf texts row t → children t ≡ ts →
      AreTreesOf texts nodes (index + 1) end ts →
      AreRowsOfTree texts nodes index t × (end ≡ index + length (listed t))
  row_built index end row t ts at ends is below h =
      let all : listed t ≡ t ∷ listed_each ts = listed_is t ∙ ap (λ l. t ∷ listed_each l) below in
      let long : end ≡ index + length (listed t) = omega (arith, h.ends, ap length all) in (
        subst (BeginWith texts index (drop index nodes)) (sym all)
            (subst (λ rs. BeginWith texts index rs (t ∷ listed_each ts)) (sym at)
            (is, omega (arith, ends, h.ends), h.rows)),
        long,
      )
