-- The nodes to come: what is known of them, and which flags may be set before them.
use Rattle.std.proofs.Common.{◌≡◌, ◌<◌, ◌≤◌, ◌-◌, Bool, true, false, List, [], ◌∷◌, ◌++◌, length, take, drop, get_or}
use Rattle.std.proofs.Common.{refl, sym, ap, ◌∙◌, arith}
use Rattle.std.proofs.Math.Seq.{take-length}
use Rattle.fancy_lex.specs.declared.flags.Flags.{Flags}
use Rattle.fancy_grammar.specs.Label.{ast_group}
use Rattle.fancy_grammar.specs.PatternNeeds.{first, both, joined, needs, needs_all, fixed_or, with_needs, agreed}
use Rattle.fancy_grammar.specs.PatternWalk.{needs_listed, all_listed}
use Rattle.fancy_grammar.specs.Tree.{Tree, leaf, over, row, Trees, no_trees, more_trees}
use Rattle.fancy_grammar.specs.declared.needs.Need.{Need}
use Rattle.fancy_grammar.specs.declared.needs.Need.TheVariants.{Free, Fixed, Torn}
use Rattle.fancy_grammar.specs.declared.needs.Needs.{Needs}
use Rattle.fancy_pattern.specs.ContextViews.{AreMet, Known, listed, met, IsListFor, Allows}

-- ---- the list

-- its first needs are those of the next node
pub first_known : (s : Known) (f : Flags) (list : List Needs) (d n : Needs) (l : List Needs) → 1 ≤ length list →
    IsListFor s f list (n ∷ l) → (get_or list 0 d ≡ n) × IsListFor s f (take (length list - 1) (drop 1 list)) l
first_known s f [] d n l h p = absurd (omega arith)
first_known listed f (x ∷ xs) d n l h p =
    let others : length (x ∷ xs) - 1 ≡ length xs = omega arith in
    let all : take (length (x ∷ xs) - 1) xs ≡ xs = ap (λ n. take n xs) others ∙ take-length xs in
    (ap (λ e. get_or e 0 d) p, all ∙ ap (drop 1) p)
first_known (met e) f (x ∷ xs) d n l h p = let none = p.0 in absurd cc

-- without a list, the flags are as the next node needs them
pub none_known : (s : Known) (f : Flags) (list : List Needs) (n : Needs) (l : List Needs) → length list < 1 →
    IsListFor s f list (n ∷ l) → (f ≡ with_needs f n) × IsListFor s f list l
none_known s f (x ∷ xs) n l h p = absurd (omega arith)
none_known listed f [] n l h p = absurd cc
none_known (met e) f [] n l h p =
    (p.1.0 ∙ sym p.1.1.0 ∙ ap (λ g. with_needs g n) (sym p.1.0), (refl, (p.1.0, p.1.1.1)))

-- outside of a group, the list is where it is inside
pub outside_known : (s : Known) (f g : Flags) (a b k l : List Needs) → IsListFor s f a k → IsListFor s g b l →
    IsListFor s f b l
outside_known listed f g a b k l p q = q
outside_known (met e) f g a b k l p q = (q.0, (p.1.0, q.1.1))

-- under flags that may be set, it is the same
pub set_known : (s : Known) (f g : Flags) (a l : List Needs) → Allows s g → IsListFor s f a l → IsListFor s g a l
set_known listed f g a l k p = p
set_known (met e) f g a l k p = (p.0, (k, p.1.1))

-- ---- the flags that may be set

pub allowed_next : (s : Known) (f : Flags) (list : List Needs) (n : Needs) (l : List Needs) →
    IsListFor s f list (n ∷ l) → Allows s (with_needs f n)
allowed_next listed f list n l p = tt
allowed_next (met e) f list n l p = ap (λ g. with_needs g n) p.1.0 ∙ p.1.1.0

-- ---- flags as each node needs them

module _ (f : Flags) where
  pub met_both : (a b : List Needs) → AreMet f a → AreMet f b → AreMet f (a ++ b)
  met_both [] b p q = q
  met_both (n ∷ a) b p q = (p.0, met_both a b p.1 q)

  pub met_front : (a b : List Needs) → AreMet f (a ++ b) → AreMet f a
  met_front [] b p = tt
  met_front (n ∷ a) b p = (p.0, met_front a b p.1)

  pub met_back : (a b : List Needs) → AreMet f (a ++ b) → AreMet f b
  met_back [] b p = p
  met_back (n ∷ a) b p = met_back a b p.1

-- what is needed of a flag that is as both need it
abbrev pub Keeps : (Need → Need → Need) → Type 0
Keeps join = (b : Bool) (n m : Need) → fixed_or b n ≡ b → fixed_or b m ≡ b → fixed_or b (join n m) ≡ b

pub keeps_first : Keeps first
keeps_first b Free m p q = q
keeps_first b (Fixed a) m p q = p
keeps_first b Torn m p q = p

pub keeps_both : Keeps both
keeps_both b Free m p q = q
keeps_both b (Fixed a) Free p q = p
keeps_both b (Fixed true) (Fixed true) p q = p
keeps_both b (Fixed true) (Fixed false) p q = refl
keeps_both b (Fixed false) (Fixed true) p q = refl
keeps_both b (Fixed false) (Fixed false) p q = p
keeps_both b (Fixed a) Torn p q = refl
keeps_both b Torn Free p q = refl
keeps_both b Torn (Fixed a) p q = refl
keeps_both b Torn Torn p q = refl

module _ (join : Need → Need → Need) (keeps : Keeps join) (f : Flags) where
  met_joined : (n m : Needs) → with_needs f n ≡ f → with_needs f m ≡ f → with_needs f (joined join n m) ≡ f
  met_joined n m p q =
      let casei = keeps f.casei n.casei m.casei (ap (λ g. g.casei) p) (ap (λ g. g.casei) q) in
      let multi = keeps f.multi n.multi m.multi (ap (λ g. g.multi) p) (ap (λ g. g.multi) q) in
      let dotnl = keeps f.dotnl n.dotnl m.dotnl (ap (λ g. g.dotnl) p) (ap (λ g. g.dotnl) q) in
      let crlf = keeps f.crlf n.crlf m.crlf (ap (λ g. g.crlf) p) (ap (λ g. g.crlf) q) in
      λ i. record f { casei = casei i; multi = multi i; dotnl = dotnl i; crlf = crlf i }

  mutual
    -- if they are as each node of a tree needs them, they are as the leaves need them together
    pub met_tree : (o : Bool) (t : Tree) → AreMet f (needs_listed o t) → with_needs f (needs join o t) ≡ f
    met_tree o (leaf l) p = p.0
    met_tree o (over (ast_group name position) t) p = p.0
    met_tree o (over w t) p = met_tree o t p.1
    met_tree o (row r ts) p = met_trees o ts p.1

    pub met_trees : (o : Bool) (ts : Trees) → AreMet f (all_listed o ts) → with_needs f (needs_all join o ts) ≡ f
    met_trees o no_trees p = refl
    met_trees o (more_trees t ts) p =
        met_joined (needs join o t) (needs_all join o ts)
        (met_tree o t (met_front f (needs_listed o t) (all_listed o ts) p))
        (met_trees o ts (met_back f (needs_listed o t) (all_listed o ts) p))

pub allowed_whole : (s : Known) (f : Flags) (list : List Needs) (t : Tree) →
    IsListFor s f list (needs_listed f.oniguruma_mode t) → Allows s (agreed f t)
allowed_whole listed f list t p = tt
allowed_whole (met e) f list t p =
    ap (λ g. with_needs g (needs both f.oniguruma_mode t)) p.1.0
    ∙ met_tree both keeps_both e f.oniguruma_mode t p.1.1
