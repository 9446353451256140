-- The items of the trees that the loop builds: they are those of the parts, in their order.
use Rattle.std.proofs.Common.{◌≡◌, ℕ, zero, suc, ◌+◌, nat_lt, List, [], ◌∷◌, ◌++◌, Option, Some, None, refl, sym, ap, ◌∙◌}
use Rattle.std.proofs.Common.{append-nil, append_assoc, subst}
use Rattle.std.proofs.lemmas.Bool.{cond_both}
use Prim.Native.Char.{code}
use Rattle.fancy_lex.specs.Text.{Text, bytes, strip}
use Rattle.fancy_lex.proofs.ReadingLemmas.{choose_both}
use Rattle.fancy_lex.specs.Quantifier.{counts}
use Rattle.fancy_lex.specs.declared.counts.Counts.{Counts}
use Rattle.fancy_grammar.specs.Depth.{max_depth}
use Rattle.fancy_grammar.specs.Grammar.{branches_of}
use Rattle.fancy_grammar.specs.GroupKind.{GroupKind, capture, flag_group, look, atomic, define, repeater, group_node}
use Rattle.fancy_grammar.specs.Items.{Item, items}
use Rattle.fancy_grammar.specs.Join.{solid, choice, one_or}
use Rattle.fancy_grammar.specs.Quantified.{is_repeatable, is_dropped, suffix, with_counts}
use Rattle.fancy_grammar.specs.Quantified.{quant, quants, adjacent, max_adjacent, is_unmoved}
use Rattle.fancy_grammar.specs.State.{State, at, skipped, Outcome, done, failed, mapped}
use Rattle.fancy_grammar.specs.Tree.{Tree, concat}
use Rattle.fancy_grammar.proofs.OutcomeLemmas.{Holds, then_holds, skipped_both}
use Rattle.fancy_grammar.proofs.TreeLaws.{items_choice, items_join, items_quantified, items_conditional, items_branches}
use Rattle.fancy_grammar.proofs.TreeLaws.{items_clear_or_stopper}
use Rattle.fancy_syntax.specs.Found.{items_in, group_opening}
use Rattle.fancy_syntax.specs.Machine.{OpenPart, top, group, condition, body, first, second, ended_part, items_opening}
use Rattle.fancy_syntax.specs.Machine.{lacks_body, node_of_part}

-- what follows a list is the same if all is
pub append-same : {A : Type 0} (l : List A) {m n : List A} → l ++ m ≡ l ++ n → m ≡ n
append-same [] e = e
append-same (x ∷ l) {m} {n} e = let tails : l ++ m ≡ l ++ n = cc in append-same l tails

-- the trees stay if no other follows
pub none_pushed : (ts us : List Tree) → ts ≡ ts ++ us → us ≡ []
none_pushed ts us h = append-same ts (sym h ∙ sym (append-nil ts))

pub items_append : (a b : List Tree) → items_in (a ++ b) ≡ items_in a ++ items_in b
items_append [] b = refl
items_append (t ∷ a) b =
    ap (λ l. items t ++ l) (items_append a b) ∙ sym (append_assoc (items t) (items_in a) (items_in b))

pub items_one : (t : Tree) → items_in (t ∷ []) ≡ items t
items_one t = append-nil (items t)

-- the items of pieces are those of their branch
pub items_pieces : (ps : List Tree) → items (one_or concat ps) ≡ items_in ps
items_pieces [] = refl
items_pieces (t ∷ []) = sym (append-nil (items t))
items_pieces (t ∷ u ∷ ts) = refl

pub items_choice_pieces : (bs ps : List Tree) → items_in (bs ++ one_or concat ps ∷ []) ≡ items_in (bs ++ ps)
items_choice_pieces bs ps =
    items_append bs (one_or concat ps ∷ [])
    ∙ ap (λ l. items_in bs ++ l) (items_one (one_or concat ps) ∙ items_pieces ps) ∙ sym (items_append bs ps)

pub items_branches_pieces : (bs ps : List Tree) → items (choice (bs ++ one_or concat ps ∷ [])) ≡ items_in (bs ++ ps)
items_branches_pieces bs ps =
    items_choice (bs ++ one_or concat ps ∷ []) ∙ items_choice_pieces bs ps

-- ---- a tree under its quantifiers has the items of the tree

abbrev HasItems : List Item → Tree → State → Type 0
HasItems l b s = items b ≡ l

mapped_items : {A : Type 0} (l : List Item) (f : A → Tree) (o : Outcome A) → ((x : A) → items (f x) ≡ l) →
    Holds (HasItems l) (mapped f o)
mapped_items l f (done x s) h = h x
mapped_items l f (failed e) h = tt

quant_items : (l : List Item) (left : ℕ) (a : Tree) (s : State) → items a ≡ l → Holds (HasItems l) (quant left a s)
unfolding quant
quant_items l left a s h =
    skipped_both (Holds (HasItems l)) (skipped s) _ _ (λ v e. by_counts v (counts s.flags.ignore_space v)) (λ p e. tt)
  where
    by_counts : (v : Text) (o : Option (Counts × Text)) → Holds (HasItems l) (with_counts left a (at s v) o)
    by_counts v None = h
    by_counts v (Some (c, u)) =
        cond_both (is_repeatable s.flags a) _ _ (Holds (HasItems l))
        (λ _. mapped_items l _ (suffix (at s u) c) (λ m. sym (items_quantified s.flags c m a) ∙ h))
        (λ _. cond_both (is_dropped s.flags left a u) _ _ (Holds (HasItems l))
        (λ _. mapped_items l _ (suffix (at s u) c) (λ _. h)) (λ _. tt))

adjacent_items : (l : List Item) (k d : ℕ) (a : Tree) (s : State) → items a ≡ l →
    Holds (HasItems l) (adjacent k d a s)
unfolding adjacent
adjacent_items l zero d a s h =
    then_holds (HasItems l) (HasItems l) (quant (bytes s.rest) a s) _ (quant_items l (bytes s.rest) a s h) (λ b t i.
    cond_both (is_unmoved s t) _ _ (Holds (HasItems l)) (λ _. i) (λ _. tt))
adjacent_items l (suc k) d a s h =
    then_holds (HasItems l) (HasItems l) (quant (bytes s.rest) a s) _ (quant_items l (bytes s.rest) a s h) (λ b t i.
    cond_both (is_unmoved s t) _ _ (Holds (HasItems l)) (λ _. i) (λ _.
    cond_both (nat_lt (d + 1) max_depth) _ _ (Holds (HasItems l)) (λ _. adjacent_items l k (d + 1) b t i) (λ _. tt)))

quants_items : (d left : ℕ) (a : Tree) (s : State) → Holds (HasItems (items a)) (quants d left a s)
quants_items d left a s =
    let P = HasItems (items a) in
    then_holds P P (quant left a s) _ (quant_items (items a) left a s refl) (λ b t i.
    cond_both t.flags.oniguruma_mode _ _ (Holds P) (λ _. adjacent_items (items a) max_adjacent d b t i) (λ _. i))

pub items_under : (d left : ℕ) (a : Tree) (s : State) {r : Tree} {t : State} → quants d left a s ≡ done r t →
    items r ≡ items a
items_under d left a s e = subst (Holds (HasItems (items a))) e (quants_items d left a s)

-- an Empty that is left out has none
pub items_solid : (t : Tree) → items_in (solid (t ∷ [])) ≡ items t
items_solid t = sym (items_pieces (solid (t ∷ []))) ∙ items_join (t ∷ []) ∙ items_one t

-- ---- the tree of a part has the item of its opening, and those of its contents

items_node : (h : GroupKind) (p : ℕ) (r : Tree) → items (group_node h p r) ≡ group_opening h p ++ items r
items_node (capture name) p r = refl
items_node flag_group p r = refl
items_node (look l) p r = refl
items_node atomic p r = refl
items_node define p r = refl
items_node repeater p r = refl

pub items_part : (p : OpenPart) (r : Tree) → items (node_of_part p r) ≡ items_opening p ++ items r
items_part top r = refl
items_part (group h p) r = items_node h p r
items_part condition r = refl
items_part (body c left) r =
    sym (items_conditional c (branches_of r).0 (branches_of r).1) ∙ ap (λ l. items c ++ l) (sym (items_branches r))
items_part first r = sym (items_clear_or_stopper r)
items_part (second a) r = ap (λ l. items a ++ l) (append-nil (items r))

-- and so has the tree with which a part ends
pub ended_items : (p : OpenPart) (r : Tree) (s : State) {a : Tree} {t : State} → ended_part p r s ≡ done a t →
    items a ≡ items_opening p ++ items r
ended_items p r s e = subst (Holds P) e ended
  where
    P : Tree → State → Type 0
    P = HasItems (items_opening p ++ items r)

    ended : Holds P (ended_part p r s)
    ended =
        cond_both (lacks_body p s) _ _ (Holds P) (λ _. tt)
        (λ _. choose_both (Holds P) (strip (code ")") s.rest) _ _ (λ u e. items_part p r) tt)
