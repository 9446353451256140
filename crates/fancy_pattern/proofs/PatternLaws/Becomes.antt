-- Raw trees that resolve to given ones at a given position, whatever is around them.
use Rattle.std.proofs.Common.{if◌then◌else◌}
use Rattle.std.proofs.Common.{◌≡◌, ℕ, suc, ◌+◌, Bool, true, false, List, [], ◌∷◌, ◌++◌, length}
use Rattle.std.proofs.Common.{refl, sym, ap, ap₂, ◌∙◌, subst, arith, ℤ, Some, None, Option}
use Rattle.std.proofs.lemmas.Bool.{cond-false, true≢false}
use Rattle.fancy_lex.specs.Text.{Text, EndsWith, bytes, position_at}
use Rattle.fancy_lex.specs.declared.flags.Flags.{Flags}
use Rattle.fancy_grammar.specs.Ranks.{Opening, is_counted, numbered_openings_in}
use Rattle.fancy_grammar.specs.Items.{Item, opening, reference, items, items_all, openings_in, role_of, target_of}
use Rattle.fancy_grammar.specs.Join.{is_empty, solid, one_or}
use Rattle.fancy_grammar.specs.Label.{Row, AstReference, ast_backref, ast_call, ast_condition}
use Rattle.fancy_grammar.specs.GroupInfo.{GroupInfo, is_call_of_all}
use Rattle.fancy_grammar.specs.Pattern.{group_count, group_count_all}
use Rattle.fancy_grammar.specs.Quantified.{is_repeatable}
use Rattle.fancy_grammar.specs.Resolved.{resolved_in, resolved_all, reference_node}
use Rattle.fancy_grammar.specs.Tree.{Tree, row, more_trees, trees_of, empty, ast_group}
use Rattle.fancy_grammar.specs.Tree.{ast_node, backref, backref_at_level, subroutine_call, backref_exists}
use Rattle.fancy_grammar.specs.ReadAs.{unpositioned, unpositioned_all}
pub use Rattle.fancy_grammar.proofs.Writable.{info_numbers}
use Rattle.fancy_grammar.proofs.Writable.{name_at, is_numbered, is_numbered_call_of_all}
use Rattle.fancy_pattern.proofs.PatternLaws.Unpositioned.{empty_unpositioned, repeatable_unpositioned}
use Rattle.fancy_grammar.specs.Meaning.{Meaning, number, unresolved, invalid, refers_to}
use Rattle.fancy_grammar.specs.Written.{is_numeric}
use Rattle.fancy_lex.proofs.LeaveLaws.{ends_twice}

-- how many groups among the items have a number
abbrev pub opened : Bool → List Item → ℕ
opened named l = length (numbered_openings_in named (openings_in l))

-- the meaning of a reference after the openings of c groups, by the group information
abbrev pub info_meaning : GroupInfo → ℕ → AstReference → Meaning
info_meaning μ c r = refers_to (info_numbers μ) c (role_of r) (target_of r)

-- a group, or no group, but no error
abbrev pub RefersToGroup : Meaning → Type 0
RefersToGroup (invalid k) = ⊥
RefersToGroup _ = Unit {0}

-- in each text that ends with s, the reference is written with a number exactly if its node is to be, and the same
-- holds for being a call of all
pub record AgreesWithInfo (μ : GroupInfo) (s : Text) (r : AstReference) (m : Meaning) (p : ℕ) : Type 0 where
  pub numeric : (text : Text) → EndsWith text s →
      is_numeric text (position_at (bytes text) p) (role_of r) (target_of r) ≡ is_numbered μ (reference_node 0 m r 0)
  pub of_all : is_call_of_all (role_of r) (target_of r) ≡ is_numbered_call_of_all μ (reference_node 0 m r 0)

-- after the openings of c groups, a group that has a number has the name in the group information
abbrev pub IsOpening : Bool → GroupInfo → ℕ → Option Text → Type 0
IsOpening true μ c name = name ≡ name_at μ (c + 1)
IsOpening false μ c name = Unit {0}

-- how many groups with a number are opened after this opening
abbrev pub count_after : GroupInfo → ℕ → Opening → ℕ
count_after μ c o = if is_counted μ.numbered_groups_ignored o.name then c + 1 else c

-- after the openings of c groups, the openings and references among the items are as above
abbrev pub AreGroups : GroupInfo → Text → ℕ → List Item → Type 0
AreGroups μ s c [] = Unit {0}
AreGroups μ s c (opening o ∷ l) =
    IsOpening (is_counted μ.numbered_groups_ignored o.name) μ c o.name × AreGroups μ s (count_after μ c o) l
AreGroups μ s c (reference r p ∷ l) =
    RefersToGroup (info_meaning μ c r) × AgreesWithInfo μ s r (info_meaning μ c r) p × AreGroups μ s c l

-- after the openings of c groups the raw tree resolves to x, up to positions, if each name has the numbers in the group
-- information; as many of its groups have a number as x has groups, and they have the names in the group information
pub record Becomes (μ : GroupInfo) (s : Text) (c : ℕ) (r x : Tree) : Type 0 where
  pub is : (n : ℕ) (numbers_of : Text → List ℕ) → ((w : Text) → numbers_of w ≡ info_numbers μ w) →
      unpositioned (resolved_in n μ.numbered_groups_ignored numbers_of c r) ≡ unpositioned x
  pub count : opened μ.numbered_groups_ignored (items r) ≡ group_count x
  pub groups : AreGroups μ s c (items r)

-- each of the trees becomes the one at its index, one after another
abbrev pub EachBecomes : GroupInfo → Text → ℕ → List Tree → List Tree → Type 0
EachBecomes μ s c [] [] = Unit {0}
EachBecomes μ s c (r ∷ l) (x ∷ m) = Becomes μ s c r x × EachBecomes μ s (c + group_count x) l m
EachBecomes μ s c _ _ = ⊥

-- ---- items, one after another

-- one group more, if it has a number
one_more : (b : Bool) (c : ℕ) (o : Opening) (l : List Opening) →
    c + length (if b then o ∷ l else l) ≡ (if b then c + 1 else c) + length l
one_more true c o l = omega arith
one_more false c o l = refl

groups_append : (μ : GroupInfo) (s : Text) (c : ℕ) (l m : List Item) → AreGroups μ s c l →
    AreGroups μ s (c + opened μ.numbered_groups_ignored l) m → AreGroups μ s c (l ++ m)
groups_append μ s c [] m h k = subst (λ n. AreGroups μ s n m) (omega arith) k
groups_append μ s c (opening o ∷ l) m h k = (
  h.0,
  groups_append μ s (count_after μ c o) l m h.1
      (subst (λ n. AreGroups μ s n m)
      (one_more (is_counted μ.numbered_groups_ignored o.name) c o
      (numbered_openings_in μ.numbered_groups_ignored (openings_in l))) k),
)
groups_append μ s c (reference r p ∷ l) m h k = (h.0, h.1, groups_append μ s c l m h.2 k)

opened_append : (named : Bool) (l m : List Item) → opened named (l ++ m) ≡ opened named l + opened named m
opened_append named [] m = omega arith
opened_append named (opening o ∷ l) m = at (is_counted named o.name) (opened_append named l m)
  where
    at : (b : Bool) → opened named (l ++ m) ≡ opened named l + opened named m →
        length (if b then o ∷ numbered_openings_in named (openings_in (l ++ m))
        else numbered_openings_in named (openings_in (l ++ m)))
        ≡ length (if b then o ∷ numbered_openings_in named (openings_in l) else numbered_openings_in named (openings_in l))
        + opened named m
    at true e = ap suc e ∙ omega arith
    at false e = e
opened_append named (reference r p ∷ l) m = opened_append named l m

-- what it resolves to, up to positions
pub becomes_plain : (μ : GroupInfo) (s : Text) (c : ℕ) (r x : Tree) → Becomes μ s c r x →
    unpositioned (resolved_in 0 μ.numbered_groups_ignored (info_numbers μ) c r) ≡ unpositioned x
becomes_plain μ s c r x b = b.is 0 (info_numbers μ) (λ w. refl)

-- ---- several trees

all_groups : (μ : GroupInfo) (s : Text) (l m : List Tree) (c : ℕ) → EachBecomes μ s c l m →
    AreGroups μ s c (items_all (trees_of l))
all_groups μ s [] [] c h = tt
all_groups μ s (r ∷ l) (x ∷ m) c h =
    groups_append μ s c (items r) (items_all (trees_of l)) h.0.groups
    (subst (λ k. AreGroups μ s (c + k) (items_all (trees_of l))) (sym h.0.count) (all_groups μ s l m _ h.1))
all_groups μ s [] (x ∷ m) c h = absurd h
all_groups μ s (r ∷ l) [] c h = absurd h

all_count : (μ : GroupInfo) (s : Text) (l m : List Tree) (c : ℕ) → EachBecomes μ s c l m →
    opened μ.numbered_groups_ignored (items_all (trees_of l)) ≡ group_count_all (trees_of m)
all_count μ s [] [] c h = refl
all_count μ s (r ∷ l) (x ∷ m) c h =
    opened_append μ.numbered_groups_ignored (items r) (items_all (trees_of l))
    ∙ ap₂ (λ a b. a + b) h.0.count (all_count μ s l m _ h.1)
all_count μ s [] (x ∷ m) c h = absurd h
all_count μ s (r ∷ l) [] c h = absurd h

each_resolved : (μ : GroupInfo) (s : Text) (l m : List Tree) (c : ℕ) → EachBecomes μ s c l m → (n : ℕ)
    (numbers_of : Text → List ℕ) → ((w : Text) → numbers_of w ≡ info_numbers μ w) →
    unpositioned_all (resolved_all n μ.numbered_groups_ignored numbers_of c (trees_of l)) ≡ unpositioned_all (trees_of m)
each_resolved μ s [] [] c h n u e = refl
each_resolved μ s (r ∷ l) (x ∷ m) c h n u e =
    ap₂ more_trees (h.0.is n u e)
    (ap (λ k. unpositioned_all (resolved_all n μ.numbered_groups_ignored u (c + k) (trees_of l))) h.0.count
    ∙ each_resolved μ s l m _ h.1 n u e)
each_resolved μ s [] (x ∷ m) c h n u e = absurd h
each_resolved μ s (r ∷ l) [] c h n u e = absurd h

pub row_becomes : (μ : GroupInfo) (s : Text) (w : Row) (l m : List Tree) (c : ℕ) → EachBecomes μ s c l m →
    Becomes μ s c (row w (trees_of l)) (row w (trees_of m))
row_becomes μ s w l m c h = record {
  is = λ n u e. ap (row w) (each_resolved μ s l m c h n u e);
  count = all_count μ s l m c h;
  groups = all_groups μ s l m c h;
}

pub one_becomes : (μ : GroupInfo) (s : Text) (w : Row) (l m : List Tree) (c : ℕ) → EachBecomes μ s c l m →
    Becomes μ s c (one_or (row w) l) (one_or (row w) m)
one_becomes μ s w [] [] c h = record { is = λ n u e. refl; count = refl; groups = tt }
one_becomes μ s w (r ∷ []) (x ∷ []) c h = h.0
one_becomes μ s w (r ∷ z ∷ l) (x ∷ y ∷ m) c h = row_becomes μ s w (r ∷ z ∷ l) (x ∷ y ∷ m) c h
one_becomes μ s w (r ∷ []) (x ∷ y ∷ m) c h = absurd h.1
one_becomes μ s w (r ∷ z ∷ l) (x ∷ []) c h = absurd h.1
one_becomes μ s w [] (x ∷ m) c h = absurd h
one_becomes μ s w (r ∷ l) [] c h = absurd h

-- ---- Empties

-- a raw tree that does not become an Empty is not Empty
pub stays_solid : (μ : GroupInfo) (s : Text) (c : ℕ) (r x : Tree) → Becomes μ s c r x → is_empty x ≡ false →
    is_empty r ≡ false
stays_solid μ s c empty x b e =
    absurd-empty (ap is_empty (becomes_plain μ s c empty x b) ∙ (empty_unpositioned x ∙ e))
  where
    absurd-empty : {A : Type 0} → true ≡ false → A
    absurd-empty e = absurd cc
stays_solid μ s c r x b e = refl

pub solid_also : (μ : GroupInfo) (s : Text) (c : ℕ) (r x : Tree) (l m : List Tree) → Becomes μ s c r x →
    is_empty r ≡ false →
    EachBecomes μ s (c + group_count x) (solid l) m → EachBecomes μ s c (solid (r ∷ l)) (x ∷ m)
solid_also μ s c r x l m b e h =
    subst (λ k. EachBecomes μ s c k (x ∷ m)) (sym (cond-false _ _ _ e)) (b, h)

-- ---- what may be under a quantifier

-- what a reference without an error resolves to: a leaf of its own, whatever the reference
pub node_determined : {A : Type 0} (P : Tree → A) (a : A) (m : Meaning) (r : AstReference) (p : ℕ) →
    ((n : ℕ) (casei : Bool) → P (backref n casei) ≡ a) →
    ((n : ℕ) (level : ℤ) (casei : Bool) → P (backref_at_level n level casei) ≡ a) →
    ((n : ℕ) → P (subroutine_call n) ≡ a) → ((n : ℕ) (level : Option ℤ) → P (backref_exists n level) ≡ a) →
    ((q : ℕ) → P (ast_node r q) ≡ a) → RefersToGroup m → P (reference_node 0 m r p) ≡ a
node_determined P a (number n) (ast_backref t casei None) p x y z w v h = x n casei
node_determined P a (number n) (ast_backref t casei (Some level)) p x y z w v h = y n level casei
node_determined P a (number n) (ast_call t) p x y z w v h = z n
node_determined P a (number n) (ast_condition t level) p x y z w v h = w n level
node_determined P a unresolved (ast_backref t casei None) p x y z w v h = v _
node_determined P a unresolved (ast_backref t casei (Some level)) p x y z w v h = v _
node_determined P a unresolved (ast_call t) p x y z w v h = v _
node_determined P a unresolved (ast_condition t level) p x y z w v h = v _
node_determined P a (invalid k) r p x y z w v h = absurd h

abbrev pub is_raw_group : Tree → Bool
is_raw_group (ast_group m p t) = true
is_raw_group _ = false

position_free : (μ : GroupInfo) (s : Text) (f : Flags) (r : Tree) (c : ℕ) → is_raw_group r ≡ false →
    AreGroups μ s c (items r) →
    is_repeatable f (resolved_in 0 μ.numbered_groups_ignored (info_numbers μ) c r) ≡ is_repeatable f r
position_free μ s f (ast_group m p t) c g h = absurd (true≢false g)
position_free μ s f (ast_node r p) c g h =
    node_determined (is_repeatable f) true (info_meaning μ c r) r p (λ n i. refl) (λ n l i. refl) (λ n. refl) (λ n l. refl)
    (λ q. refl) h.0
position_free μ s f _ c g h = refl

pub stays_repeatable : (μ : GroupInfo) (s : Text) (f : Flags) (c : ℕ) (r x : Tree) → Becomes μ s c r x →
    is_repeatable f x ≡ true →
    is_repeatable f r ≡ true
stays_repeatable μ s f c (ast_group m p t) x b e = refl
stays_repeatable μ s f c r x b e = at r refl b
  where
    at : (r : Tree) → is_raw_group r ≡ false → Becomes μ s c r x → is_repeatable f r ≡ true
    at r g b =
        let resolves = resolved_in 0 μ.numbered_groups_ignored (info_numbers μ) c r in
        sym (position_free μ s f r c g b.groups)
        ∙ (sym (repeatable_unpositioned f resolves)
        ∙ (ap (is_repeatable f) (becomes_plain μ s c r x b) ∙ (repeatable_unpositioned f x ∙ e)))

-- ---- in a longer text

groups_in_longer : (μ : GroupInfo) (s t : Text) → EndsWith t s → (c : ℕ) (l : List Item) → AreGroups μ s c l →
    AreGroups μ t c l
groups_in_longer μ s t e c [] h = tt
groups_in_longer μ s t e c (opening o ∷ l) h = (h.0, groups_in_longer μ s t e (count_after μ c o) l h.1)
groups_in_longer μ s t e c (reference r p ∷ l) h = (
  h.0,
  record { numeric = λ w k. h.1.numeric w (ends_twice w t s k e); of_all = h.1.of_all },
  groups_in_longer μ s t e c l h.2,
)

pub in_longer : (μ : GroupInfo) (s t : Text) → EndsWith t s → (c : ℕ) (r x : Tree) → Becomes μ s c r x → Becomes μ t c r x
in_longer μ s t e c r x b =
    record { is = b.is; count = b.count; groups = groups_in_longer μ s t e c (items r) b.groups }

pub each_in_longer : (μ : GroupInfo) (s t : Text) → EndsWith t s → (l m : List Tree) (c : ℕ) → EachBecomes μ s c l m →
    EachBecomes μ t c l m
each_in_longer μ s t e [] [] c h = tt
each_in_longer μ s t e (r ∷ l) (x ∷ m) c h = (in_longer μ s t e c r x h.0, each_in_longer μ s t e l m _ h.1)
each_in_longer μ s t e [] (x ∷ m) c h = absurd h
each_in_longer μ s t e (r ∷ l) [] c h = absurd h
