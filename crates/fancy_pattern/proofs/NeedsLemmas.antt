-- Which flags several trees require, one after another.
use Rattle.std.proofs.Common.{◌≡◌, Bool, true, false, ◌∷◌, ◌++◌}
use Rattle.std.proofs.Common.{refl, ap, sym, ◌∙◌, append-nil}
use Rattle.std.specs.List.{flat_map}
use Rattle.fancy_grammar.specs.Label.{ast_group}
use Rattle.fancy_grammar.specs.PatternWalk.{needs_alone, needs_listed, all_listed}
use Rattle.fancy_grammar.specs.PatternNeeds.{no_needs, leaf_needs, first, both, joined, needs, needs_all}
use Rattle.fancy_grammar.specs.Tree.{Tree, leaf, over, row, Trees, no_trees, more_trees, trees_of, list_of, children}
use Rattle.fancy_grammar.specs.declared.needs.Need.{Need}
use Rattle.fancy_grammar.specs.declared.needs.Need.TheVariants.{Free, Fixed, Torn}
use Rattle.fancy_grammar.specs.declared.needs.Needs.{Needs}

-- ---- needs, one after another

-- joining is associative, and `Free` is its identity
pub record IsJoin (join : Need → Need → Need) : Type 0 where
  pub assoc : (a b c : Need) → join (join a b) c ≡ join a (join b c)
  pub before : (a : Need) → join Free a ≡ a
  pub after : (a : Need) → join a Free ≡ a

first-assoc : (a b c : Need) → first (first a b) c ≡ first a (first b c)
first-assoc Free b c = refl
first-assoc (Fixed a) b c = refl
first-assoc Torn b c = refl

first-after : (a : Need) → first a Free ≡ a
first-after Free = refl
first-after (Fixed a) = refl
first-after Torn = refl

pub first_joins : IsJoin first
first_joins = record { assoc = first-assoc; before = λ a. refl; after = first-after }

both-assoc : (a b c : Need) → both (both a b) c ≡ both a (both b c)
both-assoc Free b c = refl
both-assoc (Fixed true) Free c = refl
both-assoc (Fixed true) (Fixed true) Free = refl
both-assoc (Fixed true) (Fixed true) (Fixed true) = refl
both-assoc (Fixed true) (Fixed true) (Fixed false) = refl
both-assoc (Fixed true) (Fixed true) Torn = refl
both-assoc (Fixed true) (Fixed false) Free = refl
both-assoc (Fixed true) (Fixed false) (Fixed true) = refl
both-assoc (Fixed true) (Fixed false) (Fixed false) = refl
both-assoc (Fixed true) (Fixed false) Torn = refl
both-assoc (Fixed true) Torn Free = refl
both-assoc (Fixed true) Torn (Fixed true) = refl
both-assoc (Fixed true) Torn (Fixed false) = refl
both-assoc (Fixed true) Torn Torn = refl
both-assoc (Fixed false) Free c = refl
both-assoc (Fixed false) (Fixed true) Free = refl
both-assoc (Fixed false) (Fixed true) (Fixed true) = refl
both-assoc (Fixed false) (Fixed true) (Fixed false) = refl
both-assoc (Fixed false) (Fixed true) Torn = refl
both-assoc (Fixed false) (Fixed false) Free = refl
both-assoc (Fixed false) (Fixed false) (Fixed true) = refl
both-assoc (Fixed false) (Fixed false) (Fixed false) = refl
both-assoc (Fixed false) (Fixed false) Torn = refl
both-assoc (Fixed false) Torn Free = refl
both-assoc (Fixed false) Torn (Fixed true) = refl
both-assoc (Fixed false) Torn (Fixed false) = refl
both-assoc (Fixed false) Torn Torn = refl
both-assoc Torn Free c = refl
both-assoc Torn (Fixed true) Free = refl
both-assoc Torn (Fixed true) (Fixed true) = refl
both-assoc Torn (Fixed true) (Fixed false) = refl
both-assoc Torn (Fixed true) Torn = refl
both-assoc Torn (Fixed false) Free = refl
both-assoc Torn (Fixed false) (Fixed true) = refl
both-assoc Torn (Fixed false) (Fixed false) = refl
both-assoc Torn (Fixed false) Torn = refl
both-assoc Torn Torn Free = refl
both-assoc Torn Torn (Fixed true) = refl
both-assoc Torn Torn (Fixed false) = refl
both-assoc Torn Torn Torn = refl

both-after : (a : Need) → both a Free ≡ a
both-after Free = refl
both-after (Fixed a) = refl
both-after Torn = refl

pub both_joins : IsJoin both
both_joins = record { assoc = both-assoc; before = λ a. refl; after = both-after }

pub listed : (ts : Trees) → trees_of (list_of ts) ≡ ts
listed no_trees = refl
listed (more_trees t ts) = ap (more_trees t) (listed ts)

module _ (join : Need → Need → Need) (j : IsJoin join) where
  pub joined-assoc : (n m k : Needs) → joined join (joined join n m) k ≡ joined join n (joined join m k)
  joined-assoc n m k = λ i. record {
    casei = j.assoc n.casei m.casei k.casei i;
    multi = j.assoc n.multi m.multi k.multi i;
    dotnl = j.assoc n.dotnl m.dotnl k.dotnl i;
    crlf = j.assoc n.crlf m.crlf k.crlf i;
  }

  pub joined-before : (n : Needs) → joined join no_needs n ≡ n
  joined-before n = λ i. record {
    casei = j.before n.casei i;
    multi = j.before n.multi i;
    dotnl = j.before n.dotnl i;
    crlf = j.before n.crlf i;
  }

  pub joined-after : (n : Needs) → joined join n no_needs ≡ n
  joined-after n = λ i. record {
    casei = j.after n.casei i;
    multi = j.after n.multi i;
    dotnl = j.after n.dotnl i;
    crlf = j.after n.crlf i;
  }

  -- a node requires what it requires itself, and what its children require
  pub needs_node : (o : Bool) (t : Tree) →
      needs join o t ≡ joined join (needs_alone o t) (needs_all join o (trees_of (children t)))
  needs_node o (leaf l) = sym (joined-after (leaf_needs o l))
  needs_node o (over (ast_group name position) t) = sym (joined-after no_needs)
  needs_node o (over w t) = sym (joined-before (joined join (needs join o t) no_needs) ∙ joined-after (needs join o t))
  needs_node o (row r ts) = sym (joined-before _ ∙ ap (needs_all join o) (listed ts))

  -- one more child is joined to the children before it
  pub needs_next : (o : Bool) (n : Needs) (t : Tree) (ts : Trees) →
      joined join n (needs_all join o (more_trees t ts))
      ≡ joined join (joined join n (needs join o t)) (needs_all join o ts)
  needs_next o n t ts = sym (joined-assoc n (needs join o t) (needs_all join o ts))

-- ---- the table of needs

tables_listed : (o : Bool) (ts : Trees) → all_listed o ts ≡ flat_map (needs_listed o) (list_of ts)
tables_listed o no_trees = refl
tables_listed o (more_trees t ts) = ap (λ l. needs_listed o t ++ l) (tables_listed o ts)

-- the row of a node, followed by those of its children
pub table_node : (o : Bool) (t : Tree) →
    needs_listed o t ≡ needs first o t ∷ flat_map (needs_listed o) (children t)
table_node o (leaf l) = refl
table_node o (over (ast_group name position) t) = refl
table_node o (over w t) = ap (λ l. needs first o t ∷ l) (sym (append-nil (needs_listed o t)))
table_node o (row r ts) = ap (λ l. needs_all first o ts ∷ l) (tables_listed o ts)
