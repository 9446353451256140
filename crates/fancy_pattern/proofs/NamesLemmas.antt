-- The names that are known of groups, entry by entry and number by number.
use Rattle.std.proofs.Common.{◌≡◌, ℕ, ◌==◌, List, [], ◌∷◌, ◌++◌, sym, subst, Bool, Option, Some, None, if◌then◌else◌}
use Rattle.std.specs.BTreeMap.{BTreeMap, get}
use Rattle.std.specs.List.{list_any}
use Rattle.std.specs.Option.{option_or}
use Rattle.std.specs.Ordering.{nat_cmp}
use Rattle.std.proofs.lemmas.List.Folds.{find-append}
use Rattle.fancy_grammar.specs.PatternReference.{Named}
use Rattle.fancy_pattern.specs.ContextViews.{IsNameOf, AreNames}
use Rattle.fancy_pattern.specs.declared.names.GroupName.{GroupName}

-- the number is among those passed
abbrev is_in : List ℕ → ℕ → Bool
is_in passed n = list_any (λ k. k == n) passed

-- the names b are the names a, except that those of the passed numbers that had no name have the entry's name
pub record Naming (a b : BTreeMap ℕ GroupName) (e : Named) (passed : List ℕ) : Type 0 where
  pub at : (n : ℕ) (o : Option Named) → IsNameOf n (get nat_cmp a n) o →
      IsNameOf n (get nat_cmp b n) (option_or o (if is_in passed n then Some e else None))

pub naming_ends : (a b : BTreeMap ℕ GroupName) (e : Named) (es : List Named) → AreNames a es → Naming a b e e.1 →
    AreNames b (es ++ e ∷ [])
naming_ends a b e es are w = record {
  at = λ n. subst (IsNameOf n (get nat_cmp b n)) (sym (find-append (λ d. is_in d.1 n) es (e ∷ []))) (w.at n _ (are.at n));
}

-- the names are those of the passed entries, out of all these
pub record NamingAll (b : BTreeMap ℕ GroupName) (rest all : List Named) : Type 0 where
  pub passed : List Named
  pub names : AreNames b passed
  pub whole : passed ++ rest ≡ all
