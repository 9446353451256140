-- How the code's groups, roles and meanings correspond to the definitions.
use Rattle.std.specs.Prelude.{ℕ, ◌+◌, List, [], ◌∷◌, ◌++◌, Option, Some, None, length, map, unwrap_or, bytes_eq}
use Rattle.std.specs.Prelude.{String, Vec}
use Rattle.std.specs.Map.{lookup}
use Rattle.std.specs.Ordering.{match_ordering}
use Rattle.std.specs.declared.alloc.Global.{Global}
use Rattle.fancy_lex.specs.ErrorViews.{kind_of}
use Rattle.fancy_lex.specs.Text.{Text, text_of}
use Rattle.fancy_grammar.specs.Meaning as spec
use Rattle.fancy_grammar.specs.Ranks.{Opening, name_cmp, named_groups}
use Rattle.fancy_grammar.specs.declared.ranks.Groups as code
use Rattle.fancy_grammar.specs.declared.ranks.Meaning as meant
use Rattle.fancy_grammar.specs.declared.ranks.Meaning.TheVariants as refers
use Rattle.fancy_grammar.specs.declared.ranks.Role as role
use Rattle.fancy_grammar.specs.declared.ranks.Role.TheVariants as does

-- the number of groups found, and for each name, in order, its numbers
pub record Groups : Type 0 where
  pub total : ℕ
  pub names : List (Text × List ℕ)

-- the groups that open there, with their numbers, which are their ranks
abbrev pub groups_in : List Opening → Groups
groups_in l = record { total = length l; names = named_groups l }

-- the openings with one more after them
abbrev pub openings_with : List Opening → ℕ → Option Text → List Opening
openings_with l reach name = l ++ record { reach = reach; name = name } ∷ []

-- no groups
abbrev pub no_groups : Groups
no_groups = record { total = 0; names = [] }

-- the entries with the number added after those of the name, or as its only number if the name is new
abbrev pub with_number : Text → ℕ → List (Text × List ℕ) → List (Text × List ℕ)
with_number t n [] = (t, n ∷ []) ∷ []
with_number t n (e ∷ es) =
    match_ordering (name_cmp t e.0) ((t, n ∷ []) ∷ e ∷ es) ((e.0, e.1 ++ n ∷ []) ∷ es) (e ∷ with_number t n es)

abbrev pub with_named : Option Text → ℕ → List (Text × List ℕ) → List (Text × List ℕ)
with_named None n es = es
with_named (Some t) n es = with_number t n es

-- the groups with one more, which has the next number
abbrev pub with_group : Groups → Option Text → Groups
with_group s name = record { total = s.total + 1; names = with_named name (s.total + 1) s.names }

-- the numbers of a name, which are none if no group has the name
abbrev pub numbers_under : List (Text × List ℕ) → Text → List ℕ
numbers_under es t = unwrap_or (lookup (λ u. bytes_eq t u) es) []

-- a name with the numbers of its groups
abbrev pub entry_of : String Global × Vec ℕ Global → Text × List ℕ
entry_of (name, numbers) = (text_of name, numbers.items)

abbrev pub groups_of : code.Groups → Groups
groups_of g = record { total = g.total; names = map entry_of g.names.entries }

abbrev pub role_of : role.Role → spec.Role
role_of does.BackReference = spec.back_reference
role_of does.Call = spec.call
role_of does.Condition = spec.condition

abbrev pub meaning_of : meant.Meaning → spec.Meaning
meaning_of (refers.Number n) = spec.number n
meaning_of refers.Unresolved = spec.unresolved
meaning_of (refers.Invalid k) = spec.invalid (kind_of k)
