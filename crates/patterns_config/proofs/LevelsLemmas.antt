-- Levels that are given one after another.
use Rattle.std.proofs.Common.{◌≡◌, ◌≢◌, refl, ap, sym, subst, ◌∙◌, ℕ, ◌++◌, ◌⊎◌, inl, inr, ⊎_elim, Bool, true, false, List, [], ◌∷◌}
use Rattle.std.proofs.Common.{◌<◌, ◌≤◌, ◌+◌, length, get_or, drop, suc, map, String, Vec, Global, drop-cons, add-one}
use Rattle.std.proofs.Math.ListN.{drop_of_length-le}
use denote.Enum.Bare.{sameb, same_true, same_false}
use Rattle.lint_rules.specs.Rules.{rule_name}
use Rattle.lint_rules.specs.contracts.rule.Rule.{the_type}
use Rattle.lint_rules.specs.declared.chosen.Level.{Level}
use Rattle.lint_rules.specs.declared.chosen.Level.TheVariants.{Allow, Deny}
use Rattle.lint_rules.specs.declared.rule.Rule.{Rule}
use Rattle.patterns_config.specs.Levels.{Given, GivesLevel, GiveLevels, level_with_all, levels_of_option, levels_of_options}
use Rattle.patterns_config.specs.declared.options.FileOption.{FileOption}
use Rattle.patterns_config.specs.declared.options.FileOption.TheVariants as option

-- what the rest gives to a level, all give to the one at the start
abbrev pub GivesAsAll : Rule → List Given → List Given → Level → Level → Type 0
GivesAsAll rule rest all start now = (after : Level) → GiveLevels rule rest now after → GiveLevels rule all start after

pub given_first : {rule : Rule} {given : Given} {rest all : List Given} {start before between : Level} →
    GivesAsAll rule (given ∷ rest) all start before → GivesLevel given.name given.level rule before between →
    GivesAsAll rule rest all start between
given_first as_all gives after others = as_all after (GiveLevels.next gives others)

-- what some give and the rest give to a level, all give to the one at the start
pub given_both : {rule : Rule} {xs ys : List Given} {a b c : Level} → GiveLevels rule xs a b → GiveLevels rule ys b c →
    GiveLevels rule (xs ++ ys) a c
given_both GiveLevels.none then = then
given_both (GiveLevels.next one others) then = GiveLevels.next one (given_both others then)

pub given_some : {rule : Rule} {xs rest all : List Given} {start before between : Level} →
    GivesAsAll rule (xs ++ rest) all start before → GiveLevels rule xs before between → GivesAsAll rule rest all start between
given_some as_all some after others = as_all after (given_both some others)

is_or_is_not : (a b : Rule) (is_same : Bool) → sameb the_type a b ≡ is_same → (a ≡ b) ⊎ (a ≡ b → ⊥)
is_or_is_not a b true e = inl (same_true the_type tt a b e)
is_or_is_not a b false e = inr (same_false the_type a b e)

-- the rule of the name got the level, and the others are as before
pub given_to_one : {name : List ℕ} {level : Level} {named rule : Rule} {before after : Level} → rule_name named ≡ name →
    (rule ≡ named → after ≡ level) → ((rule ≡ named → ⊥) → after ≡ before) → GivesLevel name level rule before after
given_to_one {name = name} {level = level} {named = named} {rule = rule} {before = before} is own other =
    ⊎_elim (λ e. subst (λ a. GivesLevel name level rule before a) (sym (own e)) (GivesLevel.own (ap rule_name e ∙ is)))
    (λ n. subst (λ a. GivesLevel name level rule before a) (sym (other n)) (GivesLevel.other named is n))
    (is_or_is_not rule named (sameb the_type rule named) refl)

-- the level is no warning
pub not_warned : {level : Level} (rule : Rule) (before : Level) → (level ≡ Allow) ⊎ (level ≡ Deny) → level ≡ level_with_all level rule before
not_warned rule before (inl is) = rw is refl
not_warned rule before (inr is) = rw is refl

-- all rules got the level
pub given_to_all : {name : List ℕ} {level : Level} {rule : Rule} {before after : Level} →
    ((named : Rule) → rule_name named ≢ name) → after ≡ level_with_all level rule before → GivesLevel name level rule before after
given_to_all {name = name} {level = level} {rule = rule} {before = before} none is =
    subst (λ a. GivesLevel name level rule before a) (sym is) (GivesLevel.all none)

-- ---- a list of which each item gives some levels, from an index on

from_index : {A : Type 0} (items : List A) (i : ℕ) (item : A) → i < length items → item ≡ get_or items i item →
    drop i items ≡ item ∷ drop (suc i) items
from_index items i item is_in is = drop-cons items i item is_in ∙ ap (λ first. first ∷ drop (suc i) items) (sym is)

-- the item at the index gives one level
pub given_at : {A : Type 0} (given : A → Given) (items : List A) (i : ℕ) (item : A) {rule : Rule} {all : List Given}
    {start before between : Level} → i < length items → item ≡ get_or items i item →
    GivesAsAll rule (map given (drop i items)) all start before → GivesLevel (given item).name (given item).level rule before between →
    GivesAsAll rule (map given (drop (i + 1) items)) all start between
given_at given items i item {rule = rule} {all = all} {start = start} {before = before} is_in is as_all gives = rw add-one
    (given_first (subst (λ rest. GivesAsAll rule (map given rest) all start before) (from_index items i item is_in is) as_all) gives)

-- no item is left
pub given_end : {A : Type 0} (given : A → Given) (items : List A) (i : ℕ) {rule : Rule} {all : List Given} {start now : Level} →
    length items ≤ i → GivesAsAll rule (map given (drop i items)) all start now → GiveLevels rule all start now
given_end given items i {rule = rule} {now = now} ended as_all =
    as_all now (subst (λ rest. GiveLevels rule (map given rest) now now) (sym (drop_of_length-le items ended)) GiveLevels.none)

-- an option that gives no levels
pub no_levels : (one : FileOption) → ((level : Level) (names : Vec (String Global) Global) → one ≡ option.Rules level names → ⊥) →
    levels_of_option one ≡ []
no_levels (option.Rules level names) other = absurd (other level names refl)
no_levels (option.Flags flags) other = refl
no_levels (option.Textmate is_set) other = refl
no_levels (option.Keys keys) other = refl
no_levels (option.Dialect dialect) other = refl
no_levels (option.Style style) other = refl
no_levels (option.Width width) other = refl
no_levels (option.DropComments drops) other = refl

-- the option at the index gives some levels
pub option_at : {A : Type 0} (now : A → FileOption) (items : List A) (i : ℕ) (item : A) {rule : Rule} {all : List Given}
    {start before between : Level} → i < length items → item ≡ get_or items i item →
    GivesAsAll rule (levels_of_options (map now (drop i items))) all start before →
    GiveLevels rule (levels_of_option (now item)) before between →
    GivesAsAll rule (levels_of_options (map now (drop (i + 1) items))) all start between
option_at now items i item {rule = rule} {all = all} {start = start} {before = before} is_in is as_all gives = rw add-one
    (given_some (subst (λ rest. GivesAsAll rule (levels_of_options (map now rest)) all start before) (from_index items i item is_in is)
    as_all) gives)

-- no option is left
pub options_end : {A : Type 0} (now : A → FileOption) (items : List A) (i : ℕ) {rule : Rule} {all : List Given} {start after : Level} →
    length items ≤ i → GivesAsAll rule (levels_of_options (map now (drop i items))) all start after → GiveLevels rule all start after
options_end now items i {rule = rule} {after = after} ended as_all =
    as_all after (subst (λ rest. GiveLevels rule (levels_of_options (map now rest)) after after) (sym (drop_of_length-le items ended))
    GiveLevels.none)
