-- What the parser's loop has found of the groups and references that it has read.
use Rattle.std.specs.Prelude.{◌≡◌, ℕ, ◌+◌, Bool, true, false, not, List, [], ◌∷◌, ◌++◌, length, filter}
use Rattle.std.specs.List.{list_any}
use Rattle.fancy_grammar.specs.Groups.{groups_of, groups_in}
use Rattle.fancy_grammar.specs.Ranks.{Opening, is_counted, numbered_openings_in}
use Rattle.fancy_grammar.specs.GroupKind.{GroupKind, capture}
use Rattle.fancy_grammar.specs.Items.{Item, opening, reference, items_all, openings_in}
use Rattle.fancy_grammar.specs.Label as label
use Rattle.fancy_grammar.specs.Tree.{Tree, leaf, trees_of}
use Rattle.fancy_syntax.specs.declared.grammar.found.FoundGroups.{FoundGroups}

-- the items of trees, one after another
abbrev pub items_in : List Tree → List Item
items_in l = items_all (trees_of l)

-- the item that is the opening of a group of this kind, whose parenthesis has this reach
abbrev pub group_opening : GroupKind → ℕ → List Item
group_opening (capture name) reach = opening (record { reach = reach; name = name }) ∷ []
group_opening _ reach = []

-- whether the node is a reference
abbrev pub is_reference : Tree → Bool
is_reference (leaf (label.ast_node r reach)) = true
is_reference _ = false

-- the groups that have a number only if no group has a name
abbrev pub undecided_in : Bool → List Opening → List Opening
undecided_in ignore l = filter (λ o. not (is_counted ignore o.name)) l

-- whether the resolver has to replace the item: a reference, or a group of which it is undecided whether it has a number
abbrev pub is_unresolved : Bool → Item → Bool
is_unresolved ignore (opening o) = not (is_counted ignore o.name)
is_unresolved ignore (reference r reach) = true

abbrev pub has_unresolved : Bool → List Item → Bool
has_unresolved ignore l = list_any (is_unresolved ignore) l

-- how many capturing groups have opened
abbrev pub openings_found : FoundGroups → ℕ
openings_found f = f.groups.total + f.undecided

-- this was found in these items, with or without the flag that ignores groups without a name
abbrev pub IsFound : Bool → FoundGroups → List Item → Type 0
IsFound ignore f l =
    (f.ignore ≡ ignore)
    × (groups_of f.groups ≡ groups_in (numbered_openings_in ignore (openings_in l)))
    × (f.undecided ≡ length (undecided_in ignore (openings_in l)))
    × (f.unresolved ≡ has_unresolved ignore l)

-- if the first was found in some items, then the second is found in those items with these after them
abbrev pub FindsMore : FoundGroups → FoundGroups → List Item → Type 0
FindsMore f g is = (ignore : Bool) (l : List Item) → IsFound ignore f l → IsFound ignore g (l ++ is)
