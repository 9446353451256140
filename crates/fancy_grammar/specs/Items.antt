-- The capturing groups and the references of a raw tree, in text order.
use Rattle.std.specs.Prelude.{ℕ, ◌+◌, Bool, List, [], ◌∷◌, ◌++◌, if◌then◌else◌}
use Rattle.fancy_lex.specs.Target.{Target}
use Rattle.fancy_lex.specs.Text.{Text}
use Rattle.fancy_lex.specs.declared.flags.Flags.{Flags}
use Rattle.fancy_grammar.specs.Meaning.{Role, back_reference, call, condition, Meaning, refers_to}
use Rattle.fancy_grammar.specs.Ranks.{Opening, is_counted, only_named, numbered_openings, numbers}
use Rattle.fancy_grammar.specs.Label.{Leaf, Wrap, AstReference, ast_group, ast_node, ast_backref, ast_call}
use Rattle.fancy_grammar.specs.Label.{ast_condition}
use Rattle.fancy_grammar.specs.Tree.{Tree, leaf, over, row, Trees, no_trees, more_trees}

-- a capturing group opens, or there is a reference at a reach
pub data Item : Type 0 where
  opening : Opening → Item
  reference : AstReference → ℕ → Item

-- how a reference refers, and to which target
abbrev pub role_of : AstReference → Role
role_of (ast_backref target casei level) = back_reference
role_of (ast_call target) = call
role_of (ast_condition target level) = condition

abbrev pub target_of : AstReference → Target
target_of (ast_backref target casei level) = target
target_of (ast_call target) = target
target_of (ast_condition target level) = target

-- what a node opens or refers to
abbrev pub opened_by : Wrap → List Item
opened_by (ast_group name reach) = opening (record { reach = reach; name = name }) ∷ []
opened_by _ = []

abbrev pub referred_by : Leaf → List Item
referred_by (ast_node r reach) = reference r reach ∷ []
referred_by _ = []

abbrev mutual
  -- the items in text order
  pub items : Tree → List Item
  items (leaf l) = referred_by l
  items (over w t) = opened_by w ++ items t
  items (row r ts) = items_all ts

  pub items_all : Trees → List Item
  items_all no_trees = []
  items_all (more_trees t ts) = items t ++ items_all ts

-- the openings among the items
abbrev pub openings_in : List Item → List Opening
openings_in [] = []
openings_in (opening o ∷ l) = o ∷ openings_in l
openings_in (reference r reach ∷ l) = openings_in l

-- the openings of a raw tree in text order
abbrev pub openings : Tree → List Opening
openings r = openings_in (items r)

-- ---- what the references refer to

-- a reference with its reach and its meaning
pub record MeantReference : Type 0 where
  pub reference : AstReference
  pub reach : ℕ
  pub meaning : Meaning

-- the references among the items, with their meanings; `numbers_of` gives the numbers of each name, and c groups that
-- have a number open before the items
abbrev pub meanings_in : Bool → (Text → List ℕ) → ℕ → List Item → List MeantReference
meanings_in named numbers_of c [] = []
meanings_in named numbers_of c (opening o ∷ l) =
    meanings_in named numbers_of (if is_counted named o.name then c + 1 else c) l
meanings_in named numbers_of c (reference r reach ∷ l) =
    record { reference = r; reach = reach; meaning = refers_to numbers_of c (role_of r) (target_of r) }
    ∷ meanings_in named numbers_of c l

-- the numbers of each name in a raw tree, under the flags that the caller gives
abbrev pub numbers_in : Flags → Tree → Text → List ℕ
numbers_in f r name = numbers name (numbered_openings f (openings r))

-- the references of a raw tree in text order, with their meanings
abbrev pub meanings : Flags → Tree → List MeantReference
meanings f r = meanings_in (only_named f (openings r)) (numbers_in f r) 0 (items r)
