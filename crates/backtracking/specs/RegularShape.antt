-- What a node is to the searches.
use Rattle.std.specs.Prelude.{◌≡◌, Bool, true, false, ◌||◌, ◌&&◌}
use Rattle.fancy_grammar.specs.Tree.{Tree, empty, group, repeat, concat, alt, atomic_group, trees_of}
use Rattle.fancy_syntax.specs.View.{view, views}
use Rattle.backtracking.specs.OneCharacter.{is_character}
use Rattle.backtracking.specs.Passed.{is_passed}
use Rattle.backtracking.specs.declared.regular_shape.RegularShape.{RegularShape}
use Rattle.backtracking.specs.declared.regular_shape.RegularShape.TheVariants as shape

-- the tree is a greedy repeat of a node that matches one character
abbrev pub repeats_a_character : Tree → Bool
repeats_a_character (repeat t lo hi greedy) = greedy && is_character t
repeats_a_character _ = false

-- the node is of a kind that has ways
abbrev pub is_regular : Tree → Bool
is_regular empty = true
is_regular (group t) = true
is_regular (repeat t lo hi greedy) = true
is_regular (concat ts) = true
is_regular (alt ts) = true
is_regular (atomic_group t) = repeats_a_character t
is_regular t = is_character t || is_passed t

-- the tree has this shape
abbrev pub HasRegularShape : RegularShape → Tree → Type 0
HasRegularShape shape.Empty t = t ≡ empty
HasRegularShape shape.Character t = is_character t ≡ true
HasRegularShape shape.Passed t = is_passed t ≡ true
HasRegularShape (shape.Group child) t = t ≡ group (view child.now)
HasRegularShape (shape.Repeat child lo hi) t = (greedy : Bool) × (t ≡ repeat (view child.now) lo hi greedy)
HasRegularShape (shape.Possessive child lo hi) t =
    (t ≡ atomic_group (repeat (view child.now) lo hi true)) × (is_character (view child.now) ≡ true)
HasRegularShape (shape.Concat trees) t = t ≡ concat (trees_of (views trees.now))
HasRegularShape (shape.Alt trees) t = t ≡ alt (trees_of (views trees.now))
HasRegularShape shape.Irregular t = is_regular t ≡ false
