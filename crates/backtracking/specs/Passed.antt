-- Nodes that a way passes: look-around, assertions, references to groups, conditions and conditionals. Whether they hold
-- depends on more of the text than a way has, and is left open: each is taken as one that matches no character.
use Rattle.std.specs.Prelude.{Bool, true, false}
use Rattle.fancy_grammar.specs.Tree.{Tree, assertion, backref, backref_at_level, backref_exists, keep_out}
use Rattle.fancy_grammar.specs.Tree.{continue_from_previous_match_end, look_around, conditional}

-- the node is of a kind that is passed
abbrev pub is_passed : Tree → Bool
is_passed (assertion a) = true
is_passed (backref n casei) = true
is_passed (backref_at_level n level casei) = true
is_passed keep_out = true
is_passed continue_from_previous_match_end = true
is_passed (backref_exists n level) = true
is_passed (look_around t l) = true
is_passed (conditional c t f) = true
is_passed _ = false
