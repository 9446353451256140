-- Whether two trees are the same.
use Rattle.std.specs.Prelude.{Bool, true, false, ◌&&◌, ℤ, nat_eq, Option}
use Rattle.std.specs.Option.{option_eq}
use Rattle.std.specs.Ordering.{int_eq}
use Rattle.std.specs.Str.{bytes_eq}
use mathlib.Core.Bool.{beq}
use Rattle.fancy_lex.specs.contracts.escape.AssertionPartialEq.TheImpl as assertion_eq
use Rattle.fancy_lex.specs.declared.escape.Assertion.{Assertion}
use Rattle.fancy_lex.specs.Target.{same_target}
use Rattle.fancy_lex.specs.Text.{Text}
use Rattle.fancy_grammar.specs.contracts.kinds.BacktrackingControlVerbPartialEq.TheImpl as verb_eq
use Rattle.fancy_grammar.specs.contracts.kinds.LookAroundPartialEq.TheImpl as look_eq
use Rattle.fancy_grammar.specs.declared.kinds.BacktrackingControlVerb.{BacktrackingControlVerb}
use Rattle.fancy_grammar.specs.declared.kinds.LookAround.{LookAround}
use Rattle.fancy_grammar.specs.Label.{Leaf, Wrap, Row, empty, any, assertion, general_newline, literal, literal_bytes}
use Rattle.fancy_grammar.specs.Label.{delegate}
use Rattle.fancy_grammar.specs.Label.{backref, backref_at_level, keep_out, continue_from_previous_match_end}
use Rattle.fancy_grammar.specs.Label.{backref_exists, subroutine_call, verb, clear, ast_node, group, look_around}
use Rattle.fancy_grammar.specs.Label.{repeat}
use Rattle.fancy_grammar.specs.Label.{atomic_group, define_group, repeater, stopper, ast_group, expression, conditional}
use Rattle.fancy_grammar.specs.Label.{concat, alt, AstReference, ast_backref, ast_call, ast_condition}
use Rattle.fancy_grammar.specs.Tree.{Tree, leaf, over, row, Trees, no_trees, more_trees}

-- whether two fields of a tree are the same
abbrev pub same_look : LookAround → LookAround → Bool
same_look = look_eq.ghosts.eq

abbrev pub same_assertion : Assertion → Assertion → Bool
same_assertion = assertion_eq.ghosts.eq

abbrev pub same_verb : BacktrackingControlVerb → BacktrackingControlVerb → Bool
same_verb = verb_eq.ghosts.eq

abbrev pub same_level : Option ℤ → Option ℤ → Bool
same_level = option_eq int_eq

abbrev pub same_name : Option Text → Option Text → Bool
same_name = option_eq bytes_eq

abbrev pub same_reference : AstReference → AstReference → Bool
same_reference (ast_backref target casei level) (ast_backref target' casei' level') =
    same_target target target' && beq casei casei' && same_level level level'
same_reference (ast_call target) (ast_call target') = same_target target target'
same_reference (ast_condition target level) (ast_condition target' level') =
    same_target target target' && same_level level level'
same_reference _ _ = false

-- whether two nodes are of the same variant, and have the same fields
abbrev pub same_leaf : Leaf → Leaf → Bool
same_leaf empty empty = true
same_leaf (any newline crlf) (any newline' crlf') = beq newline newline' && beq crlf crlf'
same_leaf (assertion a) (assertion a') = same_assertion a a'
same_leaf (general_newline unicode) (general_newline unicode') = beq unicode unicode'
same_leaf (literal text casei) (literal text' casei') = bytes_eq text text' && beq casei casei'
same_leaf (literal_bytes bytes) (literal_bytes bytes') = bytes_eq bytes bytes'
same_leaf (delegate text casei) (delegate text' casei') = bytes_eq text text' && beq casei casei'
same_leaf (backref n casei) (backref n' casei') = nat_eq n n' && beq casei casei'
same_leaf (backref_at_level n level casei) (backref_at_level n' level' casei') =
    nat_eq n n' && int_eq level level' && beq casei casei'
same_leaf keep_out keep_out = true
same_leaf continue_from_previous_match_end continue_from_previous_match_end = true
same_leaf (backref_exists n level) (backref_exists n' level') = nat_eq n n' && same_level level level'
same_leaf (subroutine_call n) (subroutine_call n') = nat_eq n n'
same_leaf (verb v) (verb v') = same_verb v v'
same_leaf clear clear = true
same_leaf (ast_node r position) (ast_node r' position') = same_reference r r' && nat_eq position position'
same_leaf _ _ = false

abbrev pub same_wrap : Wrap → Wrap → Bool
same_wrap group group = true
same_wrap (look_around l) (look_around l') = same_look l l'
same_wrap (repeat lo hi greedy) (repeat lo' hi' greedy') = nat_eq lo lo' && nat_eq hi hi' && beq greedy greedy'
same_wrap atomic_group atomic_group = true
same_wrap define_group define_group = true
same_wrap repeater repeater = true
same_wrap stopper stopper = true
same_wrap (ast_group name position) (ast_group name' position') = same_name name name' && nat_eq position position'
same_wrap _ _ = false

abbrev pub same_row : Row → Row → Bool
same_row concat concat = true
same_row alt alt = true
same_row expression expression = true
same_row conditional conditional = true
same_row _ _ = false

abbrev mutual
  -- whether two trees are the same, node by node
  pub same : Tree → Tree → Bool
  same (leaf l) (leaf m) = same_leaf l m
  same (over w t) (over v u) = same_wrap w v && same t u
  same (row r ts) (row q us) = same_row r q && same_all ts us
  same _ _ = false

  pub same_all : Trees → Trees → Bool
  same_all no_trees no_trees = true
  same_all (more_trees t ts) (more_trees u us) = same t u && same_all ts us
  same_all _ _ = false
