-- The trees whose text reads back as their normal form, if fewer than 64 printed groups nest.
use Rattle.std.specs.Prelude.{ℕ, Bool, true, false, not, ◌&&◌, is_some, nat_le}
use Rattle.std.specs.Str.{all_scalars}
use Rattle.fancy_lex.specs.declared.escape.Assertion.TheVariants.{EndTextIgnoreTrailingNewlines}
use Rattle.fancy_lex.specs.Quantifier.{most}
use Rattle.fancy_grammar.specs.Join.{is_empty}
use Rattle.fancy_grammar.specs.Normal.{unicode_flags, class_of, normal}
use Rattle.fancy_grammar.specs.Tree.{Tree, Trees, no_trees, more_trees, empty, any, assertion, literal, concat, alt}
use Rattle.fancy_grammar.specs.Tree.{group, repeat, delegate, define_group}

-- a count that fits in a word
abbrev pub is_count : ℕ → Bool
is_count n = nat_le n most

abbrev mutual
  -- every node has a text, that of a Delegate is one class or class escape, the limits of a Repeat are counts, and the
  -- normal form of its operand, under UNICODE or not, is not Empty; the contents of a DefineGroup are not checked
  pub printable : Tree → Bool
  printable empty = true
  printable (any newline crlf) = true
  printable (assertion (EndTextIgnoreTrailingNewlines crlf)) = false
  printable (assertion a) = true
  printable (literal s casei) = all_scalars s
  printable (delegate s casei) = all_scalars s && is_some (class_of (unicode_flags false) s)
  printable (concat ts) = all_printable ts
  printable (alt ts) = all_printable ts
  printable (group t) = printable t
  printable (repeat t lo hi greedy) = printable t && (not (is_empty (normal false t)) && (is_count lo && is_count hi))
  printable (define_group t) = true
  printable _ = false

  pub all_printable : Trees → Bool
  all_printable no_trees = true
  all_printable (more_trees t ts) = printable t && all_printable ts
