-- The normal form of a tree, with UNICODE or without: what its printed text is read as.
use Rattle.std.specs.Prelude.{ℕ, Bool, false, not, ◌&&◌, List, [], ◌∷◌, ◌++◌, map, is_none, Option, Some}
use Rattle.std.specs.Prelude.{None, unwrap_or}
use Rattle.fancy_lex.specs.Flags.{no_flag}
use Rattle.fancy_lex.specs.Text.{Text}
use Rattle.fancy_lex.specs.declared.escape.Assertion.TheVariants.{StartLine, StartLineOniguruma}
use Rattle.fancy_lex.specs.declared.flags.Flags.{Flags}
use Rattle.fancy_grammar.specs.Quote.{after_backslash}
use Rattle.fancy_grammar.specs.AtomStart.{leaf_of}
use Rattle.fancy_grammar.specs.Grammar.{start}
use Rattle.fancy_grammar.specs.Join.{solid, join, choice}
use Rattle.fancy_grammar.specs.State.{Outcome, done, failed}
use Rattle.fancy_grammar.specs.Tree.{Tree, Trees, no_trees, more_trees, empty, any, assertion, literal, concat, alt}
use Rattle.fancy_grammar.specs.Tree.{group, repeat, delegate, define_group}

-- ---- the flags that a printed text is read under

-- no flag, or only UNICODE
abbrev pub unicode_flags : Bool → Flags
unicode_flags unicode = record no_flag { unicode = unicode }

-- these, and CASEI if asked for
abbrev pub case_flags : Bool → Bool → Flags
case_flags unicode casei = record (unicode_flags unicode) { casei = casei }

-- ---- the text of a Delegate, read again

-- the leaf, if it is a Delegate and no text is left
abbrev pub whole_of : Text → Tree → Option Tree
whole_of [] (delegate s casei) = Some (delegate s casei)
whole_of _ _ = None

abbrev pub whole_leaf : Outcome Tree → Option Tree
whole_leaf (done r s) = whole_of s.rest r
whole_leaf (failed e) = None

-- the Delegate that this text is read as, if it is one whole class or one whole class escape
unfoldable pub class_of : Flags → Text → Option Tree
class_of f [] = None
class_of f (c ∷ t) = whole_leaf (leaf_of (start f (c ∷ t)) c t)

-- ---- the normal form

-- one character; it keeps its case flag only if it is printed without a backslash
abbrev pub normal_character : Bool → ℕ → Tree
normal_character casei c = literal (c ∷ []) (casei && is_none (after_backslash c))

-- the pieces in a sequence that come from a tree with this normal form
abbrev pub pieces_of : Tree → Tree → List Tree
pieces_of (literal s false) n = map (normal_character false) s
pieces_of _ n = solid (n ∷ [])

abbrev mutual
  pub normal : Bool → Tree → Tree
  normal u (any newline crlf) = any newline (not newline && crlf)
  normal u (assertion (StartLineOniguruma crlf)) = assertion (StartLine crlf)
  normal u (literal s casei) = join (map (normal_character casei) s)
  normal u (delegate s casei) = unwrap_or (class_of (case_flags u casei) s) (delegate s casei)
  normal u (concat ts) = join (normal_pieces u ts)
  normal u (alt ts) = choice (normals u ts)
  normal u (group t) = group (normal u t)
  normal u (repeat t lo hi greedy) = repeat (normal u t) lo hi greedy
  normal u (define_group t) = empty
  normal u t = t

  -- the pieces of a sequence
  pub normal_pieces : Bool → Trees → List Tree
  normal_pieces u no_trees = []
  normal_pieces u (more_trees t ts) = pieces_of t (normal u t) ++ normal_pieces u ts

  pub normals : Bool → Trees → List Tree
  normals u no_trees = []
  normals u (more_trees t ts) = normal u t ∷ normals u ts
