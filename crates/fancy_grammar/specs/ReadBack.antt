-- What is parsed when the text that was printed for a tree is read again.
use Rattle.std.specs.Prelude.{◌≡◌, ℕ, Bool, false, [], length, Option, Some, None}
use Rattle.fancy_lex.specs.Located.{Kind, recursion_exceeded}
use Rattle.fancy_lex.specs.Text.{Text}
use Rattle.fancy_lex.specs.declared.flags.Flags.{Flags}
use Rattle.fancy_grammar.specs.ParseResult.{IsTreeOf, IsErrorOf}
use Rattle.fancy_grammar.specs.ParsedTree.{groups}
use Rattle.fancy_grammar.specs.GroupInfo.{GroupInfo}
use Rattle.fancy_grammar.specs.Tree.{Tree}
use Rattle.fancy_grammar.specs.Normal.{normal, unicode_flags}
use Rattle.fancy_grammar.specs.Over.{Paren, too_deep}

-- the group information of a tree with this many groups, without names and without references
abbrev pub info_of_groups : ℕ → GroupInfo
info_of_groups n = record {
  backrefs = [];
  named_groups = [];
  numeric_capture_group_references = false;
  contains_subroutines = false;
  self_recursive = false;
  total_groups = n;
  out_of_range_backref = None;
  numbered_groups_ignored = false;
}

-- what the parser returns for a text: its tree and group information, or its error and the position
pub data ParseResult : Type 0 where
  read : Tree → GroupInfo → ParseResult
  refused : Kind → ℕ → ParseResult

abbrev pub IsResultOf : Flags → Text → ParseResult → Type 0
IsResultOf f text (read t m) = IsTreeOf f text t m
IsResultOf f text (refused k p) = IsErrorOf f text k p

-- the text has this result, and no other
pub record IsOnlyResult (f : Flags) (text : Text) (a : ParseResult) : Type 0 where
  pub is : IsResultOf f text a
  pub only : (b : ParseResult) → IsResultOf f text b → b ≡ a

-- a tree without references, and its number of groups; or, if a group is too deep, the error at that group
abbrev pub read_or_refused : Tree → Option Paren → ParseResult
read_or_refused t None = read t (info_of_groups (length (groups t)))
read_or_refused t (Some q) = refused recursion_exceeded q.position

-- the result for the text of a printable tree: its normal form, or the error at the first group that is too deep
abbrev pub read_back : Bool → Tree → ℕ → ParseResult
read_back u t p = read_or_refused (normal u t) (too_deep t p)

-- the text has this result and no other, both with no flag and with only FLAG_UNICODE
abbrev pub IsReadBack : Tree → ℕ → Text → Type 0
IsReadBack t p text = (u : Bool) → IsOnlyResult (unicode_flags u) text (read_back u t p)
