-- What is returned for a text besides its tree.
use Rattle.std.specs.Prelude.{map}
use Rattle.fancy_grammar.specs.Groups.{entry_of}
use Rattle.fancy_grammar.specs.GroupInfo.{GroupInfo}
use Rattle.fancy_syntax.specs.declared.tree.ExprTree.{ExprTree}
pub use Rattle.fancy_grammar.specs.ParseResult.{IsTreeOf, IsErrorOf, of_reading, of_resolving, HasTree, HasError}
pub use Rattle.fancy_grammar.specs.ParseResult.{IsOnlyError, IsPositionedIn}

-- the group information in an `ExprTree`
abbrev pub info_of : ExprTree → GroupInfo
info_of t = record {
  backrefs = t.backrefs.keys;
  named_groups = map entry_of t.named_groups.entries;
  numeric_capture_group_references = t.numeric_capture_group_references;
  contains_subroutines = t.contains_subroutines;
  self_recursive = t.self_recursive;
  total_groups = t.total_groups;
  out_of_range_backref = t.out_of_range_backref;
  numbered_groups_ignored = t.numbered_groups_ignored;
}
