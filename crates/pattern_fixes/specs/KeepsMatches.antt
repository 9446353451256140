-- A fix keeps what a pattern matches.
use Rattle.fancy_lex.specs.Text.{Text}
use Rattle.fancy_lex.specs.declared.flags.Flags.{Flags}
use Rattle.fancy_grammar.specs.GroupInfo.{GroupInfo}
use Rattle.fancy_grammar.specs.ParseResult.{IsTreeOf}
use Rattle.fancy_grammar.specs.Tree.{Tree}
use Rattle.pattern_matches.specs.Defined.{IsDefined}
use Rattle.pattern_matches.specs.SameMatches.{SameMatches}

-- The text is parsed under the flags, with this group information, as a tree that matches the same parts of each text as
-- t, if what t matches is defined. Which of the parts an engine reports is not said.
pub record KeepsMatches (f : Flags) (text : Text) (t : Tree) (m : GroupInfo) : Type 0 where
  pub tree : Tree
  pub parsed : IsTreeOf f text tree m
  pub defined : IsDefined f.unicode t → IsDefined f.unicode tree
  pub same : IsDefined f.unicode t → SameMatches f.unicode t tree
