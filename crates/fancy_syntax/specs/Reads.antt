-- How the parser's own results correspond to the grammar's.
use Rattle.std.specs.Prelude.{◌≡◌, Result, MatchResult}
use Rattle.fancy_lex.specs.Text.{Text}
use Rattle.fancy_lex.specs.declared.error.ReadError.{ReadError}
use Rattle.fancy_lex.specs.declared.flags.Flags.{Flags}
use Rattle.fancy_grammar.specs.Groups.{groups_of, groups_in}
use Rattle.fancy_grammar.specs.Ranks.{numbered_openings, only_named}
use Rattle.fancy_grammar.specs.Errors.{IsErrorAmong}
use Rattle.fancy_grammar.specs.Grammar.{DerivesTree, Whole}
use Rattle.fancy_grammar.specs.Items.{items, openings}
use Rattle.fancy_grammar.specs.Tree.{Tree}
use Rattle.fancy_syntax.specs.Decided.{decided}
use Rattle.fancy_syntax.specs.Found.{has_unresolved}
use Rattle.fancy_syntax.specs.View.{view}
use Rattle.fancy_syntax.specs.declared.raw_tree.RawTree.{RawTree}

-- the code's raw tree is r with its groups decided, and what is known of these is true, under the flags that the caller
-- gives
pub record IsRawTree (f : Flags) (raw : RawTree) (r : Tree) : Type 0 where
  pub same : view raw.expr ≡ decided f.ignore_numbered_groups r
  pub named : raw.named ≡ only_named f (openings r)
  pub groups : groups_of raw.groups ≡ groups_in (numbered_openings f (openings r))
  pub unresolved : raw.unresolved ≡ has_unresolved f.ignore_numbered_groups (items r)

-- the raw tree of a whole text, of which P holds, or its error
abbrev pub ReadsWhole : Result RawTree ReadError → Flags → Text → (Tree → Type 0) → Type 0
ReadsWhole result f text P =
    MatchResult result (λ raw. (r : Tree) × DerivesTree f text r × IsRawTree f raw r × P r)
    (λ e. IsErrorAmong e (Whole f text))
