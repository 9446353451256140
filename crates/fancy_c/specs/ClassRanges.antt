-- The characters of a class, or of another node that matches one character, as ranges.
use Rattle.std.specs.Prelude.{◌≡◌, ℕ, Bool, true, ◌==◌, ◌||◌, List, IsSome, IsSomeAnd, IfSome}
use Rattle.fancy_lex.specs.declared.flags.Flags.{Flags}
use Rattle.fancy_grammar.specs.Tree.{Tree}
use Rattle.regex_class.specs.Ranges.{Range, in_ranges, IsCanonical}
use Rattle.regex_hir.specs.Text.{is_scalar}
use Rattle.regex_syntax.specs.declared.Config.{Config}
use Rattle.regex_syntax.specs.declared.error.ErrorKind.{ErrorKind}
use Rattle.regex_syntax.specs.Grammar.{read}
use Rattle.regex_syntax.specs.Reading.{Text}
use Rattle.class_meaning.specs.ClassMeaning.{class_config, MatchesOneOf, IsRefusedAs}
use Rattle.class_meaning.specs.EnginePattern.{engine_pattern}
use Rattle.fancy_c.specs.RowTree.{IsRowOf}
use Rattle.fancy_c.specs.declared.class_ranges.CharacterRange.{CharacterRange}
use Rattle.fancy_c.specs.declared.node.Node.{Node}
use Rattle.fancy_c.specs.declared.node.TheConstants.{NODE_ANY, NODE_LITERAL, NODE_DELEGATE}

-- the row of a range
abbrev pub row : Range → CharacterRange
row r = record { first = r.0; last = r.1 }

-- The engine reads the text as a pattern that matches one character of the ranges, and nothing else. The ranges are in
-- ascending order, with a gap between any two, and contain only characters.
pub record AreRangesOf (config : Config) (text : Text) (rs : List Range) : Type 0 where
  pub matches : MatchesOneOf config text rs
  pub canonical : IsCanonical rs
  pub characters : (c : ℕ) → in_ranges rs c ≡ true → is_scalar c ≡ true

-- the engine refuses the text: it is no pattern, or nests deeper than the limit
abbrev pub IsRefused : Config → Text → Type 0
IsRefused config text = (k : ErrorKind) × IsRefusedAs config text k

-- the engine reads the text
abbrev pub IsPattern : Config → Text → Type 0
IsPattern config text = IsSome (read config text)

-- how the engine reads a class under the flags
abbrev pub config_of : Flags → Config
config_of f = class_config f.unicode f.casei

-- whether a node with this number may match one character
abbrev pub may_match_one : ℕ → Bool
may_match_one kind = ((kind == NODE_ANY) || (kind == NODE_LITERAL)) || (kind == NODE_DELEGATE)

-- the row is that of a node, and the pattern that the engine is given for it is as P says
abbrev pub IsGiven : Flags → List ℕ → Node → (Config → Text → Type 0) → Type 0
IsGiven f texts r P =
    (t : Tree) × IsRowOf texts r t × IsSomeAnd (engine_pattern f.unicode t) (λ (config, text). P config text)

-- the row is that of a node, and the engine is given no pattern for it, or one that it reads
abbrev pub IsRead : Flags → List ℕ → Node → Type 0
IsRead f texts r =
    (t : Tree) × IsRowOf texts r t × IfSome (engine_pattern f.unicode t) (λ (config, text). IsPattern config text)
