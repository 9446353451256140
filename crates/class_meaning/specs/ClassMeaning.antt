-- What the matching engine makes of a class, in the words of the grammar of `regex_syntax`.
use Rattle.std.specs.Prelude.{◌≡◌, ℕ, ◌<◌, ◌≤◌, ◌⊎◌, IsCharBoundary, ⊤, Bool, List, None, IsSome, IsSomeAnd, IfSome}
use Rattle.regex_class.specs.Ranges.{Range}
use Rattle.regex_hir.specs.Re.{char_in}
use Rattle.regex_syntax.specs.declared.Config.{Config}
use Rattle.regex_syntax.specs.declared.error.ErrorKind.{ErrorKind}
use Rattle.regex_syntax.specs.declared.error.ErrorKind.TheVariants.{OutOfMemory, NestLimitExceeded}
use Rattle.regex_syntax.specs.Captures.{SameCaptures}
use Rattle.regex_syntax.specs.Grammar.{read}
use Rattle.regex_syntax.specs.Reading.{Text}
use Rattle.regex_syntax.specs.Verdict.{default_config, default_flags}
use Rattle.class_meaning.specs.declared.class_text.ClassMeaning.{ClassMeaning}
use Rattle.class_meaning.specs.declared.class_text.ClassMeaning.TheVariants.{Characters, Refused, NotOneCharacter}

-- how the engine reads a class, with Unicode or not, and ignoring case or not
abbrev pub class_config : Bool → Bool → Config
class_config unicode casei =
    record default_config { flags = record default_flags { unicode = unicode; case_insensitive = casei } }

-- how the engine reads a dot
abbrev pub dot_config : Bool → Bool → Bool → Config
dot_config unicode newline crlf =
    record default_config { flags = record default_flags { unicode = unicode; dot_matches_new_line = newline; crlf = crlf } }

-- the text is a pattern that matches one character of the ranges, and nothing else
unfoldable pub MatchesOneOf : Config → Text → List Range → Type 0
MatchesOneOf config text rs = IsSomeAnd (read config text) (λ (re, _). SameCaptures (char_in rs) re.value)

-- the text is no pattern, or nests deeper than the limit
unfoldable pub IsRefusedAs : Config → Text → ErrorKind → Type 0
IsRefusedAs config text kind =
    (read config text ≡ None) ⊎ ((kind ≡ NestLimitExceeded) × IfSome (read config text) (λ (re, _). config.nest_limit < re.depth))

-- what the engine makes of the text
abbrev pub IsMeaningOf : Config → Text → ClassMeaning → Type 0
IsMeaningOf config text (Characters set) = MatchesOneOf config text set.class.ranges.items
IsMeaningOf config text (Refused error) = (error.kind ≡ OutOfMemory → ⊥) × IsRefusedAs config text error.kind
IsMeaningOf config text NotOneCharacter = IsSome (read config text)

-- the part of the text that an error names begins and ends between characters
abbrev pub HasSpanIn : List ℕ → ClassMeaning → Type 0
HasSpanIn text (Characters set) = ⊤
HasSpanIn text (Refused error) =
    (error.span.start ≤ error.span.end) × IsCharBoundary text error.span.start × IsCharBoundary text error.span.end
HasSpanIn text NotOneCharacter = ⊤
