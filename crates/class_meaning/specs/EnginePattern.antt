-- The pattern that the matching engine is given for a node that may match one character.
use Rattle.std.specs.Prelude.{Bool, Option, Some, None, codes}
use Rattle.fancy_grammar.specs.Tree.{Tree, delegate, literal, any}
use Rattle.regex_syntax.specs.declared.Config.{Config}
use Rattle.regex_syntax.specs.Reading.{Text}
use Rattle.regex_syntax.specs.Verdict.{escaped_text}
use Rattle.class_meaning.specs.ClassMeaning.{class_config, dot_config}

-- for a class its text, for a literal its text with a backslash before each meta character, and for a dot a dot
abbrev pub engine_pattern : Bool → Tree → Option (Config × Text)
engine_pattern unicode (delegate text casei) = Some (class_config unicode casei, text)
engine_pattern unicode (literal text casei) = Some (class_config unicode casei, escaped_text text)
engine_pattern unicode (any newline crlf) = Some (dot_config unicode newline crlf, codes ".")
engine_pattern unicode _ = None
