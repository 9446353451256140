-- The names of the kinds of errors.
use Rattle.std.specs.Prelude.{ℕ, List, codes}
use Rattle.fancy_lex.specs.Located.{Kind}
use Rattle.fancy_lex.specs.Located as kind

-- the name of a kind, as `ParseError` has it
abbrev pub code_of : Kind → List ℕ
code_of (kind.general_parse_error s) = codes "GeneralParseError"
code_of kind.unclosed_open_paren = codes "UnclosedOpenParen"
code_of kind.invalid_repeat = codes "InvalidRepeat"
code_of kind.recursion_exceeded = codes "RecursionExceeded"
code_of kind.trailing_backslash = codes "TrailingBackslash"
code_of (kind.invalid_escape s) = codes "InvalidEscape"
code_of kind.unclosed_unicode_name = codes "UnclosedUnicodeName"
code_of kind.invalid_hex = codes "InvalidHex"
code_of kind.invalid_codepoint_value = codes "InvalidCodepointValue"
code_of kind.invalid_class = codes "InvalidClass"
code_of (kind.unknown_flag s) = codes "UnknownFlag"
code_of kind.changing_unicode_mode_unsupported = codes "ChangingUnicodeModeUnsupported"
code_of kind.invalid_backref = codes "InvalidBackref"
code_of kind.target_not_repeatable = codes "TargetNotRepeatable"
code_of kind.invalid_group_name = codes "InvalidGroupName"
code_of (kind.invalid_group_name_backref s) = codes "InvalidGroupNameBackref"
