-- Errors: a kind and a reach, independent of the code.
use Rattle.std.specs.Prelude.{ℕ, Bool, true, false, List, ◌++◌, codes, encode_utf8_all}
use Rattle.fancy_lex.specs.Text.{Text}

-- the kinds of errors, with their texts as lists of characters
pub data Kind : Type 0 where
  general_parse_error : Text → Kind
  unclosed_open_paren : Kind
  invalid_repeat : Kind
  recursion_exceeded : Kind
  trailing_backslash : Kind
  invalid_escape : Text → Kind
  unclosed_unicode_name : Kind
  invalid_hex : Kind
  invalid_codepoint_value : Kind
  invalid_class : Kind
  unknown_flag : Text → Kind
  changing_unicode_mode_unsupported : Kind
  invalid_backref : Kind
  target_not_repeatable : Kind
  invalid_group_name : Kind
  invalid_group_name_backref : Text → Kind

-- the reach of the error's position, and its kind
pub record Located : Type 0 where
  pub reach : ℕ
  pub kind : Kind

-- the bytes that a kind is displayed as
abbrev pub kind_text : Kind → List ℕ
kind_text (general_parse_error s) = codes "General parsing error: " ++ encode_utf8_all s
kind_text unclosed_open_paren = codes "Opening parenthesis without closing parenthesis"
kind_text invalid_repeat = codes "Invalid repeat syntax"
kind_text recursion_exceeded = codes "Pattern too deeply nested"
kind_text trailing_backslash = codes "Backslash without following character"
kind_text (invalid_escape s) = codes "Invalid escape: " ++ encode_utf8_all s
kind_text unclosed_unicode_name = codes "Unicode escape not closed"
kind_text invalid_hex = codes "Invalid hex escape"
kind_text invalid_codepoint_value = codes "Invalid codepoint for hex or unicode escape"
kind_text invalid_class = codes "Invalid character class"
kind_text (unknown_flag s) = codes "Unknown group flag: " ++ encode_utf8_all s
kind_text changing_unicode_mode_unsupported = codes "Changing Unicode mode inline is not supported"
kind_text invalid_backref = codes "Invalid back reference"
kind_text target_not_repeatable = codes "Target of repeat operator is invalid"
kind_text invalid_group_name = codes "Could not parse group name"
kind_text (invalid_group_name_backref s) = codes "Invalid group name in back reference: " ++ encode_utf8_all s

-- whether the kind carries a text; only the clone of such a kind allocates
abbrev pub carries_text : Kind → Bool
carries_text (general_parse_error s) = true
carries_text (invalid_escape s) = true
carries_text (unknown_flag s) = true
carries_text (invalid_group_name_backref s) = true
carries_text _ = false
