-- What a call from C returns for the bytes of a pattern.
use Rattle.std.specs.Prelude.{◌≡◌, ℕ, ◌+◌, ◌⊎◌, List, length, chars}
use Rattle.std.specs.Str.{IsUtf8, IsCharBoundary}
use Rattle.std.specs.Str.Lossy.{utf8_valid_len}
use Rattle.fancy_lex.specs.Located.{Kind, kind_text, general_parse_error, unclosed_open_paren, invalid_repeat}
use Rattle.fancy_lex.specs.ErrorViews.{kind_of}
use Rattle.fancy_lex.specs.Located.{recursion_exceeded, trailing_backslash, invalid_escape, unclosed_unicode_name}
use Rattle.fancy_lex.specs.Located.{invalid_hex}
use Rattle.fancy_lex.specs.Located.{invalid_codepoint_value, invalid_class, unknown_flag}
use Rattle.fancy_lex.specs.Located.{changing_unicode_mode_unsupported}
use Rattle.fancy_lex.specs.Located.{invalid_backref, target_not_repeatable, invalid_group_name}
use Rattle.fancy_lex.specs.Located.{invalid_group_name_backref}
use Rattle.fancy_lex.specs.declared.error.Error.TheVariants.{ParseError, OutOfMemory}
use Rattle.fancy_lex.specs.declared.flags.Flags.{Flags}
use Rattle.fancy_grammar.specs.ParseResult.{IsTreeOf, IsErrorOf}
use Rattle.fancy_grammar.specs.Promises.{IsParsed}
use Rattle.fancy_grammar.specs.GroupInfo.{GroupInfo}
use Rattle.fancy_grammar.specs.Tree.{Tree}
use Rattle.fancy_c.specs.declared.call_result.TheConstants.{STATUS_NOT_UTF8, STATUS_REFUSED, STATUS_OUT_OF_MEMORY}
use Rattle.fancy_c.specs.declared.call_result.TheConstants.{ERROR_NONE, ERROR_GENERAL_PARSE_ERROR}
use Rattle.fancy_c.specs.declared.call_result.TheConstants.{ERROR_UNCLOSED_OPEN_PAREN}
use Rattle.fancy_c.specs.declared.call_result.TheConstants.{ERROR_INVALID_REPEAT, ERROR_RECURSION_EXCEEDED}
use Rattle.fancy_c.specs.declared.call_result.TheConstants.{ERROR_TRAILING_BACKSLASH, ERROR_INVALID_ESCAPE}
use Rattle.fancy_c.specs.declared.call_result.TheConstants.{ERROR_UNCLOSED_UNICODE_NAME, ERROR_INVALID_HEX}
use Rattle.fancy_c.specs.declared.call_result.TheConstants.{ERROR_INVALID_CODEPOINT_VALUE, ERROR_INVALID_CLASS}
use Rattle.fancy_c.specs.declared.call_result.TheConstants.{ERROR_UNKNOWN_FLAG, ERROR_CHANGING_UNICODE_MODE_UNSUPPORTED}
use Rattle.fancy_c.specs.declared.call_result.TheConstants.{ERROR_INVALID_BACKREF, ERROR_TARGET_NOT_REPEATABLE}
use Rattle.fancy_c.specs.declared.call_result.TheConstants.{ERROR_INVALID_GROUP_NAME, ERROR_INVALID_GROUP_NAME_BACKREF}
use Rattle.fancy_c.specs.declared.built.RowsError.{RowsError}
use Rattle.fancy_c.specs.declared.built.RowsError.TheVariants as rows
use Rattle.fancy_c.specs.declared.call_result.TheConstants.{STATUS_NO_TREE}
use Rattle.fancy_c.specs.declared.call_result.CallResult.{CallResult}
use Rattle.fancy_c.specs.declared.read.BytesRefusal.{BytesRefusal}
use Rattle.fancy_c.specs.declared.read.BytesRefusal.TheVariants.{NoUtf8, Parse}

-- the number of a kind
abbrev pub number_of_kind : Kind → ℕ
number_of_kind (general_parse_error s) = ERROR_GENERAL_PARSE_ERROR
number_of_kind unclosed_open_paren = ERROR_UNCLOSED_OPEN_PAREN
number_of_kind invalid_repeat = ERROR_INVALID_REPEAT
number_of_kind recursion_exceeded = ERROR_RECURSION_EXCEEDED
number_of_kind trailing_backslash = ERROR_TRAILING_BACKSLASH
number_of_kind (invalid_escape s) = ERROR_INVALID_ESCAPE
number_of_kind unclosed_unicode_name = ERROR_UNCLOSED_UNICODE_NAME
number_of_kind invalid_hex = ERROR_INVALID_HEX
number_of_kind invalid_codepoint_value = ERROR_INVALID_CODEPOINT_VALUE
number_of_kind invalid_class = ERROR_INVALID_CLASS
number_of_kind (unknown_flag s) = ERROR_UNKNOWN_FLAG
number_of_kind changing_unicode_mode_unsupported = ERROR_CHANGING_UNICODE_MODE_UNSUPPORTED
number_of_kind invalid_backref = ERROR_INVALID_BACKREF
number_of_kind target_not_repeatable = ERROR_TARGET_NOT_REPEATABLE
number_of_kind invalid_group_name = ERROR_INVALID_GROUP_NAME
number_of_kind (invalid_group_name_backref s) = ERROR_INVALID_GROUP_NAME_BACKREF

-- the bytes are the UTF-8 of a pattern that has this tree with this group information, no other tree and no error
pub record IsTreeOfBytes (f : Flags) (bytes : List ℕ) (t : Tree) (m : GroupInfo) : Type 0 where
  pub utf8 : IsUtf8 bytes
  pub parsed : IsParsed f bytes t m

-- The bytes are the UTF-8 of a pattern that has this error, no other error and no tree. Its position is one past the
-- end, or one at which the pattern may be split.
pub record IsErrorOfBytes (f : Flags) (bytes : List ℕ) (k : Kind) (offset : ℕ) : Type 0 where
  pub utf8 : IsUtf8 bytes
  pub error : IsErrorOf f (chars bytes) k offset
  pub only : (j : Kind) (q : ℕ) → IsErrorOf f (chars bytes) j q → (j ≡ k) × (q ≡ offset)
  pub no_tree : (t : Tree) (m : GroupInfo) → IsTreeOf f (chars bytes) t m → ⊥
  pub positioned : (offset ≡ length bytes + 1) ⊎ IsCharBoundary bytes offset

-- the bytes are not UTF-8, and the position is the length of the longest prefix that is
abbrev pub IsNoUtf8 : List ℕ → ℕ → Type 0
IsNoUtf8 bytes offset = (¬ IsUtf8 bytes) × (offset ≡ utf8_valid_len bytes)

-- the bytes are refused for this reason: they are not UTF-8, or the pattern is invalid; or memory ran out
abbrev pub IsRefusalOf : BytesRefusal → Flags → List ℕ → Type 0
IsRefusalOf (NoUtf8 offset) f bytes = IsNoUtf8 bytes offset
IsRefusalOf (Parse (ParseError offset kind)) f bytes = IsErrorOfBytes f bytes (kind_of kind) offset
IsRefusalOf (Parse OutOfMemory) f bytes = Unit {0}

-- the result has the kind and the position, and the number of bytes of the kind's message
pub record IsReported (a : CallResult) (offset : ℕ) (k : Kind) : Type 0 where
  pub kind : a.kind ≡ number_of_kind k
  pub position : a.position ≡ offset
  pub size : a.size ≡ length (kind_text k)

-- the result that is only a status, with no error and no text
abbrev pub result_of_status : ℕ → CallResult
result_of_status s = record { status = s; kind = ERROR_NONE; position = 0; size = 0 }

-- the result for bytes that are refused
abbrev pub result_of : BytesRefusal → CallResult
result_of (NoUtf8 p) = record { status = STATUS_NOT_UTF8; kind = ERROR_NONE; position = p; size = 0 }
result_of (Parse (ParseError p k)) =
    record { status = STATUS_REFUSED; kind = number_of_kind (kind_of k); position = p; size = 0 }
result_of (Parse OutOfMemory) = record { status = STATUS_OUT_OF_MEMORY; kind = ERROR_NONE; position = 0; size = 0 }

-- the result for rows of which no tree is built
abbrev pub result_of_rows : RowsError → CallResult
result_of_rows rows.NoTree = record { status = STATUS_NO_TREE; kind = ERROR_NONE; position = 0; size = 0 }
result_of_rows rows.OutOfMemory =
    record { status = STATUS_OUT_OF_MEMORY; kind = ERROR_NONE; position = 0; size = 0 }
