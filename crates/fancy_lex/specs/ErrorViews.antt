-- Errors in code: their kinds, and how they are displayed.
use Rattle.std.specs.Prelude.{◌≡◌, ◌≤◌, ℕ, Bool, false, List, ◌++◌, codes, string_bytes, chars, ⊤}
use Rattle.std.specs.Fmt.{decimal}
use Rattle.fancy_lex.specs.Located.{Kind, general_parse_error, unclosed_open_paren, invalid_repeat, recursion_exceeded}
use Rattle.fancy_lex.specs.Located.{trailing_backslash, invalid_escape, unclosed_unicode_name, invalid_hex}
use Rattle.fancy_lex.specs.Located.{invalid_codepoint_value, invalid_class, unknown_flag}
use Rattle.fancy_lex.specs.Located.{changing_unicode_mode_unsupported, invalid_backref, target_not_repeatable}
use Rattle.fancy_lex.specs.Located.{invalid_group_name, invalid_group_name_backref, kind_text, carries_text}
use Rattle.fancy_lex.specs.declared.error.Error.{Error}
use Rattle.fancy_lex.specs.declared.error.Error.TheVariants.{ParseError, OutOfMemory}
use Rattle.fancy_lex.specs.declared.error.ReadError.{ReadError}
use Rattle.fancy_lex.specs.declared.error.ReadError.TheVariants as inside
use Rattle.fancy_lex.specs.declared.error.ParseError as declared
use Rattle.fancy_lex.specs.declared.error.ParseError.TheVariants as code
use Rattle.fancy_lex.specs.Text.{Text, bytes, position_at}

-- the kind of the code's value
abbrev pub kind_of : declared.ParseError → Kind
kind_of (code.GeneralParseError s) = general_parse_error (chars (string_bytes s))
kind_of code.UnclosedOpenParen = unclosed_open_paren
kind_of code.InvalidRepeat = invalid_repeat
kind_of code.RecursionExceeded = recursion_exceeded
kind_of code.TrailingBackslash = trailing_backslash
kind_of (code.InvalidEscape s) = invalid_escape (chars (string_bytes s))
kind_of code.UnclosedUnicodeName = unclosed_unicode_name
kind_of code.InvalidHex = invalid_hex
kind_of code.InvalidCodepointValue = invalid_codepoint_value
kind_of code.InvalidClass = invalid_class
kind_of (code.UnknownFlag s) = unknown_flag (chars (string_bytes s))
kind_of code.ChangingUnicodeModeUnsupported = changing_unicode_mode_unsupported
kind_of code.InvalidBackref = invalid_backref
kind_of code.TargetNotRepeatable = target_not_repeatable
kind_of code.InvalidGroupName = invalid_group_name
kind_of (code.InvalidGroupNameBackref s) = invalid_group_name_backref (chars (string_bytes s))

-- the bytes that an error is displayed as
abbrev pub error_text : Error → List ℕ
error_text (ParseError position kind) =
    codes "Parsing error at position " ++ (decimal position ++ (codes ": " ++ kind_text (kind_of kind)))
error_text OutOfMemory = codes "out of memory"

-- both are the same kind at the same position, or both are out of memory
abbrev pub SameError : Error → Error → Type 0
SameError (ParseError p k) (ParseError q l) = (p ≡ q) × (kind_of k ≡ kind_of l)
SameError OutOfMemory OutOfMemory = Unit {0}
SameError _ _ = ⊥

-- P holds of the error's kind and reach, or M holds if memory ran out
abbrev pub MatchReadError : ReadError → Type 0 → (Kind → ℕ → Type 0) → Type 0
MatchReadError inside.OutOfMemory M P = M
MatchReadError (inside.At p k) M P = P (kind_of k) p

-- memory ran out, or P holds of the error's kind and reach
abbrev pub IfFailed : ReadError → (Kind → ℕ → Type 0) → Type 0
IfFailed e P = MatchReadError e ⊤ P

-- memory ran out, or the reach of the error is at most m
abbrev pub LiesWithin : ℕ → ReadError → Type 0
LiesWithin m e = IfFailed e (λ k p. p ≤ m)

-- the error of a reader in this pattern
abbrev pub error_in : Text → ReadError → Error
error_in t (inside.At p k) = ParseError (position_at (bytes t) p) k
error_in t inside.OutOfMemory = OutOfMemory

-- whether the error's kind carries a text; only the clone of such an error allocates
abbrev pub error_carries_text : Error → Bool
error_carries_text (ParseError position kind) = carries_text (kind_of kind)
error_carries_text OutOfMemory = false
