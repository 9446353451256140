-- The leaves of escapes, in code.
use Rattle.std.specs.Prelude.{[], ◌∷◌}
use Prim.Native.Char.{code}
use Rattle.fancy_lex.specs.Escaped.{Escape, literal, literal_bytes, any, assertion, general_newline, keep_out}
use Rattle.fancy_lex.specs.Escaped.{continue_from_previous_match_end, delegate, backref, subroutine_call}
use Rattle.fancy_lex.specs.Escaped.{hex_class, negated_hex_class}
use Rattle.fancy_lex.specs.NameViews.{view_reference, view_call}
use Rattle.fancy_lex.specs.Property.{property_text}
use Rattle.fancy_lex.specs.PropertyViews.{view_property}
use Rattle.fancy_lex.specs.Text.{Text}
use Rattle.fancy_lex.specs.declared.escape.DelegateText as declared_text
use Rattle.fancy_lex.specs.declared.escape.DelegateText.TheVariants as text
use Rattle.fancy_lex.specs.declared.escape.Escaped as declared
use Rattle.fancy_lex.specs.declared.escape.Escaped.TheVariants as variants

-- the characters of a delegate's text
abbrev pub delegate_text : declared_text.DelegateText → Text
delegate_text (text.Letter c) = code "\\" ∷ c ∷ []
delegate_text text.HexDigit = hex_class
delegate_text text.NotHexDigit = negated_hex_class
delegate_text (text.Property property unicode inside) = property_text unicode inside (view_property property)

-- the leaf of the code's value
abbrev pub escape_of : declared.Escaped → Escape
escape_of (variants.Literal val casei) = literal val casei
escape_of (variants.LiteralBytes byte) = literal_bytes byte
escape_of (variants.Any newline crlf) = any newline crlf
escape_of (variants.Assertion a) = assertion a
escape_of (variants.GeneralNewline unicode) = general_newline unicode
escape_of variants.KeepOut = keep_out
escape_of variants.ContinueFromPreviousMatchEnd = continue_from_previous_match_end
escape_of (variants.Delegate inner casei) = delegate (delegate_text inner) casei
escape_of (variants.Backref reference casei) = backref (view_reference reference) casei
escape_of (variants.SubroutineCall call) = subroutine_call (view_call call)
