-- What no node of a tree has, as an array: a row for each part.
use Rattle.std.specs.Prelude.{ℕ, List}
use Rattle.fancy_lex.specs.declared.flags.Flags.{Flags}
use Rattle.fancy_grammar.specs.GroupInfo.{GroupInfo}
use Rattle.fancy_grammar.specs.Tree.{Tree}
use Rattle.fancy_grammar.specs.Promises.{AreParsedTrivia}
use Rattle.fancy_grammar.specs.Trivia.{Trivium, TriviumKind, comment, line_comment, flags, opening, closing}
use Rattle.fancy_grammar.specs.Trivia.{dropped, inner_comment, inner_line_comment}
use Rattle.fancy_syntax.specs.declared.span.Span.{Span}
use Rattle.fancy_c.specs.CallResult.{IsTreeOfBytes}
use Rattle.fancy_lex.specs.Flags.{bits_of}
use Rattle.fancy_c.specs.declared.trivia.TheConstants as number
use Rattle.fancy_c.specs.declared.trivia.TriviumRow.{TriviumRow}

-- the number of a kind
abbrev pub kind_number : TriviumKind → ℕ
kind_number comment = number.TRIVIUM_COMMENT
kind_number line_comment = number.TRIVIUM_LINE_COMMENT
kind_number (flags before after) = number.TRIVIUM_INLINE_FLAGS
kind_number (opening around inside) = number.TRIVIUM_OPENING
kind_number closing = number.TRIVIUM_CLOSING
kind_number dropped = number.TRIVIUM_DROPPED
kind_number inner_comment = number.TRIVIUM_INNER_COMMENT
kind_number inner_line_comment = number.TRIVIUM_INNER_LINE_COMMENT

-- the bits of the flags before inline flags or around a flag group
abbrev pub flags_before : TriviumKind → ℕ
flags_before (flags before after) = bits_of before
flags_before (opening around inside) = bits_of around
flags_before comment = 0
flags_before line_comment = 0
flags_before closing = 0
flags_before dropped = 0
flags_before inner_comment = 0
flags_before inner_line_comment = 0

-- the bits of the flags after inline flags or in a flag group
abbrev pub flags_after : TriviumKind → ℕ
flags_after (flags before after) = bits_of after
flags_after (opening around inside) = bits_of inside
flags_after comment = 0
flags_after line_comment = 0
flags_after closing = 0
flags_after dropped = 0
flags_after inner_comment = 0
flags_after inner_line_comment = 0

abbrev pub row : Trivium → TriviumRow
row x = record {
  start = x.span.start;
  stop = x.span.end;
  kind = kind_number x.kind;
  flags_before = flags_before x.kind;
  flags_after = flags_after x.kind;
}

-- a row without flags
abbrev pub bare_row : Span → ℕ → TriviumRow
bare_row s k = record { start = s.start; stop = s.end; kind = k; flags_before = 0; flags_after = 0 }

-- the bytes are the UTF-8 of a pattern with a tree, and this is what no node of it has, in the order of the pattern
pub record AreTriviaOfBytes (f : Flags) (bytes : List ℕ) (l : List Trivium) : Type 0 where
  pub tree : (t : Tree) × (m : GroupInfo) × IsTreeOfBytes f bytes t m
  pub parsed : AreParsedTrivia f bytes l
