-- The texts that a caller in C gets: of a tree, and of a kind of error.
use Rattle.std.specs.Prelude.{◌≡◌, ◌<◌, ◌≤◌, ◌⊎◌, ℕ, List, [], true, chars, encode_utf8_all}
use Rattle.fancy_lex.specs.Located.{Kind, kind_text, general_parse_error, invalid_escape, unknown_flag}
use Rattle.fancy_lex.specs.Located.{invalid_group_name_backref}
use Rattle.fancy_lex.specs.Text.{Text}
use Rattle.fancy_lex.specs.declared.flags.Flags.{Flags}
use Rattle.fancy_grammar.specs.GroupInfo.{GroupInfo}
use Rattle.fancy_grammar.specs.Pattern.{pattern_text}
use Rattle.fancy_grammar.specs.Printable.{printable}
use Rattle.fancy_grammar.specs.Printed.{printed}
use Rattle.fancy_grammar.specs.ReadAs.{IsReadAs}
use Rattle.fancy_grammar.specs.ReadBack.{IsReadBack}
use Rattle.fancy_grammar.specs.Tree.{Tree}
use Rattle.fancy_syntax.specs.declared.print.TheConstants.{OPERAND}
use Rattle.fancy_c.specs.CallResult.{number_of_kind, IsTreeOfBytes}
use Rattle.fancy_c.specs.declared.call_result.TheConstants.{ERROR_NONE, ERROR_INVALID_GROUP_NAME_BACKREF}

-- the number is that of a precedence
abbrev pub NamesPrecedence : ℕ → Type 0
NamesPrecedence n = n ≤ OPERAND

-- the tree is printable, the bytes w are its text at the precedence, and they are read as its normal form
pub record IsText (t : Tree) (precedence : ℕ) (w : List ℕ) : Type 0 where
  pub printable_is : printable t ≡ true
  pub is : w ≡ encode_utf8_all (printed t precedence)
  pub reads_back : IsReadBack t precedence (chars w)

-- the bytes have a tree, and w is its text
abbrev pub IsTextOfBytes : Flags → List ℕ → ℕ → List ℕ → Type 0
IsTextOfBytes f bytes precedence w = (t : Tree) × (m : GroupInfo) × IsTreeOfBytes f bytes t m × IsText t precedence w

-- the bytes w are the text that is written for a tree with its group information, and they are read as that tree with
-- it
pub record IsPatternText (f : Flags) (t : Tree) (m : GroupInfo) (w : List ℕ) : Type 0 where
  pub is : w ≡ encode_utf8_all (pattern_text f t m)
  pub reads_as : IsReadAs f (chars w) t m

-- the bytes have a tree, and w is what is written for it
abbrev pub IsPatternTextOfBytes : Flags → List ℕ → List ℕ → Type 0
IsPatternTextOfBytes f bytes w = (t : Tree) × (m : GroupInfo) × IsTreeOfBytes f bytes t m × IsPatternText f t m w

-- the text that a kind of error carries, which its message ends with; empty if it carries none
abbrev pub carried : Kind → Text
carried (general_parse_error s) = s
carried (invalid_escape s) = s
carried (unknown_flag s) = s
carried (invalid_group_name_backref s) = s
carried _ = []

-- the number is that of a kind
abbrev pub NamesKind : ℕ → Type 0
NamesKind n = (ERROR_NONE < n) × (n ≤ ERROR_INVALID_GROUP_NAME_BACKREF)

-- w is the message of the kind with this number, carrying no text; or it is empty, and the number is that of no kind
abbrev pub IsErrorText : ℕ → List ℕ → Type 0
IsErrorText n w = ((k : Kind) × (number_of_kind k ≡ n) × (carried k ≡ []) × (w ≡ kind_text k))
    ⊎ ((NamesKind n → ⊥) × (w ≡ []))
