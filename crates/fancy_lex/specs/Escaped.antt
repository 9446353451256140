-- The leaves of escapes.
use Rattle.std.specs.Prelude.{ℕ, Bool, codes}
use Rattle.fancy_lex.specs.Referred.{Reference, Call}
use Rattle.fancy_lex.specs.Text.{Text}
use Rattle.fancy_lex.specs.declared.escape.Assertion.{Assertion}

-- a leaf of the tree, with texts as lists of characters; the last flag of a literal, a delegate and a back reference is
-- `casei`
pub data Escape : Type 0 where
  literal : ℕ → Bool → Escape
  literal_bytes : ℕ → Escape
  any : Bool → Bool → Escape
  assertion : Assertion → Escape
  general_newline : Bool → Escape
  keep_out : Escape
  continue_from_previous_match_end : Escape
  delegate : Text → Bool → Escape
  backref : Reference → Bool → Escape
  subroutine_call : Call → Escape

-- the text of a delegate for `\h`
abbrev pub hex_class : Text
hex_class = codes "[0-9A-Fa-f]"

-- the text of a delegate for `\H`
abbrev pub negated_hex_class : Text
negated_hex_class = codes "[^0-9A-Fa-f]"
