-- How a reference is written: as a number, or not.
use Rattle.std.specs.Prelude.{ℕ, ◌-◌, Bool, true, false, ◌&&◌, ◌==◌, nat_lt, encode_utf8_all, slice_index}
use Prim.Native.Char.{code}
use Rattle.fancy_lex.specs.Target.{Target, by_number}
use Rattle.fancy_lex.specs.Text.{Text}
use Rattle.fancy_grammar.specs.Meaning.{Role, back_reference, call, condition}

-- whether there is a backslash directly before the position
abbrev pub is_after_backslash : Text → ℕ → Bool
is_after_backslash text position = nat_lt 0 position && slice_index (encode_utf8_all text) (position - 1) == code "\\"

-- whether a reference counts as numeric: a call by number, and a back reference by number directly after its backslash
abbrev pub is_numeric : Text → ℕ → Role → Target → Bool
is_numeric text position role (by_number n) =
    elim role [ call ↦ true | back_reference ↦ is_after_backslash text position | condition ↦ false ]
is_numeric text position role _ = false
