-- The byte before a position.
use Rattle.std.proofs.Common.{◌≡◌, ℕ, ◌-◌, ◌<◌, List, false, nat_eq, chars, length, arith, get_or}
use Rattle.std.specs.Str.{IsUtf8}
use Rattle.std.proofs.lemmas.List.{get_or_past}
use Rattle.std.proofs.lemmas.Str.{encodes-chars}
use Prim.Native.Char.{code}
use Rattle.fancy_grammar.specs.Written.{is_after_backslash}

pub after_position : (bs : List ℕ) (position : ℕ) → IsUtf8 bs → 0 < position →
    nat_eq (get_or bs (position - 1) 0) (code "\\") ≡ is_after_backslash (chars bs) position
after_position bs position u h = rw (encodes-chars bs u) (grind arith)

pub after_end : (bs : List ℕ) (position : ℕ) → IsUtf8 bs → length bs < position →
    false ≡ is_after_backslash (chars bs) position
after_end bs position u h = rw (encodes-chars bs u, get_or_past bs (position - 1) 0 (omega arith)) (grind arith)
