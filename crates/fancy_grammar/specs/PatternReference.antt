-- The texts of references, and of what they refer to: names, numbers and distances.
use Rattle.std.specs.Prelude.{ℕ, ◌+◌, ◌-◌, ◌==◌, nat_lt, nat_le, ℤ, pos, negsuc, Bool, false, not, ◌&&◌, ◌||◌, List}
use Rattle.std.specs.Prelude.{[], ◌∷◌, ◌++◌, codes, decimal, find, Option, Some, None, is_some, is_none}
use Rattle.std.specs.Prelude.{if◌then◌else◌}
use Rattle.std.specs.List.{list_any}
use Prim.Native.Char.{code}
use Rattle.fancy_lex.specs.Characters.{◌∈◌, is_among}
use Rattle.fancy_lex.specs.EscapeReference.{is_relative}
use Rattle.fancy_lex.specs.IdReference.{id_reference}
use Rattle.fancy_lex.specs.NumberText.{number_text}
use Rattle.fancy_lex.specs.Reading.{choose}
use Rattle.fancy_lex.specs.Target.{by_number, by_name, relative}
use Rattle.fancy_lex.specs.Text.{Text}
use Rattle.fancy_grammar.specs.Meaning.{last_of}
use Rattle.fancy_grammar.specs.Label.{AstReference, ast_call}
use Rattle.fancy_grammar.specs.GroupInfo.{GroupInfo}

-- ---- names

-- a name with the numbers of its groups
abbrev pub Named : Type 0
Named = Text × List ℕ

-- the name of the group
abbrev pub name_of : GroupInfo → ℕ → Option Named
name_of m n = find (λ e. list_any (λ k. k == n) e.1) m.named_groups

-- an id that is no number text
abbrev pub is_plain_name : Text → Bool
is_plain_name w = is_some (id_reference false w) && is_none (number_text w)

-- the group is the last of its name
abbrev pub is_last : ℕ → List ℕ → Bool
is_last n l = choose (last_of l) (λ k. k == n) false

-- the group is the only one of its name
abbrev pub is_only : ℕ → List ℕ → Bool
is_only n (k ∷ []) = k == n
is_only n _ = false

-- the name of the group, if it is plain, the numbers of its groups are as required, and no reference is written with a
-- number
abbrev pub fit_name : GroupInfo → (List ℕ → Bool) → ℕ → Option Text
fit_name m are_such n =
    choose (name_of m n)
    (λ e. if not m.numeric_capture_group_references && (is_plain_name e.0 && are_such e.1) then Some e.0 else None)
    None

-- that name, or else the other text
abbrev pub name_or : GroupInfo → (List ℕ → Bool) → ℕ → Text → Text
name_or m are_such n other = choose (fit_name m are_such n) (λ w. w) other

-- ---- between delimiters

abbrev pub delimited : Text → Text → Text
delimited opening w = opening ++ (codes "<" ++ (w ++ codes ">"))

abbrev pub signed : ℤ → Text
signed (pos n) = code "+" ∷ decimal n
signed (negsuc n) = code "-" ∷ decimal (n + 1)

abbrev pub level_text : Option ℤ → Text
level_text None = []
level_text (Some z) = signed z

-- ---- references, after the openings of c groups

-- what a back reference names; a name does not refer to a group that opens later
abbrev pub backref_name : GroupInfo → ℕ → ℕ → Text
backref_name m c n = name_or m (λ l. is_last n l && nat_le n c) n (decimal n)

abbrev pub backref_text : GroupInfo → ℕ → ℕ → Text
backref_text m c n =
    if m.numeric_capture_group_references then code "\\" ∷ decimal n else delimited (codes "\\k") (backref_name m c n)

abbrev pub backref_at_level_text : GroupInfo → ℕ → ℕ → ℤ → Text
backref_at_level_text m c n level = delimited (codes "\\k") (backref_name m c n ++ signed level)

-- the target of a condition
abbrev pub target_text : GroupInfo → ℕ → Option ℤ → Text
target_text m n level =
    choose (fit_name m (is_last n) n) (λ w. delimited [] (w ++ level_text level)) (decimal n ++ level_text level)

-- the distance to a group, counted forwards or backwards
abbrev pub distance : ℕ → ℕ → Text
distance c n = if nat_lt c n then code "+" ∷ decimal (n - c) else code "-" ∷ decimal (c + 1 - n)

-- what a call names: a number if some reference was written with one; 0 only if some call of 0 was
abbrev pub call_name : GroupInfo → ℕ → ℕ → Text
call_name m c n =
    if m.numeric_capture_group_references && (nat_lt 0 n || m.self_recursive) then decimal n
    else name_or m (is_only n) n (distance c n)

abbrev pub call_text : GroupInfo → ℕ → ℕ → Text
call_text m c n = delimited (codes "\\g") (call_name m c n)

-- a call by a name that no group has
abbrev pub unresolved_call_by_name : Text → Text
unresolved_call_by_name w =
    if is_relative w then codes "(?P>" ++ (w ++ codes ")")
    else if not (is_among (code ">") w) then delimited (codes "\\g") w
    else if not (is_among (code "'") w) then codes "\\g'" ++ (w ++ codes "'")
    else codes "(?P>" ++ (w ++ codes ")")

-- only a call may refer to no group
abbrev pub unresolved_text : AstReference → Text
unresolved_text (ast_call (by_name w)) = unresolved_call_by_name w
unresolved_text (ast_call (relative z)) = delimited (codes "\\g") (signed z)
unresolved_text (ast_call (by_number n)) = delimited (codes "\\g") (decimal n)
unresolved_text _ = []

-- ---- groups

-- what follows the parenthesis of a group with this name; before `=` and `!`, `?<` would open a look-behind
abbrev pub name_opening : Text → Text
name_opening [] = []
name_opening (c ∷ t) =
    if is_among (code ">") (c ∷ t) then codes "?'" ++ ((c ∷ t) ++ codes "'")
    else delimited (if c ∈ "=!" then codes "?P" else codes "?") (c ∷ t)

-- the same for the group with the number n
abbrev pub group_opening : GroupInfo → ℕ → Text
group_opening m n = choose (name_of m n) (λ e. name_opening e.0) []
