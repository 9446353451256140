-- References in the openings of groups: `(?P=id)`, `(?P>name)`, and the group that a condition refers to.
use Rattle.std.specs.Prelude.{ℕ, Bool, true, false, ◌||◌, if◌then◌else◌, [], ◌∷◌, Option, Some, None, option_map}
use Rattle.std.specs.Char.{is_ascii_digit}
use Rattle.std.specs.Option.{option_and_then}
use Prim.Native.Char.{code}
use Rattle.fancy_lex.specs.Characters.{◌∈◌}
use Rattle.fancy_lex.specs.Delimited.{name_before, delimited_name, of_name}
use Rattle.fancy_lex.specs.Reading.{Reading}
use Rattle.fancy_lex.specs.Referred.{Reference, Call, call_to, target_of_name, name_reading, reference_by_name}
use Rattle.fancy_lex.specs.Text.{Text, strip, reach_of}

-- after `(?P=`: an id and a closing parenthesis
unfoldable pub named_reference : Text → Reading Reference
named_reference t = reference_by_name (reach_of t) false (name_before (code ")") t)

-- the call at the reach p by a number or a name
abbrev pub call_of : ℕ → Text → Option Call
call_of p w = Some (call_to p (target_of_name w))

-- after `(?P>`: a name and a closing parenthesis
unfoldable pub named_call : Text → Reading Call
named_call t = name_reading (reach_of t) (of_name (call_of (reach_of t)) (name_before (code ")") t))

-- whether a condition that begins like this refers to a group
unfoldable pub begins_target : Text → Bool
begins_target [] = false
begins_target (c ∷ t) = (c ∈ "'<+-") || is_ascii_digit c

-- the name with a closing parenthesis after it
abbrev pub with_close_paren : Option (Text × Text) → Option (Text × Text)
with_close_paren o = option_and_then (λ (w, u). option_map (λ v. (w, v)) (strip (code ")") u)) o

-- the name in `'name')`, `<name>)` or `name)`, and the text after it
unfoldable pub condition_name : Text → Option (Text × Text)
condition_name [] = None
condition_name (c ∷ t) = if c ∈ "'<" then with_close_paren (delimited_name (c ∷ t)) else name_before (code ")") (c ∷ t)

-- directly after `(?(`: an id reference as the condition's target
unfoldable pub condition_target : Text → Reading Reference
condition_target t = reference_by_name (reach_of t) true (condition_name t)
