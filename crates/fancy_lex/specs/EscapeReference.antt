-- References in escapes: after `\k`, after `\g`, or in digits after a backslash.
use Rattle.std.specs.Prelude.{ℕ, ◌^◌, Bool, true, false, ◌&&◌, ◌||◌, nat_lt, if◌then◌else◌, [], ◌∷◌, Option, Some, None}
use Rattle.std.specs.Prelude.{option_map, is_some}
use Rattle.std.specs.Option.{option_and_then}
use Rattle.fancy_lex.specs.Characters.{◌∈◌}
use Rattle.fancy_lex.specs.Delimited.{delimited_name, of_name}
use Rattle.fancy_lex.specs.Located.{Located}
use Rattle.fancy_lex.specs.ErrorTable.{number_too_great}
use Rattle.fancy_lex.specs.IdReference.{IdReference, amount_alone, id_reference}
use Rattle.fancy_lex.specs.Number.{at_digit, number}
use Rattle.fancy_lex.specs.NumberText.{is_nothing, number_text}
use Rattle.fancy_lex.specs.Reading.{Reading, gives, fails, ◌>=>◌, choose}
use Rattle.fancy_lex.specs.Referred.{Reference, Call, call_to, reference_to, target_of_name, name_reading}
use Rattle.fancy_lex.specs.Referred.{reference_by_name}
use Rattle.fancy_lex.specs.Target.{Target, by_number, relative}
use Rattle.fancy_lex.specs.Text.{Text, reach_of}

-- the number if it fits in a word, and otherwise the error
abbrev pub number_reading : Located → ℕ × Text → Reading ℕ
number_reading e q = if nat_lt q.0 (2 ^ 64) then gives q.0 q.1 else fails e

-- all the digits at the front, which are the number of a group; without a digit the error is the same
unfoldable pub group_number : Text → Reading ℕ
group_number t = choose (number t) (number_reading (number_too_great t)) (fails (number_too_great t))

-- a back reference in digits
unfoldable pub numbered_reference : Text → Reading Reference
numbered_reference t = group_number t >=> (λ k u. gives (reference_to (reach_of t) (by_number k) None) u)

-- a back reference after `\k`
unfoldable pub back_reference : Text → Reading Reference
back_reference t = reference_by_name (reach_of t) true (delimited_name t)

-- whether the name of a call is relative: only a sign, or a sign and a number text
unfoldable pub is_relative : Text → Bool
is_relative [] = false
is_relative (c ∷ t) = (c ∈ "+-") && (is_nothing t || is_some (number_text t))

-- an id reference without an id is a relative target
abbrev pub relative_target : IdReference → Option Target
relative_target (amount_alone z) = Some (relative z)
relative_target _ = None

-- the target of a call by name; a relative name must be an id reference without an id
unfoldable pub call_target : Text → Option Target
call_target w = if is_relative w then option_and_then relative_target (id_reference true w) else Some (target_of_name w)

-- the call by name at the reach p
unfoldable pub written_call : ℕ → Text → Option Call
written_call p w = option_map (call_to p) (call_target w)

-- the call in delimiters at the reach p
unfoldable pub delimited_call : ℕ → Text → Option (Call × Text)
delimited_call p t = of_name (written_call p) (delimited_name t)

-- a call in digits
unfoldable pub numbered_call : Text → Reading Call
numbered_call t = group_number t >=> (λ k u. gives (call_to (reach_of t) (by_number k)) u)

-- a call after `\g`: all the digits there, or a name in delimiters
unfoldable pub subroutine_call : Text → Reading Call
subroutine_call t =
    if at_digit t then numbered_call t else name_reading (reach_of t) (delimited_call (reach_of t) t)
