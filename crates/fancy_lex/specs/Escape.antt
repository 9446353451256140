-- Escapes: the text after a backslash.
use Rattle.std.specs.Prelude.{ℕ, ◌+◌, ◌==◌, Bool, true, false, not, ◌&&◌, ◌||◌, if◌then◌else◌, List, [], ◌∷◌, codes}
use Rattle.std.specs.Prelude.{map, Option, Some}
use Prim.Native.Char.{code}
use Rattle.std.specs.Char.{is_ascii_alphanumeric, is_ascii_digit}
use Rattle.std.specs.Map.{lookup}
use Rattle.std.specs.Option.{option_or}
use Rattle.fancy_lex.specs.declared.escape.Assertion.TheVariants.{StartText, EndText, EndTextIgnoreTrailingNewlines}
use Rattle.fancy_lex.specs.declared.escape.Assertion.TheVariants.{LeftWordBoundary, RightWordBoundary}
use Rattle.fancy_lex.specs.declared.flags.Flags.{Flags}
use Rattle.fancy_lex.specs.BoundarySteps.{boundary}
use Rattle.fancy_lex.specs.Characters.{is_among, ◌∈◌}
use Rattle.fancy_lex.specs.EscapeReference as reference
use Rattle.fancy_lex.specs.Escaped.{hex_class, negated_hex_class, Escape, literal, any, assertion, general_newline}
use Rattle.fancy_lex.specs.Escaped.{keep_out, continue_from_previous_match_end, delegate, backref, subroutine_call}
use Rattle.fancy_lex.specs.ErrorTable.{backslash_at_end, letter_of_no_escape, number_in_class, property_not_closed}
use Rattle.fancy_lex.specs.Hex.{hex}
use Rattle.fancy_lex.specs.Property.{read_property, property_text}
use Rattle.fancy_lex.specs.Reading.{Reading, gives, fails, ◌>=>◌, choose}
use Rattle.fancy_lex.specs.Referred.{Reference}
use Rattle.fancy_lex.specs.Text.{Text, reach_of}

-- the leaf of a back reference
abbrev pub backref_leaf : Flags → Reading Reference → Reading Escape
backref_leaf f o = o >=> (λ r u. gives (backref r f.casei) u)

-- digits are a back reference, which is an error in a class; here and below the backslash is at the reach p
unfoldable pub number_escape : Flags → Bool → ℕ → Text → Reading Escape
number_escape f inside p t =
    if inside then reference.group_number t >=> (λ k u. fails (number_in_class p))
    else backref_leaf f (reference.numbered_reference t)

-- a call after its letter
unfoldable pub call_escape : ℕ → ℕ → Text → Reading Escape
call_escape p c [] = fails (letter_of_no_escape p c)
call_escape p c (d ∷ t) = reference.subroutine_call (d ∷ t) >=> (λ r u. gives (subroutine_call r) u)

-- a property after its letter
unfoldable pub property : Flags → Bool → ℕ → ℕ → Text → Reading Escape
property f inside p c [] = fails (letter_of_no_escape p c)
property f inside p c (d ∷ t) =
    choose (read_property (c ∈ "P") (d ∷ t))
    (λ q. gives (delegate (property_text f.unicode inside q.0) f.casei) q.1)
    (fails (property_not_closed p))

-- whether the character is a literal after a backslash: neither a letter nor a digit, nor `<` or `>` outside a class
abbrev pub is_itself : Bool → ℕ → Bool
is_itself inside c = not (is_ascii_alphanumeric c) && (inside || not (c ∈ "<>"))

-- characters, each with the letter that denotes it after a backslash
abbrev pub lettered : List (ℕ × ℕ)
lettered =
    (code "\u{7}", code "a")
    ∷ (code "\u{c}", code "f")
    ∷ (code "\n", code "n")
    ∷ (code "\r", code "r")
    ∷ (code "\t", code "t")
    ∷ (code "\u{b}", code "v")
    ∷ (code "\u{1b}", code "e") ∷ []

-- the letter that, after a backslash, denotes the character; None if no letter does
abbrev pub letter_of : ℕ → Option ℕ
letter_of c = lookup (λ d. c == d) lettered

-- letters that are the whole escape, in a class and outside, and the leaf of c as one of them
abbrev pub lone_anywhere : Flags → ℕ → List (Text × Escape)
lone_anywhere f c =
    (codes "dDsSwW", delegate (code "\\" ∷ c ∷ []) f.casei)
    ∷ (codes "h", delegate hex_class false)
    ∷ (codes "H", delegate negated_hex_class false)
    ∷ map (λ r. (r.1 ∷ [], literal r.0 false)) lettered

-- the same for letters that are escapes only in a class
abbrev pub lone_in_class : ℕ → List (Text × Escape)
lone_in_class c = (codes "b", literal (code "\u{8}") false) ∷ (codes "kAzBKGR", literal c false) ∷ []

-- the same for characters that are escapes only outside a class
abbrev pub lone_outside : Flags → ℕ → List (Text × Escape)
lone_outside f c =
    (codes "A", assertion StartText)
    ∷ (codes "z", assertion EndText)
    ∷ (codes "Z", assertion (EndTextIgnoreTrailingNewlines f.crlf))
    ∷ (codes "K", keep_out)
    ∷ (codes "G", continue_from_previous_match_end)
    ∷ (codes "R", general_newline f.unicode)
    ∷ (codes "O", any true true)
    ∷ (codes "N", any false false)
    ∷ (codes "<", if f.oniguruma_mode then literal c false else assertion LeftWordBoundary)
    ∷ (codes ">", if f.oniguruma_mode then literal c false else assertion RightWordBoundary) ∷ []

-- the leaf of c in the row that has it among its letters
abbrev pub row_of : ℕ → List (Text × Escape) → Option Escape
row_of c rows = lookup (λ letters. is_among c letters) rows

-- the leaf of a character that is the whole escape
unfoldable pub lone_escape : Flags → Bool → ℕ → Option Escape
lone_escape f inside c =
    if is_itself inside c then Some (literal c false)
    else option_or (row_of c (lone_anywhere f c)) (row_of c (if inside then lone_in_class c else lone_outside f c))

-- references, calls and boundaries after their letters
unfoldable pub outside : Flags → ℕ → ℕ → Text → Reading Escape
outside f p c t =
    if c ∈ "k" then backref_leaf f (reference.back_reference t)
    else if c ∈ "g" then call_escape p c t
    else if c ∈ "bB" then boundary f.ignore_space p (c ∈ "B") t
    else fails (letter_of_no_escape p c)

-- the escape after the backslash, in a class or outside
unfoldable pub escape_at : Flags → Bool → ℕ → Text → Reading Escape
escape_at f inside p [] = fails (backslash_at_end p)
escape_at f inside p (c ∷ t) =
    if is_ascii_digit c then number_escape f inside p (c ∷ t)
    else if c ∈ "x" then hex f 2 t
    else if c ∈ "u" then hex f 4 t
    else if c ∈ "U" then hex f 8 t
    else if c ∈ "pP" then property f inside p c t
    else choose (lone_escape f inside c) (λ e. gives e t)
    (if inside then fails (letter_of_no_escape p c) else outside f p c t)

-- the escape after a backslash that is right before t, in a class or outside
abbrev pub escape : Flags → Bool → Text → Reading Escape
escape f inside t = escape_at f inside (reach_of t + 1) t
