-- The texts of characters and of escapes.
use Rattle.std.specs.Prelude.{ℕ, ◌/◌, ◌%◌, Bool, true, false, ◌&&◌, ◌||◌, nat_lt, nat_le, List, [], ◌∷◌}
use Rattle.std.specs.Prelude.{◌++◌, codes, map, if◌then◌else◌}
use Rattle.std.specs.List.{list_any}
use Rattle.std.proofs.Math.Bool.{beq}
use Prim.Native.Char.{code}
use Rattle.fancy_lex.specs.Characters.{is_among, ◌∈◌, metacharacters}
use Rattle.fancy_lex.specs.Class.{upper_hex_digit, byte_text}
use Rattle.fancy_lex.specs.Escape.{letter_of}
use Rattle.fancy_lex.specs.Reading.{choose}
use Rattle.fancy_lex.specs.Text.{Text}
use Rattle.fancy_lex.specs.declared.escape.Assertion.{Assertion}
use Rattle.fancy_lex.specs.declared.escape.Assertion.TheVariants.{StartText, EndText, EndTextIgnoreTrailingNewlines}
use Rattle.fancy_lex.specs.declared.escape.Assertion.TheVariants.{StartLine, StartLineOniguruma, EndLine}
use Rattle.fancy_lex.specs.declared.escape.Assertion.TheVariants.{LeftWordBoundary, RightWordBoundary}
use Rattle.fancy_lex.specs.declared.flags.Flags.{Flags}
use Rattle.fancy_grammar.specs.Printed as printed

-- ---- characters

-- control characters and invisible ones, as ranges
abbrev pub unseen : List (ℕ × ℕ)
unseen =
    (0, 0x1F) ∷ (0x7F, 0xA0) ∷ (0xAD, 0xAD) ∷ (0x2000, 0x200F) ∷ (0x2028, 0x202F) ∷ (0x205F, 0x206F)
    ∷ (0x3000, 0x3000) ∷ (0xFEFF, 0xFEFF) ∷ []

abbrev pub is_unseen : ℕ → Bool
is_unseen c = list_any (λ r. nat_le r.0 c && nat_le c r.1) unseen

-- a character of at most four hex digits by its code; it is read the same with UNICODE and without, and has the case
-- flag that holds
abbrev pub coded : ℕ → Text
coded c =
    if nat_lt c 0x80 then byte_text c
    else codes "\\u" ++ map upper_hex_digit (c / 4096 ∷ c / 256 % 16 ∷ c / 16 % 16 ∷ c % 16 ∷ [])

-- what a character is written as if it is no metacharacter and no flag applies to it
abbrev pub plain : ℕ → Text
plain c = if is_unseen c then coded c else c ∷ []

-- with its letter, or else the other text
abbrev pub by_letter_or : ℕ → Text → Text
by_letter_or c other = choose (letter_of c) (λ d. code "\\" ∷ d ∷ []) other

-- if blanks are layout, these characters are layout too
abbrev pub is_printable_layout : Flags → ℕ → Bool
is_printable_layout f c = f.ignore_space && c ∈ " #"

-- a character of a Literal under these flags, with its case ignored or kept
abbrev pub character : Flags → Bool → ℕ → Text
character f true c = if is_among c metacharacters || is_printable_layout f c then coded c else plain c
character f false c =
    by_letter_or c
    (if is_among c (metacharacters ++ codes "]}") || (is_printable_layout f c || f.casei) then code "\\" ∷ c ∷ [] else plain c)

-- ---- escapes

-- any character: a dot if the flags agree with its fields
abbrev pub any_text : Flags → Bool → Bool → Text
any_text f newline crlf =
    if beq f.dotnl newline && beq f.crlf crlf then codes "."
    else if newline then codes "\\O"
    else codes "\\N"

-- an assertion, under flags that suit it; the boundaries that are written alike under all flags, as `to_str` prints them
abbrev pub assertion_text : Flags → Assertion → Text
assertion_text f StartText = if f.multi then codes "\\A" else codes "^"
assertion_text f EndText = if f.multi then codes "\\z" else codes "$"
assertion_text f (EndTextIgnoreTrailingNewlines crlf) = codes "\\Z"
assertion_text f (StartLine crlf) = codes "^"
assertion_text f (StartLineOniguruma crlf) = codes "^"
assertion_text f (EndLine crlf) = codes "$"
assertion_text f LeftWordBoundary = if f.oniguruma_mode then codes "\\b{start}" else codes "\\<"
assertion_text f RightWordBoundary = if f.oniguruma_mode then codes "\\b{end}" else codes "\\>"
assertion_text f a = printed.assertion_text a
