-- The errors of a pattern, a definition for each: its kind, with the text of the kind, and its reach. A parameter p is
-- the reach of the error, and a parameter t is the rest of the text, from which the reach is computed.
use Rattle.std.specs.Prelude.{ℕ, ◌+◌, Bool, [], ◌∷◌, ◌++◌, codes, if◌then◌else◌}
use Prim.Native.Char.{code}
use Rattle.fancy_lex.specs.Located.{Kind, Located, general_parse_error, unclosed_open_paren, recursion_exceeded}
use Rattle.fancy_lex.specs.Located.{trailing_backslash, invalid_escape, unclosed_unicode_name, invalid_hex}
use Rattle.fancy_lex.specs.Located.{invalid_codepoint_value, invalid_class, unknown_flag}
use Rattle.fancy_lex.specs.Located.{changing_unicode_mode_unsupported, invalid_backref, target_not_repeatable}
use Rattle.fancy_lex.specs.Located.{invalid_group_name, invalid_group_name_backref}
use Rattle.fancy_lex.specs.Text.{Text, reach_of, at_end}

-- ---- the texts of the general errors

abbrev pub close_paren_expected : Text
close_paren_expected = codes "expected close paren"

abbrev pub end_expected : Text
end_expected = codes "end of string not reached"

abbrev pub body_expected : Text
body_expected =
    codes "expected conditional to be a backreference or at least an expression for when the condition is true"

-- ---- layout, groups and quantifiers

-- a comment without its `)`: at the end of the text, or one past it if the text ends right after an unpaired
-- backslash
abbrev pub comment_not_closed : ℕ → Located
comment_not_closed p = record { reach = p; kind = unclosed_open_paren }

-- a group nested too deeply: at its `(`, where t begins
abbrev pub group_too_deep : Text → Located
group_too_deep t = record { reach = reach_of t; kind = recursion_exceeded }

-- too many adjacent quantifiers, or quantifiers nested too deeply: after the last one, where t begins
abbrev pub quantifier_too_deep : Text → Located
quantifier_too_deep t = record { reach = reach_of t; kind = recursion_exceeded }

-- a quantifier on what is not repeatable: at its operator or closing brace, one byte before t
abbrev pub not_repeatable : Text → Located
not_repeatable t = record { reach = reach_of t + 1; kind = target_not_repeatable }

-- the end of the text instead of a group's `)`, a flag letter, or the text after `(?(` or `(?~`
abbrev pub group_not_closed : Located
group_not_closed = record { reach = at_end; kind = unclosed_open_paren }

-- a bar after the second branch of an absent expression: at that bar, where t begins
abbrev pub bar_for_close_paren : Text → Located
bar_for_close_paren t = record { reach = reach_of t; kind = general_parse_error close_paren_expected }

-- a `)` without an open group: at that `)`, where t begins
abbrev pub close_paren_left_over : Text → Located
close_paren_left_over t = record { reach = reach_of t; kind = general_parse_error end_expected }

-- a conditional with an empty body, whose condition does not refer to a group: after the condition's `)`, where t
-- begins
abbrev pub body_missing : Text → Located
body_missing t = record { reach = reach_of t; kind = general_parse_error body_expected }

-- ---- openings of groups

-- a character that is no flag letter: right after the `?`, where t begins; `w` is the text from there through that
-- character
abbrev pub no_flag_letter : Text → Text → Located
no_flag_letter t w = record { reach = reach_of t; kind = unknown_flag (codes "(?" ++ w) }

-- a `u` that changes the mode: at the `u`, where t begins
abbrev pub mode_changed : Text → Located
mode_changed t = record { reach = reach_of t; kind = changing_unicode_mode_unsupported }

-- a named group without a name or without its closing delimiter: at the `?`, one byte before t
abbrev pub group_not_named : Text → Located
group_not_named t = record { reach = reach_of t + 1; kind = invalid_group_name }

-- a reference, call or condition whose target cannot be parsed: at the reference
abbrev pub reference_not_read : ℕ → Located
reference_not_read p = record { reach = p; kind = invalid_group_name }

-- an unknown verb: at the `*`, where t begins
abbrev pub unknown_verb : Text → Located
unknown_verb t = record { reach = reach_of t; kind = target_not_repeatable }

-- ---- escapes, whose backslash is at the reach p

-- a backslash at the end
abbrev pub backslash_at_end : ℕ → Located
backslash_at_end p = record { reach = p; kind = trailing_backslash }

-- a number after a backslash or `\g` that fits in no word: at its first digit, where t begins
abbrev pub number_too_great : Text → Located
number_too_great t = record { reach = reach_of t; kind = invalid_backref }

-- a letter that is no escape
abbrev pub letter_of_no_escape : ℕ → ℕ → Located
letter_of_no_escape p c = record { reach = p; kind = invalid_escape (code "\\" ∷ c ∷ []) }

-- a boundary whose braces are not closed; the text is the same for `\B`
abbrev pub boundary_not_closed : ℕ → Located
boundary_not_closed p = record { reach = p; kind = invalid_escape (codes "\\b{...}") }

-- the text before a boundary's name; `\B` is negated
abbrev pub boundary_start : Bool → Text
boundary_start negated = if negated then codes "\\B{" else codes "\\b{"

-- a name that no boundary has
abbrev pub name_of_no_boundary : ℕ → Bool → Text → Located
name_of_no_boundary p negated w = record {
  reach = p;
  kind = invalid_escape (boundary_start negated ++ (w ++ codes "}"));
}

-- a property whose braces are not closed
abbrev pub property_not_closed : ℕ → Located
property_not_closed p = record { reach = p; kind = unclosed_unicode_name }

-- a code that cannot be parsed: at the reach h, where its digits or its brace should begin
abbrev pub code_not_read : ℕ → Located
code_not_read h = record { reach = h; kind = invalid_hex }

-- a code that is no character: at the same reach
abbrev pub code_of_no_character : ℕ → Located
code_of_no_character h = record { reach = h; kind = invalid_codepoint_value }

-- a class that is not closed: at the end of the text
abbrev pub class_not_closed : Located
class_not_closed = record { reach = at_end; kind = invalid_class }

-- a backslash and a digit in a class
abbrev pub number_in_class : ℕ → Located
number_in_class p = record { reach = p; kind = invalid_class }

-- ---- references that cannot be resolved, found after the whole text was read: each at its reference

-- a back reference by a name whose last group opens at it or after it
abbrev pub name_of_later_group : Text → Kind
name_of_later_group w = invalid_group_name_backref w

-- an unknown name, or a relative number that leads below group 0, in a back reference or condition
abbrev pub no_such_group : Kind
no_such_group = invalid_backref

-- the error of this kind at the reach p of the reference
abbrev pub of_reference : ℕ → Kind → Located
of_reference p k = record { reach = p; kind = k }
