-- Characters that are shown as escapes.
use Rattle.std.specs.Prelude.{ℕ, Bool, true, false}
use Rattle.ucd_category.specs.declared.GeneralCategory.{GeneralCategory}
use Rattle.ucd_category.specs.declared.GeneralCategory.TheVariants.{LineSeparator, ParagraphSeparator, Control, Format, Unassigned}
use Rattle.unicode.specs.GeneralCategory.{general_category}

-- Cc, Cf, Cn, Zl or Zp
abbrev pub is_hidden_category : GeneralCategory → Bool
is_hidden_category Control = true
is_hidden_category Format = true
is_hidden_category Unassigned = true
is_hidden_category LineSeparator = true
is_hidden_category ParagraphSeparator = true
is_hidden_category _ = false

-- a control character, a format character, a separator of lines or paragraphs, or no character that Unicode assigns
abbrev pub is_hidden : ℕ → Bool
is_hidden c = is_hidden_category (general_category c)
