-- What a configuration says of a file: of several options for one thing, the last one counts.
use Rattle.std.specs.Prelude.{◌≡◌, ℕ, Bool, true, false, ◌||◌, ◌==◌, not, List, [], ◌∷◌, length, map, Option, Some, None, String}
use Rattle.std.specs.declared.alloc.Global.{Global}
use Rattle.dialects.specs.declared.dialect.Dialect.{Dialect}
use Rattle.pattern_files.specs.declared.values.keys.Keys.{Keys}
use Rattle.patterns_config.specs.declared.choices.FormatStyle.{FormatStyle}
use Rattle.patterns_config.specs.declared.file_settings.FileSettings.{FileSettings}
use Rattle.patterns_config.specs.declared.options.FileOption.{FileOption}
use Rattle.patterns_config.specs.declared.options.FileOption.TheVariants as option

-- the options of a file, in their order
abbrev pub options_of : FileSettings → List FileOption
options_of file = map (λ option. option.now) file.found.items

-- whether its configuration names it
abbrev pub is_named_in : FileSettings → Bool
is_named_in file = file.is_named

-- the flags after options
abbrev pub flags_after : Option ℕ → List FileOption → Option ℕ
flags_after flags [] = flags
flags_after flags (option.Flags set ∷ others) = flags_after (Some set) others
flags_after flags (_ ∷ others) = flags_after flags others

-- whether the keys of TextMate's grammars have patterns after options
abbrev pub textmate_after : Bool → List FileOption → Bool
textmate_after has_textmate [] = has_textmate
textmate_after has_textmate (option.Textmate is_set ∷ others) = textmate_after is_set others
textmate_after has_textmate (_ ∷ others) = textmate_after has_textmate others

-- the keys that have patterns after options
abbrev pub keys_after : List (String Global) → List FileOption → List (String Global)
keys_after keys [] = keys
keys_after keys (option.Keys set ∷ others) = keys_after set.items others
keys_after keys (_ ∷ others) = keys_after keys others

-- the dialect that patterns are written in after options
abbrev pub dialect_after : Option Dialect → List FileOption → Option Dialect
dialect_after dialect [] = dialect
dialect_after dialect (option.Dialect set ∷ others) = dialect_after (Some set) others
dialect_after dialect (_ ∷ others) = dialect_after dialect others

-- the dialect that is chosen, or else the other one
abbrev pub dialect_or : Option Dialect → Option Dialect → Option Dialect
dialect_or None other = other
dialect_or chosen _ = chosen

-- how patterns are formatted after options
abbrev pub style_after : Option FormatStyle → List FileOption → Option FormatStyle
style_after style [] = style
style_after style (option.Style set ∷ others) = style_after (Some set) others
style_after style (_ ∷ others) = style_after style others

-- how many characters a line of a formatted pattern may have after options
abbrev pub width_after : Option ℕ → List FileOption → Option ℕ
width_after width [] = width
width_after width (option.Width set ∷ others) = width_after (Some set) others
width_after width (_ ∷ others) = width_after width others

-- whether canonical texts may lack comments after options
abbrev pub drops_after : Bool → List FileOption → Bool
drops_after drops [] = drops
drops_after drops (option.DropComments is_set ∷ others) = drops_after is_set others
drops_after drops (_ ∷ others) = drops_after drops others

-- whether some keys have patterns
abbrev pub is_json : List FileOption → Bool
is_json options = textmate_after false options || not (length (keys_after [] options) == 0)

-- the keys that options set, which are some
pub record AreKeys (options : List FileOption) (keys : Keys) : Type 0 where
  pub json : is_json options ≡ true
  pub textmate : keys.has_textmate ≡ textmate_after false options
  pub configured : keys.configured.now ≡ keys_after [] options
