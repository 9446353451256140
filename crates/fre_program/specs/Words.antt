-- The arguments of the program, and what its exit status says about them.
use Rattle.std.specs.Prelude.{List, [], ◌∷◌, String}
use Rattle.std.specs.declared.alloc.Global.{Global}
use Rattle.fancy_lex.specs.FlagWord.{NamesFlags, named_flags}
use Rattle.fancy_lex.specs.Text.{Text, text_of}
use Rattle.fancy_lex.specs.declared.flags.Flags.{Flags}

-- two arguments, the first of which names flags
abbrev pub IsWellFormed : List (String Global) → Type 0
IsWellFormed (flags ∷ pattern ∷ []) = NamesFlags (text_of flags)
IsWellFormed _ = ⊥

-- the arguments are well formed, and P holds of the flags that the first names and of the second
abbrev pub OfWords : (Flags → Text → Type 0) → List (String Global) → Type 0
OfWords P (flags ∷ pattern ∷ []) = NamesFlags (text_of flags) × P (named_flags (text_of flags)) (text_of pattern)
OfWords P _ = ⊥
