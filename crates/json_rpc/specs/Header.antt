-- Headers of messages.
use Rattle.std.specs.Prelude.{◌≢◌, ℕ, List, [], ◌∷◌, ◌++◌, Option, codes, decimal, length}
use Rattle.std.specs.Io.KnownBytes.{Consumes}
use Prim.Native.Char.{code}

-- the field that says how many bytes a message has
abbrev pub length_field : ℕ → List ℕ
length_field n = codes "Content-Length: " ++ decimal n

-- the end of a line
abbrev pub line_end : List ℕ
line_end = code "\r" ∷ code "\n" ∷ []

-- the header of a message of so many bytes
abbrev pub header : ℕ → List ℕ
header n = length_field n ++ (line_end ++ line_end)

-- a message with its header
abbrev pub frame : List ℕ → List ℕ
frame message = header (length message) ++ message

-- no byte is LF
abbrev pub IsLine : List ℕ → Type 0
IsLine [] = Unit {0}
IsLine (c ∷ t) = (c ≢ code "\n") × IsLine t

-- a line is read from known bytes, which lose it with its end
abbrev pub IsLineRead : Option (List ℕ) → Option (List ℕ) → List ℕ → Type 0
IsLineRead old new line = IsLine line × Consumes old new (line ++ line_end)
