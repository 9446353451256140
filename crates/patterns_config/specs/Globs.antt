-- Globs, and the paths that they match.
use Rattle.std.specs.Prelude.{◌≡◌, ℕ, ◌==◌, List, [], ◌∷◌, ◌++◌, codes, map, ◌⊎◌, if◌then◌else◌}
use Rattle.patterns_config.specs.Wild.{Wild}
use Rattle.patterns_config.specs.declared.glob.Glob.{Glob}
use Rattle.patterns_config.specs.declared.glob.PathNames.{PathNames}

-- the character `*`
abbrev pub IsStar : ℕ → Type 0
IsStar c = c ≡ 42

-- `?` accepts every character, and another one itself
abbrev pub IsAccepted : ℕ → ℕ → Type 0
IsAccepted c d = (c ≡ 63) ⊎ (c ≡ d)

-- in a name, `*` matches any number of characters, and `?` one
abbrev pub MatchesName : List ℕ → List ℕ → Type 0
MatchesName = Wild IsStar IsAccepted

-- the name `**`
abbrev pub IsFolders : List ℕ → Type 0
IsFolders name = name ≡ codes "**"

-- in a path, `**` matches any number of names
abbrev pub MatchesPath : List (List ℕ) → List (List ℕ) → Type 0
MatchesPath = Wild IsFolders MatchesName

-- the characters before the first name
abbrev pub put_before : List ℕ → List (List ℕ) → List (List ℕ)
put_before name [] = name ∷ []
put_before name (first ∷ others) = (name ++ first) ∷ others

-- the names between the slashes of a path
abbrev pub names : List ℕ → List (List ℕ)
names [] = [] ∷ []
names (c ∷ cs) = if c == 47 then [] ∷ names cs else put_before (c ∷ []) (names cs)

-- a glob of one name matches in each folder
abbrev pub in_each_folder : List (List ℕ) → List (List ℕ)
in_each_folder [] = []
in_each_folder (name ∷ []) = codes "**" ∷ name ∷ []
in_each_folder (name ∷ other ∷ others) = name ∷ other ∷ others

-- the names that a glob, and a path, consist of
abbrev pub glob_names : Glob → List (List ℕ)
glob_names glob = map (λ name. name.items) glob.names.items

abbrev pub path_names : PathNames → List (List ℕ)
path_names path = map (λ name. name.items) path.names.items
