-- The characters that matches begin with.
use Rattle.std.specs.Prelude.{◌≡◌, ℕ, ◌==◌, ◌⊎◌, Bool, true, false, ◌∷◌, Option, None, Some, IsTrue}
use Rattle.fancy_lex.specs.Text.{Text}
use Rattle.fancy_grammar.specs.Tree.{Tree, Trees}
use Rattle.class_meaning.specs.CharacterSet.{has_character}
use Rattle.class_meaning.specs.declared.character_set.CharacterSet.{CharacterSet}
use Rattle.pattern_matches.specs.Defined.{IsDefined, AreDefined}
use Rattle.pattern_matches.specs.Lengths.{min_length, min_lengths, row_least}
use Rattle.pattern_matches.specs.Matches.{Assertions, Matches, RowMatches}
use Rattle.pattern_matches.specs.Parts.{Position, Parts}
use Rattle.pattern_facts.specs.Known.{IsUnknown, IsOneUnknown}
use Rattle.pattern_facts.specs.Lengths.{row_of}
use Rattle.pattern_facts.specs.declared.first.Beginning.{Beginning}
use Rattle.pattern_facts.specs.declared.lengths.ListKind.{ListKind}
use Rattle.pattern_facts.specs.declared.lengths.ListKind.TheVariants as kind

-- the part from p to q is empty, or begins with a character of the set
abbrev pub BeginsWith : CharacterSet → Position → Position → Type 0
BeginsWith set p q =
    (p ≡ q) ⊎ ((c : ℕ) × (after : Text) × (p.after ≡ c ∷ after) × IsTrue (has_character set c))

-- What the tree matches is defined, each match is empty or begins with one of the characters, and is not empty if the
-- least length is not 0.
pub record HasBeginning (unicode : Bool) (t : Tree) (b : Beginning) : Type 0 where
  pub defined : IsDefined unicode t
  pub begins : (holds : Assertions) (p q : Position) → Matches unicode holds t p q → BeginsWith b.characters p q
  pub empty : b.can_be_empty ≡ (min_length t == 0)

abbrev pub IsBeginning : Bool → Tree → Option Beginning → Type 0
IsBeginning unicode t None = IsUnknown unicode t
IsBeginning unicode t (Some b) = HasBeginning unicode t b

-- it is that of a concatenation whose matches are not empty so far
abbrev pub IsFull : ListKind → Option Beginning → Type 0
IsFull kind.Concat (Some b) = b.can_be_empty ≡ false
IsFull k o = ⊥

-- ---- lists of trees, some of which are taken

-- what is left of a match that does not begin as the trees that are taken do
abbrev pub IsLeft : ListKind → Beginning → Parts → Position → Position → Type 0
IsLeft kind.Concat b P p q = (b.can_be_empty ≡ true) × P p q
IsLeft kind.Alt b P p q = P p q

-- the matches of the list begin as those of the trees before the rest, or as those of the rest
pub record AreBegun (unicode : Bool) (k : ListKind) (all rest : Trees) (b : Beginning) : Type 0 where
  pub least : ℕ
  pub empty : b.can_be_empty ≡ (least == 0)
  pub min : min_lengths (row_of k) all ≡ row_least (row_of k) least (min_lengths (row_of k) rest)
  pub begins : (holds : Assertions) (p q : Position) → RowMatches unicode holds (row_of k) all p q →
      BeginsWith b.characters p q ⊎ IsLeft k b (RowMatches unicode holds (row_of k) rest) p q
  pub defined : AreDefined unicode rest → AreDefined unicode all
  pub unknown : IsOneUnknown unicode rest → IsOneUnknown unicode all

abbrev pub IsBegun : Bool → ListKind → Trees → Trees → Option Beginning → Type 0
IsBegun unicode k all rest None = IsOneUnknown unicode all
IsBegun unicode k all rest (Some b) = AreBegun unicode k all rest b
