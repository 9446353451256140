-- Texts that matches begin with.
use Rattle.std.specs.Prelude.{◌≡◌, ℕ, nat_eq, ◌==◌, ◌&&◌, ◌⊎◌, Bool, true, false, if◌then◌else◌, [], ◌∷◌, ◌++◌, take, Option, None, Some}
use Rattle.std.specs.List.{common_prefix_len}
use Rattle.class_meaning.specs.CharacterSet.{has_character}
use Rattle.class_meaning.specs.declared.character_set.CharacterSet.{CharacterSet}
use Rattle.fancy_lex.specs.Text.{Text}
use Rattle.fancy_grammar.specs.Tree.{Tree, Trees}
use Rattle.pattern_matches.specs.Defined.{IsDefined, AreDefined}
use Rattle.pattern_matches.specs.Matches.{Assertions, Matches, RowMatches}
use Rattle.pattern_matches.specs.Parts.{Position, Parts}
use Rattle.pattern_facts.specs.Known.{IsUnknown, IsOneUnknown}
use Rattle.pattern_facts.specs.Lengths.{row_of}
use Rattle.pattern_facts.specs.declared.lengths.ListKind.{ListKind}
use Rattle.pattern_facts.specs.declared.lengths.ListKind.TheVariants as kind
use Rattle.pattern_facts.specs.declared.prefix.Prefix.{Prefix}

-- the part from p to q is the text
abbrev pub IsText : Text → Position → Position → Type 0
IsText w p q = p.after ≡ w ++ q.after

-- the part from p to q begins with the text
abbrev pub IsTextAndMore : Text → Position → Position → Type 0
IsTextAndMore w p q = (more : Text) × IsText (w ++ more) p q

-- What the tree matches is defined. Each match begins with the characters, and is these where they are the whole match.
pub record HasPrefix (unicode : Bool) (t : Tree) (x : Prefix) : Type 0 where
  pub defined : IsDefined unicode t
  pub begins : (holds : Assertions) (p q : Position) → Matches unicode holds t p q →
      IsTextAndMore x.characters.items p q
  pub whole : x.is_whole ≡ true → (holds : Assertions) (p q : Position) → Matches unicode holds t p q →
      IsText x.characters.items p q

abbrev pub IsPrefix : Bool → Tree → Option Prefix → Type 0
IsPrefix unicode t None = IsUnknown unicode t
IsPrefix unicode t (Some x) = HasPrefix unicode t x

-- it is the whole of each match of a concatenation
abbrev pub IsWhole : ListKind → Option Prefix → Type 0
IsWhole kind.Concat (Some x) = x.is_whole ≡ true
IsWhole k o = ⊥

-- it is the prefix of a list of trees, whatever trees follow
abbrev pub IsSettled : ListKind → Option Prefix → Type 0
IsSettled k None = ⊥
IsSettled kind.Concat (Some x) = x.is_whole ≡ false
IsSettled kind.Alt (Some x) = (x.is_whole ≡ false) × (x.characters.items ≡ [])

-- ---- how prefixes are put together

-- a set's only character, or no text
abbrev pub IsPrefixOfSet : CharacterSet → Prefix → Type 0
IsPrefixOfSet set x =
    ((c : ℕ) × (x.characters.items ≡ c ∷ []) × ((d : ℕ) → has_character set d ≡ true → d ≡ c))
    ⊎ ((x.characters.items ≡ []) × (x.is_whole ≡ false))

-- that of the first turn, if there is one
pub record IsRepeated (lo hi : ℕ) (once x : Prefix) : Type 0 where
  pub characters : x.characters.items ≡ (if lo == 0 then [] else once.characters.items)
  pub whole : x.is_whole ≡ (if lo == 0 then hi == 0 else once.is_whole && (hi == 1))

-- the first one, and the next one after it where the first one is the whole match
pub record IsThen (first next x : Prefix) : Type 0 where
  pub characters : x.characters.items
      ≡ (if first.is_whole then first.characters.items ++ next.characters.items else first.characters.items)
  pub whole : x.is_whole ≡ (first.is_whole && next.is_whole)

-- what both begin with
pub record IsOr (first next x : Prefix) : Type 0 where
  pub characters : x.characters.items
      ≡ take (common_prefix_len nat_eq first.characters.items next.characters.items) first.characters.items
  pub whole : x.is_whole ≡ true → (first.is_whole ≡ true) × (next.is_whole ≡ true)
      × (first.characters.items ≡ next.characters.items)

-- ---- lists of trees, some of which are taken

-- a match of a list begins with the text, or, after the text, with what is left, or is a match of what is left
abbrev pub IsTaken : ListKind → Prefix → Parts → Position → Position → Type 0
IsTaken kind.Concat x P p q =
    ((x.is_whole ≡ false) × IsTextAndMore x.characters.items p q)
    ⊎ ((m : Position) × IsText x.characters.items p m × P m q)
IsTaken kind.Alt x P p q =
    (IsTextAndMore x.characters.items p q × (x.is_whole ≡ true → IsText x.characters.items p q)) ⊎ P p q

-- the matches of the list begin as those of the trees before the rest, or as those of the rest
pub record ArePrefixed (unicode : Bool) (k : ListKind) (all rest : Trees) (x : Prefix) : Type 0 where
  pub begins : (holds : Assertions) (p q : Position) → RowMatches unicode holds (row_of k) all p q →
      IsTaken k x (RowMatches unicode holds (row_of k) rest) p q
  pub defined : AreDefined unicode rest → AreDefined unicode all
  pub unknown : IsOneUnknown unicode rest → IsOneUnknown unicode all

abbrev pub IsPrefixed : Bool → ListKind → Trees → Trees → Option Prefix → Type 0
IsPrefixed unicode k all rest None = IsOneUnknown unicode all
IsPrefixed unicode k all rest (Some x) = ArePrefixed unicode k all rest x
