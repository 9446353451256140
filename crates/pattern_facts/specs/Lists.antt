-- A list of trees, some of which are taken, with the facts of those.
use Rattle.std.specs.Prelude.{◌≡◌, ℕ, Bool, Option, None, Some}
use Rattle.fancy_grammar.specs.Tree.{Trees}
use Rattle.pattern_matches.specs.Defined.{AreDefined}
use Rattle.pattern_matches.specs.Lengths.{min_lengths, max_lengths, row_least, row_most}
use Rattle.pattern_facts.specs.Anchors as side
use Rattle.pattern_facts.specs.Anchors.{Side, are_anchored, is_row_anchored}
use Rattle.pattern_facts.specs.Bytes.{AreLong}
use Rattle.pattern_facts.specs.Known.{IsOneUnknown}
use Rattle.pattern_facts.specs.Lengths.{AreLengths, row_of}
use Rattle.pattern_facts.specs.declared.lengths.Lengths.{Lengths}
use Rattle.pattern_facts.specs.declared.lengths.ListKind.{ListKind}
use Rattle.pattern_facts.specs.declared.node_facts.Facts.{Facts}

-- these are the lengths in characters of the trees before the rest
pub record AreTakenCharacters (kind : ListKind) (all rest : Trees) (l : Lengths) : Type 0 where
  pub least : ℕ
  pub greatest : Option ℕ
  pub lengths : AreLengths least greatest l
  pub min : min_lengths (row_of kind) all ≡ row_least (row_of kind) least (min_lengths (row_of kind) rest)
  pub max : max_lengths (row_of kind) all ≡ row_most (row_of kind) greatest (max_lengths (row_of kind) rest)

-- these are the lengths in bytes of the trees before the rest
pub record AreTakenBytes (unicode : Bool) (kind : ListKind) (all rest : Trees) (l : Lengths) : Type 0 where
  pub least : ℕ
  pub greatest : Option ℕ
  pub lengths : AreLengths least greatest l
  pub long : (n o : Option ℕ) → AreLong unicode (row_of kind) rest n o →
      AreLong unicode (row_of kind) all (row_least (row_of kind) least n) (row_most (row_of kind) greatest o)

-- whether the trees before the rest are anchored
abbrev pub IsTakenSide : Side → ListKind → Trees → Trees → Bool → Type 0
IsTakenSide s kind all rest b =
    are_anchored s (row_of kind) all ≡ is_row_anchored (row_of kind) b (are_anchored s (row_of kind) rest)

-- these are the facts of the trees before the rest
pub record AreTaken (unicode : Bool) (kind : ListKind) (all rest : Trees) (f : Facts) : Type 0 where
  pub characters : AreTakenCharacters kind all rest f.characters
  pub bytes : AreTakenBytes unicode kind all rest f.bytes
  pub start : IsTakenSide side.front kind all rest f.is_anchored_at_start
  pub end : IsTakenSide side.back kind all rest f.is_anchored_at_end
  pub defined : AreDefined unicode rest → AreDefined unicode all
  pub unknown : IsOneUnknown unicode rest → IsOneUnknown unicode all

abbrev pub IsTaken : Bool → ListKind → Trees → Trees → Option Facts → Type 0
IsTaken unicode kind all rest None = IsOneUnknown unicode all
IsTaken unicode kind all rest (Some f) = AreTaken unicode kind all rest f
