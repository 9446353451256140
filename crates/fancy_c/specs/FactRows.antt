-- What is known of the matches of a pattern and of its nodes, as a caller in C gets it.
use Rattle.std.specs.Prelude.{◌≡◌, ℕ, Bool, true, false, List, [], length, Option, None, Some, encode_utf8_all}
use Rattle.std.specs.List.{AllZip}
use Rattle.std.specs.Option.{is_some}
use Rattle.fancy_lex.specs.Quantifier.{most}
use Rattle.fancy_lex.specs.declared.flags.Flags.{Flags}
use Rattle.fancy_grammar.specs.GroupInfo.{GroupInfo}
use Rattle.fancy_grammar.specs.Tree.{Tree}
use Rattle.pattern_facts.specs.Easy as tree
use Rattle.pattern_facts.specs.Known.{IsRowOf}
use Rattle.pattern_facts.specs.Lengths.{can_be_empty, is_constant}
use Rattle.pattern_facts.specs.Prefix.{IsPrefix}
use Rattle.pattern_facts.specs.declared.lengths.MaxLength.{MaxLength}
use Rattle.pattern_facts.specs.declared.lengths.MaxLength.TheVariants.{AtMost, Unlimited}
use Rattle.pattern_facts.specs.declared.node_facts.Facts.{Facts}
use Rattle.pattern_facts.specs.declared.prefix.Prefix.{Prefix}
use Rattle.fancy_c.specs.CallResult.{IsTreeOfBytes}
use Rattle.fancy_c.specs.Node.{listed}
use Rattle.fancy_c.specs.declared.facts.NodeFacts.{NodeFacts}
use Rattle.fancy_c.specs.declared.facts.PatternFacts.{PatternFacts}

-- the limit as a number; without a limit the greatest word
abbrev pub limit : MaxLength → ℕ
limit (AtMost n) = n
limit Unlimited = most

abbrev pub known_row : Facts → NodeFacts
known_row f = record {
  min_length = f.characters.min;
  max_length = limit f.characters.max;
  min_bytes = f.bytes.min;
  max_bytes = limit f.bytes.max;
  is_known = true;
  can_be_empty = can_be_empty f.characters;
  is_constant_length = is_constant f.characters;
  is_anchored_at_start = f.is_anchored_at_start;
  is_anchored_at_end = f.is_anchored_at_end;
}

abbrev pub unknown_row : NodeFacts
unknown_row = record {
  min_length = 0;
  max_length = 0;
  min_bytes = 0;
  max_bytes = 0;
  is_known = false;
  can_be_empty = false;
  is_constant_length = false;
  is_anchored_at_start = false;
  is_anchored_at_end = false;
}

-- the row of a node
abbrev pub row : Option Facts → NodeFacts
row None = unknown_row
row (Some f) = known_row f

-- the bytes of the text that matches begin with; none if it is not known
abbrev pub prefix_text : Option Prefix → List ℕ
prefix_text None = []
prefix_text (Some x) = encode_utf8_all x.characters.items

abbrev pub is_whole : Option Prefix → Bool
is_whole None = false
is_whole (Some x) = x.is_whole

-- what a caller gets of a whole tree that has so many nodes
abbrev pub summary : ℕ → Option Prefix → Tree → PatternFacts
summary n x t = record {
  node_count = n;
  prefix_size = length (prefix_text x);
  has_prefix = is_some x;
  is_prefix_whole = is_whole x;
  is_easy = tree.is_easy t;
}

-- the rows say what is known of the tree's nodes, in the order of its own rows; w is the text that its matches begin with
pub record AreFactsOf (unicode : Bool) (t : Tree) (rows : List (Option Facts)) (w : List ℕ) (whole : PatternFacts) :
    Type 0 where
  pub nodes : AllZip (IsRowOf unicode) (listed t) rows
  pub prefix : Option Prefix
  pub begins : IsPrefix unicode t prefix
  pub text : w ≡ prefix_text prefix
  pub is : whole ≡ summary (length rows) prefix t

-- the same for the tree of the bytes of a pattern
pub record AreFactsOfBytes (f : Flags) (bytes : List ℕ) (t : Tree) (rows : List (Option Facts)) (w : List ℕ)
    (whole : PatternFacts) : Type 0 where
  pub tree : (m : GroupInfo) × IsTreeOfBytes f bytes t m
  pub facts : AreFactsOf f.unicode t rows w whole
