-- What the tree of a pattern may become where reports on the pattern are fixed.
use Rattle.std.specs.Prelude.{◌≡◌, ℕ, Bool, List, [], ◌∷◌, ◌++◌, Contains, IsSomeAnd, chars}
use Rattle.fancy_lex.specs.declared.flags.Flags.{Flags}
use Rattle.fancy_grammar.specs.GroupInfo.{GroupInfo}
use Rattle.fancy_grammar.specs.Label.{Wrap, Row}
use Rattle.fancy_grammar.specs.ParseResult.{IsTreeOf}
use Rattle.fancy_grammar.specs.ReadAs.{unpositioned}
use Rattle.fancy_grammar.specs.Trivia.{Trivium, IsTriviaOf, comment_texts}
use Rattle.fancy_grammar.specs.Tree.{Tree, Trees, over, row, no_trees, more_trees, repeat, alt, trees_of}
use Rattle.class_meaning.specs.CharacterSet.{has_character}
use Rattle.class_meaning.specs.ClassMeaning.{IsMeaningOf}
use Rattle.class_meaning.specs.EnginePattern.{engine_pattern}
use Rattle.class_meaning.specs.declared.character_set.CharacterSet.{CharacterSet}
use Rattle.class_meaning.specs.declared.class_text.ClassMeaning.TheVariants.{Characters}

-- the tree matches one of these characters, and nothing else
abbrev pub MatchesOne : Bool → Tree → CharacterSet → Type 0
MatchesOne unicode t set = IsSomeAnd (engine_pattern unicode t) (λ (config, text). IsMeaningOf config text (Characters set))

-- each of the two matches one character, and both match the same ones
abbrev pub HasSameCharacters : Bool → Tree → Tree → Type 0
HasSameCharacters unicode t u = (s r : CharacterSet) × MatchesOne unicode t s × MatchesOne unicode u r
    × ((c : ℕ) → has_character s c ≡ has_character r c)

mutual
  -- the second tree is the first with some reports fixed; the Bool says whether patterns are read with Unicode
  pub data IsFixed (unicode : Bool) : Tree → Tree → Type 0 where
    -- the same, but for positions
    same : {t u : Tree} → unpositioned t ≡ unpositioned u → IsFixed unicode t u
    -- a quantifier that repeats exactly once is left out
    once : {t u : Tree} {greedy : Bool} → IsFixed unicode t u → IsFixed unicode (repeat t 1 1 greedy) u
    -- a class, or a literal for it, of the same characters
    class : {t u : Tree} → HasSameCharacters unicode t u → IsFixed unicode t u
    -- the branches that are not left out; a single one needs no alternation
    branches : {ts us : List Tree} → AreBranches unicode [] ts us → IsFixed unicode (alt (trees_of ts)) (alt (trees_of us))
    one_branch : {ts : List Tree} {u : Tree} → AreBranches unicode [] ts (u ∷ []) → IsFixed unicode (alt (trees_of ts)) u
    -- the same node, with its children fixed
    inside : {w : Wrap} {t u : Tree} → IsFixed unicode t u → IsFixed unicode (over w t) (over w u)
    within : {r : Row} {ts us : Trees} → AreFixed unicode ts us → IsFixed unicode (row r ts) (row r us)

  -- as many trees, each fixed
  pub data AreFixed (unicode : Bool) : Trees → Trees → Type 0 where
    none : AreFixed unicode no_trees no_trees
    more : {t u : Tree} {ts us : Trees} → IsFixed unicode t u → AreFixed unicode ts us →
        AreFixed unicode (more_trees t ts) (more_trees u us)

  -- the branches of an alternation after those before: each is kept, or is equal to one before it and left out
  pub data AreBranches (unicode : Bool) : List Tree → List Tree → List Tree → Type 0 where
    end : {before : List Tree} → AreBranches unicode before [] []
    kept : {before ts us : List Tree} {t u : Tree} → IsFixed unicode t u → AreBranches unicode (before ++ t ∷ []) ts us →
        AreBranches unicode before (t ∷ ts) (u ∷ us)
    left_out : {before ts us : List Tree} {t : Tree} → Contains before t → AreBranches unicode (before ++ t ∷ []) ts us →
        AreBranches unicode before (t ∷ ts) us

-- the text is parsed under the flags, with this group information and these comments, byte for byte, and its tree is this one
-- with some reports fixed
abbrev pub IsFixedText : Flags → List ℕ → Tree → GroupInfo → List (List ℕ) → Type 0
IsFixedText f text t m cs = (u : Tree) × (l : List Trivium) × IsTreeOf f (chars text) u m × IsTriviaOf f (chars text) l
    × IsFixed f.unicode t u × (cs ≡ comment_texts text l)
