-- The ways in which a part of a pattern matches a text, decision by decision. Literals, classes, dots, groups,
-- concatenations, alternations and repeats have ways. An atomic group has one if it repeats one character: the longest. Look-around,
-- assertions, references and conditionals are passed: they are taken as empty, whether they hold or not. `unicode` says whether
-- classes are read with Unicode.
use Rattle.std.specs.Prelude.{◌≡◌, ◌≢◌, ℕ, Bool, true, suc, ◌<◌, ◌≤◌, List, [], ◌∷◌, length, slice_get, Some}
use Rattle.fancy_grammar.specs.Tree.{Tree, Trees, no_trees, more_trees, list_of, empty, group, concat, alt, repeat, atomic_group}
use Rattle.backtracking.specs.OneCharacter.{MayMatch, DoesNotMatch}
use Rattle.backtracking.specs.Passed.{is_passed}
use Rattle.backtracking.specs.declared.decision.Decision.{Decision}
use Rattle.backtracking.specs.declared.decision.Decision.TheVariants.{Branch, Again, Done}

-- the decisions that are still to be taken, and the codes of the characters that are still to be matched
pub record Rest : Type 0 where
  pub decisions : List Decision
  pub text : List ℕ

abbrev pub at : List Decision → List ℕ → Rest
at ds w = record { decisions = ds; text = w }

-- IsLongest unicode t n w v: the tree matches the first n characters of w, but not the next one, and v is what remains.
pub data IsLongest (unicode : Bool) (t : Tree) : ℕ → List ℕ → List ℕ → Type 0 where
  stops : {c w : _} → DoesNotMatch unicode t c → IsLongest unicode t 0 (c ∷ w) (c ∷ w)
  matches : {n c w v : _} → MayMatch unicode t c → IsLongest unicode t n w v → IsLongest unicode t (suc n) (c ∷ w) v

mutual
  -- Goes unicode t s u: the tree takes the first decisions and matches the first characters of s, and u is what remains.
  pub data Goes : Bool → Tree → Rest → Rest → Type 0 where
    nothing : {unicode s : _} → Goes unicode empty s s
    passed : {unicode t s : _} → is_passed t ≡ true → Goes unicode t s s
    one : {unicode t c ds w : _} → MayMatch unicode t c → Goes unicode t (at ds (c ∷ w)) (at ds w)
    within : {unicode t s u : _} → Goes unicode t s u → Goes unicode (group t) s u
    each : {unicode ts s u : _} → GoesAll unicode ts s u → Goes unicode (concat ts) s u
    branch : {unicode ts t i ds w u : _} → slice_get (list_of ts) i ≡ Some t → Goes unicode t (at ds w) u →
        Goes unicode (alt ts) (at (Branch i ∷ ds) w) u
    turns : {unicode t n lo hi greedy s ds w : _} → Turns unicode t n s (at (Done ∷ ds) w) → lo ≤ n → n ≤ hi →
        Goes unicode (repeat t lo hi greedy) s (at ds w)
    possessive : {unicode t n lo hi ds w v : _} → IsLongest unicode t n w v → lo ≤ n → n ≤ hi →
        Goes unicode (atomic_group (repeat t lo hi true)) (at ds w) (at ds v)

  -- the trees one after another
  pub data GoesAll : Bool → Trees → Rest → Rest → Type 0 where
    no_more : {unicode s : _} → GoesAll unicode no_trees s s
    next : {unicode t ts s u v : _} → Goes unicode t s u → GoesAll unicode ts u v → GoesAll unicode (more_trees t ts) s v

  -- n turns of a repeat, each of which begins with a decision and matches at least one character
  pub data Turns : Bool → Tree → ℕ → Rest → Rest → Type 0 where
    no_turn : {unicode t s : _} → Turns unicode t 0 s s
    turn : {unicode t n s ds w u : _} → Turns unicode t n s (at (Again ∷ ds) w) → Goes unicode t (at ds w) u →
        length u.text < length w → Turns unicode t (suc n) s u

-- two lists of decisions that are the same up to a point, where each goes on with another decision
pub data Part : List Decision → List Decision → Type 0 where
  here : {d e ds es : _} → d ≢ e → Part (d ∷ ds) (e ∷ es)
  later : {d ds es : _} → Part ds es → Part (d ∷ ds) (d ∷ es)

-- a way of matching all of the text by turns of the tree
pub record IsWay (unicode : Bool) (t : Tree) (w : List ℕ) (ds : List Decision) : Type 0 where
  pub count : ℕ
  pub goes : Turns unicode t count (at ds w) (at [] [])

-- two different ways of matching the same text
pub record AreTwoWays (unicode : Bool) (t : Tree) (w : List ℕ) (ds es : List Decision) : Type 0 where
  pub first : IsWay unicode t w ds
  pub second : IsWay unicode t w es
  pub part : Part ds es
