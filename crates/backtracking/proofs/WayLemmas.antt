-- Steps of the checker, one node at a time.
use Rattle.std.proofs.Common.{◌≡◌, ◌≢◌, ℕ, suc, ◌+◌, ◌<◌, ◌≤◌, Bool, true, List, ◌∷◌, length, drop, get_or, Result, Option}
use Rattle.std.proofs.Common.{IfOk, IfSome, Some, refl, sym, ap, subst, ◌∙◌, drop-cons, add-one}
use Rattle.std.specs.Prelude.{slice_get, option_map}
use Rattle.std.proofs.lemmas.Option.{IfSome_then, slice_get-map, slice_get_read}
use Rattle.std.proofs.lemmas.Result.{IfOk-weaker}
use Rattle.fancy_grammar.specs.Tree.{Tree, Trees, list_of, trees_of, empty, group, concat, alt, repeat, atomic_group}
use Rattle.fancy_syntax.proofs.ChildrenLemmas.{list_of_trees_of}
use Rattle.fancy_syntax.proofs.PrintLemmas.{left, left_step, left_end}
use Rattle.fancy_syntax.specs.View.{view, views}
use Rattle.fancy_syntax.specs.declared.expr.Expr.{Expr}
use Rattle.backtracking.specs.OneCharacter.{MatchesIf, MayMatch, DoesNotMatch}
use Rattle.backtracking.specs.TwoWays.{Rest, at, Goes, nothing, one, within, each, branch, turns, possessive, GoesAll, no_more, next}
use Rattle.backtracking.specs.TwoWays.{Turns, turn, Part, here, later, IsLongest, stops, matches}
use Rattle.backtracking.specs.declared.checker.Remaining.{Remaining}
use Rattle.backtracking.specs.declared.decision.Decision.{Decision}
use Rattle.backtracking.specs.declared.decision.Decision.TheVariants.{Branch, Again, Done}

-- what holds of what remains, where it follows from what a call said of it
pub weaker : {E : Type 0} (r : Result (Option Remaining) E) (P Q : Remaining → Type 0) →
    ((u : Remaining) → P u → Q u) → IfOk r (λ o. IfSome o P) → IfOk r (λ o. IfSome o Q)
weaker r P Q f h = IfOk-weaker r (λ o. IfSome o P) (λ o. IfSome o Q) (λ o k. IfSome_then o k f) h

-- what holds of a value that is there
pub at_some : {X : Type 0} (P : X → Type 0) (o : Option X) (x : X) → o ≡ Some x → IfSome o P → P x
at_some P o x h k = subst (λ p. IfSome p P) h k

-- ---- nodes

pub went_empty : (unicode : Bool) (t : Tree) (s : Rest) → t ≡ empty → Goes unicode t s s
went_empty unicode t s is = subst (λ x. Goes unicode x s s) (sym is) nothing

pub went_group : (unicode : Bool) (t x : Tree) (s u : Rest) → t ≡ group x → Goes unicode x s u → Goes unicode t s u
went_group unicode t x s u is k = subst (λ y. Goes unicode y s u) (sym is) (within k)

pub went_concat : (unicode : Bool) (t : Tree) (ts : Trees) (s u : Rest) → t ≡ concat ts → GoesAll unicode ts s u → Goes unicode t s u
went_concat unicode t ts s u is k = subst (λ y. Goes unicode y s u) (sym is) (each k)

pub went_one : (unicode : Bool) (t : Tree) (c : ℕ) (ds : List Decision) (w v : List ℕ) → w ≡ c ∷ v → MayMatch unicode t c → Goes unicode t (at ds w) (at ds v)
went_one unicode t c ds w v h m = subst (λ x. Goes unicode t (at ds x) (at ds v)) (sym h) (one m)

-- the tree at an index, by the expression there
tree_there : (bs : List Expr) (i : ℕ) (b : Expr) → i < length bs → b ≡ get_or bs i b →
    slice_get (list_of (trees_of (views bs))) i ≡ Some (view b)
tree_there bs i b h is = ap (λ ts. slice_get ts i) (list_of_trees_of (views bs)) ∙ slice_get-map view bs i
    ∙ ap (option_map view) (slice_get_read bs (length bs) i b refl h is)

-- the decision d is the next one
decided : (unicode : Bool) (t : Tree) (d e : Decision) (ds es : List Decision) (w : List ℕ) (u : Rest) → ds ≡ d ∷ es → d ≡ e →
    Goes unicode t (at (e ∷ es) w) u → Goes unicode t (at ds w) u
decided unicode t d e ds es w u h is k =
    subst (λ xs. Goes unicode t (at xs w) u) (sym h) (subst (λ x. Goes unicode t (at (x ∷ es) w) u) (sym is) k)

pub went_branch : (unicode : Bool) (bs : List Expr) (i : ℕ) (b : Expr) (d : Decision) (ds es : List Decision) (w : List ℕ) (u : Rest) →
    ds ≡ d ∷ es → d ≡ Branch i → i < length bs → b ≡ get_or bs i b → Goes unicode (view b) (at es w) u →
    Goes unicode (alt (trees_of (views bs))) (at ds w) u
went_branch unicode bs i b d ds es w u h is below there k =
    decided unicode _ d (Branch i) ds es w u h is (branch (tree_there bs i b below there) k)

-- ---- as many characters as there are

characters_step : (w : List ℕ) (i c : ℕ) → i < length w → c ≡ get_or w i c → drop i w ≡ c ∷ drop (i + 1) w
characters_step w i c h is =
    let step : drop i w ≡ get_or w i c ∷ drop (i + 1) w = rw (add-one, drop-cons w i c h) refl in
    step ∙ ap (λ d. d ∷ drop (i + 1) w) (sym is)

-- what a call said of a character, by what it returned
pub known : (unicode : Bool) (t : Tree) (c : ℕ) (o : Option Bool) (b d : Bool) → o ≡ Some b → b ≡ d →
    IfSome o (λ is_in. MatchesIf unicode t c is_in) → MatchesIf unicode t c d
known unicode t c o b d is e k = subst (MatchesIf unicode t c) e (at_some (MatchesIf unicode t c) o b is k)

pub longest_stops : (unicode : Bool) (t : Tree) (w : List ℕ) (i c : ℕ) → i < length w → c ≡ get_or w i c → DoesNotMatch unicode t c →
    IsLongest unicode t 0 (drop i w) (drop i w)
longest_stops unicode t w i c h is k = subst (λ x. IsLongest unicode t 0 x x) (sym (characters_step w i c h is)) (stops k)

-- one more before those from a later index on
pub longest_more : (unicode : Bool) (t : Tree) (w v : List ℕ) (i c n m : ℕ) → i < length w → c ≡ get_or w i c → MayMatch unicode t c →
    m ≡ suc n → IsLongest unicode t n (drop (i + 1) w) v → IsLongest unicode t m (drop i w) v
longest_more unicode t w v i c n m h is k count l =
    subst (λ p. IsLongest unicode t p (drop i w) v) (sym count)
    (subst (λ x. IsLongest unicode t (suc n) x v) (sym (characters_step w i c h is)) (matches k l))

pub went_possessive : (unicode : Bool) (t : Tree) (n lo hi : ℕ) (ds : List Decision) (w v : List ℕ) → v ≡ drop n w →
    IsLongest unicode t n w (drop n w) → lo ≤ n → n ≤ hi → Goes unicode (atomic_group (repeat t lo hi true)) (at ds w) (at ds v)
went_possessive unicode t n lo hi ds w v is k low high =
    subst (λ x. Goes unicode (atomic_group (repeat t lo hi true)) (at ds w) (at ds x)) (sym is) (possessive k low high)

-- ---- turns

-- the decision d follows the turns
then_decided : (unicode : Bool) (t : Tree) (n : ℕ) (d e : Decision) (ds es : List Decision) (w : List ℕ) (s : Rest) → ds ≡ d ∷ es → d ≡ e →
    Turns unicode t n s (at ds w) → Turns unicode t n s (at (e ∷ es) w)
then_decided unicode t n d e ds es w s h is k =
    subst (λ x. Turns unicode t n s (at (x ∷ es) w)) is (subst (λ xs. Turns unicode t n s (at xs w)) h k)

pub went_turn : (unicode : Bool) (t : Tree) (n : ℕ) (d : Decision) (ds es : List Decision) (w : List ℕ) (s u : Rest) → ds ≡ d ∷ es →
    d ≡ Again → Turns unicode t n s (at ds w) → Goes unicode t (at es w) u → length u.text < length w → Turns unicode t (n + 1) s u
went_turn unicode t n d ds es w s u h is k m less = rw add-one (turn (then_decided unicode t n d Again ds es w s h is k) m less)

pub went_repeat : (unicode : Bool) (t : Tree) (n lo hi : ℕ) (greedy : Bool) (d : Decision) (ds es : List Decision) (w : List ℕ) (s : Rest) →
    ds ≡ d ∷ es → d ≡ Done → Turns unicode t n s (at ds w) → lo ≤ n → n ≤ hi → Goes unicode (repeat t lo hi greedy) s (at es w)
went_repeat unicode t n lo hi greedy d ds es w s h is k low high = turns (then_decided unicode t n d Done ds es w s h is k) low high

-- ---- trees one after another

pub went_next : (unicode : Bool) (es : List Expr) (i : ℕ) (e : Expr) (s t u : Rest) → i < length es → e ≡ get_or es i e →
    Goes unicode (view e) s t → GoesAll unicode (left es (i + 1)) t u → GoesAll unicode (left es i) s u
went_next unicode es i e s t u h is k m = subst (λ ts. GoesAll unicode ts s u) (sym (left_step es i e h is)) (next k m)

pub went_all : (unicode : Bool) (es : List Expr) (i : ℕ) (s : Rest) → length es ≤ i → GoesAll unicode (left es i) s s
went_all unicode es i s h = subst (λ ts. GoesAll unicode ts s s) (sym (left_end es i h)) no_more

-- ---- two lists of decisions

decisions_step : (ds : List Decision) (i : ℕ) (d : Decision) → i < length ds →
    drop i ds ≡ get_or ds i d ∷ drop (i + 1) ds
decisions_step ds i d h = rw (add-one, drop-cons ds i d h) refl

pub part_here : (ds : List Decision) (i : ℕ) (d e : Decision) (rest more : List Decision) → i < length ds →
    rest ≡ e ∷ more → get_or ds i d ≢ e → Part (drop i ds) rest
part_here ds i d e rest more h is k =
    subst (λ xs. Part xs rest) (sym (decisions_step ds i d h)) (subst (Part (get_or ds i d ∷ drop (i + 1) ds)) (sym is) (here k))

pub part_later : (ds : List Decision) (i : ℕ) (d e : Decision) (rest more : List Decision) → i < length ds →
    rest ≡ e ∷ more → get_or ds i d ≡ e → Part (drop (i + 1) ds) more → Part (drop i ds) rest
part_later ds i d e rest more h is k p =
    subst (λ xs. Part xs rest) (sym (decisions_step ds i d h)) (subst (Part (get_or ds i d ∷ drop (i + 1) ds)) (sym is)
    (subst (λ x. Part (x ∷ drop (i + 1) ds) (e ∷ more)) (sym k) (later p)))
