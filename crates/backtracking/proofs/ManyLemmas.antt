-- Two ways over a word make exponentially many over its repetitions.
use Rattle.std.proofs.Common.{◌≡◌, ◌≢◌, ℕ, suc, ◌<◌, Bool, true, false, List, [], ◌∷◌, ◌++◌, length}
use Rattle.std.proofs.Common.{refl, sym, ap, subst, arith, length-append}
use Rattle.fancy_grammar.specs.Tree.{Tree, Trees}
use Rattle.backtracking.specs.ManyWays.{times, chosen, HasManyWays}
use Rattle.backtracking.specs.TwoWays.{Rest, at, Goes, nothing, passed, one, within, each, branch, turns, possessive, GoesAll, no_more, next, IsLongest, stops, matches}
use Rattle.backtracking.specs.TwoWays.{Turns, no_turn, turn, Part, here, later, IsWay, AreTwoWays}
use Rattle.backtracking.specs.declared.decision.Decision.{Decision}

-- what remains, with more after it
abbrev pub and_then : Rest → Rest → Rest
and_then s r = at (s.decisions ++ r.decisions) (s.text ++ r.text)

longer : (v w x : List ℕ) → length v < length w → length (v ++ x) < length (w ++ x)
longer v w x h = omega (arith, h, length-append v x, length-append w x)

more_longest : (unicode : Bool) (t : Tree) (n : ℕ) (w v x : List ℕ) → IsLongest unicode t n w v → IsLongest unicode t n (w ++ x) (v ++ x)
more_longest unicode t n w v x (stops k) = stops k
more_longest unicode t n w v x (matches k l) = matches k (more_longest unicode t _ _ v x l)

mutual
  more_goes : (unicode : Bool) (t : Tree) (s u r : Rest) → Goes unicode t s u → Goes unicode t (and_then s r) (and_then u r)
  more_goes unicode t s u r nothing = nothing
  more_goes unicode t s u r (passed h) = passed h
  more_goes unicode t s u r (one m) = one m
  more_goes unicode t s u r (within k) = within (more_goes unicode _ s u r k)
  more_goes unicode t s u r (each k) = each (more_goes_all unicode _ s u r k)
  more_goes unicode t s u r (branch at_index k) = branch at_index (more_goes unicode _ _ u r k)
  more_goes unicode t s u r (turns k low high) = turns (more_turns unicode _ _ s _ r k) low high
  more_goes unicode t s u r (possessive k low high) = possessive (more_longest unicode _ _ s.text u.text r.text k) low high

  pub more_goes_all : (unicode : Bool) (ts : Trees) (s u r : Rest) → GoesAll unicode ts s u →
      GoesAll unicode ts (and_then s r) (and_then u r)
  more_goes_all unicode ts s u r no_more = no_more
  more_goes_all unicode ts s u r (next k l) = next (more_goes unicode _ s _ r k) (more_goes_all unicode _ _ u r l)

  pub more_turns : (unicode : Bool) (t : Tree) (n : ℕ) (s u r : Rest) → Turns unicode t n s u →
      Turns unicode t n (and_then s r) (and_then u r)
  more_turns unicode t n s u r no_turn = no_turn
  more_turns unicode t n s u r (turn {w = w} k l less) =
      turn (more_turns unicode t _ s _ r k) (more_goes unicode t _ u r l) (longer u.text w r.text less)

-- turns after turns
pub joined : (unicode : Bool) (t : Tree) (n m : ℕ) (s u v : Rest) → Turns unicode t n s u → Turns unicode t m u v →
    (count : ℕ) × Turns unicode t count s v
joined unicode t n m s u v k no_turn = (n, k)
joined unicode t n m s u v k (turn l g less) = let before = joined unicode t n _ s u _ k l in (suc before.0, turn before.1 g less)

-- a way over one word, and one over another, are a way over both
pub both : (unicode : Bool) (t : Tree) (w x : List ℕ) (ds es : List Decision) → IsWay unicode t w ds → IsWay unicode t x es →
    IsWay unicode t (w ++ x) (ds ++ es)
both unicode t w x ds es k l =
    let all = joined unicode t k.count l.count (at (ds ++ es) (w ++ x)) (at es x) (at [] [])
    (more_turns unicode t k.count (at ds w) (at [] []) (at es x) k.goes) l.goes in
    record { count = all.0; goes = all.1 }

many : (unicode : Bool) (t : Tree) (w : List ℕ) (ds es : List Decision) → AreTwoWays unicode t w ds es →
    (bs : List Bool) → IsWay unicode t (times (length bs) w) (chosen ds es bs)
many unicode t w ds es h [] = record { count = 0; goes = no_turn }
many unicode t w ds es h (true ∷ bs) = both unicode t w (times (length bs) w) ds (chosen ds es bs) h.first (many unicode t w ds es h bs)
many unicode t w ds es h (false ∷ bs) = both unicode t w (times (length bs) w) es (chosen ds es bs) h.second (many unicode t w ds es h bs)

pub part_more : (ds es x y : List Decision) → Part ds es → Part (ds ++ x) (es ++ y)
part_more ds es x y (here h) = here h
part_more ds es x y (later k) = later (part_more _ _ x y k)

pub part_same : (ds x y : List Decision) → Part x y → Part (ds ++ x) (ds ++ y)
part_same [] x y k = k
part_same (d ∷ ds) x y k = later (part_same ds x y k)

pub part_turned : (ds es : List Decision) → Part ds es → Part es ds
part_turned ds es (here h) = here (λ e. h (sym e))
part_turned ds es (later k) = later (part_turned _ _ k)

apart : (ds es : List Decision) → Part ds es → (bs cs : List Bool) → length bs ≡ length cs → bs ≢ cs →
    Part (chosen ds es bs) (chosen ds es cs)
apart ds es k [] [] h ne = absurd (ne refl)
apart ds es k [] (c ∷ cs) h ne = absurd (omega (arith, h))
apart ds es k (b ∷ bs) [] h ne = absurd (omega (arith, h))
apart ds es k (true ∷ bs) (true ∷ cs) h ne =
    part_same ds _ _ (apart ds es k bs cs (omega (arith, h)) (λ e. ne (ap (λ xs. true ∷ xs) e)))
apart ds es k (false ∷ bs) (false ∷ cs) h ne =
    part_same es _ _ (apart ds es k bs cs (omega (arith, h)) (λ e. ne (ap (λ xs. false ∷ xs) e)))
apart ds es k (true ∷ bs) (false ∷ cs) h ne = part_more ds es _ _ k
apart ds es k (false ∷ bs) (true ∷ cs) h ne = part_more es ds _ _ (part_turned ds es k)

pub many_ways : (unicode : Bool) (t : Tree) (w : List ℕ) (ds es : List Decision) → AreTwoWays unicode t w ds es →
    HasManyWays unicode t w ds es
many_ways unicode t w ds es h =
    record { ways = many unicode t w ds es h; different = apart ds es h.part }

-- the same, where the lists are known by equations
pub many_ways_of : (unicode : Bool) (t : Tree) (v w : List ℕ) (xs ds ys es : List Decision) → v ≡ w → xs ≡ ds → ys ≡ es →
    AreTwoWays unicode t v xs ys → HasManyWays unicode t w ds es
many_ways_of unicode t v w xs ds ys es a b d h = many_ways unicode t w ds es
    (subst (λ l. AreTwoWays unicode t w ds l) d (subst (λ l. AreTwoWays unicode t w l ys) b
    (subst (λ l. AreTwoWays unicode t l xs ys) a h)))
