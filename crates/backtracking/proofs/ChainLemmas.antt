-- Three ways from each repeat of a chain to the next one make many ways through it.
use Rattle.std.proofs.Common.{◌≡◌, ◌≢◌, ℕ, zero, suc, ◌+◌, ◌*◌, ◌<◌, ◌⊎◌, inl, inr, Bool, List, [], ◌∷◌, ◌++◌, length, Option, Some, None}
use Rattle.std.proofs.Common.{refl, sym, ap, ap₂, ◌∙◌, subst, arith, ⊎_elim}
use Rattle.std.proofs.Math.Nat.{suc-mul}
use Rattle.std.proofs.lemmas.List.{append_assoc}
use Rattle.std.specs.Prelude.{IsSomeAnd, slice_get}
use Rattle.fancy_grammar.specs.Tree.{Tree}
use Rattle.backtracking.specs.Chain.{Link, Chain, start, next, last_part, links, Through, turns_of_first, turns_of_next}
use Rattle.backtracking.specs.Chain.{crossings, IsChoice, HasWaysThrough}
use Rattle.backtracking.specs.ManySplits.{split}
use Rattle.backtracking.specs.ManyWays.{times}
use Rattle.backtracking.specs.SlowSequences.{IsRepeatOf, itself, inside, IsChain, one, more}
use Rattle.backtracking.specs.ThreeWays.{IsWayAcross, AreThreeWays}
use Rattle.backtracking.specs.TwoWays.{Rest, at, Turns, no_turn, Part}
use Rattle.backtracking.specs.declared.decision.Decision.{Decision}
use Rattle.backtracking.proofs.ManyLemmas.{and_then, more_goes_all, more_turns, joined, part_more, part_same, part_turned}
use Rattle.backtracking.proofs.SplitLemmas.{many_splits}

-- ---- what a tree repeats

same_part : (x y t : Tree) → IsRepeatOf x t → IsRepeatOf y t → x ≡ y
same_part x y t (itself less) (itself below) = refl
same_part x y t (inside k) (inside l) = same_part x y _ k l

same_part_at : (x y : Tree) (o : Option Tree) → IsSomeAnd o (IsRepeatOf x) → IsSomeAnd o (IsRepeatOf y) → x ≡ y
same_part_at x y None k l = absurd k
same_part_at x y (Some t) k l = same_part x y t k l

last_repeat : (unicode : Bool) (trees : List Tree) (w : List ℕ) (c : Chain) (i : ℕ) → IsChain unicode trees w c i →
    IsSomeAnd (slice_get trees i) (IsRepeatOf (last_part c))
last_repeat unicode trees w _ i (one k) = k
last_repeat unicode trees w _ i (more k cut three) = cut.last

-- the last repeat of a chain repeats what the tree at its index does
pub last_of_chain : (unicode : Bool) (trees : List Tree) (w : List ℕ) (c : Chain) (i : ℕ) (x : Tree) → IsChain unicode trees w c i →
    IsSomeAnd (slice_get trees i) (IsRepeatOf x) → last_part c ≡ x
last_of_chain unicode trees w c i x k l = same_part_at (last_part c) x (slice_get trees i) (last_repeat unicode trees w c i k) l

-- ---- ways through

more_through : (unicode : Bool) (c : Chain) (s u r : Rest) → Through unicode c s u → Through unicode c (and_then s r) (and_then u r)
more_through unicode _ s u r (turns_of_first k) = turns_of_first (more_turns unicode _ _ s u r k)
more_through unicode _ s v r (turns_of_next {u = u} k between l) =
    turns_of_next (more_through unicode _ s _ r k) (more_goes_all unicode _ _ u r between) (more_turns unicode _ _ u v r l)

-- and more turns of the last repeat
through_turns : (unicode : Bool) (c : Chain) (n : ℕ) (s u v : Rest) → Through unicode c s u → Turns unicode (last_part c) n u v →
    Through unicode c s v
through_turns unicode _ n s u v (turns_of_first k) l = turns_of_first (joined unicode _ _ n s u v k l).1
through_turns unicode _ n s u v (turns_of_next {u = from} k between t) l =
    turns_of_next k between (joined unicode _ _ n from u v t l).1

-- a way through, and one across to the next repeat
through_across : (unicode : Bool) (c : Chain) (l : Link) (v w : List ℕ) (ds es : List Decision) →
    Through unicode c (at ds v) (at [] []) → IsWayAcross unicode (last_part c) l.between l.part w es →
    Through unicode (next c l) (at (ds ++ es) (v ++ w)) (at [] [])
through_across unicode c l v w ds es k a = turns_of_next
    (through_turns unicode c a.count _ _ _ (more_through unicode c (at ds v) (at [] []) (at es w) k) a.turns_of_x) a.between a.turns_of_y.goes

-- ---- words of several links

times_plus : (a b : ℕ) (w : List ℕ) → times (a + b) w ≡ times a w ++ times b w
times_plus zero b w = let no_more : zero + b ≡ b = omega arith in ap (λ n. times n w) no_more
times_plus (suc a) b w =
    let one_more : suc a + b ≡ suc (a + b) = omega arith in
    ap (λ n. times n w) one_more ∙ ap (λ v. w ++ v) (times_plus a b w) ∙ sym (append_assoc w (times a w) (times b w))

times_links : (n m : ℕ) (w : List ℕ) → times (n * m) w ++ times m w ≡ times (suc n * m) w
times_links n m w = sym (times_plus (n * m) m w) ∙ ap (λ k. times k w) (sym (suc-mul n m))

no_words : (m : ℕ) (w : List ℕ) → [] ≡ times (zero * m) w
no_words m w = let none : zero ≡ zero * m = omega arith in ap (λ n. times n w) none

-- ---- each choice is a way

chain_ways : (unicode : Bool) (trees : List Tree) (w : List ℕ) (c : Chain) (i : ℕ) → IsChain unicode trees w c i → (m : ℕ) (ks : List ℕ) →
    IsChoice m c ks → Through unicode c (at (crossings m c ks) (times (links c * m) w)) (at [] [])
chain_ways unicode trees w _ i (one {x} k) m ks h =
    subst (λ v. Through unicode (start x) (at [] v) (at [] [])) (no_words m w) (turns_of_first no_turn)
chain_ways unicode trees w _ i (more k cut three) m [] h = absurd (omega (arith, h.0))
chain_ways unicode trees w _ j (more {c = c} {i = at_i} {l = l} k cut three) m (n ∷ ks) h =
    subst (λ v. Through unicode (next c l) (at (crossings m c ks ++ split l.before l.across l.after m n) v) (at [] []))
    (times_links (links c) m w)
    (through_across unicode c l (times (links c * m) w) (times m w) (crossings m c ks) (split l.before l.across l.after m n)
    (chain_ways unicode trees w c at_i k m ks (omega (arith, h.0), h.1.1))
    ((many_splits unicode (last_part c) l.between l.part w l.before l.across l.after three).ways m n h.1.0))

-- ---- no two choices give the same way

splits_part : (ds es fs : List Decision) → Part ds es → (n j k : ℕ) → j < n → k < n →
    (j ≡ k) ⊎ Part (split ds es fs n j) (split ds es fs n k)
splits_part ds es fs p zero j k h l = absurd (omega (arith, h))
splits_part ds es fs p (suc n) zero zero h l = inl refl
splits_part ds es fs p (suc n) zero (suc k) h l = inr (part_more es ds _ _ (part_turned ds es p))
splits_part ds es fs p (suc n) (suc j) zero h l = inr (part_more ds es _ _ p)
splits_part ds es fs p (suc n) (suc j) (suc k) h l =
    ⊎_elim (λ e. inl (ap suc e)) (λ q. inr (part_same ds _ _ q)) (splits_part ds es fs p n j k (omega (arith, h)) (omega (arith, l)))

chain_part : (unicode : Bool) (trees : List Tree) (w : List ℕ) (c : Chain) (i : ℕ) → IsChain unicode trees w c i → (m : ℕ) (js ks : List ℕ) →
    IsChoice m c js → IsChoice m c ks → (js ≡ ks) ⊎ Part (crossings m c js) (crossings m c ks)
chain_part unicode trees w _ i (one k) m [] [] h l = inl refl
chain_part unicode trees w _ i (one k) m [] (n ∷ ks) h l = absurd (omega (arith, l.0))
chain_part unicode trees w _ i (one k) m (j ∷ js) ks h l = absurd (omega (arith, h.0))
chain_part unicode trees w _ i (more k cut three) m [] ks h l = absurd (omega (arith, h.0))
chain_part unicode trees w _ i (more k cut three) m (j ∷ js) [] h l = absurd (omega (arith, l.0))
chain_part unicode trees w _ i (more {c = c} {i = at_i} {l = link} k cut three) m (j ∷ js) (n ∷ ks) h l =
    ⊎_elim
    (λ (same : js ≡ ks). ⊎_elim
    (λ (e : j ≡ n). inl (ap₂ (λ x xs. x ∷ xs) e same))
    (λ p. inr (subst (λ xs. Part (crossings m c js ++ split link.before link.across link.after m j)
    (crossings m c xs ++ split link.before link.across link.after m n)) same (part_same (crossings m c js) _ _ p)))
    (splits_part link.before link.across link.after three.part m j n h.1.0 l.1.0))
    (λ p. inr (part_more _ _ _ _ p))
    (chain_part unicode trees w c at_i k m js ks (omega (arith, h.0), h.1.1) (omega (arith, l.0), l.1.1))

pub ways_through : (unicode : Bool) (trees : List Tree) (w : List ℕ) (c : Chain) (i : ℕ) → IsChain unicode trees w c i →
    HasWaysThrough unicode c w
ways_through unicode trees w c i k = record {
  ways = chain_ways unicode trees w c i k;
  different = λ m js ks h l ne. ⊎_elim (λ e. absurd (ne e)) (λ p. p) (chain_part unicode trees w c i k m js ks h l);
}
