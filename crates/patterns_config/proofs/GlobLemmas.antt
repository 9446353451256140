-- The names of a path, as they are read, and pieces that are seen as others.
use Rattle.std.proofs.Common.{◌≡◌, ◌≢◌, ℕ, ◌==◌, ◌↔◌, Bool, true, false, List, [], ◌∷◌, ◌++◌, map, refl, sym, ◌∙◌, ap, subst}
use Rattle.std.proofs.Common.{append_assoc, if◌then◌else◌}
use Rattle.std.proofs.lemmas.List.{append-nil, map-append}
use Rattle.std.proofs.lemmas.Bool.{false≢true}
use Rattle.std.proofs.lemmas.Bool.Decides.{Decides-eqb}
use Rattle.patterns_config.specs.Globs.{put_before, names}
use Rattle.patterns_config.specs.Wild.{Wild, end, one, none, more}

put_twice : (m n : List ℕ) (ns : List (List ℕ)) → put_before m (put_before n ns) ≡ put_before (m ++ n) ns
put_twice m n [] = refl
put_twice m n (first ∷ others) = ap (λ name. name ∷ others) (sym (append_assoc m n first))

put_nothing_if : (b : Bool) (c : ℕ) (ns : List (List ℕ)) →
    put_before [] (if b then [] ∷ ns else put_before (c ∷ []) ns) ≡ (if b then [] ∷ ns else put_before (c ∷ []) ns)
put_nothing_if true c ns = refl
put_nothing_if false c ns = put_twice [] (c ∷ []) ns

pub put_nothing : (cs : List ℕ) → put_before [] (names cs) ≡ names cs
put_nothing [] = refl
put_nothing (c ∷ cs) = put_nothing_if (c == 47) c (names cs)

slash_if : (b : Bool) (c : ℕ) (n : List ℕ) (ns : List (List ℕ)) → b ≡ true →
    put_before n (if b then [] ∷ ns else put_before (c ∷ []) ns) ≡ n ∷ ns
slash_if true c n ns e = ap (λ name. name ∷ ns) (append-nil n)
slash_if false c n ns e = absurd (false≢true e)

pub slash : (c : ℕ) (cs n : List ℕ) → c ≡ 47 → put_before n (names (c ∷ cs)) ≡ n ∷ names cs
slash c cs n e = slash_if (c == 47) c n (names cs) ((Decides-eqb c 47).1 e)

other_if : (b : Bool) (c : ℕ) (n : List ℕ) (ns : List (List ℕ)) → b ≢ true →
    put_before n (if b then [] ∷ ns else put_before (c ∷ []) ns) ≡ put_before (n ++ (c ∷ [])) ns
other_if true c n ns h = absurd (h refl)
other_if false c n ns h = put_twice n (c ∷ []) ns

pub other : (c : ℕ) (cs n : List ℕ) → c ≢ 47 → put_before n (names (c ∷ cs)) ≡ put_before (n ++ (c ∷ [])) (names cs)
other c cs n h = other_if (c == 47) c n (names cs) (λ e. h ((Decides-eqb c 47).0 e))

-- a slash ends a name
pub slash_step : {V : Type 0} (f : V → List ℕ) (found new : List V) (name : V) (start : List ℕ) (all : List (List ℕ)) (rest cs : List ℕ)
    (c : ℕ) → all ≡ map f found ++ put_before (f name) (names rest) → rest ≡ c ∷ cs → c ≡ 47 → new ≡ found ++ (name ∷ []) →
    start ≡ [] → all ≡ map f new ++ put_before start (names cs)
slash_step {V} f found new name start all rest cs c before cut is new_is empty_is =
    let first : all ≡ map f found ++ (f name ∷ names cs) =
    before ∙ ap (λ (r : List ℕ). map f found ++ put_before (f name) (names r)) cut
    ∙ ap (λ (ns : List (List ℕ)). map f found ++ ns) (slash c cs (f name) is) in
    let later : map f new ++ put_before start (names cs) ≡ map f found ++ (f name ∷ names cs) =
    ap (λ (xs : List V). map f xs ++ put_before start (names cs)) new_is
    ∙ ap (λ (xs : List (List ℕ)). xs ++ put_before start (names cs)) (map-append f found (name ∷ []))
    ∙ append_assoc (map f found) (f name ∷ []) (put_before start (names cs))
    ∙ ap (λ (n : List ℕ). map f found ++ (f name ∷ put_before n (names cs))) empty_is
    ∙ ap (λ (ns : List (List ℕ)). map f found ++ (f name ∷ ns)) (put_nothing cs) in
    first ∙ sym later

module _ {U V I J : Type 0} (f : V → U) (g : J → I) (Star : U → Type 0) (Accepts : U → I → Type 0) where
  seen : (vs : List V) (js : List J) → Wild (λ v. Star (f v)) (λ v j. Accepts (f v) (g j)) vs js →
      Wild Star Accepts (map f vs) (map g js)
  seen vs js end = end
  seen vs js (one n a w) = one n a (seen _ _ w)
  seen vs js (none s w) = none s (seen _ js w)
  seen vs js (more s w) = more s (seen vs _ w)

  unseen : (us : List U) (is : List I) → Wild Star Accepts us is → (vs : List V) (js : List J) → map f vs ≡ us → map g js ≡ is →
      Wild (λ v. Star (f v)) (λ v j. Accepts (f v) (g j)) vs js
  unseen us is end [] [] d e = end
  unseen us is end [] (j ∷ js) d e = absurd (cc)
  unseen us is end (v ∷ vs) js d e = absurd (cc)
  unseen us is (one n a w) [] js d e = absurd (cc)
  unseen us is (one n a w) (v ∷ vs) [] d e = absurd (cc)
  unseen us is (one {u} {i} {us = rest} {is = others} n a w) (v ∷ vs) (j ∷ js) d e =
      let same_u : f v ≡ u = cc in
      let same_i : g j ≡ i = cc in
      let not_star : ¬ Star (f v) = λ s. n (subst Star same_u s) in
      let by_u : Accepts (f v) i = let P : U → Type 0 = λ x. Accepts x i in subst P (sym same_u) a in
      let accepted : Accepts (f v) (g j) = let P : I → Type 0 = λ x. Accepts (f v) x in subst P (sym same_i) by_u in
      one not_star accepted (unseen rest others w vs js (cc) (cc))
  unseen us is (none s w) [] js d e = absurd (cc)
  unseen us is (none {u} {us = rest} s w) (v ∷ vs) js d e =
      let same_u : f v ≡ u = cc in none (subst Star (sym same_u) s) (unseen rest is w vs js (cc) e)
  unseen us is (more s w) [] js d e = absurd (cc)
  unseen us is (more s w) (v ∷ vs) [] d e = absurd (cc)
  unseen us is (more {u} {is = others} s w) (v ∷ vs) (j ∷ js) d e =
      let same_u : f v ≡ u = cc in more (subst Star (sym same_u) s) (unseen us others w (v ∷ vs) js d (cc))

  -- what matches as it is seen, matches
  pub seen_same : (vs : List V) (js : List J) →
      Wild (λ v. Star (f v)) (λ v j. Accepts (f v) (g j)) vs js ↔ Wild Star Accepts (map f vs) (map g js)
  seen_same vs js = (seen vs js, λ w. unseen (map f vs) (map g js) w vs js refl refl)
