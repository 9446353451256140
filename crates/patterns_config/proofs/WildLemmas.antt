-- How pieces match as they are taken from the front, and after a star.
use Rattle.std.proofs.Common.{◌≡◌, ◌≢◌, ℕ, ◌==◌, ◌↔◌, ◌⊎◌, inl, inr, Bool, true, false, IsTrue, List, [], ◌∷◌, length, arith, sym, ◌∙◌, subst}
use Rattle.std.proofs.lemmas.Bool.{false≢true}
use Rattle.std.proofs.lemmas.Bool.Decides.{Decides-eqb}
use Rattle.patterns_config.specs.Wild.{Wild, end, one, none, more, Strips, begin, next, Ends, nothing, star}
use Rattle.patterns_config.specs.Wild.{IsRestOf, same, skip, AfterStar}

tail_rest : {I : Type 0} (k : I) (ks js : List I) → IsRestOf (k ∷ ks) js → IsRestOf ks js
tail_rest k ks js same = skip same
tail_rest k ks js (skip r) = skip (tail_rest k ks _ r)

rest_tail : {I : Type 0} (k j : I) (ks js : List I) → IsRestOf (k ∷ ks) (j ∷ js) → IsRestOf ks js
rest_tail k j ks js same = same
rest_tail k j ks js (skip r) = tail_rest k ks js r

pub not_empty : (b : Bool) (n : ℕ) → b ≡ (n == 0) → b ≡ false → n ≢ 0
not_empty b n e f z = false≢true (sym f ∙ e ∙ (Decides-eqb n 0).1 z)

pub is_empty : (b : Bool) (n : ℕ) → b ≡ (n == 0) → b ≡ true → n ≡ 0
is_empty b n e t = (Decides-eqb n 0).0 (sym e ∙ t)

not_zero : {I : Type 0} (i : I) (is : List I) → length (i ∷ is) ≡ 0 → ⊥
not_zero i is h = omega arith

first_star : {U : Type 0} (Star : U → Type 0) (u : U) (us : List U) → Ends Star (u ∷ us) → Star u
first_star Star u us (star s) = s

pub ends_star : {U : Type 0} (Star : U → Type 0) (vs : List U) (v : U) (us : List U) → vs ≡ v ∷ us → Star v → Ends Star vs
ends_star {U} Star vs v us e s = let P : List U → Type 0 = λ xs. Ends Star xs in subst P (sym e) (star s)

pub ends_nothing : {U : Type 0} (Star : U → Type 0) (vs : List U) → length vs ≡ 0 → Ends Star vs
ends_nothing Star [] h = nothing
ends_nothing Star (v ∷ vs) h = absurd (omega arith)

module _ {U I : Type 0} (Star : U → Type 0) (Accepts : U → I → Type 0) where
  one_tail : (u : U) (us : List U) (i : I) (is : List I) → ¬ Star u → Wild Star Accepts (u ∷ us) (i ∷ is) → Wild Star Accepts us is
  one_tail u us i is n (one _ _ w) = w
  one_tail u us i is n (none s w) = absurd (n s)
  one_tail u us i is n (more s w) = absurd (n s)

  strips_forward : (us : List U) (is : List I) (vs : List U) (js : List I) → Strips Star Accepts us is vs js →
      Wild Star Accepts us is → Wild Star Accepts vs js
  strips_forward us is vs js begin w = w
  strips_forward us is vs js (next s n a) w = one_tail _ vs _ js n (strips_forward us is _ _ s w)

  strips_back : (us : List U) (is : List I) (vs : List U) (js : List I) → Strips Star Accepts us is vs js →
      Wild Star Accepts vs js → Wild Star Accepts us is
  strips_back us is vs js begin w = w
  strips_back us is vs js (next s n a) w = strips_back us is _ _ s (one n a w)

  no_items : (u : U) (us : List U) → ¬ Star u → Wild Star Accepts (u ∷ us) [] → ⊥
  no_items u us n (none s w) = n s

  not_accepted : (u : U) (us : List U) (i : I) (is : List I) → ¬ Star u → ¬ Accepts u i → Wild Star Accepts (u ∷ us) (i ∷ is) → ⊥
  not_accepted u us i is n a (one _ b w) = a b
  not_accepted u us i is n a (none s w) = n s
  not_accepted u us i is n a (more s w) = n s

  step_later : (v : U) (vs : List U) (j : I) (js ks : List I) → ¬ Star v → IsRestOf ks (j ∷ js) →
      Wild Star Accepts (v ∷ vs) ks → AfterStar Star Accepts vs js
  step_later v vs j js ks n r (one _ _ w) = record { left = _; rest = rest_tail _ j _ js r; wild = w }
  step_later v vs j js ks n r (none s w) = absurd (n s)
  step_later v vs j js ks n r (more s w) = absurd (n s)

  later : (us : List U) (is : List I) (vs : List U) (js ks : List I) → Strips Star Accepts us is vs js → IsRestOf ks is →
      Wild Star Accepts us ks → AfterStar Star Accepts vs js
  later us is vs js ks begin r w = record { left = ks; rest = r; wild = w }
  later us is vs js ks (next s n a) r w =
      let before = later us is _ _ ks s r w in step_later _ vs _ js before.left n before.rest before.wild

  star_more : (v : U) (vs : List U) (ks js : List I) → Star v → IsRestOf ks js → Wild Star Accepts (v ∷ vs) ks →
      Wild Star Accepts (v ∷ vs) js
  star_more v vs ks js s same w = w
  star_more v vs ks js s (skip r) w = more s (star_more v vs ks _ s r w)

  star_after : (u : U) (us : List U) (is : List I) → Star u → Wild Star Accepts (u ∷ us) is → AfterStar Star Accepts us is
  star_after u us is s (one n _ w) = absurd (n s)
  star_after u us is s (none _ w) = record { left = is; rest = same; wild = w }
  star_after u us is s (more _ w) =
      let found = star_after u us _ s w in record { left = found.left; rest = skip found.rest; wild = found.wild }

  star_before : (u : U) (us : List U) (js is : List I) → Star u → IsRestOf js is → Wild Star Accepts us js →
      Wild Star Accepts (u ∷ us) is
  star_before u us js is s same w = none s w
  star_before u us js is s (skip r) w = more s (star_before u us js _ s r w)

  -- pieces that begin with a star match exactly if the others match what some items leave
  pub star_same : (vs : List U) (is : List I) (u : U) (us : List U) → Ends Star vs → vs ≡ u ∷ us →
      Wild Star Accepts vs is ↔ AfterStar Star Accepts us is
  star_same vs is u us ends e =
      let P : List U → Type 0 = λ xs. Wild Star Accepts xs is in
      let Q : List U → Type 0 = λ xs. Ends Star xs in
      let s : Star u = first_star Star u us (subst Q e ends) in (
        λ w. star_after u us is s (subst P e w),
        λ found. subst P (sym e) (star_before u us found.left is s found.rest found.wild),
      )

  -- what is stripped does not count
  pub strips_same : (us : List U) (is : List I) (vs : List U) (js : List I) → Strips Star Accepts us is vs js →
      Wild Star Accepts us is ↔ Wild Star Accepts vs js
  strips_same us is vs js s = (strips_forward us is vs js s, strips_back us is vs js s)

  pub strips_next : (us : List U) (is : List I) (vs : List U) (js : List I) (v : U) (ws : List U) (j : I) (ks : List I) →
      Strips Star Accepts us is vs js → vs ≡ v ∷ ws → js ≡ j ∷ ks → ¬ Star v → Accepts v j → Strips Star Accepts us is ws ks
  strips_next us is vs js v ws j ks s e f n a =
      let P : List U → Type 0 = λ xs. Strips Star Accepts us is xs js in
      let Q : List I → Type 0 = λ ys. Strips Star Accepts us is (v ∷ ws) ys in
      next (subst Q f (subst P e s)) n a

  pub strips_nothing : (us : List U) (is : List I) (vs : List U) (js : List I) (v : U) (ws : List U) →
      Strips Star Accepts us is vs js → vs ≡ v ∷ ws → length js ≡ 0 → ¬ Star v → ¬ Wild Star Accepts us is
  strips_nothing us is vs [] v ws s e h n w =
      let P : List U → Type 0 = λ xs. Wild Star Accepts xs [] in
      no_items v ws n (subst P e (strips_forward us is vs [] s w))
  strips_nothing us is vs (j ∷ js) v ws s e h n w = absurd (omega arith)

  pub strips_other : (us : List U) (is : List I) (vs : List U) (js : List I) (v : U) (ws : List U) (j : I) (ks : List I) →
      Strips Star Accepts us is vs js → vs ≡ v ∷ ws → js ≡ j ∷ ks → ¬ Star v → ¬ Accepts v j → ¬ Wild Star Accepts us is
  strips_other us is vs js v ws j ks s e f n a w =
      let P : List U → Type 0 = λ xs. Wild Star Accepts xs js in
      let Q : List I → Type 0 = λ ys. Wild Star Accepts (v ∷ ws) ys in
      not_accepted v ws j ks n a (subst Q f (subst P e (strips_forward us is vs js s w)))

  no_pieces : (j : I) (js : List I) → Wild Star Accepts [] (j ∷ js) → ⊥
  no_pieces j js w = elim w [ ]

  pub strips_short : (us : List U) (is : List I) (vs : List U) (js : List I) → Strips Star Accepts us is vs js →
      length vs ≡ 0 → length js ≢ 0 → ¬ Wild Star Accepts us is
  strips_short us is [] [] s h n w = absurd (n (omega arith))
  strips_short us is [] (j ∷ js) s h n w = no_pieces j js (strips_forward us is [] (j ∷ js) s w)
  strips_short us is (v ∷ vs) js s h n w = absurd (omega arith)

  -- after a star, the first items at which the pieces up to the next star match are as good as later ones
  pub found_same : (us : List U) (is : List I) (vs : List U) (js : List I) → Strips Star Accepts us is vs js → Ends Star vs →
      (length vs ≢ 0) ⊎ (length js ≡ 0) → AfterStar Star Accepts us is ↔ Wild Star Accepts vs js
  found_same us is vs js s (star t) h = (
    λ found. let after = later us is _ js found.left s found.rest found.wild in
        star_more _ _ after.left js t after.rest after.wild,
    λ w. record { left = is; rest = same; wild = strips_back us is _ js s w },
  )
  found_same us is vs [] s nothing h = (λ _. end, λ w. record { left = is; rest = same; wild = strips_back us is [] [] s w })
  found_same us is vs (j ∷ js) s nothing (inl h) = absurd (h (omega arith))
  found_same us is vs (j ∷ js) s nothing (inr h) = absurd (omega arith)

  skip_first : (us : List U) (i : I) (is ks : List I) → ¬ Wild Star Accepts us (i ∷ is) → IsRestOf ks (i ∷ is) →
      Wild Star Accepts us ks → AfterStar Star Accepts us is
  skip_first us i is ks n same w = absurd (n w)
  skip_first us i is ks n (skip r) w = record { left = ks; rest = r; wild = w }

  -- items at which the pieces do not match can be left out after a star
  pub skip_same : (us : List U) (js : List I) (i : I) (is : List I) → ¬ Wild Star Accepts us js → js ≡ i ∷ is →
      AfterStar Star Accepts us js ↔ AfterStar Star Accepts us is
  skip_same us js i is n e =
      let P : List I → Type 0 = λ ys. AfterStar Star Accepts us ys in
      let Q : List I → Type 0 = λ ys. ¬ Wild Star Accepts us ys in
      let first : ¬ Wild Star Accepts us (i ∷ is) = subst Q e n in (
        λ found. let whole = subst P e found in skip_first us i is whole.left first whole.rest whole.wild,
        λ found. subst P (sym e) (record { left = found.left; rest = skip found.rest; wild = found.wild }),
      )

  nothing_left : (us : List U) (ks : List I) → ¬ Wild Star Accepts us [] → IsRestOf ks [] → Wild Star Accepts us ks → ⊥
  nothing_left us ks n same w = n w

  pub none_after : (us : List U) (is : List I) → ¬ Wild Star Accepts us is → length is ≡ 0 → ¬ AfterStar Star Accepts us is
  none_after us [] n h found = nothing_left us found.left n found.rest found.wild
  none_after us (i ∷ is) n h found = absurd (omega arith)

  -- no pieces match no items
  pub end_same : (b : Bool) (us : List U) (is : List I) → length us ≡ 0 → b ≡ (length is == 0) → IsTrue b ↔ Wild Star Accepts us is
  end_same b [] [] h e = (λ _. end, λ _. e ∙ (Decides-eqb (length {A = I} []) 0).1 (omega arith))
  end_same b [] (i ∷ is) h e = (
    λ t. absurd (not_zero i is (is_empty b (length (i ∷ is)) e t)),
    λ w. absurd (no_pieces i is w),
  )
  end_same b (u ∷ us) is h e = absurd (omega arith)
