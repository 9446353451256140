-- One step of the definition of comments in a class.
use Rattle.std.proofs.Common.{◌≡◌, ◌≢◌, ℕ, zero, suc, ◌+◌, ◌≤◌, ◌<◌, Bool, true, false, [], ◌∷◌, ◌++◌, arith, ◌==◌, ap}
use Rattle.std.proofs.Common.{if◌then◌else◌, nat_le, nat_lt, refl, ◌∙◌}
use Rattle.std.proofs.lemmas.Bool.Decides.{nat_tests}
use Rattle.std.proofs.lemmas.Str.{len_utf8_bounds}
use Prim.Native.Char.{code}
use Rattle.fancy_lex.specs.Escape.{escape}
use Rattle.fancy_lex.specs.Escaped.{Escape}
use Rattle.fancy_lex.specs.Reading.{Reading, gives, fails}
use Rattle.fancy_lex.specs.Text.{Text, bytes, reach_of}
use Rattle.fancy_lex.specs.TokenComments.{escape_comments, after_escape, class_comments, class_comments_from}
use Rattle.fancy_lex.specs.declared.flags.Flags.{Flags}
use Rattle.fancy_lex.proofs.EscapeLaws.{escape_within}

-- a character is a byte or more
shorter : (c : ℕ) (t : Text) → bytes t < bytes (c ∷ t)
unfolding bytes
shorter c t = omega (arith, (len_utf8_bounds c).0)

module _ (f : Flags) (v : ℕ) where
  -- with enough steps their number does not matter
  more_steps : (j k : ℕ) (t : Text) → bytes t < j → bytes t < k →
      class_comments_from f v j t ≡ class_comments_from f v k t
  unfolding class_comments_from
  more_steps zero k t h i = absurd (omega (arith, h))
  more_steps (suc j) zero t h i = absurd (omega (arith, i))
  more_steps (suc j) (suc k) [] h i = refl
  more_steps (suc j) (suc k) (c ∷ t) h i =
      by_end (nat_le (reach_of (c ∷ t)) v) (c == code "\\") (escape f true t) refl
      (more_steps j k t (omega (arith, h, shorter c t)) (omega (arith, i, shorter c t)))
      (λ u l. more_steps j k u (omega (arith, h, shorter c t, l)) (omega (arith, i, shorter c t, l)))
    where
      by_end : (a b : Bool) (o : Reading Escape) → escape f true t ≡ o →
          class_comments_from f v j t ≡ class_comments_from f v k t →
          ((u : Text) → bytes u ≤ bytes t → class_comments_from f v j u ≡ class_comments_from f v k u) →
          (if a then [] else if b then after_escape (class_comments_from f v j) v t o else class_comments_from f v j t)
          ≡ (if a then [] else if b then after_escape (class_comments_from f v k) v t o else class_comments_from f v k t)
      by_end true b o l e g = refl
      by_end false true (gives x u) l e g =
          ap (λ z. if nat_lt (reach_of u) v then [] else escape_comments t (reach_of u) ++ z) (g u (escape_within f true t u x l))
      by_end false true (fails x) l e g = refl
      by_end false false o l e g = e

  module _ (t : Text) (c : ℕ) (r : Text) (e : t ≡ c ∷ r) (h : v < reach_of t) where
    next_is : class_comments f t v ≡ (if nat_le (reach_of t) v then []
        else if c == code "\\" then after_escape (class_comments_from f v (bytes t)) v r (escape f true r)
        else class_comments_from f v (bytes t) r)
    unfolding class_comments_from
    next_is = rw e refl

    fewer : (u : Text) → bytes u ≤ bytes r → class_comments_from f v (bytes t) u ≡ class_comments f u v
    fewer u l =
        more_steps (bytes t) (suc (bytes u)) u (omega (arith, l, shorter c r, ap bytes e)) (omega arith)

    pub after_plain : c ≢ code "\\" → class_comments f t v ≡ class_comments f r v
    after_plain i = let step = next_is in let less = fewer r (omega arith) in grind (arith, nat_tests)

    pub after_backslash : (x : Escape) (u : Text) → c ≡ code "\\" → escape f true r ≡ gives x u → v ≤ reach_of u →
        class_comments f t v ≡ escape_comments r (reach_of u) ++ class_comments f u v
    after_backslash x u i g l =
        let inside : nat_lt (reach_of u) v ≡ false = grind (arith, nat_tests) in
        first ∙ ap (after_escape (class_comments_from f v (bytes t)) v r) g
        ∙ ap (λ b. if b then [] else escape_comments r (reach_of u) ++ class_comments_from f v (bytes t) u) inside
        ∙ ap (λ z. escape_comments r (reach_of u) ++ z) (fewer u (escape_within f true r u x g))
      where
        first : class_comments f t v ≡ after_escape (class_comments_from f v (bytes t)) v r (escape f true r)
        first = let step = next_is in grind (arith, nat_tests)

    -- an escape that does not end in the class, which has none
    pub after_too_far : (x : Escape) (u : Text) → c ≡ code "\\" → escape f true r ≡ gives x u → reach_of u < v →
        class_comments f t v ≡ []
    after_too_far x u i g l =
        let far : nat_lt (reach_of u) v ≡ true = grind (arith, nat_tests) in
        first ∙ ap (after_escape (class_comments_from f v (bytes t)) v r) g
        ∙ ap (λ b. if b then [] else escape_comments r (reach_of u) ++ class_comments_from f v (bytes t) u) far
      where
        first : class_comments f t v ≡ after_escape (class_comments_from f v (bytes t)) v r (escape f true r)
        first = let step = next_is in grind (arith, nat_tests)

  -- at the end of the class, or of the text
  pub at_end : (t : Text) → reach_of t ≤ v → class_comments f t v ≡ []
  unfolding class_comments_from
  at_end [] h = refl
  at_end (c ∷ r) h = by_test (nat_le (reach_of (c ∷ r)) v) (grind (arith, nat_tests))
    where
      by_test : (b : Bool) → b ≡ true → (if b then [] else if c == code "\\"
          then after_escape (class_comments_from f v (bytes (c ∷ r))) v r (escape f true r)
          else class_comments_from f v (bytes (c ∷ r)) r) ≡ []
      by_test true e = refl
      by_test false e = absurd cc

  pub at_text_end : (t : Text) → t ≡ [] → class_comments f t v ≡ []
  unfolding class_comments_from
  at_text_end t e = rw e refl

  -- an escape that cannot be read, which is in no class
  pub no_escape : (t : Text) (c : ℕ) (r : Text) → t ≡ c ∷ r → c ≡ code "\\" → ((x : Escape) (u : Text) →
      escape f true r ≡ gives x u → ⊥) → class_comments f t v ≡ []
  unfolding class_comments_from
  no_escape t c r e i n = rw (e, i) (by_outcome (nat_le (reach_of (code "\\" ∷ r)) v) (escape f true r) n)
    where
      by_outcome : (b : Bool) (o : Reading Escape) → ((x : Escape) (u : Text) → o ≡ gives x u → ⊥) →
          (if b then [] else after_escape (class_comments_from f v (bytes (code "\\" ∷ r))) v r o) ≡ []
      by_outcome true o n = refl
      by_outcome false (gives x u) n = absurd (n x u refl)
      by_outcome false (fails x) n = refl
