-- The comments in layout are those of its units that are no blanks.
use Rattle.std.proofs.Common.{◌≡◌, ◌≢◌, ℕ, Bool, true, false, List, [], ◌∷◌, ◌++◌, Option, Some, None, ap, sym, ◌∙◌}
use Rattle.std.proofs.Common.{refl, arith, inl, inr, append_assoc, append-nil, subst, ◌&&◌}
use Rattle.std.specs.List.{AllByRecursion}
use Rattle.std.proofs.lemmas.Bool.{cases_eq}
use Rattle.std.proofs.lemmas.Bool.Decides.{nat_tests}
use Prim.Native.Char.{code}
use Rattle.fancy_lex.specs.Comments.{Comment, comments, comments_from, closed_before, line_before}
use Rattle.fancy_lex.specs.Layout.{InComment, nothing, plain, pair, InLine, end_line, on_line, comment_start, IsComment}
use Rattle.fancy_lex.specs.Layout.{IsLineComment, IsUnit, Units, none, more, Stops, is_blank}
use Rattle.fancy_lex.specs.LayoutSteps.{rest, layout, comment, line, after_comment_start}
use Rattle.fancy_lex.specs.Text.{Text, reach_of}
use Rattle.fancy_lex.proofs.CommentLemmas.{comment_on, comment_pair, comment_closed, escaped_next, line_on, line_closed}
use Rattle.fancy_lex.proofs.CommentLemmas.{line_ends, opens, opens_line, after_blank, none_plain, none_at_end, none_other}
use Rattle.fancy_lex.proofs.LayoutLaws.{snoc, split_line, opened_is, layout_sound}

-- the comments are in the text from t up to v, in its order, and P holds of the text before, between and after them
pub data AreUnits (P : Text → Type 0) : Text → Text → List Comment → Type 0 where
  no_more : {t v : Text} (w : Text) → P w → t ≡ w ++ v → AreUnits P t v []
  a_comment : {t m v : Text} {l : List Comment} (w u : Text) → P w → t ≡ w ++ (u ++ m) → IsComment u →
      AreUnits P m v l → AreUnits P t v (closed_before (reach_of (u ++ m)) m ∷ l)
  a_line : {t m v : Text} {l : List Comment} (w u : Text) → P w → t ≡ w ++ (u ++ m) → IsLineComment u m →
      AreUnits P m v l → AreUnits P t v (line_before (reach_of (u ++ m)) m ∷ l)

-- after one more character
pub earlier : {P : Text → Type 0} {t v : Text} {l : List Comment} (c : ℕ) → ((w : Text) → P w → P (c ∷ w)) →
    AreUnits P t v l → AreUnits P (c ∷ t) v l
earlier c g (no_more w p e) = no_more (c ∷ w) (g w p) (ap (λ s. c ∷ s) e)
earlier c g (a_comment w u p e h k) = a_comment (c ∷ w) u (g w p) (ap (λ s. c ∷ s) e) h k
earlier c g (a_line w u p e h k) = a_line (c ∷ w) u (g w p) (ap (λ s. c ∷ s) e) h k

-- whitespace that is ignored
abbrev pub AreIgnored : Bool → Text → Type 0
AreIgnored x = AllByRecursion (λ c. (x && is_blank c) ≡ true)

-- in layout
abbrev pub AreInLayout : Bool → Text → Text → List Comment → Type 0
AreInLayout x = AreUnits (AreIgnored x)

module _ (x : Bool) where
  past_inside : {i : Text} → InComment i → (p : ℕ) (r : Text) →
      comments_from x comment p (i ++ r) ≡ comments_from x comment p r
  past_inside nothing p r = refl
  past_inside (plain {c} {t} a b h) p r = comment_on x p _ c (t ++ r) refl b a ∙ past_inside h p r
  past_inside (pair {b} {c} {t} e h) p r =
      comment_pair x p _ b (c ∷ (t ++ r)) refl e ∙ escaped_next x p _ c (t ++ r) refl ∙ past_inside h p r

  past_line : {i : Text} → InLine i → (p : ℕ) (r : Text) → comments_from x line p (i ++ r) ≡ comments_from x line p r
  past_line end_line p r = refl
  past_line (on_line {c} {t} a h) p r = line_on x p _ c (t ++ r) refl a ∙ past_line h p r

  not_open : (c : ℕ) (r : Text) → c ≢ code "(" → after_comment_start (c ∷ r) ≡ None
  not_open c r h = grind (arith, nat_tests)

  at_hash : x ≡ true → (r : Text) → comments x (code "#" ∷ r) ≡ comments_from x line (reach_of (code "#" ∷ r)) r
  at_hash on r = opens_line x _ (code "#") r refl refl on refl

  -- a comment is the first of those that follow
  past_comment : (u r : Text) → IsComment u → comments x (u ++ r) ≡ closed_before (reach_of (u ++ r)) r ∷ comments x r
  past_comment u r (i, h, e) =
      let p = reach_of (u ++ r) in
      let cut : u ++ r ≡ comment_start ++ (i ++ code ")" ∷ r) = rw (e, snoc) refl in
      opens x (u ++ r) (i ++ code ")" ∷ r) (ap after_comment_start cut) ∙ past_inside h p (code ")" ∷ r)
      ∙ comment_closed x p _ (code ")") r refl refl

  past_blank : x ≡ true → (c : ℕ) → is_blank c ≡ true → (r : Text) → comments x (c ∷ r) ≡ comments x r
  past_blank on c b r =
      let other : c ≢ code "#" = grind (arith, nat_tests) in
      let paren : c ≢ code "(" = grind (arith, nat_tests) in
      after_blank x _ c r refl (not_open c r paren) on other b

  past_line_comment : x ≡ true → (u r : Text) → IsLineComment u r →
      comments x (u ++ r) ≡ line_before (reach_of (u ++ r)) r ∷ comments x r
  past_line_comment on u r (i, h, inl e) =
      let p = reach_of (u ++ r) in
      let cut : u ++ r ≡ code "#" ∷ (i ++ code "\n" ∷ r) = rw (e, snoc) refl in
      ap (comments x) cut ∙ at_hash on _ ∙ ap (λ s. comments_from x line (reach_of s) (i ++ code "\n" ∷ r)) (sym cut)
      ∙ past_line h p (code "\n" ∷ r) ∙ line_closed x p _ (code "\n") r refl refl
  past_line_comment on u r (i, h, inr (e, z)) =
      let p = reach_of (u ++ r) in
      let cut : u ++ r ≡ code "#" ∷ (i ++ r) = rw e refl in
      ap (comments x) cut ∙ at_hash on _ ∙ ap (λ s. comments_from x line (reach_of s) (i ++ r)) (sym cut)
      ∙ past_line h p r ∙ ap (comments_from x line p) z ∙ line_ends x p [] refl
      ∙ ap (λ s. line_before p s ∷ comments x s) (sym z)

  -- where the layout ends there is no comment
  none_stopped : (v : Text) → Stops x v → comments x v ≡ []
  none_stopped v s = by_start (after_comment_start v) refl
    where
      by_text : x ≡ true → after_comment_start v ≡ None → (t : Text) → v ≡ t → comments x v ≡ []
      by_text on n [] e = none_at_end x v e
      by_text on n (c ∷ r) e =
          elim (cases_eq c (code "#")) [
            | inl h ↦ elim (split_line r) [
              | inl (i, m, k, q) ↦ absurd (s.no_unit (code "#" ∷ (i ++ code "\n" ∷ [])) m
                  (e ∙ rw (h, q, snoc) refl) (inr (on, inr (i, k, inl refl))))
              | inr k ↦ absurd (s.no_unit (code "#" ∷ r) [] (e ∙ ap (λ d. d ∷ r) h ∙ sym (append-nil (code "#" ∷ r)))
                  (inr (on, inr (r, k, inr (refl, refl)))))
            ]
            | inr h ↦ by_blank (is_blank c) refl h
          ]
        where
          by_blank : (b : Bool) → is_blank c ≡ b → c ≢ code "#" → comments x v ≡ []
          by_blank true b h = absurd (s.no_unit (c ∷ []) r e (inr (on, inl (c, b, refl))))
          by_blank false b h = none_other x v c r e n on h b

      by_flag : (b : Bool) → x ≡ b → after_comment_start v ≡ None → comments x v ≡ []
      by_flag true on n = by_text on n v refl
      by_flag false off n = ap (λ b. comments b v) off ∙ none_plain v n

      by_start : (o : Option Text) → after_comment_start v ≡ o → comments x v ≡ []
      by_start (Some i) e = absurd (s.no_comment_start i (opened_is v i e))
      by_start None e = by_flag x refl e

  of_units : {w v : Text} → Units x w v → Stops x v → AreInLayout x (w ++ v) v (comments x (w ++ v))
  of_units {v} none s = subst (AreInLayout x v v) (sym (none_stopped v s)) (no_more [] tt refl)
  of_units {v} (more {w} u t e h k) s =
      let after = of_units k s in
      let cut : w ++ v ≡ u ++ (t ++ v) = ap (λ z. z ++ v) e ∙ append_assoc u t v in
      subst (λ z. AreInLayout x z v (comments x z)) (sym cut) (by_unit h after)
    where
      with_list : {z : Text} {l m : List Comment} → l ≡ m → AreInLayout x z v m → AreInLayout x z v l
      with_list {z} e h = subst (AreInLayout x z v) (sym e) h

      by_unit : IsUnit x u (t ++ v) → AreInLayout x (t ++ v) v (comments x (t ++ v)) →
          AreInLayout x (u ++ (t ++ v)) v (comments x (u ++ (t ++ v)))
      by_unit (inl h) k = with_list (past_comment u (t ++ v) h) (a_comment [] u tt refl h k)
      by_unit (inr (on, inl (c, b, e))) k =
          let blank : (x && is_blank c) ≡ true = rw (on, b) refl in
          subst (λ z. AreInLayout x (z ++ (t ++ v)) v (comments x (z ++ (t ++ v)))) (sym e)
          (with_list (past_blank on c b (t ++ v)) (earlier c (λ w h. (blank, h)) k))
      by_unit (inr (on, inr h)) k = with_list (past_line_comment on u (t ++ v) h) (a_line [] u tt refl h k)

-- the comments in the layout of a text
pub comments_are_units : (x : Bool) (t v : Text) → layout x t ≡ rest v → AreInLayout x t v (comments x t)
comments_are_units x t v e =
    let b = layout_sound x t v e in
    subst (λ z. AreInLayout x z v (comments x z)) (sym b.cut) (of_units x b.layout.units b.layout.stops)

-- no comment is at the front of the text after the layout
pub none_after_layout : (x : Bool) (t v : Text) → layout x t ≡ rest v → comments x v ≡ []
none_after_layout x t v e = none_stopped x v (layout_sound x t v e).layout.stops
