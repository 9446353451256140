-- The relation of layout holds exactly of the function's result.
use Rattle.std.proofs.Common.{◌≡◌, ◌≢◌, Result, Ok, Err, MatchResult, chars, ℕ, zero, suc, Bool, true, false, List}
use Rattle.std.proofs.Common.{[], ◌∷◌, ◌++◌, length, Some, None, ap, sym, ◌∙◌, refl, arith, ◌⊎◌, inl, inr, append_assoc}
use Rattle.std.proofs.Common.{append-nil, length-append, ◌<◌, ◌≤◌, Option, subst}
use Rattle.std.proofs.lemmas.Bool.Decides.{nat_tests}
use Rattle.std.proofs.lemmas.Bool.{cases_eq, false≢true}
use Rattle.std.specs.Borrow.{Bor}
use Prim.Native.Char.{code}
use Rattle.fancy_lex.specs.Text.{Text, EndsWith, LiesIn, beyond, at_end}
use Rattle.fancy_lex.proofs.LeaveLaws.{lies_at_end}
use Rattle.fancy_lex.specs.Layout.{InComment, nothing, plain, pair, InLine, end_line, on_line}
use Rattle.fancy_lex.specs.Views.{skipped_of}
use Rattle.fancy_lex.specs.Layout.{comment_start, IsUnit, Units, none, more, Stops}
use Rattle.fancy_lex.specs.Layout.{is_blank, OpenComment, to_end, after_backslash}
use Rattle.fancy_lex.specs.LayoutSteps.{rest, failed, layout, layout_from, between, comment, escaped, line}
use Rattle.fancy_lex.specs.LayoutSteps.{after_comment_start}
use Rattle.fancy_lex.specs.Layout.{Unclosed, Before}
use Rattle.fancy_lex.proofs.LayoutLemmas.{between_opened, comment_step, comment_end, escaped_end, escaped_step}
use Rattle.fancy_lex.proofs.LayoutLemmas.{escaped_end, line_step, between_line, between_blank, between_other}
use Rattle.fancy_lex.proofs.LayoutLemmas.{between_plain, between_end, line_end}

pub snoc : (i r : Text) (c : ℕ) → (i ++ c ∷ []) ++ r ≡ i ++ c ∷ r
snoc i r c = append_assoc i (c ∷ []) r

module _ (x : Bool) where
  -- each result in the relation is the function's
  past_inside : {i : Text} → InComment i → (r : Text) → layout_from x comment (i ++ r) ≡ layout_from x comment r
  past_inside nothing r = refl
  past_inside (plain {c} {t} a b h) r =
      let step = comment_step x _ c (t ++ r) refl in
      let after = past_inside h r in
      let now : layout_from x comment (c ∷ (t ++ r)) ≡ layout_from x comment (t ++ r) = grind (arith, nat_tests) in
      now ∙ after
  past_inside (pair {b} {c} {t} e h) r =
      let step = comment_step x _ b (c ∷ (t ++ r)) refl in
      let pass = escaped_step x _ c (t ++ r) refl in
      let now : layout_from x comment (b ∷ c ∷ (t ++ r)) ≡ layout_from x escaped (c ∷ (t ++ r)) =
      grind (arith, nat_tests) in
      now ∙ pass ∙ past_inside h r

  past_line : {i : Text} → InLine i → (r : Text) → layout_from x line (i ++ r) ≡ layout_from x line r
  past_line end_line r = refl
  past_line (on_line {c} {t} a h) r =
      let step = line_step x _ c (t ++ r) refl in
      let now : layout_from x line (c ∷ (t ++ r)) ≡ layout_from x line (t ++ r) = grind (arith, nat_tests) in
      now ∙ past_line h r

  past_comment : {i : Text} → InComment i → (r : Text) →
      layout_from x between (comment_start ++ (i ++ code ")" ∷ r)) ≡ layout_from x between r
  past_comment {i} h r =
      between_opened x _ (i ++ code ")" ∷ r) refl ∙ past_inside h (code ")" ∷ r)
      ∙ comment_step x _ (code ")") r refl

  -- a character that opens no comment
  not_open : (c : ℕ) (r : Text) → c ≢ code "(" → after_comment_start (c ∷ r) ≡ None
  not_open c r h = grind (arith, nat_tests)

  at_hash : x ≡ true → (r : Text) → layout_from x between (code "#" ∷ r) ≡ layout_from x line r
  at_hash on r = between_line x _ (code "#") r refl refl on refl

  at_blank : x ≡ true → (c : ℕ) → is_blank c ≡ true → (r : Text) →
      layout_from x between (c ∷ r) ≡ layout_from x between r
  at_blank on c b r =
      let other : c ≢ code "#" = grind (arith, nat_tests) in
      let paren : c ≢ code "(" = grind (arith, nat_tests) in
      between_blank x _ c r refl (not_open c r paren) on other b

  past_unit : (u r : Text) → IsUnit x u r → layout_from x between (u ++ r) ≡ layout_from x between r
  past_unit u r (inl (i, h, e)) = rw (e, snoc) (past_comment h r)
  past_unit u r (inr (on, inl (c, b, e))) = rw e (at_blank on c b r)
  past_unit u r (inr (on, inr (i, h, inl e))) =
      rw (e, snoc) (at_hash on _ ∙ past_line h (code "\n" ∷ r) ∙ line_step x _ (code "\n") r refl)
  past_unit u r (inr (on, inr (i, h, inr (e, z)))) =
      rw (e, z) (at_hash on _ ∙ past_line h [] ∙ line_end x [] refl ∙ sym (between_end x [] refl))

past_units : (x : Bool) {w v : Text} → Units x w v →
    layout_from x between (w ++ v) ≡ layout_from x between v
past_units x none = refl
past_units x (more {v} u t e h hs) = rw (e, append_assoc) (past_unit x u (t ++ v) h ∙ past_units x hs)

-- the text up to the line feed, or all of it
pub split_line : (t : Text) → ((i : Text) × (r : Text) × InLine i × (t ≡ i ++ code "\n" ∷ r)) ⊎ InLine t
split_line [] = inr end_line
split_line (c ∷ t) =
    elim (cases_eq c (code "\n")) [
      | inl e ↦ inl ([], t, end_line, ap (λ d. d ∷ t) e)
      | inr e ↦ elim (split_line t) [
        | inl (i, r, h, q) ↦ inl (c ∷ i, r, on_line e h, ap (λ s. c ∷ s) q)
        | inr h ↦ inr (on_line e h)
      ]
    ]

-- the inside of a comment that is closed, or of one that is not
abbrev pub Ends : Text → Type 0
Ends t = (i : Text) × (r : Text) × InComment i × (t ≡ i ++ code ")" ∷ r)

ends_plain : (c : ℕ) (t : Text) → c ≢ code "\\" → c ≢ code ")" → Ends t → Ends (c ∷ t)
ends_plain c t a b (i, r, h, q) = (c ∷ i, r, plain a b h, ap (λ s. c ∷ s) q)

ends_pair : (b c : ℕ) (t : Text) → b ≡ code "\\" → Ends t → Ends (b ∷ c ∷ t)
ends_pair b c t e (i, r, h, q) = (b ∷ c ∷ i, r, pair e h, ap (λ s. b ∷ c ∷ s) q)

open_plain : (c : ℕ) (t : Text) (p : ℕ) → c ≢ code "\\" → c ≢ code ")" → OpenComment t p →
    OpenComment (c ∷ t) p
open_plain c t p a b (to_end h) = to_end (plain a b h)
open_plain c t p a b (after_backslash i e q h) = after_backslash (c ∷ i) (ap (λ s. c ∷ s) e) q (plain a b h)

open_pair : (b c : ℕ) (t : Text) (p : ℕ) → b ≡ code "\\" → OpenComment t p → OpenComment (b ∷ c ∷ t) p
open_pair b c t p d (to_end h) = to_end (pair d h)
open_pair b c t p d (after_backslash i e q h) = after_backslash (b ∷ c ∷ i) (ap (λ s. b ∷ c ∷ s) e) q (pair d h)

pub split_comment : (t : Text) → Ends t ⊎ ((p : ℕ) × OpenComment t p)
split_comment [] = inr (at_end, to_end nothing)
split_comment (c ∷ []) =
    elim (cases_eq c (code ")")) [
      | inl e ↦ inl ([], [], nothing, ap (λ d. d ∷ []) e)
      | inr e ↦ elim (cases_eq c (code "\\")) [
        | inl b ↦ inr (0, after_backslash [] (ap (λ d. d ∷ []) b) refl nothing)
        | inr b ↦ inr (at_end, to_end (plain b e nothing))
      ]
    ]
split_comment (c ∷ d ∷ t) =
    elim (cases_eq c (code ")")) [
      | inl e ↦ inl ([], d ∷ t, nothing, ap (λ k. k ∷ d ∷ t) e)
      | inr e ↦ elim (cases_eq c (code "\\")) [
        | inl b ↦ elim (split_comment t) [
          | inl h ↦ inl (ends_pair c d t b h)
          | inr (p, h) ↦ inr (p, open_pair c d t p b h)
        ]
        | inr b ↦ elim (split_comment (d ∷ t)) [
          | inl h ↦ inl (ends_plain c (d ∷ t) b e h)
          | inr (p, h) ↦ inr (p, open_plain c (d ∷ t) p b e h)
        ]
      ]
    ]

open_error : (x : Bool) (t : Text) (p : ℕ) → OpenComment t p → layout_from x comment t ≡ failed p
open_error x t p (to_end h) = rw (← append-nil t) (past_inside x h [] ∙ comment_end x [] refl)
open_error x t p (after_backslash i e q h) =
    rw (e, q) (past_inside x h (code "\\" ∷ []) ∙ comment_step x _ (code "\\") [] refl ∙ escaped_end x [] refl)

-- a text with a text after its `(?#` is `(?#` and that text
pub opened_is : (t i : Text) → after_comment_start t ≡ Some i → t ≡ comment_start ++ i
opened_is [] i e = cc
opened_is (c ∷ []) i e = grind (arith, nat_tests)
opened_is (c ∷ d ∷ []) i e = grind (arith, nat_tests)
opened_is (c ∷ d ∷ f ∷ r) i e = grind (arith, nat_tests)

pub ends_opened : (t i : Text) → after_comment_start t ≡ Some i → EndsWith t i
ends_opened t i e = (comment_start, opened_is t i e)

opened_cases : (t : Text) → ((i : Text) × (t ≡ comment_start ++ i)) ⊎ (after_comment_start t ≡ None)
opened_cases t = opened_by t (after_comment_start t) refl where
  opened_by : (t : Text) (o : Option Text) → after_comment_start t ≡ o →
      ((i : Text) × (t ≡ comment_start ++ i)) ⊎ (after_comment_start t ≡ None)
  opened_by t (Some i) e = inl (i, opened_is t i e)
  opened_by t None e = inr e

-- what is at the front of a text: no layout, or a unit, or an unclosed comment
data Front (x : Bool) (t : Text) : Type 0 where
  stop : Stops x t → layout_from x between t ≡ rest t → Front x t
  unit : (u r : Text) → t ≡ u ++ r → IsUnit x u r → 0 < length u → Front x t
  open_comment : (r : Text) (p : ℕ) → t ≡ comment_start ++ r → OpenComment r p → Front x t

some_none : (t i r : Text) → after_comment_start t ≡ None → t ≡ r → after_comment_start r ≡ Some i → ⊥
some_none t i r n e s = let same = ap after_comment_start e in cc

blank_apart : (c : ℕ) → is_blank c ≡ true → is_blank c ≡ false → ⊥
blank_apart c a b = cc

stops_from : (x : Bool) (t : Text) → after_comment_start t ≡ None →
    (x ≡ true → (c : ℕ) (r : Text) → t ≡ c ∷ r → (c ≢ code "#") × (is_blank c ≡ false)) → Stops x t
stops_from x t n others =
    record { no_unit = no_unit; no_comment_start = λ i e. some_none t i (comment_start ++ i) n e refl } where
      no_unit : (u r : Text) → t ≡ u ++ r → IsUnit x u r → ⊥
      no_unit u r e (inl (i, h, q)) = some_none t _ _ n (e ∙ ap (λ s. s ++ r) q) refl
      no_unit u r e (inr (on, inl (c, b, q))) = blank_apart c b (others on c r (e ∙ ap (λ s. s ++ r) q)).1
      no_unit u r e (inr (on, inr (i, h, inl q))) = (others on (code "#") _ (e ∙ ap (λ s. s ++ r) q)).0 refl
      no_unit u r e (inr (on, inr (i, h, inr (q, z)))) = (others on (code "#") _ (e ∙ ap (λ s. s ++ r) q)).0 refl

front_extended : (t : Text) → after_comment_start t ≡ None → Front true t
front_extended [] e = stop (stops_from true [] e (λ _ c r q. absurd (nil_cons c r q))) (between_end true [] refl)
  where
    nil_cons : (c : ℕ) (r : Text) → [] ≡ c ∷ r → ⊥
    nil_cons c r q = cc
front_extended (c ∷ t) e =
    elim (cases_eq c (code "#")) [
      | inl h ↦ elim (split_line t) [
        | inl (i, r, k, q) ↦ unit (code "#" ∷ (i ++ code "\n" ∷ [])) r (at_line i r h q)
            (inr (refl, inr (i, k, inl refl))) (omega arith)
        | inr k ↦ unit (code "#" ∷ t) [] (ap (λ d. d ∷ t) h ∙ sym (append-nil (code "#" ∷ t)))
            (inr (refl, inr (t, k, inr (refl, refl)))) (omega arith)
      ]
      | inr h ↦ blank_or (is_blank c) refl h
    ] where
      at_line : (i r : Text) → c ≡ code "#" → t ≡ i ++ code "\n" ∷ r → c ∷ t ≡ code "#" ∷ ((i ++ code "\n" ∷ []) ++ r)
      at_line i r h q = rw (h, q, snoc) refl

      blank_or : (b : Bool) → is_blank c ≡ b → c ≢ code "#" → Front true (c ∷ t)
      blank_or true b h = unit (c ∷ []) t refl (inr (refl, inl (c, b, refl))) (omega arith)
      blank_or false b h =
          stop
          (stops_from true (c ∷ t) e
          (λ _ d r q. (λ k. h (first_same d r q ∙ k), ap is_blank (sym (first_same d r q)) ∙ b)))
          (between_other true _ c t refl e refl h b) where
            first_same : (d : ℕ) (r : Text) → c ∷ t ≡ d ∷ r → c ≡ d
            first_same d r q = cc

front : (x : Bool) (t : Text) → Front x t
front x t =
    elim (opened_cases t) [
      | inl (i, e) ↦ elim (split_comment i) [
        | inl (j, r, h, q) ↦ unit (comment_start ++ (j ++ code ")" ∷ [])) r (at_comment i j r e q) (inl (j, h, refl))
            (omega arith)
        | inr (p, h) ↦ open_comment i p e h
      ]
      | inr e ↦ by_flag x e
    ] where
      at_comment : (i j r : Text) → t ≡ comment_start ++ i → i ≡ j ++ code ")" ∷ r →
          t ≡ (comment_start ++ (j ++ code ")" ∷ [])) ++ r
      at_comment i j r e q = rw (e, q, snoc) refl

      by_flag : (x : Bool) → after_comment_start t ≡ None → Front x t
      by_flag true e = front_extended t e
      by_flag false e = stop (stops_from false t e (λ h c r q. absurd (false≢true h))) (between_plain t e)

stop_rest : (x : Bool) (v : Text) → Stops x v → layout_from x between v ≡ rest v
stop_rest x v s =
    elim (front x v) [
      | stop _ e ↦ e
      | unit u r e h _ ↦ absurd (s.no_unit u r e h)
      | open_comment r p e h ↦ absurd (s.no_comment_start r e)
    ]

-- each result in the relation is the function's
pub layout_complete : (x : Bool) (t v : Text) → Before x t v → layout_from x between t ≡ rest v
layout_complete x t v b = rw b.cut (past_units x b.layout.units ∙ stop_rest x v b.layout.stops)

pub unclosed_complete : (x : Bool) (t : Text) (p : ℕ) → Unclosed x t p → layout_from x between t ≡ failed p
unclosed_complete x t p b =
    rw b.cut (past_units x b.units ∙ between_opened x _ b.r refl ∙ open_error x b.r p b.inside)

-- a text has layout at its front, or an unclosed comment
abbrev HasLayout : Bool → Text → Type 0
HasLayout x t = ((v : Text) × Before x t v) ⊎ ((p : ℕ) × Unclosed x t p)

more_layout : (x : Bool) (t u r : Text) → t ≡ u ++ r → IsUnit x u r → HasLayout x r → HasLayout x t
more_layout x t u r e h (inl (v, b)) =
    let unit = subst (IsUnit x u) b.cut h in
    inl (
      v,
      record {
        w = u ++ b.w;
        cut = e ∙ ap (λ s. u ++ s) b.cut ∙ sym (append_assoc u b.w v);
        layout = record { units = more u b.w refl unit b.layout.units; stops = b.layout.stops };
      },
    )
more_layout x t u r e h (inr (p, b)) =
    let unit = subst (IsUnit x u) b.cut h in
    inr (
      p,
      record {
        w = u ++ b.w;
        r = b.r;
        cut = e ∙ ap (λ s. u ++ s) b.cut ∙ sym (append_assoc u b.w (comment_start ++ b.r));
        units = more u b.w refl unit b.units;
        inside = b.inside;
      },
    )

shorter : (t u r : Text) (k : ℕ) → t ≡ u ++ r → 0 < length u → length t < suc k → length r < k
shorter t u r k e m h = omega (arith, simp length-append at (ap length e))

pub layout_total : (x : Bool) (k : ℕ) (t : Text) → length t < k → HasLayout x t
layout_total x zero t h = absurd (omega arith)
layout_total x (suc k) t h =
    elim (front x t) [
      | stop s _ ↦ inl (t, record { w = []; cut = refl; layout = record { units = none; stops = s } })
      | unit u r e q m ↦ more_layout x t u r e q (layout_total x k r (shorter t u r k e m h))
      | open_comment r p e q ↦ inr (p, record { w = []; r = r; cut = e; units = none; inside = q })
    ]

rest_same : (v w : Text) → rest v ≡ rest w → v ≡ w
rest_same v w e = cc

apart : (v : Text) (p : ℕ) → rest v ≡ failed p → ⊥
apart v p e = cc

-- so the function's result is in the relation
pub layout_sound : (x : Bool) (t v : Text) → layout_from x between t ≡ rest v → Before x t v
layout_sound x t v e =
    elim (layout_total x (suc (length t)) t (omega arith)) [
      | inl (v', b) ↦ let same : v' ≡ v = rest_same v' v (sym (layout_complete x t v' b) ∙ e) in
          subst (Before x t) same b
      | inr (p, b) ↦ absurd (apart v p (sym e ∙ unclosed_complete x t p b))
    ]

failed_same : (p q : ℕ) → failed p ≡ failed q → p ≡ q
failed_same p q e = cc

pub unclosed_sound : (x : Bool) (t : Text) (p : ℕ) → layout_from x between t ≡ failed p → Unclosed x t p
unclosed_sound x t p e =
    elim (layout_total x (suc (length t)) t (omega arith)) [
      | inl (v, b) ↦ absurd (apart v p (sym (layout_complete x t v b) ∙ e))
      | inr (q, b) ↦ let same : q ≡ p = failed_same q p (sym (unclosed_complete x t q b) ∙ e) in
          subst (Unclosed x t) same b
    ]

pub derives_from : (x : Bool) (t : Text) (r : Result (Bor (List ℕ)) ℕ) →
    layout_from x between t ≡ skipped_of r → MatchResult r (λ v. Before x t (chars v.now)) (λ p. Unclosed x t p)
derives_from x t (Ok v) e = layout_sound x t (chars v.now) e
derives_from x t (Err p) e = unclosed_sound x t p e

-- the rest of the text is a suffix of it
pub layout_cut : (x : Bool) (t v : Text) → layout x t ≡ rest v → (w : Text) × (t ≡ w ++ v)
layout_cut x t v e = let b = layout_sound x t v e in (b.w, b.cut)

pub layout_length : (x : Bool) (t v : Text) → layout x t ≡ rest v → length v ≤ length t
layout_length x t v e = let (w, cut) = layout_cut x t v e in omega (arith, simp length-append at (ap length cut))

-- the error is at the end of the text, or one past it
pub layout_lies : (p : ℕ) (x : Bool) (t : Text) (q : ℕ) → layout x t ≡ failed q → LiesIn p t q
layout_lies p x t q e = position (unclosed_sound x t q e).inside where
  position : {r : Text} {q : ℕ} → OpenComment r q → LiesIn p t q
  position (to_end i) = lies_at_end t
  position (after_backslash i e f j) = beyond f
