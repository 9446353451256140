-- The scans of a token and of a class: an induction for each, and what follows from it. What they find are comments of the
-- text, one after another, and without a `#` there are none.
use Rattle.std.proofs.Common.{◌≡◌, ◌≢◌, ℕ, zero, suc, ◌+◌, ◌-◌, ◌*◌, ◌≤◌, ◌<◌, Bool, true, false, List, [], ◌∷◌, ◌++◌, Option}
use Rattle.std.proofs.Common.{Some, None, ap, sym, ◌∙◌, refl, subst, arith, inl, inr, append-nil, nat_le, nat_lt}
use Rattle.std.proofs.Common.{length, length-append, chars, codes, take, ◌==◌, ◌||◌, if◌then◌else◌}
use Rattle.std.specs.Prelude.{⊤, IfSome}
use Rattle.std.specs.List.{list_any}
use Rattle.std.specs.Option.{option_and_then}
use Rattle.std.specs.Char.{digit_value}
use Rattle.std.specs.Str.{IsUtf8}
use Rattle.std.proofs.Math.Utf8.{encode, encodes}
use Rattle.std.proofs.lemmas.Bool.{cases_eq, cond_both, false≢true}
use Rattle.std.proofs.lemmas.Bool.Decides.{nat_tests}
use Rattle.std.proofs.lemmas.Str.{len_utf8_bounds, length-encode, encodes-chars}
use Prim.Native.Char.{code}
use Rattle.fancy_lex.specs.Characters.{◌∈◌}
use Rattle.fancy_lex.specs.Comments.{Comment, closed_before, line_before}
use Rattle.fancy_lex.specs.Escape.{escape}
use Rattle.fancy_lex.specs.Escaped.{Escape}
use Rattle.fancy_lex.specs.Hex.{hex_digit, fixed_digits}
use Rattle.fancy_lex.specs.Layout.{InComment, nothing, plain, pair, InLine, end_line, on_line, comment_start, OpenComment}
use Rattle.fancy_lex.specs.Layout.{to_end, after_backslash, IsComment, IsLineComment}
use Rattle.fancy_lex.specs.LayoutSteps.{comment, line, after_comment_start}
use Rattle.fancy_lex.specs.Reading.{Reading, gives, fails, choose}
use Rattle.fancy_lex.specs.Text.{Text, EndsWith, bytes, reach_of}
use Rattle.fancy_lex.specs.TokenComments.{begins_comment, begins_name, class_comments, escape_comments, if_inside}
use Rattle.fancy_lex.specs.TokenComments.{token_comments, token_comments_from}
use Rattle.fancy_lex.specs.declared.flags.Flags.{Flags}
use Rattle.fancy_lex.proofs.ClassCommentLemmas as class
use Rattle.fancy_lex.proofs.CommentLaws.{AreUnits, no_more, a_comment, a_line, earlier}
use Rattle.fancy_lex.proofs.EscapeLaws.{escape_cut, escape_within}
use Rattle.fancy_lex.proofs.LayoutLaws.{opened_is, snoc, split_comment, split_line}
use Rattle.fancy_lex.proofs.TextLemmas.{bytes-append, bytes_chars}
use Rattle.fancy_lex.proofs.TokenCommentLemmas.{after_other, at_end, at_name, at_text_end, comment_closed, comment_none}
use Rattle.fancy_lex.proofs.TokenCommentLemmas.{comment_on, comment_pair, escaped_next, escaped_none, line_closed, line_ends}
use Rattle.fancy_lex.proofs.TokenCommentLemmas.{line_on, opens, opens_line}

-- ---- suffixes of a text

-- a character is a byte or more
shorter : (c : ℕ) (t : Text) → bytes t < bytes (c ∷ t)
unfolding bytes
shorter c t = omega (arith, (len_utf8_bounds c).0)

-- a text of no bytes has no characters
no_bytes : (t : Text) → bytes t ≤ 0 → t ≡ []
no_bytes [] h = refl
no_bytes (c ∷ t) h = absurd (omega (arith, h, shorter c t))

tails : {x y : ℕ} {a b : Text} → x ∷ a ≡ y ∷ b → a ≡ b
tails e = cc

-- the longer of two suffixes ends with the shorter
longer_ends : (a b : Text) (v u : Text) → a ++ v ≡ b ++ u → bytes v ≤ bytes u → EndsWith u v
longer_ends [] b v u e h =
    let none : b ≡ [] = no_bytes b (omega (arith, h, ap bytes e, bytes-append b u)) in
    ([], sym (e ∙ ap (λ z. z ++ u) none))
longer_ends (x ∷ a) [] v u e h = (x ∷ a, sym e)
longer_ends (x ∷ a) (y ∷ b) v u e h = longer_ends a b v u (tails e) h

later_end : {t u v : Text} → EndsWith t v → EndsWith t u → bytes v ≤ bytes u → EndsWith u v
later_end {u} {v} (a, e) (b, f) h = longer_ends a b v u (sym e ∙ f) h

-- suffixes of as many bytes are the same
pub same_end : {t u v : Text} → EndsWith t v → EndsWith t u → bytes v ≡ bytes u → v ≡ u
same_end {u} {v} s r h = by_word (later_end s r (omega (arith, h)))
  where
    by_word : EndsWith u v → v ≡ u
    by_word (w, e) =
        let none : w ≡ [] = no_bytes w (omega (arith, h, ap bytes e, bytes-append w v)) in
        sym (e ∙ ap (λ z. z ++ v) none)

-- what a longer text ends with, its rest ends with
tail_ends : (c : ℕ) (t v : Text) → bytes v < bytes (c ∷ t) → EndsWith (c ∷ t) v → EndsWith t v
tail_ends c t v h ([], e) = absurd (omega (arith, h, ap bytes e))
tail_ends c t v h (x ∷ w, e) = (w, tails e)

-- ---- the scan of a token

module _ (e : ℕ) where
  past_inside : {i : Text} → InComment i → (p : ℕ) (r : Text) →
      token_comments_from e comment p (i ++ r) ≡ token_comments_from e comment p r
  past_inside nothing p r = refl
  past_inside (plain {c} {t} a b h) p r = comment_on e p _ c (t ++ r) refl b a ∙ past_inside h p r
  past_inside (pair {b} {c} {t} i h) p r =
      comment_pair e p _ b (c ∷ (t ++ r)) refl i ∙ escaped_next e p _ c (t ++ r) refl ∙ past_inside h p r

  past_line : {i : Text} → InLine i → (p : ℕ) (r : Text) →
      token_comments_from e line p (i ++ r) ≡ token_comments_from e line p r
  past_line end_line p r = refl
  past_line (on_line {c} {t} a h) p r = line_on e p _ c (t ++ r) refl a ∙ past_line h p r

  -- a comment that is not closed is none
  never_closed : (p q : ℕ) (t : Text) → OpenComment t q → token_comments_from e comment p t ≡ []
  never_closed p q t (to_end h) =
      ap (token_comments_from e comment p) (sym (append-nil t)) ∙ past_inside h p [] ∙ comment_none e p [] refl
  never_closed p q t (after_backslash i f g h) =
      ap (token_comments_from e comment p) f ∙ past_inside h p (code "\\" ∷ [])
      ∙ comment_pair e p _ (code "\\") [] refl refl ∙ escaped_none e p [] refl

-- P holds of each text with the comments that are found in it, up to the reach: if it holds with none, and from the end of
-- the text to its start before each other character and each comment
module _ (end : ℕ) (P : Text → List Comment → Type 0) (none : (t : Text) → P t [])
    (other : (c : ℕ) (t : Text) (l : List Comment) → c ≢ code "#" → end < reach_of (c ∷ t) → P t l → P (c ∷ t) l)
    (block : (u t : Text) (l : List Comment) → IsComment u → end ≤ reach_of t → P t l →
    P (u ++ t) (closed_before (reach_of (u ++ t)) t ∷ l))
    (lined : (u t : Text) (l : List Comment) → IsLineComment u t → end ≤ reach_of t → P t l →
    P (u ++ t) (line_before (reach_of (u ++ t)) t ∷ l)) where
  -- only a comment that ends in the token
  if_it_ends : (t : Text) (x : Comment) (l : List Comment) → (end ≤ x.end → P t (x ∷ l)) → P t (if_inside end x l)
  if_it_ends t x l h =
      cond_both (nat_le end x.end) _ _ (P t) (λ e. h (grind (arith, nat_tests))) (λ _. none t)

  -- at the first character, if P holds of each shorter text
  module _ (c : ℕ) (r : Text) (below : (m : Text) → length m ≤ length r → P m (token_comments m end)) where
    -- what follows a part of the text
    fewer : (x : ℕ) (w m : Text) → c ∷ r ≡ (x ∷ w) ++ m → length m ≤ length r
    fewer x w m e =
        let same : r ≡ w ++ m = tails e in omega (arith, ap length same, length-append w m)

    opened : (i : Text) → after_comment_start (c ∷ r) ≡ Some i → begins_comment end (c ∷ r) ≡ true →
        end < reach_of (c ∷ r) → P (c ∷ r) (token_comments (c ∷ r) end)
    opened i o b lt = subst (P (c ∷ r)) (sym (opens end (c ∷ r) i lt b o)) (elim (split_comment i) [
      | inl (j, m, q, f) ↦
          let u = comment_start ++ (j ++ code ")" ∷ []) in
          let whole : c ∷ r ≡ u ++ m =
          opened_is (c ∷ r) i o ∙ ap (λ z. comment_start ++ z) (f ∙ sym (snoc j m (code ")"))) in
          subst (P (c ∷ r))
          (sym (ap (token_comments_from end comment (reach_of (c ∷ r))) f
          ∙ past_inside end q (reach_of (c ∷ r)) (code ")" ∷ m)
          ∙ comment_closed end (reach_of (c ∷ r)) _ (code ")") m refl refl))
          (if_it_ends (c ∷ r) (closed_before (reach_of (c ∷ r)) m) (token_comments m end)
          (λ le. subst (λ z. P z (closed_before (reach_of z) m ∷ token_comments m end)) (sym whole)
          (block u m _ (j, q, refl) le (below m (fewer (code "(") (codes "?#" ++ (j ++ code ")" ∷ [])) m whole)))))
      | inr (p, q) ↦ subst (P (c ∷ r)) (sym (never_closed end (reach_of (c ∷ r)) p i q)) (none (c ∷ r))
    ])

    at_hash : c ≡ code "#" → begins_comment end (c ∷ r) ≡ false → end < reach_of (c ∷ r) →
        P (c ∷ r) (token_comments (c ∷ r) end)
    at_hash i b lt = subst (P (c ∷ r)) (sym (opens_line end (c ∷ r) c r refl lt b i)) (elim (split_line r) [
      | inl (j, m, q, f) ↦
          let u = code "#" ∷ (j ++ code "\n" ∷ []) in
          let whole : c ∷ r ≡ u ++ m =
          ap (λ d. d ∷ r) i ∙ ap (λ z. code "#" ∷ z) (f ∙ sym (snoc j m (code "\n"))) in
          subst (P (c ∷ r))
          (sym (ap (token_comments_from end line (reach_of (c ∷ r))) f
          ∙ past_line end q (reach_of (c ∷ r)) (code "\n" ∷ m)
          ∙ line_closed end (reach_of (c ∷ r)) _ (code "\n") m refl refl))
          (if_it_ends (c ∷ r) (line_before (reach_of (c ∷ r)) m) (token_comments m end)
          (λ le. subst (λ z. P z (line_before (reach_of z) m ∷ token_comments m end)) (sym whole)
          (lined u m _ (j, q, inl refl) le (below m (fewer (code "#") (j ++ code "\n" ∷ []) m whole)))))
      | inr q ↦
          let u = code "#" ∷ r in
          let whole : c ∷ r ≡ u ++ [] = ap (λ d. d ∷ r) i ∙ sym (append-nil u) in
          subst (P (c ∷ r))
          (sym (ap (token_comments_from end line (reach_of (c ∷ r))) (sym (append-nil r))
          ∙ past_line end q (reach_of (c ∷ r)) [] ∙ line_ends end (reach_of (c ∷ r)) [] refl))
          (if_it_ends (c ∷ r) (line_before (reach_of (c ∷ r)) []) []
          (λ le. subst (λ z. P z (line_before (reach_of z) [] ∷ [])) (sym whole)
          (lined u [] _ (r, q, inr (refl, refl)) le (none []))))
    ])

    by_start : (b : Bool) → begins_comment end (c ∷ r) ≡ b → end < reach_of (c ∷ r) →
        P (c ∷ r) (token_comments (c ∷ r) end)
    by_start true b lt = by_open (after_comment_start (c ∷ r)) refl
      where
        by_open : (o : Option Text) → after_comment_start (c ∷ r) ≡ o → P (c ∷ r) (token_comments (c ∷ r) end)
        by_open (Some i) o = opened i o b lt
        by_open None o =
            absurd (false≢true (sym (ap (λ o. choose o (λ i. nat_le end (reach_of i)) false) o) ∙ b))
    by_start false b lt = elim (cases_eq c (code "#")) [
      | inl i ↦ at_hash i b lt
      | inr i ↦ by_name i (begins_name c) refl
    ]
      where
        by_name : c ≢ code "#" → (n : Bool) → begins_name c ≡ n → P (c ∷ r) (token_comments (c ∷ r) end)
        by_name i true n = subst (P (c ∷ r)) (sym (at_name end (c ∷ r) c r refl lt b i n)) (none (c ∷ r))
        by_name i false n =
            subst (P (c ∷ r)) (sym (after_other end (c ∷ r) c r refl lt b i n)) (other c r _ i lt (below r (omega arith)))

    first_step : (b : Bool) → nat_le (reach_of (c ∷ r)) end ≡ b → P (c ∷ r) (token_comments (c ∷ r) end)
    first_step true i = subst (P (c ∷ r)) (sym (at_end end (c ∷ r) (grind (arith, nat_tests)))) (none (c ∷ r))
    first_step false i = by_start (begins_comment end (c ∷ r)) refl (grind (arith, nat_tests))

  by_scan : (k : ℕ) (t : Text) → length t ≤ k → P t (token_comments t end)
  by_scan k [] h = subst (P []) (sym (at_text_end end [] refl)) (none [])
  by_scan zero (c ∷ r) h = absurd (omega (arith, h))
  by_scan (suc k) (c ∷ r) h =
      first_step c r (λ m l. by_scan k m (omega (arith, h, l))) (nat_le (reach_of (c ∷ r)) end) refl

-- ---- the walk through a class

-- P holds of each rest of a class with the comments in it
module _ (f : Flags) (end : ℕ) (P : Text → List Comment → Type 0) (none : (t : Text) → P t [])
    (other : (c : ℕ) (t : Text) (l : List Comment) → end < reach_of (c ∷ t) → P t l → P (c ∷ t) l)
    (escaped : (r u : Text) (l : List Comment) → EndsWith r u → end < reach_of (code "\\" ∷ r) → end ≤ reach_of u →
    P u l → P (code "\\" ∷ r) (escape_comments r (reach_of u) ++ l)) where
  -- at the first character, if P holds of each shorter text
  module _ (c : ℕ) (r : Text) (below : (m : Text) → bytes m ≤ bytes r → P m (class_comments f m end)) where
    by_escape : c ≡ code "\\" → end < reach_of (c ∷ r) → (o : Reading Escape) → escape f true r ≡ o →
        P (c ∷ r) (class_comments f (c ∷ r) end)
    by_escape i lt (gives x u) o = by_reach (nat_le end (reach_of u)) refl
      where
        by_reach : (b : Bool) → nat_le end (reach_of u) ≡ b → P (c ∷ r) (class_comments f (c ∷ r) end)
        by_reach true b =
            subst (P (c ∷ r))
            (sym (class.after_backslash f end (c ∷ r) c r refl lt x u i o (grind (arith, nat_tests))))
            (subst (λ d. P (d ∷ r) (escape_comments r (reach_of u) ++ class_comments f u end)) (sym i)
            (escaped r u _ (escape_cut f true r u x o) (subst (λ d. end < reach_of (d ∷ r)) i lt)
            (grind (arith, nat_tests)) (below u (escape_within f true r u x o))))
        by_reach false b =
            subst (P (c ∷ r))
            (sym (class.after_too_far f end (c ∷ r) c r refl lt x u i o (grind (arith, nat_tests)))) (none (c ∷ r))
    by_escape i lt (fails e) o =
        subst (P (c ∷ r)) (sym (class.no_escape f end (c ∷ r) c r refl i (λ x u g. absurd cc))) (none (c ∷ r))

    first_turn : (b : Bool) → nat_le (reach_of (c ∷ r)) end ≡ b → P (c ∷ r) (class_comments f (c ∷ r) end)
    first_turn true i = subst (P (c ∷ r)) (sym (class.at_end f end (c ∷ r) (grind (arith, nat_tests)))) (none (c ∷ r))
    first_turn false i = elim (cases_eq c (code "\\")) [
      | inl e ↦ by_escape e (grind (arith, nat_tests)) (escape f true r) refl
      | inr e ↦
          let lt : end < reach_of (c ∷ r) = grind (arith, nat_tests) in
          subst (P (c ∷ r)) (sym (class.after_plain f end (c ∷ r) c r refl lt e)) (other c r _ lt (below r (omega arith)))
    ]

  by_walk : (k : ℕ) (t : Text) → bytes t ≤ k → P t (class_comments f t end)
  by_walk k [] h = subst (P []) (sym (class.at_text_end f end [] refl)) (none [])
  by_walk zero (c ∷ r) h = absurd (omega (arith, h, shorter c r))
  by_walk (suc k) (c ∷ r) h =
      first_turn c r (λ m l. by_walk k m (omega (arith, h, l, shorter c r))) (nat_le (reach_of (c ∷ r)) end) refl

-- ---- what is found

-- comments of a token, whatever is between them
abbrev pub AreInToken : Text → Text → List Comment → Type 0
AreInToken = AreUnits (λ w. ⊤)

none_found : {t v : Text} → EndsWith t v → AreInToken t v []
none_found (w, e) = no_more w tt e

one_earlier : {t v : Text} {l : List Comment} (c : ℕ) → AreInToken t v l → AreInToken (c ∷ t) v l
one_earlier c k = earlier c (λ w h. tt) k

both_found : {t u v : Text} {l m : List Comment} → AreInToken t u l → AreInToken u v m → AreInToken t v (l ++ m)
both_found {u} {v} {m} (no_more w p e) k = subst (λ z. AreInToken z v m) (sym e) (all_earlier w)
  where
    all_earlier : (w : Text) → AreInToken (w ++ u) v m
    all_earlier [] = k
    all_earlier (c ∷ w) = one_earlier c (all_earlier w)
both_found (a_comment w u p e h j) k = a_comment w u p e h (both_found j k)
both_found (a_line w u p e h j) k = a_line w u p e h (both_found j k)

-- comments of the text up to v, in its order
pub token_units : (t v : Text) → EndsWith t v → AreInToken t v (token_comments t (reach_of v))
token_units t v s =
    by_scan (reach_of v) (λ t l. EndsWith t v → AreInToken t v l) (λ t e. none_found e)
    (λ c t l i lt k e. one_earlier c (k (tail_ends c t v (omega (arith, lt)) e)))
    (λ u t l i le k e. a_comment [] u tt refl i (k (later_end e (u, refl) (omega (arith, le)))))
    (λ u t l i le k e. a_line [] u tt refl i (k (later_end e (u, refl) (omega (arith, le)))))
    (length t) t (omega arith) s

-- the same after the first character of the token
after_first : (c : ℕ) (t v : Text) (l : List Comment) → EndsWith (c ∷ t) v → (reach_of t ≤ reach_of v → l ≡ []) →
    (EndsWith t v → AreInToken t v l) → AreInToken (c ∷ t) v l
after_first c t v l s none h = by_end (nat_le (bytes (c ∷ t)) (bytes v)) refl
  where
    by_end : (b : Bool) → nat_le (bytes (c ∷ t)) (bytes v) ≡ b → AreInToken (c ∷ t) v l
    by_end true i =
        let over : bytes t ≤ bytes v = let lt = shorter c t in grind (arith, nat_tests) in
        subst (AreInToken (c ∷ t) v) (sym (none (omega (arith, over)))) (none_found s)
    by_end false i = one_earlier c (h (tail_ends c t v (grind (arith, nat_tests)) s))

pub token_after : (c : ℕ) (t v : Text) → EndsWith (c ∷ t) v → AreInToken (c ∷ t) v (token_comments t (reach_of v))
token_after c t v s =
    after_first c t v (token_comments t (reach_of v)) s (at_end (reach_of v) t) (token_units t v)

escape_units : (t v : Text) → EndsWith t v → AreInToken t v (escape_comments t (reach_of v))
escape_units [] v s = none_found s
escape_units (c ∷ t) v s =
    cond_both (c ∈ "xuUbB") _ _ (AreInToken (c ∷ t) v) (λ _. token_after c t v s) (λ _. none_found s)

pub escape_after : (c : ℕ) (t v : Text) → EndsWith (c ∷ t) v → AreInToken (c ∷ t) v (escape_comments t (reach_of v))
escape_after c t v s = after_first c t v (escape_comments t (reach_of v)) s (none_at_end t) (escape_units t v)
  where
    none_at_end : (t : Text) → reach_of t ≤ reach_of v → escape_comments t (reach_of v) ≡ []
    none_at_end [] h = refl
    none_at_end (d ∷ t) h =
        cond_both (d ∈ "xuUbB") _ _ (λ l. l ≡ []) (λ _. at_end (reach_of v) t (omega (arith, h, shorter d t))) (λ _. refl)

class_units : (f : Flags) (t v : Text) → EndsWith t v → AreInToken t v (class_comments f t (reach_of v))
class_units f t v s =
    by_walk f (reach_of v) (λ t l. EndsWith t v → AreInToken t v l) (λ t e. none_found e)
    (λ c t l lt k e. one_earlier c (k (tail_ends c t v (omega (arith, lt)) e)))
    (λ r u l cut lt le k e. one_earlier (code "\\") (both_found (escape_units r u cut)
    (k (later_end (tail_ends (code "\\") r v (omega (arith, lt)) e) cut (omega (arith, le))))))
    (bytes t) t (omega arith) s

pub class_after : (f : Flags) (c : ℕ) (t v : Text) → EndsWith (c ∷ t) v →
    AreInToken (c ∷ t) v (class_comments f t (reach_of v))
class_after f c t v s =
    after_first c t v (class_comments f t (reach_of v)) s (class.at_end f (reach_of v) t) (class_units f t v)

-- ---- texts without a `#`

-- no character from the start of the text up to the reach is a `#`
abbrev pub Hashless : ℕ → Text → Type 0
Hashless end [] = ⊤
Hashless end (c ∷ t) = (end < reach_of (c ∷ t) → c ≢ code "#") × Hashless end t

-- up to an earlier reach
hashless_less : {end low : ℕ} → low ≤ end → (t : Text) → Hashless low t → Hashless end t
hashless_less le [] h = tt
hashless_less le (c ∷ t) h = (λ lt. h.0 (omega (arith, le, lt)), hashless_less le t h.1)

-- from a later start
hashless_end : (end : ℕ) (w u : Text) → Hashless end (w ++ u) → Hashless end u
hashless_end end [] u h = h
hashless_end end (c ∷ w) u h = hashless_end end w u h.1

-- a `#` at the front, and what follows it reaches the end
not_hashless : {end : ℕ} (t : Text) → end ≤ reach_of t → Hashless end (code "#" ∷ t) → ⊥
not_hashless t le h = h.0 (omega (arith, le, shorter (code "#") t)) refl

-- a text after another one
reaches_on : {end : ℕ} (u t : Text) → end ≤ reach_of t → end ≤ reach_of (u ++ t)
reaches_on u t le = omega (arith, le, bytes-append u t)

no_comment_there : {end : ℕ} (u t : Text) → IsComment u → end ≤ reach_of t → Hashless end (u ++ t) → ⊥
no_comment_there {end} u t (i, j, e) le h =
    let rest = i ++ code ")" ∷ [] in
    let whole : Hashless end (comment_start ++ (rest ++ t)) = subst (λ z. Hashless end (z ++ t)) e h in
    not_hashless (rest ++ t) (reaches_on rest t le) whole.1.1

no_line_there : {end : ℕ} (u t : Text) → IsLineComment u t → end ≤ reach_of t → Hashless end (u ++ t) → ⊥
no_line_there {end} u t (i, j, inl e) le h =
    let rest = i ++ code "\n" ∷ [] in
    let whole : Hashless end (code "#" ∷ (rest ++ t)) = subst (λ z. Hashless end (z ++ t)) e h in
    not_hashless (rest ++ t) (reaches_on rest t le) whole
no_line_there {end} u t (i, j, inr (e, z)) le h =
    let whole : Hashless end (code "#" ∷ (i ++ t)) = subst (λ z. Hashless end (z ++ t)) e h in
    not_hashless (i ++ t) (reaches_on i t le) whole

pub none_in_token : (t : Text) (end : ℕ) → Hashless end t → token_comments t end ≡ []
none_in_token t end s =
    by_scan end (λ t l. Hashless end t → l ≡ []) (λ t h. refl) (λ c t l i lt k h. k h.1)
    (λ u t l i le k h. absurd (no_comment_there u t i le h)) (λ u t l i le k h. absurd (no_line_there u t i le h))
    (length t) t (omega arith) s

none_in_escape : (t : Text) (end : ℕ) → Hashless end t → escape_comments t end ≡ []
none_in_escape [] end h = refl
none_in_escape (c ∷ t) end h =
    cond_both (c ∈ "xuUbB") _ _ (λ l. l ≡ []) (λ _. none_in_token t end h.1) (λ _. refl)

pub none_in_class : (f : Flags) (t : Text) (end : ℕ) → Hashless end t → class_comments f t end ≡ []
none_in_class f t end s =
    by_walk f end (λ t l. Hashless end t → l ≡ []) (λ t h. refl) (λ c t l lt k h. k h.1)
    (λ r u l (w, e) lt le k h.
    let rest : Hashless end u = hashless_end end w u (subst (Hashless end) e h.1) in
    ap (λ z. z ++ l) (none_in_escape r (reach_of u) (hashless_less le r h.1)) ∙ k rest)
    (bytes t) t (omega arith) s

-- a text that is the end
hashless_here : (t : Text) (end : ℕ) → reach_of t ≤ end → Hashless end t
hashless_here [] end h = tt
hashless_here (c ∷ t) end h =
    (λ lt. absurd (omega (arith, h, lt)), hashless_here t end (omega (arith, h, shorter c t)))

-- a code of hex digits
digits_hashless : (k a : ℕ) (t : Text) → IfSome (fixed_digits k a t) (λ p. Hashless (reach_of p.1) t)
unfolding fixed_digits hex_digit
digits_hashless zero a t = hashless_here t (reach_of t) (omega arith)
digits_hashless (suc k) a [] = tt
digits_hashless (suc k) a (c ∷ t) =
    by_test (nat_lt (digit_value c) 16) refl (digits_hashless k (a * 16 + digit_value c) t)
  where
    hash : nat_lt (digit_value c) 16 ≡ true → c ≡ code "#" → ⊥
    hash e h = let i = ap (λ d. nat_lt (digit_value d) 16) (sym h) ∙ e in absurd cc

    with_first : (o : Option (ℕ × Text)) → nat_lt (digit_value c) 16 ≡ true →
        IfSome o (λ p. Hashless (reach_of p.1) t) → IfSome o (λ p. Hashless (reach_of p.1) (c ∷ t))
    with_first None e h = tt
    with_first (Some p) e h = (λ lt i. hash e i, h)

    by_test : (b : Bool) → nat_lt (digit_value c) 16 ≡ b →
        IfSome (fixed_digits k (a * 16 + digit_value c) t) (λ p. Hashless (reach_of p.1) t) →
        IfSome (option_and_then (λ (p : ℕ × Text). fixed_digits k (a * 16 + p.0) p.1) (if b then Some (digit_value c, t) else None))
        (λ p. Hashless (reach_of p.1) (c ∷ t))
    by_test true e h = with_first (fixed_digits k (a * 16 + digit_value c) t) e h
    by_test false e h = tt

pub none_in_digits : (k a v : ℕ) (t u : Text) → fixed_digits k a t ≡ Some (v, u) → token_comments t (reach_of u) ≡ []
none_in_digits k a v t u e =
    none_in_token t (reach_of u) (subst (λ o. IfSome o (λ p. Hashless (reach_of p.1) t)) e (digits_hashless k a t))

-- ---- the bytes of a text

others_false : (a b : Bool) → (a || b) ≡ false → b ≡ false
others_false true b e = absurd (false≢true (sym e))
others_false false b e = e

-- the first bytes that are not among those of a front
none_later : (p : ℕ → Bool) (n : ℕ) (xs ys : List ℕ) → list_any p (take n (xs ++ ys)) ≡ false →
    list_any p (take (n - length xs) ys) ≡ false
none_later p n [] ys e =
    let same : n - length {A = ℕ} [] ≡ n = omega arith in subst (λ k. list_any p (take k ys) ≡ false) (sym same) e
none_later p zero (x ∷ xs) ys e =
    let none : 0 - length (x ∷ xs) ≡ 0 = omega arith in subst (λ k. list_any p (take k ys) ≡ false) (sym none) refl
none_later p (suc n) (x ∷ xs) ys e =
    let same : suc n - length (x ∷ xs) ≡ n - length xs = omega arith in
    subst (λ k. list_any p (take k ys) ≡ false) (sym same)
    (none_later p n xs ys (others_false (p x) (list_any p (take n (xs ++ ys))) e))

-- if no byte before those of the end is a `#`, no character is
bytes_hashless : (t : Text) (after : ℕ) → list_any (λ y. y == code "#") (take (bytes t - after) (encodes t)) ≡ false →
    Hashless (after + 1) t
unfolding bytes encode
bytes_hashless [] after e = tt
bytes_hashless (c ∷ t) after e =
    let later = none_later (λ y. y == code "#") (bytes (c ∷ t) - after) (encode c) (encodes t) e in
    let same : (bytes (c ∷ t) - after) - length (encode c) ≡ bytes t - after = omega (arith, length-encode c) in (
      λ lt i. at_hash (bytes (c ∷ t) - after) (omega (arith, lt)) i e,
      bytes_hashless t after (subst (λ n. list_any (λ y. y == code "#") (take n (encodes t)) ≡ false) same later),
    )
  where
    at_hash : (n : ℕ) → 0 < n → c ≡ code "#" →
        list_any (λ y. y == code "#") (take n (encode c ++ encodes t)) ≡ false → ⊥
    at_hash zero h i e = absurd (omega (arith, h))
    at_hash (suc n) h i e =
        absurd (false≢true (sym (subst (λ d. list_any (λ y. y == code "#") (take (suc n) (encode d ++ encodes t)) ≡ false)
        i e)))

pub no_hash : (bs : List ℕ) (after end : ℕ) → IsUtf8 bs → after ≡ end - 1 →
    list_any (λ y. y == code "#") (take (length bs - after) bs) ≡ false → Hashless end (chars bs)
no_hash bs after end u same e =
    let text = chars bs in
    let whole : Hashless (after + 1) text = bytes_hashless text after
    (subst (λ n. list_any (λ y. y == code "#") (take (n - after) (encodes text)) ≡ false) (sym (bytes_chars bs u))
    (subst (λ x. list_any (λ y. y == code "#") (take (length bs - after) x) ≡ false) (sym (encodes-chars bs u)) e)) in
    by_end end same whole
  where
    by_end : (end : ℕ) → after ≡ end - 1 → Hashless (after + 1) (chars bs) → Hashless end (chars bs)
    by_end zero i h =
        let none : after ≡ 0 = omega (arith, i) in
        from_none (chars bs) (subst (λ n. Hashless (n + 1) (chars bs)) none h)
      where
        from_none : (t : Text) → Hashless 1 t → Hashless 0 t
        from_none [] h = tt
        from_none (c ∷ t) h = (λ lt. h.0 (omega (arith, shorter c t)), from_none t h.1)
    by_end (suc n) i h = subst (λ m. Hashless m (chars bs)) (omega (arith, i)) h
