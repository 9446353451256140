-- Trivia that are added to a list lie in the text, one after another, with segments between them.
use Rattle.std.proofs.Common.{◌≡◌, ℕ, ◌+◌, ◌-◌, ◌≤◌, ◌<◌, ◌==◌, nat_lt, Bool, true, false, if◌then◌else◌, ◌&&◌, List, []}
use Rattle.std.proofs.Common.{◌∷◌, ◌++◌, map, chars, refl, sym, ap, ◌∙◌, subst, arith, append_assoc, append-nil}
use Rattle.std.specs.Prelude.{not}
use Rattle.std.specs.List.{AllByRecursion}
use Rattle.std.specs.Str.{IsUtf8, IsCharBoundary}
use Rattle.std.proofs.lemmas.Bool.{cond_both, false≢true}
use Rattle.std.proofs.lemmas.Bool.Decides.{nat_tests}
use Rattle.std.proofs.lemmas.List.{map-append}
use Rattle.fancy_lex.proofs.CommentLaws.{AreInLayout, no_more as no_unit, a_comment, a_line, comments_are_units}
use Rattle.fancy_lex.proofs.TextLemmas.{bytes-append}
use Rattle.fancy_lex.proofs.TokenCommentLaws.{same_end}
use Rattle.fancy_lex.specs.Characters.{◌∈◌}
use Rattle.fancy_lex.specs.Comments.{Comment}
use Rattle.fancy_lex.specs.Layout.{is_blank}
use Rattle.fancy_lex.specs.LayoutSteps.{rest}
use Rattle.fancy_lex.specs.Text.{Text, bytes, reach_of, position_at}
use Rattle.fancy_lex.specs.declared.flags.Flags.{Flags}
use Rattle.fancy_grammar.specs.Segments.{AreSegments, Fills, HasEveryByte, IsSegment, IsSeparator, a_bar, a_closing, a_part, a_segment}
use Rattle.fancy_grammar.specs.Segments.{a_separator, no_segment, only_segments, outer, whitespace}
use Rattle.fancy_grammar.specs.Slices.{Slice}
use Rattle.fancy_grammar.specs.Spans.{IsCutOut}
use Rattle.fancy_grammar.specs.State.{State, skipped, Outcome, done, failed, and_then, mapped}
use Rattle.fancy_grammar.specs.Trivia.{Trivium, TriviumKind, comment, line_comment, dropped, Passed, part, kept, IsTextOf}
use Rattle.fancy_grammar.specs.Trivia.{IsPartOf, AreInOrder, FollowOne, no_more, after, within, is_inner, IsDropped}
use Rattle.fancy_grammar.specs.Trivia.{between_parts, located, of_comment, comments_at, with_dropped, filled}
use Rattle.fancy_grammar.proofs.OutcomeLemmas.{Holds, each_append}
use Rattle.fancy_grammar.proofs.Slices.{current, on, fits}
use Rattle.fancy_grammar.proofs.Verdict.{cut_at}

-- from the text a up to v, in reaches
abbrev pub reached : TriviumKind → Bool → Text → Text → Passed
reached k b a v = part (reach_of a) (reach_of v) k b

-- comments in a token, one after another between the start of t and the start of u
pub data InToken : Text → Text → List Passed → Type 0 where
  no_comment : {t u : Text} → Slice t u → InToken t u []
  a_comment_in : {t a v u : Text} {l m : List Passed} (k : TriviumKind) (w : Text) → Slice t a → a ≡ w ++ v →
      IsTextOf k w v → is_inner k ≡ true → 0 < bytes w → InToken v u l → m ≡ reached k false a v ∷ l → InToken t u m

-- ---- segments

-- a segment; without b, a separator
abbrev pub SegmentOf : Bool → Text → Text → Type 0
SegmentOf true w v = IsSegment w v
SegmentOf false w v = IsSeparator w

as_segment : (w v : Text) (b : Bool) → SegmentOf b w v → IsSegment w v
as_segment w v true p = p
as_segment w v false p = a_separator p

separator_of : (w v : Text) (b : Bool) → IsSeparator w → SegmentOf b w v
separator_of w v true p = a_separator p
separator_of w v false p = p

-- the text from t up to u is segments, one after another
pub data Gap (b : Bool) : Text → Text → Type 0 where
  no_gap : {t : Text} → Gap b t t
  gap : {t u v : Text} (w : Text) → t ≡ w ++ u → SegmentOf b w u → Gap b u v → Gap b t v

pub gap_on : {b : Bool} {t u v : Text} → Gap b t u → Gap b u v → Gap b t v
gap_on no_gap k = k
gap_on (gap w e p h) k = gap w e p (gap_on h k)

abbrev pub cut_slice : {t v : Text} (w : Text) → t ≡ w ++ v → Slice t v
cut_slice w e = record { word = w; cut = e }

-- the text of the segments
abbrev pub gap_word : {b : Bool} {t u : Text} → Gap b t u → Text
gap_word no_gap = []
gap_word (gap w e p h) = w ++ gap_word h

pub gap_cut : {b : Bool} {t u : Text} (g : Gap b t u) → t ≡ gap_word g ++ u
gap_cut no_gap = refl
gap_cut {u} (gap w e p h) = e ∙ ap (λ z. w ++ z) (gap_cut h) ∙ sym (append_assoc w (gap_word h) u)

abbrev pub gap_slice : {b : Bool} {t u : Text} → Gap b t u → Slice t u
gap_slice g = cut_slice (gap_word g) (gap_cut g)

-- one separator
pub separated : {t u : Text} (b : Bool) (w : Text) → t ≡ w ++ u → IsSeparator w → Gap b t u
separated {u} b w e p = gap w e (separator_of w u b p) no_gap

-- one segment
pub a_gap : {t u : Text} {b : Bool} (w : Text) → b ≡ true → t ≡ w ++ u → IsSegment w u → Gap b t u
a_gap {u} w i e p = gap w e (subst (λ b. SegmentOf b w u) (sym i) p) no_gap

-- where c allows only separators, b does
abbrev pub AllowsMore : Bool → Bool → Type 0
AllowsMore b c = c ≡ false → b ≡ false

more_segments : (b c : Bool) (w v : Text) → AllowsMore b c → SegmentOf b w v → SegmentOf c w v
more_segments b true w v f p = as_segment w v b p
more_segments b false w v f p = subst (λ b. SegmentOf b w v) (f refl) p

more_gap : (b c : Bool) {t u : Text} → AllowsMore b c → Gap b t u → Gap c t u
more_gap b c f no_gap = no_gap
more_gap b c f (gap {u} w e p h) = gap w e (more_segments b c w u f p) (more_gap b c f h)

more_true : (b c : Bool) → AllowsMore b c → b ≡ true → c ≡ true
more_true b true f i = refl
more_true b false f i = absurd (false≢true (sym (f refl) ∙ i))

-- the characters of separators
separator_characters : (w : Text) → IsSeparator w → AllByRecursion (λ c. (c ∈ "|) \r\n\t") ≡ true) w
separator_characters w (a_bar e) = subst (AllByRecursion (λ c. (c ∈ "|) \r\n\t") ≡ true)) (sym e) (refl, tt)
separator_characters w (a_closing e) = subst (AllByRecursion (λ c. (c ∈ "|) \r\n\t") ≡ true)) (sym e) (refl, tt)
separator_characters w (whitespace f h) = blanks w h
  where
    blank : (x : Bool) (c : ℕ) → (x && is_blank c) ≡ true → (c ∈ "|) \r\n\t") ≡ true
    blank true c h = grind (arith, nat_tests)
    blank false c h = absurd (false≢true h)

    blanks : (w : Text) → AllByRecursion (λ c. (f.ignore_space && is_blank c) ≡ true) w →
        AllByRecursion (λ c. (c ∈ "|) \r\n\t") ≡ true) w
    blanks [] h = tt
    blanks (c ∷ w) h = (blank f.ignore_space c h.0, blanks w h.1)

gap_characters : {t u : Text} (g : Gap false t u) → AllByRecursion (λ c. (c ∈ "|) \r\n\t") ≡ true) (gap_word g)
gap_characters no_gap = tt
gap_characters (gap w e p h) =
    each_append (λ c. (c ∈ "|) \r\n\t") ≡ true) w (gap_word h) (separator_characters w p) (gap_characters h)

-- ---- parts and segments

-- m is p with parts after it that lie between the start of t and the start of u, one after another, with segments before,
-- between and after them; those in l are comments in the part, or in the token, before them
pub data Passes (b : Bool) : Text → Text → List Passed → List Passed → Type 0 where
  nothing : {t u : Text} {p : List Passed} → Gap b t u → Passes b t u p p
  one_with : {t a v u : Text} {p q l m : List Passed} (k : TriviumKind) (n : Bool) (w : Text) → Passes b t a p q →
      a ≡ w ++ v → is_inner k ≡ false → IsTextOf k w v → (n ≡ true → IsSegment w v) → InToken a v l → Gap b v u →
      m ≡ q ++ (reached k n a v ∷ l) → Passes b t u p m
  token_with : {t a v u : Text} {p q l m : List Passed} (w : Text) → b ≡ true → Passes b t a p q → a ≡ w ++ v →
      IsSegment w v → InToken a v l → Gap b v u → m ≡ q ++ l → Passes b t u p m

-- one without a comment in it
pub one_more : {b : Bool} {t a v : Text} {p q m : List Passed} (k : TriviumKind) (w : Text) → Passes b t a p q →
    a ≡ w ++ v → is_inner k ≡ false → IsTextOf k w v → m ≡ q ++ reached k false a v ∷ [] → Passes b t v p m
one_more k w h e j i f =
    one_with k false w h e j i (λ n. absurd (false≢true n)) (no_comment (cut_slice w e)) no_gap f

pub extended : {b : Bool} {t u v : Text} {p m : List Passed} → Passes b t u p m → Gap b u v → Passes b t v p m
extended (nothing s) h = nothing (gap_on s h)
extended (one_with k n w x e j i y z s f) h = one_with k n w x e j i y z (gap_on s h) f
extended (token_with w i x e y z s f) h = token_with w i x e y z (gap_on s h) f

pub followed : {b : Bool} {t u v : Text} {p q m : List Passed} → Passes b t u p q → Passes b u v q m → Passes b t v p m
followed h (nothing s) = extended h s
followed h (one_with k n w x e j i y z s f) = one_with k n w (followed h x) e j i y z s f
followed h (token_with w i x e y z s f) = token_with w i (followed h x) e y z s f

-- with other segments allowed
pub allowed : {b : Bool} {t u : Text} {p m : List Passed} (c : Bool) → AllowsMore b c → Passes b t u p m → Passes c t u p m
allowed {b} c f (nothing g) = nothing (more_gap b c f g)
allowed {b} c f (one_with k n w x e j i y z s g) = one_with k n w (allowed c f x) e j i y z (more_gap b c f s) g
allowed {b} c f (token_with w i x e y z s g) =
    token_with w (more_true b c f i) (allowed c f x) e y z (more_gap b c f s) g

-- ---- outcomes

-- where what is read ends; `loud` says of what is read whether there may be other segments than separators
abbrev pub PassesFrom : {A : Type 0} → (A → Bool) → Text → List Passed → List Passed → Outcome A → Type 0
PassesFrom loud t p m o = Holds (λ a (v : State). Passes (loud a) t v.rest p m) o

pub on_from : {A : Type 0} {b : Bool} {t u : Text} {p q : List Passed} (loud : A → Bool) (m : List Passed) →
    Passes b t u p q → ((a : A) → AllowsMore b (loud a)) → (o : Outcome A) → PassesFrom loud u q m o →
    PassesFrom loud t p m o
on_from loud m h g (done a v) i = followed (allowed (loud a) (g a) h) i
on_from loud m h g (failed e) i = tt

module _ (t : Text) (p m : List Passed) where
  pub mapped_from : {A B : Type 0} (loud : B → Bool) (less : A → Bool) (f : A → B) (o : Outcome A) →
      ((a : A) → AllowsMore (less a) (loud (f a))) → PassesFrom less t p m o → PassesFrom loud t p m (mapped f o)
  mapped_from loud less f (done a v) g h = allowed (loud (f a)) (g a) h
  mapped_from loud less f (failed e) g h = tt

  pub then_from : {A B : Type 0} (loud : B → Bool) (less : A → Bool) (q : List Passed) (o : Outcome A)
      (f : A → State → Outcome B) → PassesFrom less t p q o →
      ((a : A) (v : State) → Passes (less a) t v.rest p q → PassesFrom loud t p m (f a v)) →
      PassesFrom loud t p m (and_then o f)
  then_from loud less q (done a v) f h g = g a v h
  then_from loud less q (failed e) f h g = tt

-- ---- what leaves nothing in the tree

-- no text is between these
nothing_between : {b : Bool} {t a v : Text} {p q : List Passed} → Passes b t a p q → (s : Slice a v) →
    bytes a ≡ bytes v → Passes b t v p q
nothing_between {b} {t} {a} {v} {p} {q} h s e =
    subst (λ z. Passes b t z p q) (sym (same_end (s.word, s.cut) ([], refl) (sym e))) h

-- a text of this kind is added as a part, if there is any
pub dropped_passes : {b : Bool} {t a v : Text} {p q : List Passed} → Passes b t a p q → (s : Slice a v) →
    IsDropped s.word v → Passes b t v p (with_dropped (reach_of a) (reach_of v) q)
dropped_passes {b} {t} {a} {v} {p} {q} h s i = by_test (reach_of a == reach_of v) refl
  where
    by_test : (x : Bool) → (reach_of a == reach_of v) ≡ x →
        Passes b t v p (if x then q else q ++ part (reach_of a) (reach_of v) dropped false ∷ [])
    by_test true e = nothing_between h s (grind (arith, nat_tests))
    by_test false e = one_more dropped s.word h s.cut refl i refl

-- an empty text is not
pub nothing_dropped : {b : Bool} {t a v : Text} {p q : List Passed} → Passes b t a p q → (s : Slice a v) → s.word ≡ [] →
    Passes b t v p (with_dropped (reach_of a) (reach_of v) q)
nothing_dropped {b} {t} {a} {v} {p} {q} h s e =
    let same : a ≡ v = s.cut ∙ ap (λ w. w ++ v) e in
    let none : (reach_of a == reach_of v) ≡ true = let reaches = ap reach_of same in grind (arith, nat_tests) in
    subst (λ x. Passes b t v p (if x then q else q ++ part (reach_of a) (reach_of v) dropped false ∷ [])) (sym none)
    (nothing_between h s (ap bytes same))

-- the same with comments in the part, which is not empty
pub dropped_with : {b : Bool} {t a v : Text} {p q l : List Passed} → Passes b t a p q → (s : Slice a v) →
    IsDropped s.word v → bytes v < bytes a → InToken a v l →
    Passes b t v p (with_dropped (reach_of a) (reach_of v) q ++ l)
dropped_with {b} {t} {a} {v} {p} {q} {l} h s i lt j =
    let some : (reach_of a == reach_of v) ≡ false = grind (arith, nat_tests) in
    subst (λ x. Passes b t v p ((if x then q else q ++ part (reach_of a) (reach_of v) dropped false ∷ []) ++ l)) (sym some)
    (one_with dropped false s.word h s.cut refl i (λ n. absurd (false≢true n)) j no_gap
    (append_assoc q (part (reach_of a) (reach_of v) dropped false ∷ []) l))

-- where the last of these parts ends that does not lie in the one before it
abbrev last_end : ℕ → List Passed → ℕ
last_end start [] = start
last_end start (x ∷ l) = if nat_lt start x.trivium.span.start then last_end start l else last_end x.trivium.span.end l

-- these parts are added to p, and what lies before and between them
abbrev filled_up_to : ℕ → List Passed → List Passed → List Passed
filled_up_to start [] p = p
filled_up_to start (x ∷ l) p =
    if nat_lt start x.trivium.span.start then filled_up_to start l (p ++ x ∷ [])
    else filled_up_to x.trivium.span.end l (with_dropped start x.trivium.span.start p ++ x ∷ [])

-- what comes after the last part is added last
filled_is : (start end : ℕ) (l p : List Passed) →
    filled start end l p ≡ with_dropped (last_end start l) end (filled_up_to start l p)
filled_is start end [] p = refl
filled_is start end (x ∷ l) p =
    by_test (nat_lt start x.trivium.span.start) _ _ _ _ _ _ (filled_is start end l (p ++ x ∷ []))
    (filled_is x.trivium.span.end end l (with_dropped start x.trivium.span.start p ++ x ∷ []))
  where
    by_test : (b : Bool) (i j : ℕ) (y z u v : List Passed) → y ≡ with_dropped i end u → z ≡ with_dropped j end v →
        (if b then y else z) ≡ with_dropped (if b then i else j) end (if b then u else v)
    by_test true i j y z u v e f = e
    by_test false i j y z u v e f = f

-- one more part ends where it ends, unless it lies in the last one
last_end_push : (start : ℕ) (l : List Passed) (x : Passed) → last_end start (l ++ x ∷ [])
    ≡ (if nat_lt (last_end start l) x.trivium.span.start then last_end start l else x.trivium.span.end)
last_end_push start [] x = refl
last_end_push start (y ∷ l) x =
    by_test (nat_lt start y.trivium.span.start) _ _ _ _ (last_end_push start l x)
    (last_end_push y.trivium.span.end l x)
  where
    by_test : (b : Bool) (i j m n : ℕ) → m ≡ (if nat_lt i x.trivium.span.start then i else x.trivium.span.end) →
        n ≡ (if nat_lt j x.trivium.span.start then j else x.trivium.span.end) →
        (if b then m else n)
        ≡ (if nat_lt (if b then i else j) x.trivium.span.start then (if b then i else j) else x.trivium.span.end)
    by_test true i j m n e f = e
    by_test false i j m n e f = f

-- one more part is added after what lies before it, unless it lies in the last one
filled_push : (start : ℕ) (l p : List Passed) (x : Passed) →
    filled_up_to start (l ++ x ∷ []) p
    ≡ (if nat_lt (last_end start l) x.trivium.span.start then filled_up_to start l p ++ x ∷ []
    else with_dropped (last_end start l) x.trivium.span.start (filled_up_to start l p) ++ x ∷ [])
filled_push start [] p x = refl
filled_push start (y ∷ l) p x =
    by_test (nat_lt start y.trivium.span.start) _ _ _ _ _ _ (filled_push start l (p ++ y ∷ []) x)
    (filled_push y.trivium.span.end l (with_dropped start y.trivium.span.start p ++ y ∷ []) x)
  where
    n : ℕ
    n = x.trivium.span.start

    by_test : (b : Bool) (i j : ℕ) (y z u v : List Passed) →
        y ≡ (if nat_lt i n then u ++ x ∷ [] else with_dropped i n u ++ x ∷ []) →
        z ≡ (if nat_lt j n then v ++ x ∷ [] else with_dropped j n v ++ x ∷ []) →
        (if b then y else z) ≡ (if nat_lt (if b then i else j) n then (if b then u else v) ++ x ∷ []
        else with_dropped (if b then i else j) n (if b then u else v) ++ x ∷ [])
    by_test true i j y z u v e f = e
    by_test false i j y z u v e f = f

-- a part that begins at e or later comes after the last one, which ends at e
push_after : (start e : ℕ) (l p : List Passed) (x : Passed) → last_end start l ≡ e → x.trivium.span.start ≤ e →
    (last_end start (l ++ x ∷ []) ≡ x.trivium.span.end)
    × (filled_up_to start (l ++ x ∷ []) p ≡ with_dropped e x.trivium.span.start (filled_up_to start l p) ++ x ∷ [])
push_after start e l p x i h =
    let none : nat_lt (last_end start l) x.trivium.span.start ≡ false = grind (arith, nat_tests) in (
      last_end_push start l x ∙ ap (λ b. if b then last_end start l else x.trivium.span.end) none,
      filled_push start l p x ∙ ap (λ b. if b then filled_up_to start l p ++ x ∷ []
          else with_dropped (last_end start l) x.trivium.span.start (filled_up_to start l p) ++ x ∷ []) none
          ∙ ap (λ n. with_dropped n x.trivium.span.start (filled_up_to start l p) ++ x ∷ []) i,
    )

-- one that begins before e lies in the last one
push_inner : (start e : ℕ) (l p : List Passed) (x : Passed) → last_end start l ≡ e → e < x.trivium.span.start →
    (last_end start (l ++ x ∷ []) ≡ e) × (filled_up_to start (l ++ x ∷ []) p ≡ filled_up_to start l p ++ x ∷ [])
push_inner start e l p x i h =
    let some : nat_lt (last_end start l) x.trivium.span.start ≡ true = grind (arith, nat_tests) in (
      last_end_push start l x ∙ ap (λ b. if b then last_end start l else x.trivium.span.end) some ∙ i,
      filled_push start l p x ∙ ap (λ b. if b then filled_up_to start l p ++ x ∷ []
          else with_dropped (last_end start l) x.trivium.span.start (filled_up_to start l p) ++ x ∷ []) some,
    )

inside_fits : {t u : Text} {l : List Passed} → InToken t u l → bytes u ≤ bytes t
inside_fits (no_comment s) = fits s
inside_fits (a_comment_in {a} {v} k w s e i g n r f) =
    omega (arith, fits s, ap bytes e, bytes-append w v, inside_fits r)

-- so do all comments in it
push_inside : {t u : Text} {l : List Passed} (start : ℕ) (before p : List Passed) → InToken t u l →
    last_end start before ≡ reach_of u →
    (last_end start (before ++ l) ≡ reach_of u) × (filled_up_to start (before ++ l) p ≡ filled_up_to start before p ++ l)
push_inside {l} start before p (no_comment s) i = (
  ap (last_end start) (append-nil before) ∙ i,
  ap (λ z. filled_up_to start z p) (append-nil before) ∙ sym (append-nil (filled_up_to start before p)),
)
push_inside {u} start before p (a_comment_in {a} {v} {l} k w s e g j z h f) i =
    let x = reached k false a v in
    let earlier : reach_of u < reach_of a = omega (arith, z, ap bytes e, bytes-append w v, inside_fits h) in
    let one = push_inner start (reach_of u) before p x i earlier in
    let others = push_inside start (before ++ x ∷ []) p h one.0 in
    let same : before ++ (x ∷ l) ≡ (before ++ x ∷ []) ++ l = sym (append_assoc before (x ∷ []) l) in (
      ap (λ y. last_end start (before ++ y)) f ∙ ap (last_end start) same ∙ others.0,
      ap (λ y. filled_up_to start (before ++ y) p) f ∙ ap (λ y. filled_up_to start y p) same ∙ others.1
          ∙ ap (λ y. y ++ l) one.1 ∙ append_assoc (filled_up_to start before p) (x ∷ []) l
          ∙ ap (λ y. filled_up_to start before p ++ y) (sym f),
    )

-- up to where the last part ends, at e
parts_pass : {b : Bool} {t a u : Text} {p q l : List Passed} → Passes b t a p q → Passes false a u [] l →
    (e : Text) × Passes b t e p (filled_up_to (reach_of a) l q) × Gap false e u × (last_end (reach_of a) l ≡ reach_of e)
parts_pass {a} h (nothing s) = (a, h, s, refl)
parts_pass h (token_with w i g e y z s f) = absurd (false≢true i)
parts_pass {b} {t} {a} {p} {q} h (one_with {a = c} {v} {q = m} {l = n} k r w g i inner x pc j s f) =
    let (e, before, between, ends) = parts_pass h g in
    let up_to : Passes b t c p (with_dropped (reach_of e) (reach_of c) (filled_up_to (reach_of a) m q)) =
    dropped_passes before (gap_slice between) (between_parts (gap_characters between)) in
    let y = reached k r c v in
    let one = push_after (reach_of a) (reach_of e) m q y ends (omega (arith, fits (gap_slice between))) in
    let others = push_inside (reach_of a) (m ++ y ∷ []) q j one.0 in
    let same : m ++ (y ∷ n) ≡ (m ++ y ∷ []) ++ n = sym (append_assoc m (y ∷ []) n) in
    let all =
    ap (λ l. filled_up_to (reach_of a) l q) (f ∙ same) ∙ others.1 ∙ ap (λ z. z ++ n) one.1
    ∙ append_assoc (with_dropped (reach_of e) (reach_of c) (filled_up_to (reach_of a) m q)) (y ∷ []) n in
    let last = ap (last_end (reach_of a)) (f ∙ same) ∙ others.0 in
    (v, one_with k r w up_to i inner x pc j no_gap all, s, last)

-- all text from a to v is added, with the parts in it
pub filled_passes : {b : Bool} {t a v : Text} {p q l : List Passed} → Passes b t a p q → Passes false a v [] l →
    Passes b t v p (filled (reach_of a) (reach_of v) l q)
filled_passes {b} {t} {a} {v} {p} {q} {l} h g =
    let (e, before, between, ends) = parts_pass h g in
    subst (Passes b t v p) (sym (filled_is (reach_of a) (reach_of v) l q))
    (subst (λ n. Passes b t v p (with_dropped n (reach_of v) (filled_up_to (reach_of a) l q))) (sym ends)
    (dropped_passes before (gap_slice between) (between_parts (gap_characters between))))

-- ---- layout

units_pass : (f : Flags) {t v : Text} {l : List Comment} → AreInLayout f.ignore_space t v l → (p : List Passed) →
    Passes false t v p (p ++ map of_comment l)
units_pass f {t} {v} (no_unit w b e) p =
    subst (Passes false t v p) (sym (append-nil p)) (nothing (separated false w e (whitespace f b)))
units_pass f {t} {v} (a_comment {m} {l} w u b e h k) p =
    let x = reached comment false (u ++ m) m in
    let first : Passes false t m p (p ++ x ∷ []) =
    one_more comment u (nothing (separated false w e (whitespace f b))) refl refl h refl in
    subst (Passes false t v p) (append_assoc p (x ∷ []) (map of_comment l)) (followed first (units_pass f k (p ++ x ∷ [])))
units_pass f {t} {v} (a_line {m} {l} w u b e h k) p =
    let x = reached line_comment false (u ++ m) m in
    let first : Passes false t m p (p ++ x ∷ []) =
    one_more line_comment u (nothing (separated false w e (whitespace f b))) refl refl h refl in
    subst (Passes false t v p) (append_assoc p (x ∷ []) (map of_comment l)) (followed first (units_pass f k (p ++ x ∷ [])))

pub layout_passes : (s : State) (u : Text) → skipped s ≡ rest u → (p : List Passed) →
    Passes false s.rest u p (p ++ comments_at s)
layout_passes s u e p = units_pass s.flags (comments_are_units s.flags.ignore_space s.rest u e) p

-- ---- what passes is in order, and is a part of the text

-- between positions that are further apart
higher : {from end high b : ℕ} {l : List Trivium} → high ≤ b → FollowOne from end high l → FollowOne from end b l
higher i (no_more h) = no_more (omega (arith, h, i))
higher i (after h j k) = after h j (higher i k)
higher i (within e h j g k) = within e h j g (higher i k)

-- after a part that ends before the comments in the part before
shifted : {from end high low f : ℕ} {l : List Trivium} → from ≤ end → low ≤ from → FollowOne from end high l →
    FollowOne f low high l
shifted i j (no_more h) = no_more (omega (arith, h, i, j))
shifted i j (after h g k) = after (omega (arith, h, i, j)) g k
shifted i j (within e h g d k) = after (omega (arith, h, j)) g (shifted d (omega arith) k)

-- with more of the part before
earlier : {from end high f : ℕ} {l : List Trivium} → f ≤ from → FollowOne from end high l → FollowOne f end high l
earlier i (no_more h) = no_more h
earlier i (after h g k) = after h g k
earlier i (within e h g d k) = within e (omega (arith, h, i)) g d k

wider : (a low high b : ℕ) (l : List Trivium) → a ≤ low → high ≤ b → AreInOrder low high l → AreInOrder a b l
wider a low high b l h i k = higher i (shifted (omega arith) h k)

-- others after all of them
follow_on : {from end mid high : ℕ} {l m : List Trivium} → FollowOne from end mid l →
    ((f e : ℕ) → e ≤ mid → FollowOne f e high m) → FollowOne from end high (l ++ m)
follow_on {from} {end} (no_more h) k = k from end h
follow_on (after h g d) k = after h g (follow_on d k)
follow_on (within e h g f d) k = within e h g f (follow_on d k)

module _ (text : Text) where
  abbrev position : Text → ℕ
  position t = position_at (bytes text) (reach_of t)

  abbrev trivium_of : Passed → Trivium
  trivium_of x = located (bytes text) x.trivium

  -- the slice of the text before what follows it
  slice_of : {b : Bool} {t u : Text} {m : List Passed} → Slice text t → Passes b t u [] m → Slice text u
  slice_of s (nothing h) = on s (gap_slice h)
  slice_of s (one_with k n w h e j i y x z f) = on (slice_of s h) (on (cut_slice w e) (gap_slice z))
  slice_of s (token_with w i h e y x z f) = on (slice_of s h) (on (cut_slice w e) (gap_slice z))

  -- comments in a part that ends at v
  inside_order : {t v : Text} {m : List Passed} (from high : ℕ) → Slice text t → InToken t v m → from ≤ position t →
      position v ≤ high → FollowOne from (position v) high (map trivium_of m)
  inside_order from high s (no_comment k) h i = no_more i
  inside_order {t} {v} from high s (a_comment_in {a} {v = d} {l} k w z e j g n r f) h i =
      let x = trivium_of (reached k false a d) in
      let inner : bytes d ≤ bytes a = omega (arith, ap bytes e, bytes-append w d) in
      let up_to = on (on s z) (cut_slice w e) in
      subst (FollowOne from (position v) high) (ap (map trivium_of) (sym f))
      (within {x = x} g (omega (arith, h, fits z)) (omega (arith, inner, fits (on s z)))
      (omega (arith, inside_fits r, fits up_to))
      (inside_order (position d) high up_to r (omega arith) i))

  -- comments in a token that is no part
  token_order : {t v : Text} {m : List Passed} (from end high : ℕ) → Slice text t → InToken t v m → end ≤ position t →
      position v ≤ high → FollowOne from end high (map trivium_of m)
  token_order from end high s (no_comment k) h i = no_more (omega (arith, h, i, fits k))
  token_order {t} {v} from end high s (a_comment_in {a} {v = d} {l} k w z e j g n r f) h i =
      let x = trivium_of (reached k false a d) in
      let inner : bytes d ≤ bytes a = omega (arith, ap bytes e, bytes-append w d) in
      let up_to = on (on s z) (cut_slice w e) in
      subst (FollowOne from end high) (ap (map trivium_of) (sym f))
      (after {x = x} (omega (arith, h, fits z)) (omega (arith, inner, fits (on s z)))
      (token_order (position a) (position d) high up_to r (omega arith) i))

  in_order : {b : Bool} {t u : Text} {m : List Passed} → Slice text t → Passes b t u [] m →
      AreInOrder (position t) (position u) (map trivium_of m)
  in_order {t} {u} s (nothing h) = no_more (omega (arith, fits (gap_slice h)))
  in_order {t} {u} s (one_with {a} {v} {q} {l} k n w h e y i pc j z f) =
      let x = trivium_of (reached k n a v) in
      let inner : bytes v ≤ bytes a = omega (arith, ap bytes e, bytes-append w v) in
      subst (λ l. AreInOrder (position t) (position u) l)
      (sym (ap (map trivium_of) f ∙ map-append trivium_of q (reached k n a v ∷ l)))
      (follow_on (in_order s h) (λ g d le. after le (omega (arith, inner))
      (inside_order (position a) (position u) (slice_of s h) j (omega arith) (omega (arith, fits (gap_slice z))))))
  in_order {t} {u} s (token_with {a} {v} {q} {l} w i h e y j z f) =
      subst (λ l. AreInOrder (position t) (position u) l) (sym (ap (map trivium_of) f ∙ map-append trivium_of q l))
      (follow_on (in_order s h)
      (λ g d le. token_order g d (position u) (slice_of s h) j le (omega (arith, fits (gap_slice z)))))

  part_at : (k : TriviumKind) (b : Bool) (a v w : Text) → Slice text a → a ≡ w ++ v → IsTextOf k w v →
      IsPartOf text (trivium_of (reached k b a v))
  part_at k b a v w s e i =
      let start : position_at (bytes text) (reach_of a) ≡ bytes s.word =
      omega (arith, ap bytes s.cut, bytes-append s.word a) in
      let end : position_at (bytes text) (reach_of v) ≡ bytes s.word + bytes w =
      omega (arith, ap bytes s.cut, bytes-append s.word a, ap bytes e, bytes-append w v) in
      (s.word, w, v, s.cut ∙ ap (λ z. s.word ++ z) e, i, λ j. record { start = start j; end = end j })

  inside_parts : {t u : Text} {m : List Passed} → Slice text t → InToken t u m →
      AllByRecursion (IsPartOf text) (map trivium_of m)
  inside_parts s (no_comment k) = tt
  inside_parts s (a_comment_in {a} {v} k w z e i g n r f) =
      subst (AllByRecursion (IsPartOf text)) (ap (map trivium_of) (sym f))
      (part_at k false a v w (on s z) e i, inside_parts (on (on s z) (cut_slice w e)) r)

  are_parts : {b : Bool} {t u : Text} {m : List Passed} → Slice text t → Passes b t u [] m →
      AllByRecursion (IsPartOf text) (map trivium_of m)
  are_parts s (nothing h) = tt
  are_parts s (one_with {a} {v} {q} {l} k n w h e y i pc j z f) =
      subst (AllByRecursion (IsPartOf text)) (sym (ap (map trivium_of) f ∙ map-append trivium_of q (reached k n a v ∷ l)))
      (each_append (IsPartOf text) (map trivium_of q) (trivium_of (reached k n a v) ∷ map trivium_of l)
      (are_parts s h) (part_at k n a v w (slice_of s h) e i, inside_parts (slice_of s h) j))
  are_parts s (token_with {a} {v} {q} {l} w i h e y j z f) =
      subst (AllByRecursion (IsPartOf text)) (sym (ap (map trivium_of) f ∙ map-append trivium_of q l))
      (each_append (IsPartOf text) (map trivium_of q) (map trivium_of l) (are_parts s h) (inside_parts (slice_of s h) j))

  -- ---- what is left out changes neither

  module _ (named : Bool) where
    abbrev returned : List Passed → List Trivium
    returned m = map (located (bytes text)) (kept named m)

    kept_in_order : (m : List Passed) (from end high : ℕ) → from ≤ end → FollowOne from end high (map trivium_of m) →
        FollowOne from end high (returned m)
    kept_in_order [] from end high z (no_more h) = no_more h
    kept_in_order (x ∷ m) from end high z (after h i k) =
        let later = kept_in_order m (trivium_of x).span.start (trivium_of x).span.end high i k in
        cond_both (x.unnamed && not named) _ _ (λ l. FollowOne from end high (map (located (bytes text)) l))
        (λ _. shifted i h later) (λ _. after h i later)
    kept_in_order (x ∷ m) from end high z (within e h i j k) =
        let later = kept_in_order m (trivium_of x).span.end end high j k in
        cond_both (x.unnamed && not named) _ _ (λ l. FollowOne from end high (map (located (bytes text)) l))
        (λ _. earlier (omega (arith, h, i)) later) (λ _. within e h i j later)

    kept_parts : (m : List Passed) → AllByRecursion (IsPartOf text) (map trivium_of m) →
        AllByRecursion (IsPartOf text) (returned m)
    kept_parts [] h = tt
    kept_parts (x ∷ m) h =
        cond_both (x.unnamed && not named) _ _
        (λ l. AllByRecursion (IsPartOf text) (map (located (bytes text)) l))
        (λ _. kept_parts m h.1) (λ _. (h.0, kept_parts m h.1))

    pub returned_in_order : {b : Bool} {u : Text} (m : List Passed) → Passes b text u [] m → AreInOrder 0 (bytes text) (returned m)
    returned_in_order {u} m h =
        wider 0 (position text) (position u) (bytes text) (returned m) (omega arith) (omega arith)
        (kept_in_order m _ _ _ (omega arith) (in_order (current text) h))

    pub returned_are_parts : {b : Bool} {u : Text} (m : List Passed) → Passes b text u [] m →
        AllByRecursion (IsPartOf text) (returned m)
    returned_are_parts m h = kept_parts m (are_parts (current text) h)

    -- ---- the parts that are left, and segments between them

    abbrev shown : List Passed → List Trivium
    shown m = outer (returned m)

    shown_on : (l m : List Passed) → shown (l ++ m) ≡ shown l ++ shown m
    shown_on [] m = refl
    shown_on (x ∷ l) m = by_test (x.unnamed && not named) (shown_on l m)
      where
        y : Trivium
        y = trivium_of x

        by_test : (b : Bool) → shown (l ++ m) ≡ shown l ++ shown m →
            outer (map (located (bytes text)) (if b then kept named (l ++ m) else x.trivium ∷ kept named (l ++ m)))
            ≡ outer (map (located (bytes text)) (if b then kept named l else x.trivium ∷ kept named l)) ++ shown m
        by_test true h = h
        by_test false h = by_kind (is_inner x.trivium.kind) h
          where
            by_kind : (c : Bool) → shown (l ++ m) ≡ shown l ++ shown m →
                (if c then shown (l ++ m) else y ∷ shown (l ++ m)) ≡ (if c then shown l else y ∷ shown l) ++ shown m
            by_kind true h = h
            by_kind false h = ap (λ z. y ∷ z) h

    -- comments in a token are not
    none_shown : {t u : Text} {l : List Passed} → InToken t u l → shown l ≡ []
    none_shown (no_comment s) = refl
    none_shown (a_comment_in {a} {v} {l} k w s e i g n r f) =
        ap shown f
        ∙ ap (λ b. if b then shown l else trivium_of (reached k false a v) ∷ shown l) g ∙ none_shown r

    segment_fills : {t u : Text} {l : List Trivium} (w : Text) → t ≡ w ++ u → IsSegment w u → Fills (bytes text) u l →
        Fills (bytes text) t l
    segment_fills w e p (only_segments g) = only_segments (a_segment w e p g)
    segment_fills w e p (a_part x g i j k) = a_part x (a_segment w e p g) i j k

    gap_fills : {b : Bool} {t u : Text} {l : List Trivium} → Gap b t u → Fills (bytes text) u l → Fills (bytes text) t l
    gap_fills no_gap k = k
    gap_fills {b} (gap {u} w e p h) k = segment_fills w e (as_segment w u b p) (gap_fills h k)

    passes_fill : {b : Bool} {t u : Text} {m : List Passed} {l : List Trivium} → Passes b t u [] m →
        Fills (bytes text) u l → Fills (bytes text) t (shown m ++ l)
    passes_fill (nothing g) k = gap_fills g k
    passes_fill {t} {l} (token_with {a} {v} {q} {l = i} w loud h e p j g f) k =
        let same : shown q ++ l ≡ (shown q ++ shown i) ++ l =
        ap (λ z. z ++ l) (sym (append-nil (shown q)) ∙ ap (λ z. shown q ++ z) (sym (none_shown j))) in
        subst (Fills (bytes text) t) (same ∙ ap (λ z. z ++ l) (sym (ap shown f ∙ shown_on q i)))
        (passes_fill h (segment_fills w e p (gap_fills g k)))
    passes_fill {t} {l} (one_with {a} {v} {q} {l = i} k n w h e y x p j g f) r =
        let later : Fills (bytes text) v l = gap_fills g r in
        subst (Fills (bytes text) t)
        (sym (append_assoc (shown q) (shown (reached k n a v ∷ i)) l)
        ∙ ap (λ z. z ++ l) (sym (ap shown f ∙ shown_on q (reached k n a v ∷ i))))
        (passes_fill h (by_test (n && not named) later (λ b. p (both_true b))))
      where
        z : Trivium
        z = trivium_of (reached k n a v)

        both_true : (n && not named) ≡ true → n ≡ true
        both_true b = by_name n b
          where
            by_name : (n : Bool) → (n && not named) ≡ true → n ≡ true
            by_name true b = refl
            by_name false b = absurd (false≢true b)

        -- what is shown of it
        by_test : (b : Bool) → Fills (bytes text) v l → (b ≡ true → IsSegment w v) →
            Fills (bytes text) a (outer (map (located (bytes text)) (if b then kept named i
            else (reached k n a v).trivium ∷ kept named i)) ++ l)
        by_test true later p =
            subst (λ m. Fills (bytes text) a (m ++ l)) (sym (none_shown j)) (segment_fills w e (p refl) later)
        by_test false later p =
            subst (λ c. Fills (bytes text) a ((if c then shown i else z ∷ shown i) ++ l)) (sym y)
            (subst (λ m. Fills (bytes text) a (z ∷ m ++ l)) (sym (none_shown j))
            (a_part w no_segment e refl later))

    pub returned_fill : {b : Bool} {u : Text} (m : List Passed) → Passes b text u [] m → u ≡ [] →
        HasEveryByte text (returned m)
    returned_fill {b} {u} m h e =
        let ends : Fills (bytes text) u [] = only_segments (subst (λ z. AreSegments u z) e no_segment) in
        subst (Fills (bytes text) text) (append-nil (shown m)) (passes_fill h ends)

-- a part of a pattern begins and ends at character boundaries
part_cut : {re : List ℕ} (x : Trivium) → IsUtf8 re → IsPartOf (chars re) x → IsCutOut re x.span
part_cut {re} x valid (t, w, v, e, i, same) =
    let whole : chars re ≡ (t ++ w) ++ v = e ∙ sym (append_assoc t w v) in
    let start : bytes (chars re) - bytes (w ++ v) ≡ x.span.start =
    omega (arith, ap bytes e, bytes-append t (w ++ v), ap (λ p. p.start) same) in
    let end : bytes (chars re) - bytes v ≡ x.span.end =
    omega (arith, ap bytes whole, bytes-append (t ++ w) v, bytes-append t w, ap (λ p. p.end) same) in (
      subst (IsCharBoundary re) start (cut_at re (w ++ v) valid (t, e)),
      subst (IsCharBoundary re) end (cut_at re v valid (t ++ w, whole)),
    )

pub parts_cut : {re : List ℕ} (l : List Trivium) → IsUtf8 re → AllByRecursion (IsPartOf (chars re)) l →
    AllByRecursion (λ x. IsCutOut re x.span) l
parts_cut [] valid h = tt
parts_cut (x ∷ l) valid h = (part_cut x valid h.0, parts_cut l valid h.1)
