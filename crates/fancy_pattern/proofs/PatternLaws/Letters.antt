-- The letters that change some flags to others are read as that change.
use Rattle.std.proofs.Common.{◌≡◌, ℕ, ◌+◌, ◌<◌, ◌≤◌, suc, Bool, true, false, not, ◌&&◌, ◌||◌, ◌==◌, [], ◌∷◌, ◌++◌}
use Rattle.std.proofs.Common.{codes, None, refl, sym, ap, ◌∙◌, subst, arith, append_assoc, ne_eqb, ⊎_elim}
use Rattle.std.proofs.Common.{if◌then◌else◌}
use Rattle.std.proofs.lemmas.Bool.{cond-false, or_parts, or_cases}
use Prim.Native.Char.{code}
use Rattle.fancy_lex.specs.LayoutSteps.{layout, after_comment_start, is_layout}
use Rattle.fancy_lex.specs.Reading.{gives, layout_reading}
use Rattle.fancy_lex.specs.Text.{Text, bytes}
use Rattle.fancy_lex.specs.declared.flags.Flags.{Flags}
use Rattle.fancy_lex.specs.FlagLetters.{Letters, inline_flags, flag_group, flags_end, flags_go_on}
use Rattle.fancy_lex.specs.LetterSteps.{letters, letters_in, step}
use Rattle.fancy_lex.proofs.LetterLemmas.{letters_start, in_end, in_go}
use Rattle.fancy_grammar.specs.AtomStart.{read, of_kind, flags_start, after_question}
use Rattle.fancy_grammar.specs.GroupKind as kind
use Rattle.fancy_grammar.specs.PatternNeeds.{letter_on, letters_on, turns_on, letters_between}
use Rattle.fancy_grammar.specs.State.{State, done}
use Rattle.fancy_grammar.specs.Tree.{empty}
use Rattle.fancy_pattern.proofs.PatternLaws.Rules.{not_layout}
use Rattle.fancy_grammar.proofs.ReadBack.RuleLemmas.{st}

-- the flags with these four values
abbrev pub changed : Flags → Bool → Bool → Bool → Bool → Flags
changed f i m s r = record f { casei = i; multi = m; dotnl = s; crlf = r }

-- with more steps left than bytes
abbrev Spelled : Text → Bool → Flags → Text → Letters → Text → Type 0
Spelled t c f u l w = (j : ℕ) → bytes u < j → letters_in t j c f u ≡ gives l w

-- a character that is no layout, and opens no comment
record IsLetter (c : ℕ) : Type 0 where
  no_layout : is_layout true c ≡ false
  no_comment : (u : Text) → after_comment_start (c ∷ u) ≡ None
  byte : (u : Text) → bytes u < bytes (c ∷ u)

same_layout : (x : Bool) (c : ℕ) → is_layout true c ≡ false → is_layout x c ≡ false
same_layout true c e = e
same_layout false c e = refl

before_letter : (x : Bool) (c : ℕ) (u : Text) → IsLetter c → layout_reading (layout x (c ∷ u)) ≡ gives tt (c ∷ u)
before_letter x c u h = ap layout_reading (not_layout x c u (h.no_comment u) (same_layout x c h.no_layout))

module _ (t : Text) (l : Letters) (w : Text) where
  last_letter : (c : Bool) (f : Flags) (a : ℕ) (u : Text) → IsLetter a → step t c f (a ∷ u) ≡ gives (flags_end l) w →
      Spelled t c f (a ∷ u) l w
  last_letter c f a u h e j m =
      in_end t c f (a ∷ u) j (bytes (a ∷ u)) m (a ∷ u) (before_letter f.ignore_space a u h) l w e

  more_letters : (c b : Bool) (f g : Flags) (a : ℕ) (u : Text) → IsLetter a →
      step t c f (a ∷ u) ≡ gives (flags_go_on b g) u → Spelled t b g u l w → Spelled t c f (a ∷ u) l w
  more_letters c b f g a u h e r j m =
      let (i, q, same) =
      in_go t c f (a ∷ u) j (bytes (a ∷ u)) m (a ∷ u) (before_letter f.ignore_space a u h) (bytes u) b g u (h.byte u) e
      in
      same ∙ r i q

  -- the letter a, if the flag is turned on
  on : (fl : Bool → Flags) (a : ℕ) → IsLetter a →
      ((u : Text) → step t false (fl false) (a ∷ u) ≡ gives (flags_go_on false (fl true)) u) →
      (was is : Bool) (u : Text) → Spelled t false (fl (was || is)) u l w →
      Spelled t false (fl was) (letter_on a was is ++ u) l w
  on fl a h e true true u r = r
  on fl a h e true false u r = r
  on fl a h e false true u r = more_letters false false (fl false) (fl true) a u h (e u) r
  on fl a h e false false u r = r

  -- after the minus, if the flag is turned off
  off : (fl : Bool → Flags) (a : ℕ) → IsLetter a →
      ((u : Text) → step t true (fl true) (a ∷ u) ≡ gives (flags_go_on true (fl false)) u) →
      (was is : Bool) (u : Text) → Spelled t true (fl is) u l w →
      Spelled t true (fl (was || is)) (letter_on a is was ++ u) l w
  off fl a h e true true u r = r
  off fl a h e true false u r = more_letters true true (fl true) (fl false) a u h (e u) r
  off fl a h e false true u r = r
  off fl a h e false false u r = r

byte_i : (u : Text) → bytes u < bytes (code "i" ∷ u)
unfolding bytes
byte_i u = omega arith

byte_m : (u : Text) → bytes u < bytes (code "m" ∷ u)
unfolding bytes
byte_m u = omega arith

byte_s : (u : Text) → bytes u < bytes (code "s" ∷ u)
unfolding bytes
byte_s u = omega arith

byte_R : (u : Text) → bytes u < bytes (code "R" ∷ u)
unfolding bytes
byte_R u = omega arith

byte_minus : (u : Text) → bytes u < bytes (code "-" ∷ u)
unfolding bytes
byte_minus u = omega arith

byte_colon : (u : Text) → bytes u < bytes (code ":" ∷ u)
unfolding bytes
byte_colon u = omega arith

byte_close : (u : Text) → bytes u < bytes (code ")" ∷ u)
unfolding bytes
byte_close u = omega arith

letter_i : IsLetter (code "i")
letter_i = record { no_layout = refl; no_comment = λ u. refl; byte = byte_i }

letter_m : IsLetter (code "m")
letter_m = record { no_layout = refl; no_comment = λ u. refl; byte = byte_m }

letter_s : IsLetter (code "s")
letter_s = record { no_layout = refl; no_comment = λ u. refl; byte = byte_s }

letter_R : IsLetter (code "R")
letter_R = record { no_layout = refl; no_comment = λ u. refl; byte = byte_R }

letter_minus : IsLetter (code "-")
letter_minus = record { no_layout = refl; no_comment = λ u. refl; byte = byte_minus }

letter_colon : IsLetter (code ":")
letter_colon = record { no_layout = refl; no_comment = λ u. refl; byte = byte_colon }

letter_close : IsLetter (code ")")
letter_close = record { no_layout = refl; no_comment = λ u. refl; byte = byte_close }

-- ---- all letters before a text

abbrev four : Bool → Bool → Bool → Bool → Bool → Bool → Bool → Bool → Text → Text
four i m s r a b c d u =
    letter_on (code "i") i a ++ (letter_on (code "m") m b ++ (letter_on (code "s") s c ++ (letter_on (code "R") r d ++ u)))

abbrev all_on : Flags → Flags → Text → Text
all_on f g u = four f.casei f.multi f.dotnl f.crlf g.casei g.multi g.dotnl g.crlf u

abbrev minus_if : Bool → Text → Text
minus_if b u = (if b then codes "-" else []) ++ u

abbrev all_between : Flags → Flags → Text → Text
all_between f g u = all_on f g (minus_if (turns_on g f) (all_on g f u))

four_text : (i m s r a b c d : Bool) (u : Text) →
    (letter_on (code "i") i a ++ (letter_on (code "m") m b ++ (letter_on (code "s") s c ++ letter_on (code "R") r d))) ++ u
    ≡ four i m s r a b c d u
four_text i m s r a b c d u =
    append_assoc (letter_on (code "i") i a) _ u
    ∙ ap (λ v. letter_on (code "i") i a ++ v) (append_assoc (letter_on (code "m") m b) _ u
    ∙ ap (λ v. letter_on (code "m") m b ++ v) (append_assoc (letter_on (code "s") s c) _ u))

between_text : (f g : Flags) (u : Text) → letters_between f g ++ u ≡ all_between f g u
between_text f g u =
    append_assoc (letters_on f g) _ u
    ∙ (four_text f.casei f.multi f.dotnl f.crlf g.casei g.multi g.dotnl g.crlf _
    ∙ ap (all_on f g) (append_assoc (if turns_on g f then codes "-" else []) (letters_on g f) u
    ∙ ap (minus_if (turns_on g f)) (four_text g.casei g.multi g.dotnl g.crlf f.casei f.multi f.dotnl f.crlf u)))

-- ---- how long they are

one_more : (a : ℕ) (was is : Bool) (u : Text) → IsLetter a → bytes u ≤ bytes (letter_on a was is ++ u)
one_more a true true u h = omega arith
one_more a true false u h = omega arith
one_more a false true u h = let l = h.byte u in omega arith
one_more a false false u h = omega arith

one_longer : (a : ℕ) (was is : Bool) (u : Text) → IsLetter a → is && not was ≡ true →
    bytes u < bytes (letter_on a was is ++ u)
one_longer a true true u h e = absurd cc
one_longer a true false u h e = absurd cc
one_longer a false true u h e = h.byte u
one_longer a false false u h e = absurd cc

module _ (i m s r a b c d : Bool) (u : Text) where
  abbrev after_R : Text
  after_R = letter_on (code "R") r d ++ u

  abbrev after_s : Text
  after_s = letter_on (code "s") s c ++ after_R

  abbrev after_m : Text
  after_m = letter_on (code "m") m b ++ after_s

  at_R : bytes u ≤ bytes after_R
  at_R = one_more (code "R") r d u letter_R

  at_s : bytes after_R ≤ bytes after_s
  at_s = one_more (code "s") s c after_R letter_s

  at_m : bytes after_s ≤ bytes after_m
  at_m = one_more (code "m") m b after_s letter_m

  at_i : bytes after_m ≤ bytes (four i m s r a b c d u)
  at_i = one_more (code "i") i a after_m letter_i

  four_more : bytes u ≤ bytes (four i m s r a b c d u)
  four_more = omega (arith, at_R, at_s, at_m, at_i)

  four_longer : (a && not i) || ((b && not m) || ((c && not s) || (d && not r))) ≡ true →
      bytes u < bytes (four i m s r a b c d u)
  four_longer e =
      ⊎_elim (λ h. let l = one_longer (code "i") i a after_m letter_i h in omega (arith, at_R, at_s, at_m))
      (λ e. ⊎_elim (λ h. let l = one_longer (code "m") m b after_s letter_m h in omega (arith, at_R, at_s, at_i))
      (λ e. ⊎_elim (λ h. let l = one_longer (code "s") s c after_R letter_s h in omega (arith, at_R, at_m, at_i))
      (λ h. let l = one_longer (code "R") r d u letter_R h in omega (arith, at_s, at_m, at_i))
      (or_cases (c && not s) _ e)) (or_cases (b && not m) _ e)) (or_cases (a && not i) _ e)

-- ---- what they are read as

none_off : (a : ℕ) (was is : Bool) → was && not is ≡ false → (was || is ≡ is) × (letter_on a is was ≡ [])
none_off a true true e = (refl, refl)
none_off a true false e = absurd cc
none_off a false true e = (refl, refl)
none_off a false false e = (refl, refl)

module _ (t : Text) (l : Letters) (w : Text) (f : Flags) (a b c d : Bool) (u : Text) where
  abbrev g : Flags
  g = changed f a b c d

  abbrev either : Flags
  either = changed f (f.casei || a) (f.multi || b) (f.dotnl || c) (f.crlf || d)

  all_letters_on : (v : Text) → Spelled t false either v l w → Spelled t false f (all_on f g v) l w
  all_letters_on v h =
      on t l w (λ y. changed f y f.multi f.dotnl f.crlf) (code "i") letter_i (λ u. refl) f.casei a _
      (on t l w (λ y. changed f (f.casei || a) y f.dotnl f.crlf) (code "m") letter_m (λ u. refl) f.multi b _
      (on t l w (λ y. changed f (f.casei || a) (f.multi || b) y f.crlf) (code "s") letter_s (λ u. refl) f.dotnl c _
      (on t l w (λ y. changed f (f.casei || a) (f.multi || b) (f.dotnl || c) y) (code "R") letter_R (λ u. refl) f.crlf d
      _ h)))

  all_letters_off : Spelled t true g u l w → Spelled t true either (all_on g f u) l w
  all_letters_off h =
      off t l w (λ y. changed f y (f.multi || b) (f.dotnl || c) (f.crlf || d)) (code "i") letter_i (λ u. refl) f.casei a
      _
      (off t l w (λ y. changed f a y (f.dotnl || c) (f.crlf || d)) (code "m") letter_m (λ u. refl) f.multi b _
      (off t l w (λ y. changed f a b y (f.crlf || d)) (code "s") letter_s (λ u. refl) f.dotnl c _
      (off t l w (λ y. changed f a b c y) (code "R") letter_R (λ u. refl) f.crlf d _ h)))

  -- no letter after a minus
  no_letters_off : turns_on g f ≡ false → Spelled t false g u l w → Spelled t false either (all_on g f u) l w
  no_letters_off e h =
      let (e1, r1) = or_parts (f.casei && not a) _ e in
      let (e2, r2) = or_parts (f.multi && not b) _ r1 in
      let (e3, e4) = or_parts (f.dotnl && not c) _ r2 in
      let (x1, y1) = none_off (code "i") f.casei a e1 in
      let (x2, y2) = none_off (code "m") f.multi b e2 in
      let (x3, y3) = none_off (code "s") f.dotnl c e3 in
      let (x4, y4) = none_off (code "R") f.crlf d e4 in
      let same : all_on g f u ≡ u = rw (y1, y2, y3, y4) refl in
      let flags : either ≡ g = λ i. changed f (x1 i) (x2 i) (x3 i) (x4 i) in
      subst (λ k. Spelled t false k (all_on g f u) l w) (sym flags)
      (subst (λ v. Spelled t false g v l w) (sym same) h)

  minus_spelled : (x : Bool) → turns_on g f ≡ x → Spelled t x g u l w →
      Spelled t false either (minus_if x (all_on g f u)) l w
  minus_spelled true e h =
      more_letters t l w false true either either (code "-") (all_on g f u) letter_minus refl (all_letters_off h)
  minus_spelled false e h = no_letters_off e h

  pub all_spelled : Spelled t (turns_on g f) g u l w → Spelled t false f (all_between f g u) l w
  all_spelled h = all_letters_on (minus_if (turns_on g f) (all_on g f u)) (minus_spelled (turns_on g f) refl h)

-- this many bytes come before what closes the letters
minus_longer : (x : Bool) (v u : Text) → bytes u ≤ bytes v → (x ≡ true → bytes u < bytes v) →
    (x ≡ true → bytes u + 1 < bytes (minus_if x v)) × (bytes u ≤ bytes (minus_if x v))
minus_longer true v u h k = let l = byte_minus v in let m = k refl in (λ _. omega arith, omega arith)
minus_longer false v u h k = (λ e. absurd cc, h)

module _ (f : Flags) (a b c d : Bool) (u : Text) where
  abbrev to : Flags
  to = changed f a b c d

  minus_far : turns_on to f ≡ true → bytes u + 1 < bytes (all_between f to u)
  minus_far e =
      let off = four_more a b c d f.casei f.multi f.dotnl f.crlf u in
      let (far, near) = minus_longer (turns_on to f) (all_on to f u) u off
      (four_longer a b c d f.casei f.multi f.dotnl f.crlf u) in
      let rest = far e in
      omega (arith, four_more f.casei f.multi f.dotnl f.crlf a b c d (minus_if (turns_on to f) (all_on to f u)))

  some_far : turns_on f to || turns_on to f ≡ true → bytes u < bytes (all_between f to u)
  some_far e =
      let off = four_more a b c d f.casei f.multi f.dotnl f.crlf u in
      let (far, near) = minus_longer (turns_on to f) (all_on to f u) u off
      (four_longer a b c d f.casei f.multi f.dotnl f.crlf u) in
      ⊎_elim
      (λ h. let l = four_longer f.casei f.multi f.dotnl f.crlf a b c d (minus_if (turns_on to f) (all_on to f u)) h in
      omega arith)
      (λ h. let l = minus_far h in omega arith) (or_cases (turns_on f to) _ e)

  not_minus : (x : Bool) (n k : ℕ) → (x ≡ true → n + 1 < k) → x && n + 1 == k ≡ false
  not_minus true n k h = let l = h refl in ne_eqb (n + 1) k (omega arith)
  not_minus false n k h = refl

abbrev text_of_letters : Flags → Bool → Bool → Bool → Bool → ℕ → Text → Text
text_of_letters f a b c d z u = letters_between f (changed f a b c d) ++ z ∷ u

letters_are : (f : Flags) (t v u : Text) (l : Letters) → t ≡ v → Spelled t false f v l u → letters f t ≡ gives l u
letters_are f t v u l e h =
    letters_start f t ∙ (ap (λ x. letters_in t (suc (bytes t)) false f x) e
    ∙ h (suc (bytes t)) (omega (arith, ap bytes e)))

pub flag_group_letters : (f : Flags) (a b c d : Bool) (u : Text) →
    letters f (text_of_letters f a b c d (code ":") u) ≡ gives (flag_group (changed f a b c d)) u
flag_group_letters f a b c d u =
    let g = changed f a b c d in
    let t = text_of_letters f a b c d (code ":") u in
    let same : t ≡ all_between f g (code ":" ∷ u) = between_text f g (code ":" ∷ u) in
    let far : (turns_on g f ≡ true) → bytes (code ":" ∷ u) + 1 < bytes t
    = λ e. let l = minus_far f a b c d (code ":" ∷ u) e in omega (arith, ap bytes same) in
    letters_are f t _ u (flag_group g) same
    (all_spelled t (flag_group g) u f a b c d (code ":" ∷ u)
    (last_letter t (flag_group g) u (turns_on g f) g (code ":") u letter_colon
    (cond-false _ _ _ (not_minus f a b c d u (turns_on g f) (bytes (code ":" ∷ u)) (bytes t) far))))

pub inline_flags_letters : (f : Flags) (a b c d : Bool) (u : Text) →
    turns_on f (changed f a b c d) || turns_on (changed f a b c d) f ≡ true →
    letters f (text_of_letters f a b c d (code ")") u) ≡ gives (inline_flags (changed f a b c d)) u
inline_flags_letters f a b c d u some =
    let g = changed f a b c d in
    let t = text_of_letters f a b c d (code ")") u in
    let same : t ≡ all_between f g (code ")" ∷ u) = between_text f g (code ")" ∷ u) in
    let far : (turns_on g f ≡ true) → bytes (code ")" ∷ u) + 1 < bytes t
    = λ e. let l = minus_far f a b c d (code ")" ∷ u) e in omega (arith, ap bytes same) in
    let not_first : bytes (code ")" ∷ u) == bytes t ≡ false
    = let l = some_far f a b c d (code ")" ∷ u) some in ne_eqb _ _ (omega (arith, ap bytes same)) in
    let minus = not_minus f a b c d u (turns_on g f) (bytes (code ")" ∷ u)) (bytes t) far in
    let neither : (bytes (code ")" ∷ u) == bytes t || (turns_on g f && bytes (code ")" ∷ u) + 1 == bytes t)) ≡ false
    = rw (not_first, minus) refl in
    letters_are f t _ u (inline_flags g) same
    (all_spelled t (inline_flags g) u f a b c d (code ")" ∷ u)
    (last_letter t (inline_flags g) u (turns_on g f) g (code ")") u letter_close (cond-false _ _ _ neither)))

-- ---- the letters do not begin as another group kind does

abbrev BeginsFlags : Text → Type 0
BeginsFlags t = (s : State) → after_question s t ≡ flags_start (letters s.flags t)

begins_on : (a : ℕ) → ((u : Text) → BeginsFlags (a ∷ u)) → (was is : Bool) (u : Text) → BeginsFlags u →
    BeginsFlags (letter_on a was is ++ u)
begins_on a h true true u k = k
begins_on a h true false u k = k
begins_on a h false true u k = h u
begins_on a h false false u k = k

begins_four : (i m s r a b c d : Bool) (u : Text) → BeginsFlags u → BeginsFlags (four i m s r a b c d u)
begins_four i m s r a b c d u h =
    begins_on (code "i") (λ u s. refl) i a _
    (begins_on (code "m") (λ u s. refl) m b _
    (begins_on (code "s") (λ u s. refl) s c _ (begins_on (code "R") (λ u s. refl) r d u h)))

begins_minus : (x : Bool) (u : Text) → BeginsFlags u → BeginsFlags (minus_if x u)
begins_minus true u h = λ s. refl
begins_minus false u h = h

begins_flags : (f : Flags) (a b c d : Bool) (z : ℕ) (u : Text) → BeginsFlags (z ∷ u) →
    BeginsFlags (text_of_letters f a b c d z u)
begins_flags f a b c d z u h =
    subst BeginsFlags (sym (between_text f (changed f a b c d) (z ∷ u)))
    (begins_four f.casei f.multi f.dotnl f.crlf a b c d _
    (begins_minus _ _ (begins_four a b c d f.casei f.multi f.dotnl f.crlf _ h)))

pub inline_flags_start : (s : State) (a b c d : Bool) (u : Text) →
    turns_on s.flags (changed s.flags a b c d) || turns_on (changed s.flags a b c d) s.flags ≡ true →
    after_question s (text_of_letters s.flags a b c d (code ")") u)
    ≡ read (done empty (st (changed s.flags a b c d) u))
inline_flags_start s a b c d u e =
    begins_flags s.flags a b c d (code ")") u (λ s. refl) s ∙ ap flags_start (inline_flags_letters s.flags a b c d u e)

pub flag_group_start : (s : State) (a b c d : Bool) (u : Text) →
    after_question s (text_of_letters s.flags a b c d (code ":") u)
    ≡ of_kind kind.flag_group (st (changed s.flags a b c d) u)
flag_group_start s a b c d u =
    begins_flags s.flags a b c d (code ":") u (λ s. refl) s ∙ ap flags_start (flag_group_letters s.flags a b c d u)

-- a text of letters opens no comment
pub no_hash : (f : Flags) (a b c d : Bool) (z : ℕ) (u : Text) → (z == code "#") ≡ false →
    after_comment_start (codes "(?" ++ text_of_letters f a b c d z u) ≡ None
no_hash f a b c d z u e =
    let g = changed f a b c d in
    let last : NoHash (z ∷ u) = rw e refl in
    subst NoHash (sym (between_text f (changed f a b c d) (z ∷ u)))
    (hash_four f.casei f.multi f.dotnl f.crlf a b c d (minus_if (turns_on g f) (all_on g f (z ∷ u)))
    (hash_minus (turns_on g f) (all_on g f (z ∷ u)) (hash_four a b c d f.casei f.multi f.dotnl f.crlf (z ∷ u) last)))
  where
    NoHash : Text → Type 0
    NoHash v = after_comment_start (codes "(?" ++ v) ≡ None

    hash_on : (a : ℕ) → (a == code "#") ≡ false → (was is : Bool) (u : Text) → NoHash u → NoHash (letter_on a was is ++ u)
    hash_on a h true true u k = k
    hash_on a h true false u k = k
    hash_on a h false true u k = rw h refl
    hash_on a h false false u k = k

    hash_four : (i m s r a b c d : Bool) (u : Text) → NoHash u → NoHash (four i m s r a b c d u)
    hash_four i m s r a b c d u h =
        let w = letter_on (code "R") r d ++ u in
        let x = letter_on (code "s") s c ++ w in
        hash_on (code "i") refl i a (letter_on (code "m") m b ++ x)
        (hash_on (code "m") refl m b x (hash_on (code "s") refl s c w (hash_on (code "R") refl r d u h)))

    hash_minus : (x : Bool) (u : Text) → NoHash u → NoHash (minus_if x u)
    hash_minus true u h = refl
    hash_minus false u h = h
