-- The results of a reader: the rest of the text is a suffix of it, and an error is at a known position.
use Rattle.std.proofs.Common.{◌≡◌, ℕ, ◌+◌, ◌<◌, ◌≤◌, Bool, true, false, if◌then◌else◌, [], ◌∷◌, ◌++◌, Option, Some}
use Rattle.std.proofs.Common.{None, refl, ap, sym, ◌∙◌, subst, append_assoc, append-nil, arith, chars, List, Bor}
use Rattle.std.proofs.Common.{Result, Ok, Err, IfOk, IfErr}
use Rattle.std.specs.Option.{option_and_then}
use Rattle.std.proofs.lemmas.Str.{len_utf8_ascii}
use Rattle.fancy_lex.specs.Located.{Located, Kind}
use Rattle.fancy_lex.specs.ErrorViews.{kind_of, LiesWithin}
use Rattle.fancy_lex.specs.Reading.{Reading, gives, fails, error_at, ◌>=>◌, Derives}
use Rattle.fancy_lex.specs.Text.{Text, EndsWith as Ends, LiesIn, as_given, begins, beyond, bytes, reach_of, at_end}
use Rattle.fancy_lex.specs.Text.{strip}
use Rattle.fancy_lex.specs.declared.error.ReadError.{ReadError}
use Rattle.fancy_lex.specs.declared.error.ReadError.TheVariants.{At, OutOfMemory}
use Rattle.fancy_lex.proofs.TextLemmas.{strip_is, bytes-append}

pub ends_whole : (t : Text) → Ends t t
ends_whole t = ([], refl)

pub ends_past : (c : ℕ) (t v : Text) → Ends t v → Ends (c ∷ t) v
ends_past c t v (w, e) = (c ∷ w, ap (λ s. c ∷ s) e)

pub ends_twice : (t u v : Text) → Ends t u → Ends u v → Ends t v
ends_twice t u v (w, e) (z, h) = (w ++ z, e ∙ ap (λ s. w ++ s) h ∙ sym (append_assoc w z v))

pub ends_first : (t r : Text) (c : ℕ) → t ≡ c ∷ r → Ends t r
ends_first t r c e = (c ∷ [], e)

pub ends_next : (t u r : Text) (c : ℕ) → Ends t u → u ≡ c ∷ r → Ends t r
ends_next t u r c h e = ends_twice t u r h (ends_first u r c e)

-- ---- positions of errors

module _ {p : ℕ} where
  -- at the start of the text, and at its end
  pub lies_at_start : (t : Text) → LiesIn p t (reach_of t)
  lies_at_start t = begins t (ends_whole t) refl

  -- a byte before a suffix of the text
  pub lies_before : {t u : Text} {c : ℕ} → c < 128 → Ends t (c ∷ u) → LiesIn p t (reach_of u + 1)
  unfolding bytes
  lies_before {u} {c} l e = begins (c ∷ u) e (omega (arith, len_utf8_ascii c l))

  pub lies_at_end : (t : Text) → LiesIn p t at_end
  unfolding bytes
  lies_at_end t = begins [] (t, sym (append-nil t)) (omega arith)

  -- a position in a suffix of the text is a position in the text
  pub lies_past : {t u : Text} {q : ℕ} → Ends t u → LiesIn p u q → LiesIn p t q
  lies_past e (as_given h) = as_given h
  lies_past {t} {u} e (begins v h i) = begins v (ends_twice t u v e h) i
  lies_past e (beyond h) = beyond h

  -- the reach that is given can be another one that is in the text
  pub lies_trans : {t : Text} {h q : ℕ} → LiesIn p t h → LiesIn h t q → LiesIn p t q
  lies_trans {t} given (as_given e) = subst (LiesIn p t) (sym e) given
  lies_trans given (begins v h i) = begins v h i
  lies_trans given (beyond h) = beyond h

  -- the reach is at most m, if the reach that is given and that of the text are
  pub lies_within : {t : Text} {m q : ℕ} → p ≤ m → reach_of t ≤ m → LiesIn p t q → q ≤ m
  lies_within given up (as_given e) = omega arith
  lies_within given up (begins v (w, cut) e) = omega (arith, ap bytes cut, bytes-append w v)
  lies_within given up (beyond e) = omega arith

-- ---- readings

-- in a reading of the text, the rest is a suffix of the text, or the error is at a position in it
pub data Leaves {A : Type 0} (p : ℕ) : Text → Reading A → Type 0 where
  leaves : {t u : Text} {a : A} → Ends t u → Leaves p t (gives a u)
  errs : {t : Text} {e : Located} → LiesIn p t e.reach → Leaves p t (fails e)

pub whole : {A : Type 0} {a : A} {p : ℕ} (t : Text) → Leaves p t (gives a t)
whole t = leaves (ends_whole t)

pub whole_next : {A : Type 0} {a : A} {p c : ℕ} (t : Text) → Leaves p (c ∷ t) (gives a t)
whole_next {c} t = leaves (ends_past c t t (ends_whole t))

pub leaves_none : {A : Type 0} {p q : ℕ} {k : Kind} {t : Text} → LiesIn p t q → Leaves {A = A} p t (error_at q k)
leaves_none l = errs l

pub leaves_given : {A : Type 0} {p : ℕ} {k : Kind} {t : Text} → Leaves {A = A} p t (error_at p k)
leaves_given = errs (as_given refl)

pub leaves_past : {A : Type 0} {p : ℕ} {t u : Text} {o : Reading A} → Ends t u → Leaves p u o → Leaves p t o
leaves_past e (leaves h) = leaves (ends_twice _ _ _ e h)
leaves_past e (errs l) = errs (lies_past e l)

pub leaves_trans : {A : Type 0} {p h : ℕ} {t : Text} {o : Reading A} → LiesIn p t h → Leaves h t o →
    Leaves p t o
leaves_trans given (leaves h) = leaves h
leaves_trans given (errs l) = errs (lies_trans given l)

pub leaves_if : {A : Type 0} {p : ℕ} {t : Text} {x y : Reading A} (b : Bool) → Leaves p t x → Leaves p t y →
    Leaves p t (if b then x else y)
leaves_if true l k = l
leaves_if false l k = k

pub leaves_both : {A B : Type 0} {p : ℕ} {t : Text} {o : Reading A} {f : A → Text → Reading B} → Leaves p t o →
    ((a : A) (u : Text) → Leaves p u (f a u)) → Leaves p t (o >=> f)
leaves_both (leaves {u} {a} e) k = leaves_past e (k a u)
leaves_both (errs l) k = errs l

pub ends_strip : (m : ℕ) (t u : Text) → strip m t ≡ Some u → Ends t u
ends_strip m t u e = (m ∷ [], strip_is m t u e)

-- the same for a reader of an optional value
abbrev pub LeavesSome : {A : Type 0} → Text → Option (A × Text) → Type 0
LeavesSome t (Some p) = Ends t p.1
LeavesSome t None = Unit {0}

pub ends_some : {A : Type 0} (t : Text) (o : Option (A × Text)) (p : A × Text) → LeavesSome t o → o ≡ Some p →
    Ends t p.1
ends_some t o p l e = subst (LeavesSome t) e l

pub some_if : {A : Type 0} (t : Text) (b : Bool) (p : A × Text) → Ends t p.1 → LeavesSome t (if b then Some p else None)
some_if t true p e = e
some_if t false p e = tt

pub some_past : {A : Type 0} (t u : Text) (o : Option (A × Text)) → Ends t u → LeavesSome u o → LeavesSome t o
some_past t u (Some p) e l = ends_twice t u p.1 e l
some_past t u None e l = tt

pub some_both : {A B : Type 0} (t : Text) (o : Option (A × Text)) (f : A × Text → Option (B × Text)) → LeavesSome t o →
    ((p : A × Text) → LeavesSome p.1 (f p)) → LeavesSome t (option_and_then f o)
some_both t (Some p) f l m = some_past t p.1 (f p) l (m p)
some_both t None f l m = tt

-- ---- the clauses of a reader

module _ {A B : Type 0} {position : ℕ} {t : Text} {o : Reading B} (f : A → B) (r : Result (A × Bor (List ℕ)) ReadError)
  where
    -- the rest of the text in the code's result is a suffix of the text
    pub given_cut : Leaves position t o → Derives f r (λ q. o ≡ q) → IfOk r (λ p. Ends t (chars p.1.now))
    given_cut l g = by_result r l g
      where
        by_result : (r : Result (A × Bor (List ℕ)) ReadError) → {o : Reading B} → Leaves position t o →
            Derives f r (λ q. o ≡ q) →
            IfOk r (λ p. Ends t (chars p.1.now))
        by_result (Ok p) (leaves {u} e) g = let same : u ≡ chars p.1.now = cc in subst (Ends t) same e
        by_result (Ok p) (errs l) g = absurd cc
        by_result (Err e) l g = tt

    -- and the reach of its error is in the bound
    pub given_position : {m : ℕ} → position ≤ m → reach_of t ≤ m → Leaves position t o → Derives f r (λ q. o ≡ q) →
        IfErr r (λ e. LiesWithin m e)
    given_position {m} given up l g = by_result r l g
      where
        by_result : (r : Result (A × Bor (List ℕ)) ReadError) → {o : Reading B} → Leaves position t o →
            Derives f r (λ q. o ≡ q) →
            IfErr r (λ e. LiesWithin m e)
        by_result (Ok p) l g = tt
        by_result (Err OutOfMemory) l g = tt
        by_result (Err (At p k)) (leaves e) g = absurd cc
        by_result (Err (At p k)) (errs {e} l) g =
            let same : e ≡ record { reach = p; kind = kind_of k } = cc in
            subst (λ (x : Located). x.reach ≤ m) same (lies_within given up l)
