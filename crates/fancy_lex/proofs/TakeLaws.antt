-- What is read at the front of a text: a word of at least k characters.
use Rattle.std.proofs.Common.{◌≡◌, ℕ, Bool, true, false, if◌then◌else◌, ◌+◌, ◌≤◌, [], ◌∷◌, ◌++◌, length, length-append}
use Rattle.std.proofs.Common.{append_assoc, ap, sym, ◌∙◌, refl, subst, arith, IfSome, Option, Some, None}
use Rattle.std.proofs.lemmas.Str.{len_utf8_bounds}
use Rattle.fancy_lex.specs.Located.{Located}
use Rattle.fancy_lex.specs.Reading.{Reading, gives, fails, ◌>=>◌}
use Rattle.fancy_lex.specs.Text.{Text, LiesIn, bytes}
use Rattle.fancy_lex.proofs.TextLemmas.{bytes-append}
use Rattle.fancy_lex.proofs.LeaveLaws.{Leaves, leaves, errs}

-- `u` is the rest of the text after a word of at least k characters
pub record Takes (k : ℕ) (t u : Text) : Type 0 where
  pub word : Text
  pub cut : t ≡ word ++ u
  pub long : k ≤ length word

pub takes_on : {j k l : ℕ} {t u v : Text} → l ≤ j + k → Takes j t u → Takes k u v → Takes l t v
takes_on {v} e a b = record {
  word = a.word ++ b.word;
  cut = a.cut ∙ ap (λ x. a.word ++ x) b.cut ∙ sym (append_assoc a.word b.word v);
  long = omega (arith, e, a.long, b.long, length-append a.word b.word);
}

pub takes_one : (c : ℕ) (t : Text) → Takes 1 (c ∷ t) t
takes_one c t = record { word = c ∷ []; cut = refl; long = omega arith }

long_bytes : (w : Text) → length w ≤ bytes w
unfolding bytes
long_bytes [] = omega arith
long_bytes (c ∷ w) = omega (arith, long_bytes w, (len_utf8_bounds c).0)

-- each character is a byte or more
pub takes_bytes : {k : ℕ} {t u : Text} → Takes k t u → bytes u + k ≤ bytes t
takes_bytes {u} a = omega (arith, ap bytes a.cut, bytes-append a.word u, long_bytes a.word, a.long)

-- a reader of an optional value reads at least k characters for a value
abbrev pub TakesSome : {A : Type 0} → ℕ → Text → Option (A × Text) → Type 0
TakesSome k t o = IfSome o (λ p. Takes k t p.1)

pub takes_less_some : {A : Type 0} (j k : ℕ) (t : Text) (o : Option (A × Text)) → j ≤ k → TakesSome k t o →
    TakesSome j t o
takes_less_some j k t None e h = tt
takes_less_some j k t (Some p) e h = record { word = h.word; cut = h.cut; long = omega (arith, e, h.long) }

-- a reading reads at least k characters, or its error is at the reach p
pub data TakesOrFails {A : Type 0} (p k : ℕ) : Text → Reading A → Type 0 where
  takes : {t u : Text} {a : A} → Takes k t u → TakesOrFails p k t (gives a u)
  fails_at : {t : Text} {e : Located} → e.reach ≡ p → TakesOrFails p k t (fails e)

module _ {A : Type 0} (p k : ℕ) (t : Text) where
  pub takes_if : {x y : Reading A} (b : Bool) → TakesOrFails p k t x → TakesOrFails p k t y →
      TakesOrFails p k t (if b then x else y)
  takes_if true l r = l
  takes_if false l r = r

  -- a step that reads nothing more
  pub takes_as : {B : Type 0} {o : Reading A} (f : A → B) → TakesOrFails p k t o →
      TakesOrFails p k t (o >=> (λ a u. gives (f a) u))
  takes_as f (takes a) = takes a
  takes_as f (fails_at l) = fails_at l

  pub takes_less : {j : ℕ} {o : Reading A} → j ≤ k → TakesOrFails p k t o → TakesOrFails p j t o
  takes_less e (takes a) = takes (record { word = a.word; cut = a.cut; long = omega (arith, e, a.long) })
  takes_less e (fails_at l) = fails_at l

  -- the rest of the text is a suffix of it
  pub takes_leaves : {h : ℕ} {o : Reading A} → LiesIn h t p → TakesOrFails p k t o → Leaves h t o
  takes_leaves lies (takes a) = leaves (a.word, a.cut)
  takes_leaves {h} lies (fails_at e) = errs (subst (LiesIn h t) (sym e) lies)

  -- for a value, at least k bytes were read
  pub takes_or_fails_bytes : {u : Text} {a : A} → TakesOrFails p k t (gives a u) → bytes u + k ≤ bytes t
  takes_or_fails_bytes (takes a) = takes_bytes a
