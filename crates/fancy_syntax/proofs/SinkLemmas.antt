-- Texts that a sink takes one after the other.
use Rattle.std.proofs.Common.{◌≡◌, ℕ, ◌+◌, ◌≤◌, Option, Some, None, [], ◌++◌, String, Global, sym, ap, ◌∙◌, append_assoc}
use Rattle.std.proofs.Common.{append-nil, arith}
use Rattle.std.specs.Prelude.{IfSome}
use Rattle.fancy_lex.specs.Text.{Text, bytes}
use Rattle.fancy_lex.proofs.TextLemmas.{bytes-append}
use Rattle.fancy_syntax.specs.Capacity.{in_word, HasCapacity, Appended}
use Rattle.fancy_syntax.proofs.CapacityLemmas.{bytes-cons, bytes-nil}
use Rattle.fancy_syntax.specs.Sinks.{CanTake, Takes, counts, unlimited, contains, capacity_left}
use Rattle.fancy_syntax.specs.declared.print.sink.Length.{Length}

front_within : (o : Option ℕ) (xs ys : Text) → IfSome o (λ n. bytes (xs ++ ys) ≤ n) → IfSome o (λ n. bytes xs ≤ n)
front_within None xs ys h = tt
front_within (Some n) xs ys h = omega (arith, bytes-append xs ys, h)

module _ {S : Type 0} {limit : S → Option ℕ} where
  pub can_as : (s : S) (xs all : Text) → all ≡ xs → CanTake limit s all → CanTake limit s xs
  can_as s xs all e h = rw e at h

  pub can_front : (s : S) (xs ys : Text) → CanTake limit s (xs ++ ys) → CanTake limit s xs
  can_front s xs ys h = record { within = front_within (limit s) xs ys h.within }

  -- the first part of three
  pub can_first : (a : S) (xs ys zs all : Text) → all ≡ xs ++ (ys ++ zs) → CanTake limit a all → CanTake limit a xs
  can_first a xs ys zs all e h = can_front a xs (ys ++ zs) (can_as a _ all e h)

module _ {S : Type 0} {holds : S → Text → Type 0} {limit : S → Option ℕ} where
  pub taken_as : (a b : S) (xs all : Text) → Takes holds limit a b xs → xs ≡ all → Takes holds limit a b all
  taken_as a b xs all p e = rw e at p

  pub nothing_taken : (a : S) → Takes holds limit a a []
  nothing_taken a = record { follows = λ t h. rw (append-nil t) h; fits = λ t h. h }

  pub then_taken : (a b c : S) (xs ys : Text) → Takes holds limit a b xs → Takes holds limit b c ys →
      Takes holds limit a c (xs ++ ys)
  then_taken a b c xs ys p q =
      record {
        follows = λ t h. rw (← append_assoc t xs ys) (q.follows (t ++ xs) (p.follows t h));
        fits = λ t h. q.fits t (p.fits (ys ++ t) (can_as a _ _ (append_assoc xs ys t) h));
      }

  -- the second part of three, the third, and all
  pub can_second : (a b : S) (xs ys zs all : Text) → all ≡ xs ++ (ys ++ zs) → CanTake limit a all →
      Takes holds limit a b xs → CanTake limit b ys
  can_second a b xs ys zs all e h p = can_front b ys zs (p.fits (ys ++ zs) (can_as a _ all e h))

  pub can_third : (a b c : S) (xs ys zs all : Text) → all ≡ xs ++ (ys ++ zs) → CanTake limit a all →
      Takes holds limit a b xs → Takes holds limit b c ys → CanTake limit c zs
  can_third a b c xs ys zs all e h p q = q.fits zs (p.fits (ys ++ zs) (can_as a _ all e h))

  pub three_taken : (a b c d : S) (xs ys zs all : Text) → all ≡ xs ++ (ys ++ zs) → Takes holds limit a b xs →
      Takes holds limit b c ys → Takes holds limit c d zs → Takes holds limit a d all
  three_taken a b c d xs ys zs all e p q r =
      taken_as a d _ all (then_taken a b d xs (ys ++ zs) p (then_taken b c d ys zs q r)) (sym e)

-- ---- one text after the other

-- b is the sink a after a part of the whole: it can take the rest, and then holds the whole
pub record Taking {S : Type 0} (holds : S → Text → Type 0) (limit : S → Option ℕ) (a b : S) (rest whole : Text) :
    Type 0 where
  pub fits : CanTake limit b rest
  pub ends : (z : S) → Takes holds limit b z rest → Takes holds limit a z whole

module _ {S : Type 0} {holds : S → Text → Type 0} {limit : S → Option ℕ} where
  pub taking_as : (a b : S) (rest other whole : Text) → rest ≡ other → Taking holds limit a b rest whole →
      Taking holds limit a b other whole
  taking_as a b rest other whole e w = rw e at w

  pub taking_can : (a b : S) (xs ys whole : Text) → Taking holds limit a b (xs ++ ys) whole → CanTake limit b xs
  taking_can a b xs ys whole w = can_front b xs ys w.fits

  pub taking_later : (a b c : S) (xs ys whole : Text) → Taking holds limit a b (xs ++ ys) whole →
      Takes holds limit b c xs → Taking holds limit a c ys whole
  taking_later a b c xs ys whole w p =
      record { fits = p.fits ys w.fits; ends = λ z q. w.ends z (then_taken b c z xs ys p q) }

  pub taking_ends : (a b : S) (whole : Text) → Taking holds limit a b [] whole → Takes holds limit a b whole
  taking_ends a b whole w = w.ends b (nothing_taken b)

-- ---- a count

pub counted : (a b : Length) (more : ℕ) (t : Text) → b.len ≡ in_word (a.len + more) → more ≡ in_word (bytes t) →
    Takes counts unlimited a b t
counted a b more t s e =
    record { follows = λ u h. omega (arith, bytes-append u t, h, e, s); fits = λ u h. record { within = tt } }

pub nothing_counted : counts (record { len = 0 }) []
unfolding bytes
nothing_counted = omega arith

-- ---- a string

pub has_capacity : (s : String Global) (t : Text) → CanTake capacity_left s t → HasCapacity s t
has_capacity s t h = let w = s.bytes.ok in omega (arith, h.within)

pub can_take : (s : String Global) (t : Text) → HasCapacity s t → CanTake capacity_left s t
can_take s t h = record { within = omega (arith, h) }

pub appended : (a b : String Global) (t : Text) → Appended a b t → Takes contains capacity_left a b t
appended a b t p =
    record {
      follows = λ u h. p.is ∙ ap (λ v. v ++ t) h;
      fits = λ u h. record { within = omega (arith, h.within, p.len, p.capacity, bytes-append t u) };
    }

pub ruleset sink_steps = (bytes-cons, bytes-nil, counted, has_capacity, appended)
