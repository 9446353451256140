-- Runs of id characters, and where they end.
use Rattle.std.proofs.Common.{◌≡◌, zero-add, ℕ, ◌<◌, Bool, true, false, if◌then◌else◌, List, [], ◌∷◌, ◌++◌, length}
use Rattle.std.proofs.Common.{Option, Some, None, ap, sym, ◌∙◌, refl, arith, chars}
use Rattle.std.specs.Str.{IsUtf8}
use Rattle.std.proofs.lemmas.List.{nil_from_length, append_cancel_right}
use Rattle.std.proofs.lemmas.Str.{length-le-encodes}
use Rattle.fancy_lex.specs.Id.{is_id_char, id_run, nonempty_front, id}
use Rattle.fancy_lex.specs.Text.{Text}
use Rattle.fancy_lex.proofs.TextLemmas.{cut_lengths}

-- ---- one step of a run

pub run_more : (t : Text) (c : ℕ) (r : Text) → t ≡ c ∷ r → is_id_char c ≡ true → (id_run t).1 ≡ (id_run r).1
unfolding id_run
run_more t c r e h = rw (e, id_run, h) refl

pub run_stops : (t : Text) (c : ℕ) (r : Text) → t ≡ c ∷ r → is_id_char c ≡ false → (id_run t).1 ≡ t
unfolding id_run
run_stops t c r e h = rw (e, id_run, h) refl

pub run_ends : (t : Text) → t ≡ [] → (id_run t).1 ≡ t
unfolding id_run
run_ends t e = rw e refl

-- ---- the run, and the text after it

-- the run after one more character c, which is an id character or not
abbrev run_after : ℕ → Text → Bool → Text × Text → Text × Text
run_after c t b p = if b then (c ∷ p.0, p.1) else ([], c ∷ t)

-- the run and the text after it are the whole text
pub run_cut : (t : Text) → t ≡ (id_run t).0 ++ (id_run t).1
unfolding id_run
run_cut [] = refl
run_cut (c ∷ t) = at (is_id_char c) (id_run t) (run_cut t) where
  at : (b : Bool) (p : Text × Text) → t ≡ p.0 ++ p.1 → c ∷ t ≡ (run_after c t b p).0 ++ (run_after c t b p).1
  at true p e = ap (λ u. c ∷ u) e
  at false p e = refl

front_none : (p : Text × Text) → p.0 ≡ [] → nonempty_front p ≡ None
front_none ([], v) e = refl
front_none (c ∷ w, v) e = absurd cc

front_some : (p : Text × Text) (w v : Text) → p.0 ≡ w → p.1 ≡ v → 0 < length w →
    nonempty_front p ≡ Some (w, v)
front_some ([], u) w v e h l = absurd (omega (arith, ap length e))
front_some (c ∷ x, u) w v e h l = rw (← e, ← h) refl

-- the id and the text after it are the whole text
pub id_cut : (t w v : Text) → ◌≡◌ {A = Option (Text × Text)} (id t) (Some (w, v)) → t ≡ w ++ v
unfolding id
id_cut t w v e = run_cut t ∙ at (id_run t) e where
  at : (p : Text × Text) → nonempty_front p ≡ Some (w, v) → p.0 ++ p.1 ≡ w ++ v
  at ([], u) e = absurd cc
  at (c ∷ x, u) e = let same : ◌≡◌ {A = Text × Text} (c ∷ x, u) (w, v) = cc in ap (λ (p : Text × Text). p.0 ++ p.1) same

-- ---- the clause of the reader

-- a reader of id characters is at `r` in the text `s`
module _ (s r : List ℕ) (u : IsUtf8 s) (v : IsUtf8 r) (left : (id_run (chars s)).1 ≡ chars r) where
  pub read_cut : chars s ≡ (id_run (chars s)).0 ++ chars r
  read_cut = run_cut (chars s) ∙ ap (λ x. (id_run (chars s)).0 ++ x) left

  nothing_read : (w : Text) → chars s ≡ w ++ chars r → length r ≡ length s → w ≡ []
  nothing_read w e q = nil_from_length w (omega (arith, cut_lengths s r w u v e, length-le-encodes w))

  some_read : (w : Text) → chars s ≡ w ++ chars r → (length r ≡ length s → ⊥) → 0 < length w
  some_read [] e q = absurd (q (sym (cut_lengths s r [] u v e ∙ zero-add (length r))))
  some_read (c ∷ w) e q = omega arith

  -- no id if no character was read
  pub id_nothing : length r ≡ length s → ◌≡◌ {A = Option (Text × Text)} (id (chars s)) None
  unfolding id
  id_nothing q = front_none (id_run (chars s)) (nothing_read (id_run (chars s)).0 read_cut q)

  -- the text that was read is the id
  pub id_read : (f : List ℕ) → (length r ≡ length s → ⊥) → chars s ≡ chars f ++ chars r →
      ◌≡◌ {A = Option (Text × Text)} (id (chars s)) (Some (chars f, chars r))
  unfolding id
  id_read f q g =
      let same : chars f ≡ (id_run (chars s)).0 = append_cancel_right (chars f) _ (chars r) (sym g ∙ read_cut) in
      front_some (id_run (chars s)) (chars f) (chars r) (sym same) left (some_read (chars f) g q)
