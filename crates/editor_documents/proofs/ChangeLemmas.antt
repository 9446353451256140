-- The text from a position on is an end of the text; changes one after another.
use Rattle.std.proofs.Common.{◌≡◌, ℕ, zero, suc, Bool, true, false, List, [], ◌∷◌, ◌++◌, Option, Some, None, refl, ap, sym, subst, ◌∙◌, append_assoc, append-nil, ◌<◌, ◌≤◌, ◌+◌, length, drop, get_or, arith}
use Rattle.std.proofs.lemmas.List.{drop_more, drop_all}
use Rattle.std.proofs.Common.{if◌then◌else◌, ◌==◌, ◌||◌, nat_le, ◌-◌}
use Rattle.std.specs.Prelude.{option_and_then, unwrap_or, IfSome}
use Prim.Native.Char.{code}
use Rattle.editor_documents.specs.Position.{Text, units, ends_line, after_line_feed, next_line, from_line, from_character, from_position}
use Rattle.editor_documents.specs.Change.{EndsWith, with_change, with_changes}
use Rattle.editor_documents.specs.declared.position.Encoding.{Encoding}
use Rattle.editor_documents.specs.declared.position.Position.{Position}
use Rattle.editor_documents.specs.declared.change.Change.{Change}

-- an end of a text, if there is one
abbrev EndIn : Text → Option Text → Type 0
EndIn t o = IfSome o (EndsWith t)

all : (t : Text) → EndIn t (Some t)
all t = ([], refl)

one_more : (c : ℕ) (t : Text) (o : Option Text) → EndIn t o → EndIn (c ∷ t) o
one_more c t None h = tt
one_more c t (Some r) h = (c ∷ h.0, ap (λ u. c ∷ u) h.1)

choice : (b : Bool) (t : Text) (o p : Option Text) → EndIn t o → EndIn t p → EndIn t (if b then o else p)
choice true t o p h k = h
choice false t o p h k = k

twice : (t r : Text) (o : Option Text) → EndsWith t r → EndIn r o → EndIn t o
twice t r None h k = tt
twice t r (Some u) h k = (h.0 ++ k.0, h.1 ∙ ap (λ x. h.0 ++ x) k.1 ∙ sym (append_assoc h.0 k.0 u))

chain : (t : Text) (o : Option Text) (f : Text → Option Text) → EndIn t o → ((r : Text) → EndIn r (f r)) →
    EndIn t (option_and_then f o)
chain t None f h g = tt
chain t (Some r) f h g = twice t r (f r) h (g r)

feed_ends : (t : Text) → EndIn t (Some (after_line_feed t))
feed_ends [] = all []
feed_ends (c ∷ t) = by_test (c == code "\n") where
  by_test : (b : Bool) → EndIn (c ∷ t) (Some (if b then t else c ∷ t))
  by_test true = (c ∷ [], refl)
  by_test false = all (c ∷ t)

line_ends : (t : Text) → EndIn t (next_line t)
unfolding next_line
line_ends [] = tt
line_ends (c ∷ t) =
    choice (c == code "\n") (c ∷ t) _ _ (c ∷ [], refl)
    (choice (c == code "\r") (c ∷ t) _ _ (one_more c t (Some (after_line_feed t)) (feed_ends t))
    (one_more c t (next_line t) (line_ends t)))

or_end : (t : Text) (o : Option Text) → EndIn t o → EndIn t (Some (unwrap_or o []))
or_end t None h = (t, sym (append-nil t))
or_end t (Some r) h = h

lines_end : (n : ℕ) (t : Text) → EndIn t (from_line n t)
unfolding from_line
lines_end zero t = all t
lines_end (suc zero) t = or_end t (next_line t) (line_ends t)
lines_end (suc (suc n)) t = chain t (next_line t) (from_line (suc n)) (line_ends t) (lines_end (suc n))

character_ends : (e : Encoding) (t : Text) (n : ℕ) → EndIn t (from_character e n t)
unfolding from_character
character_ends e [] n = all []
character_ends e (c ∷ t) n =
    choice ((n == 0) || ends_line c) (c ∷ t) _ _ (all (c ∷ t))
    (choice (nat_le (units e c) n) (c ∷ t) _ _ (one_more c t _ (character_ends e t (n - units e c))) tt)

-- the text from a position on
pub position_ends : (e : Encoding) (p : Position) (t : Text) → IfSome (from_position e p t) (EndsWith t)
position_ends e p t = chain t (from_line p.line t) (from_character e p.character) (lines_end p.line t) (λ r. character_ends e r p.character)

pub end_of_position : (e : Encoding) (p : Position) (t r : Text) → from_position e p t ≡ Some r → EndsWith t r
end_of_position e p t r is = subst_end (from_position e p t) r is (position_ends e p t) where
  subst_end : (o : Option Text) (r : Text) → o ≡ Some r → EndIn t o → EndsWith t r
  subst_end None r is h = absurd (cc)
  subst_end (Some u) r is h = let same : u ≡ r = cc in subst (EndsWith t) same h

-- ---- changes

no_change : (e : Encoding) (t : Text) → with_changes e t [] ≡ Some t
unfolding with_changes
no_change e t = refl

module _ (e : Encoding) (t : Text) (change : Change) (changes : List Change) where
  first_change : (u : Text) → with_change e t change ≡ Some u → with_changes e t (change ∷ changes) ≡ with_changes e u changes
  unfolding with_changes
  first_change u is = ap (option_and_then (λ changed. with_changes e changed changes)) is

  wrong_change : with_change e t change ≡ None → with_changes e t (change ∷ changes) ≡ None
  unfolding with_changes
  wrong_change is = ap (option_and_then (λ changed. with_changes e changed changes)) is

module _ (e : Encoding) (t : Text) (changes : List Change) (first : Change) (later : List Change) (is : changes ≡ first ∷ later) where
  pub first_of : (u : Text) → with_change e t first ≡ Some u → with_changes e t changes ≡ with_changes e u later
  first_of u made = ap (with_changes e t) is ∙ first_change e t first later u made

  pub wrong_first : with_change e t first ≡ None → with_changes e t changes ≡ None
  wrong_first wrong = ap (with_changes e t) is ∙ wrong_change e t first later wrong

-- the changes from an index on
module _ (e : Encoding) (changes : List Change) (i : ℕ) (change : Change) (t v : Text) (all : Option Text)
    (within : i < length changes) (is : change ≡ get_or changes i change) (same : v ≡ t)
    (left : all ≡ with_changes e t (drop i changes)) where
  here : all ≡ with_changes e v (change ∷ drop (i + 1) changes)
  here =
      left ∙ ap (λ u. with_changes e u (drop i changes)) (sym same) ∙ ap (with_changes e v) (drop_more changes i change within)
      ∙ ap (λ one. with_changes e v (one ∷ drop (i + 1) changes)) (sym is)

  pub next_change : (u : Text) → with_change e v change ≡ Some u → all ≡ with_changes e u (drop (i + 1) changes)
  next_change u made = here ∙ first_change e v change (drop (i + 1) changes) u made

  pub no_next_change : with_change e v change ≡ None → all ≡ None
  no_next_change wrong = here ∙ wrong_change e v change (drop (i + 1) changes) wrong

pub last_change : (e : Encoding) (changes : List Change) (i : ℕ) (t : Text) (all : Option Text) → length changes ≤ i →
    all ≡ with_changes e t (drop i changes) → all ≡ Some t
last_change e changes i t all past left =
    left ∙ ap (with_changes e t) (drop_all i changes past) ∙ no_change e t

pub no_changes : (e : Encoding) (changes : List Change) (t u : Text) → length changes ≡ 0 → t ≡ u → with_changes e t changes ≡ Some u
no_changes e changes t u none same =
    last_change e changes 0 u _ (omega (arith, none)) (ap (λ v. with_changes e v changes) same)
