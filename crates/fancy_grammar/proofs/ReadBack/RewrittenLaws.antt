-- A rewritten class is one whole class again, and so is what a class escape is rewritten as.
use Rattle.std.proofs.Common.{◌≡◌, ℕ, Bool, true, false, ◌&&◌, ◌==◌, if◌then◌else◌, [], ◌∷◌, ◌++◌, codes, Some, None}
use Rattle.std.proofs.Common.{refl, sym, ap, ap₂, ◌∙◌, subst, append_assoc, eqb-true}
use Rattle.std.proofs.lemmas.Bool.{and_from, and_parts}
use Rattle.std.specs.Char.{IsScalar}
use Rattle.std.specs.Str.{all_scalars}
use Prim.Native.Char.{code}
use Rattle.fancy_lex.proofs.ClassLaws.{ReadClass, from_items, ReadItems, at_close, at_plain, at_escape, at_nested}
use Rattle.fancy_lex.specs.Class.{class_start, with_symbol, escape_in_class, joint, escape_text, is_plain_in_class, is_negated}
use Rattle.fancy_lex.specs.Escape.{escape}
use Rattle.fancy_lex.specs.Escaped.{Escape, literal, literal_bytes, delegate}
use Rattle.fancy_lex.specs.Reading.{Reading, gives, choose}
use Rattle.fancy_lex.specs.Text.{Text, strip}
use Rattle.fancy_lex.specs.declared.flags.Flags.{Flags}
use Rattle.fancy_lex.proofs.EscapeLaws.{escape_cut}
use Rattle.fancy_grammar.specs.Normal.{case_flags}
use Rattle.fancy_grammar.proofs.ReadBack.ScalarLemmas.{scalars_append, scalars_after}
use Rattle.fancy_grammar.proofs.ReadBack.ClassChunks.{Goes, ClassGoes, pass_close, pass_plain, pass_nested, pass_class}
use Rattle.fancy_grammar.proofs.ReadBack.ClassChunks.{Chunk, Fine, both_chunk, char_chunk, amp_chunk}
use Rattle.fancy_grammar.proofs.ReadBack.ChunkLemmas.{open_plain, open_caret, byte_chunk, FineOf, escape_fine}

-- what is written for an item
text_chunk : (e : Escape) → Fine e → Chunk (escape_text e)
text_chunk (literal c b) h = char_chunk c h
text_chunk (literal_bytes v) h = byte_chunk v h
text_chunk (delegate w b) h = h
text_chunk _ h = absurd h

item_chunk : (b : Bool) (e : Escape) → Fine e → Chunk (escape_in_class b e)
item_chunk b e h = by_joint (b && is_negated e) where
  by_joint : (x : Bool) → Chunk (joint x ++ escape_text e)
  by_joint true = both_chunk (codes "&&") (escape_text e) amp_chunk (text_chunk e h)
  by_joint false = text_chunk e h

-- if the text does not begin with the character k, what is written does not either
same_front : (k c : ℕ) (t w : Text) → strip k (c ∷ t) ≡ None → strip k (c ∷ w) ≡ None
same_front k c t w = by_test (c == k) where
  by_test : (x : Bool) → (if x then Some t else None) ≡ None → (if x then Some w else None) ≡ None
  by_test true e = absurd cc
  by_test false e = refl

-- what the beginning of a class consists of
data ClassOpening (t : Text) : Text → Text → Type 0 where
  plain_opening : strip (code "^") t ≡ None → strip (code "]") t ≡ None → ClassOpening t (code "[" ∷ []) t
  caret_opening : (u : Text) → t ≡ code "^" ∷ u → strip (code "]") u ≡ None → ClassOpening t (code "[" ∷ code "^" ∷ []) u
  close_opening : (u : Text) → t ≡ code "]" ∷ u → ClassOpening t (code "[" ∷ code "]" ∷ []) u
  both_opening : (u : Text) → t ≡ code "^" ∷ code "]" ∷ u → ClassOpening t (code "[" ∷ code "^" ∷ code "]" ∷ []) u

-- the beginning and the rest of a class, by the first characters
data Opened (t : Text) : Text × Text → Type 0 where
  opened : (opening r : Text) → ClassOpening t opening r → Opened t (opening, r)

class_start_is : (t : Text) → Opened t (class_start [] t)
unfolding class_start
class_start_is [] = opened (code "[" ∷ []) [] (plain_opening refl refl)
class_start_is (c ∷ t) = by_caret (c == code "^") refl where
  after_caret : (t : Text) → (c == code "^") ≡ true →
      Opened (c ∷ t) (with_symbol (code "]") (code "[" ∷ code "^" ∷ [], t))
  after_caret [] e = opened _ _ (caret_opening [] (ap (λ x. x ∷ []) (eqb-true c (code "^") e)) refl)
  after_caret (d ∷ t) e = by_close (d == code "]") refl where
    by_close : (x : Bool) → (d == code "]") ≡ x →
        Opened (c ∷ d ∷ t)
        (choose {B = Text × Text} (if x then Some t else None) (λ u. (code "[" ∷ code "^" ∷ code "]" ∷ [], u))
        (code "[" ∷ code "^" ∷ [], d ∷ t))
    by_close true q =
        opened _ _ (both_opening t (ap₂ (λ x y. x ∷ y ∷ t) (eqb-true c (code "^") e) (eqb-true d (code "]") q)))
    by_close false q = opened _ _ (caret_opening (d ∷ t) (ap (λ x. x ∷ d ∷ t) (eqb-true c (code "^") e)) (rw q refl))

  no_caret : (x : Bool) → (c == code "]") ≡ x → (c == code "^") ≡ false →
      Opened (c ∷ t) (choose {B = Text × Text} (if x then Some t else None) (λ u. (code "[" ∷ code "]" ∷ [], u))
      (code "[" ∷ [], c ∷ t))
  no_caret true q e = opened _ _ (close_opening t (ap (λ x. x ∷ t) (eqb-true c (code "]") q)))
  no_caret false q e = opened _ _ (plain_opening (rw e refl) (rw q refl))

  by_caret : (x : Bool) → (c == code "^") ≡ x →
      Opened (c ∷ t) (with_symbol (code "]")
      (choose {B = Text × Text} (if x then Some t else None) (λ u. (code "[" ∷ code "^" ∷ [], u))
      (code "[" ∷ [], c ∷ t)))
  by_caret true e = after_caret t e
  by_caret false e = no_caret (c == code "]") refl e

open_close : (t : Text) → ◌≡◌ {A = Text × Text} (class_start [] (code "]" ∷ t)) (code "[" ∷ code "]" ∷ [], t)
unfolding class_start
open_close t = refl

open_both : (t : Text) → ◌≡◌ {A = Text × Text} (class_start [] (code "^" ∷ code "]" ∷ t))
    (code "[" ∷ code "^" ∷ code "]" ∷ [], t)
unfolding class_start
open_both t = refl

-- what is written for items that were read from t
record ItemsAgain (t w : Text) : Type 0 where
  goes : (s : Text) → Goes (w ++ s) s
  no_caret : strip (code "^") t ≡ None → (s : Text) → strip (code "^") (w ++ s) ≡ None
  no_close : strip (code "]") t ≡ None → (s : Text) → strip (code "]") (w ++ s) ≡ None
  scalars : all_scalars w ≡ true

-- what is written for a class: a bracket, and what is a class after it
pub record ClassAgain (x : Text) : Type 0 where
  pub inner : Text
  pub is : x ≡ code "[" ∷ inner
  pub goes : (s : Text) → ClassGoes (inner ++ s) s
  pub scalars : all_scalars inner ≡ true

opening_again : (t opening r w : Text) → ClassOpening t opening r → ItemsAgain r w → ClassAgain (opening ++ w)
opening_again t opening r w (plain_opening a b) h = record {
  inner = w;
  is = refl;
  goes = λ s. pass_class (w ++ s) _ (w ++ s) s (open_plain (w ++ s) (h.no_caret a s) (h.no_close b s)) (h.goes s);
  scalars = h.scalars;
}
opening_again t opening r w (caret_opening u e b) h = record {
  inner = code "^" ∷ w;
  is = refl;
  goes = λ s. pass_class (code "^" ∷ (w ++ s)) _ (w ++ s) s (open_caret (w ++ s) (h.no_close b s)) (h.goes s);
  scalars = h.scalars;
}
opening_again t opening r w (close_opening u e) h = record {
  inner = code "]" ∷ w;
  is = refl;
  goes = λ s. pass_class (code "]" ∷ (w ++ s)) _ (w ++ s) s (open_close (w ++ s)) (h.goes s);
  scalars = h.scalars;
}
opening_again t opening r w (both_opening u e) h = record {
  inner = code "^" ∷ code "]" ∷ w;
  is = refl;
  goes = λ s. pass_class (code "^" ∷ code "]" ∷ (w ++ s)) _ (w ++ s) s (open_both (w ++ s)) (h.goes s);
  scalars = h.scalars;
}

opened_again : (t : Text) (p : Text × Text) (w : Text) → Opened t p → ItemsAgain p.1 w → ClassAgain (p.0 ++ w)
opened_again t p w (opened opening r h) k = opening_again t opening r w h k

from_fine : (o : Reading Escape) (e : Escape) (r : Text) → o ≡ gives e r → FineOf o → Fine e
from_fine o e r q h = subst FineOf q h

plain_again : (c : ℕ) (t w : Text) → is_plain_in_class c ≡ true → IsScalar c → ItemsAgain t w →
    ItemsAgain (c ∷ t) (c ∷ w)
plain_again c t w p k h = record {
  goes = λ s. pass_plain c (w ++ s) s p (h.goes s);
  no_caret = λ e s. same_front (code "^") c t (w ++ s) e;
  no_close = λ e s. same_front (code "]") c t (w ++ s) e;
  scalars = and_from _ _ k h.scalars;
}

escaped_again : (t r w x : Text) → Chunk x → ItemsAgain r w → ItemsAgain (code "\\" ∷ t) (x ++ w)
escaped_again t r w x c h = record {
  goes = λ s. subst (λ z. Goes z s) (sym (append_assoc x w s)) (c.goes (w ++ s) s (h.goes s));
  no_caret = λ _ s. ap (strip (code "^")) (append_assoc x w s) ∙ c.no_caret (w ++ s);
  no_close = λ _ s. ap (strip (code "]")) (append_assoc x w s) ∙ c.no_close (w ++ s);
  scalars = scalars_append x w c.scalars h.scalars;
}

nested_again : (t r w x : Text) → ClassAgain x → ItemsAgain r w → ItemsAgain (code "[" ∷ t) (x ++ w)
nested_again t r w x c h =
    subst (λ z. ItemsAgain (code "[" ∷ t) (z ++ w)) (sym c.is)
    (record {
      goes =
          λ s. pass_nested ((c.inner ++ w) ++ s) (w ++ s) s
          (subst (λ z. ClassGoes z (w ++ s)) (sym (append_assoc c.inner w s)) (c.goes (w ++ s))) (h.goes s);
      no_caret = λ _ s. refl;
      no_close = λ _ s. refl;
      scalars = scalars_append c.inner w c.scalars h.scalars;
    })

-- ---- the text after a class has only scalar values too

class_opening_rest : (t opening r : Text) → ClassOpening t opening r → all_scalars t ≡ true → all_scalars r ≡ true
class_opening_rest t opening r (plain_opening a b) k = k
class_opening_rest t opening r (caret_opening u e b) k = subst (λ z. all_scalars z ≡ true) e k
class_opening_rest t opening r (close_opening u e) k = subst (λ z. all_scalars z ≡ true) e k
class_opening_rest t opening r (both_opening u e) k = subst (λ z. all_scalars z ≡ true) e k

opened_rest : (t : Text) (p : Text × Text) → Opened t p → all_scalars t ≡ true → all_scalars p.1 ≡ true
opened_rest t p (opened opening r h) k = class_opening_rest t opening r h k

opening_rest : (t opening r : Text) → ◌≡◌ {A = Text × Text} (class_start [] t) (opening, r) → all_scalars t ≡ true →
    all_scalars r ≡ true
opening_rest t opening r e k = opened_rest t (opening, r) (subst (Opened t) e (class_start_is t)) k

escape_rest : (f : Flags) (t r : Text) (e : Escape) → escape f true t ≡ gives e r → all_scalars t ≡ true →
    all_scalars r ≡ true
escape_rest f t r e q k =
    let (w, cut) = escape_cut f true t r e q in scalars_after w r (subst (λ z. all_scalars z ≡ true) cut k)

mutual
  class_rest : {f : Flags} {b a : Bool} {t x v : Text} → ReadClass f b t x a v → all_scalars t ≡ true →
      all_scalars v ≡ true
  class_rest {t} (from_items {u} {opening} e h) k = items_rest h (opening_rest t opening u e k)

  items_rest : {f : Flags} {b a : Bool} {t w v : Text} → ReadItems f b t w a v →
      all_scalars t ≡ true → all_scalars v ≡ true
  items_rest at_close k = k
  items_rest (at_plain {c} {t} p h) k = items_rest h (and_parts _ (all_scalars t) k).1
  items_rest {f} (at_escape {t} {u} {e} q h) k = items_rest h (escape_rest f t u e q k)
  items_rest (at_nested g h) k = items_rest h (class_rest g k)

-- ---- by induction on the derivation

mutual
  pub class_again : {u i b a : Bool} {t x v : Text} →
      ReadClass (case_flags u i) b t x a v →
      all_scalars t ≡ true → ClassAgain x
  class_again {t} (from_items {u} {opening} {w} e h) k =
      opened_again t _ w (subst (Opened t) e (class_start_is t)) (items_again h (opening_rest t opening u e k))

  items_again : {u i b a : Bool} {t w v : Text} → ReadItems (case_flags u i) b t w a v →
      all_scalars t ≡ true → ItemsAgain t w
  items_again at_close k =
      record {
        goes = λ s. pass_close s;
        no_caret = λ _ s. refl;
        no_close = λ e s. same_front (code "]") (code "]") _ s e;
        scalars = refl;
      }
  items_again (at_plain {c} {t} {w} p h) k =
      let (here, more) = and_parts _ (all_scalars t) k in plain_again c t w p here (items_again h more)
  items_again {u} {i} {b} (at_escape {t} {u = r} {w} {e} q h) k =
      escaped_again t r w (escape_in_class b e) (item_chunk b e (from_fine _ e r q (escape_fine u i t k)))
      (items_again h (escape_rest (case_flags u i) t r e q k))
  items_again (at_nested {t} {u = r} {x} {w} g h) k =
      nested_again t r w x (class_again g k) (items_again h (class_rest g k))
