-- What a class writes is read as itself: by induction along the class.
use Rattle.std.proofs.Common.{◌≡◌, ℕ, Bool, true, false, ◌==◌, [], ◌∷◌, ◌++◌, codes, Option, Some, None}
use Rattle.std.proofs.Common.{refl, ap, ◌∙◌, sym, subst, append_assoc, if◌then◌else◌, eqb-true}
use Rattle.std.proofs.lemmas.Bool.{not-true}
use Prim.Native.Char.{code}
use Rattle.fancy_lex.specs.Characters.{◌∈◌}
use Rattle.fancy_lex.specs.Class.{class_start, escape_in_class, is_negated, is_plain_in_class, written, Class}
use Rattle.fancy_lex.specs.Class.{class_items, ClassItems, close, nested}
use Rattle.fancy_lex.proofs.ClassLaws.{ReadClass, from_items, ReadItems, at_close, at_plain, at_escape, at_nested}
use Rattle.fancy_lex.specs.Text.{Text, strip}
use Rattle.fancy_lex.specs.declared.flags.Flags.{Flags}
use Rattle.fancy_grammar.specs.PatternSource.{source_from}
use Rattle.fancy_grammar.proofs.ReadBack.ChunkLemmas.{open_plain, open_caret}
use Rattle.fancy_grammar.proofs.ReadBack.ClearLemmas.{apart}
use Rattle.fancy_pattern.proofs.PatternLaws.Source.Steps.{NoProperty, NoSet, NoJoined, char_source, char_on, close_on}
use Rattle.fancy_pattern.proofs.PatternLaws.Source.Steps.{open_on, open_caret_on}
use Rattle.fancy_pattern.proofs.PatternLaws.Source.Parts.{char_items}
use Rattle.fancy_pattern.proofs.PatternLaws.Source.Items.{InClass, IsBelow}
use Rattle.fancy_pattern.proofs.PatternLaws.Source.Escapes.{escape_in, char_no_caret, char_no_close}

-- ---- what begins a class

-- the beginning of a class, what is written for it, and the rest
data OpeningOf : Text → Text → Text → Type 0 where
  bare : {t : Text} → strip (code "^") t ≡ None → strip (code "]") t ≡ None → OpeningOf t (codes "[") t
  negated : {u : Text} → strip (code "]") u ≡ None → OpeningOf (code "^" ∷ u) (codes "[^") u
  closing : {u : Text} → OpeningOf (code "]" ∷ u) (codes "[]") u
  negated_closing : {u : Text} → OpeningOf (codes "^]" ++ u) (codes "[^]") u

opening_is : (t opening u : Text) → ◌≡◌ {A = Text × Text} (class_start [] t) (opening, u) → OpeningOf t opening u
unfolding class_start
opening_is t opening u e = subst (λ (p : Text × Text). OpeningOf t p.0 p.1) e (of t)
  where
    after_caret : (t : Text) → OpeningOf (code "^" ∷ t) (class_start [] (code "^" ∷ t)).0 (class_start [] (code "^" ∷ t)).1
    after_caret [] = negated refl
    after_caret (c ∷ t) = at (c == code "]") refl
      where
        at : (b : Bool) → (c == code "]") ≡ b →
            OpeningOf (code "^" ∷ c ∷ t) (class_start [] (code "^" ∷ c ∷ t)).0 (class_start [] (code "^" ∷ c ∷ t)).1
        at true e =
            subst
            (λ d. OpeningOf (code "^" ∷ d ∷ t) (class_start [] (code "^" ∷ d ∷ t)).0 (class_start [] (code "^" ∷ d ∷ t)).1)
            (sym (eqb-true c (code "]") e)) negated_closing
        at false e =
            subst (λ (p : Text × Text). OpeningOf (code "^" ∷ c ∷ t) p.0 p.1) (sym (open_caret (c ∷ t) (rw e refl)))
            (negated (rw e refl))

    of : (t : Text) → OpeningOf t (class_start [] t).0 (class_start [] t).1
    of [] = bare refl refl
    of (c ∷ t) = at (c == code "^") (c == code "]") refl refl
      where
        at : (a b : Bool) → (c == code "^") ≡ a → (c == code "]") ≡ b →
            OpeningOf (c ∷ t) (class_start [] (c ∷ t)).0 (class_start [] (c ∷ t)).1
        at true b e h =
            subst (λ d. OpeningOf (d ∷ t) (class_start [] (d ∷ t)).0 (class_start [] (d ∷ t)).1)
            (sym (eqb-true c (code "^") e)) (after_caret t)
        at false true e h =
            subst (λ d. OpeningOf (d ∷ t) (class_start [] (d ∷ t)).0 (class_start [] (d ∷ t)).1)
            (sym (eqb-true c (code "]") h)) closing
        at false false e h =
            subst (λ (p : Text × Text). OpeningOf (c ∷ t) p.0 p.1) (sym (open_plain (c ∷ t) (rw e refl) (rw h refl)))
            (bare (rw e refl) (rw h refl))

open_closing : (t : Text) → ◌≡◌ {A = Text × Text} (class_start [] (code "]" ∷ t)) (codes "[]", t)
unfolding class_start
open_closing t = refl

open_both : (t : Text) → ◌≡◌ {A = Text × Text} (class_start [] (codes "^]" ++ t)) (codes "[^]", t)
unfolding class_start
open_both t = refl

-- ---- how the text of items begins

plain_not : (c : ℕ) → is_plain_in_class c ≡ true → c ∈ "\\[]" ≡ false
plain_not c h = not-true (c ∈ "\\[]") h

none_again : (m c : ℕ) (t u : Text) → strip m (c ∷ t) ≡ None → strip m (c ∷ u) ≡ None
none_again m c t u e = at (c == m) e
  where
    at : (b : Bool) → (if b then Some t else None) ≡ None → (if b then Some u else None) ≡ None
    at true e = absurd cc
    at false e = refl

none_test : (m c : ℕ) (t : Text) → strip m (c ∷ t) ≡ None → (c == m) ≡ false
none_test m c t e = at (c == m) e
  where
    at : (b : Bool) → (if b then Some t else None) ≡ None → b ≡ false
    at true e = absurd cc
    at false e = refl

-- no negated set of the rows is in an empty source
none_below : (b : Bool) → IsBelow false b
none_below b e = absurd cc

-- a class before a text
opening_property : (t opening u x w z : Text) → OpeningOf t opening u → NoProperty (((opening ++ x) ++ w) ++ z)
opening_property t _ _ x w z (bare n m) = record { space = refl; control = refl }
opening_property _ _ u x w z (negated n) = record { space = refl; control = refl }
opening_property _ _ u x w z closing = record { space = refl; control = refl }
opening_property _ _ u x w z negated_closing = record { space = refl; control = refl }

opening_no_caret : (t opening u x w z : Text) → OpeningOf t opening u →
    strip (code "^") (((opening ++ x) ++ w) ++ z) ≡ None
opening_no_caret t _ _ x w z (bare n m) = refl
opening_no_caret _ _ u x w z (negated n) = refl
opening_no_caret _ _ u x w z closing = refl
opening_no_caret _ _ u x w z negated_closing = refl

opening_joined : (t opening u x w z : Text) → OpeningOf t opening u → NoJoined (((opening ++ x) ++ w) ++ z)
opening_joined t _ _ x w z (bare n m) = record { space = refl; control = refl }
opening_joined _ _ u x w z (negated n) = record { space = refl; control = refl }
opening_joined _ _ u x w z closing = record { space = refl; control = refl }
opening_joined _ _ u x w z negated_closing = record { space = refl; control = refl }

bare_set : (y : Text) → strip (code "^") y ≡ None → NoSet (code "[" ∷ y)
bare_set [] n = record { space = refl; control = refl }
bare_set (c ∷ y) n = let e = none_test (code "^") c y n in record { space = rw e refl; control = rw e refl }

opening_set : (t opening u x w z : Text) → (strip (code "^") u ≡ None → (z : Text) → strip (code "^") (x ++ z) ≡ None) →
    NoProperty (x ++ (w ++ z)) → OpeningOf t opening u → NoSet (((opening ++ x) ++ w) ++ z)
opening_set t _ _ x w z caret_free property (bare n m) =
    bare_set ((x ++ w) ++ z)
    (subst (λ y. strip (code "^") y ≡ None) (sym (append_assoc x w z)) (caret_free n (w ++ z)))
opening_set _ _ u x w z caret_free property (negated n) =
    let p = subst NoProperty (sym (append_assoc x w z)) property in
    record { space = p.space; control = p.control }
opening_set _ _ u x w z caret_free property closing = record { space = refl; control = refl }
opening_set _ _ u x w z caret_free property negated_closing = record { space = refl; control = refl }

items_property : {f : Flags} {b a : Bool} {t w v : Text} → ReadItems f b t w a v → (z : Text) →
    NoProperty (w ++ z)
items_property at_close z = record { space = refl; control = refl }
items_property (at_plain {c} p h) z =
    let e = apart (λ c. c ∈ "\\[]") c (plain_not c p) (code "\\") refl in
    record { space = rw e refl; control = rw e refl }
items_property {f} {b} (at_escape {t} {u} {w} {e} q h) z =
    subst NoProperty (sym (append_assoc (escape_in_class b e) w z))
    ((escape_in f b false (none_below b) t u e q).front.property (w ++ z))
items_property (at_nested {w} (from_items {t} {u} {opening} {w = x} e h) k) z =
    opening_property t opening u x w z (opening_is t opening u e)

items_no_caret : {f : Flags} {b a : Bool} {t w v : Text} → ReadItems f b t w a v →
    strip (code "^") t ≡ None → (z : Text) → strip (code "^") (w ++ z) ≡ None
items_no_caret at_close n z = refl
items_no_caret (at_plain {c} {t} {w} p h) n z = none_again (code "^") c t (w ++ z) n
items_no_caret {f} {b} (at_escape {t} {u} {w} {e} q h) n z =
    subst (λ y. strip (code "^") y ≡ None) (sym (append_assoc (escape_in_class b e) w z))
    ((escape_in f b false (none_below b) t u e q).front.no_caret (w ++ z))
items_no_caret (at_nested {w} (from_items {t} {u} {opening} {w = x} e h) k) n z =
    opening_no_caret t opening u x w z (opening_is t opening u e)

items_set : {f : Flags} {b a : Bool} {t w v : Text} → ReadItems f b t w a v → b ≡ true → (z : Text) →
    NoSet (w ++ z)
items_set at_close seen z = record { space = refl; control = refl }
items_set (at_plain {c} p h) seen z =
    let e = apart (λ c. c ∈ "\\[]") c (plain_not c p) (code "[") refl in
    record { space = rw e refl; control = rw e refl }
items_set {f} {b} (at_escape {t} {u} {w} {e} q h) seen z =
    subst NoSet (sym (append_assoc (escape_in_class b e) w z))
    ((escape_in f b false (none_below b) t u e q).front.set seen (w ++ z))
items_set (at_nested {w} (from_items {t} {u} {opening} {w = x} e h) k) seen z =
    opening_set t opening u x w z (items_no_caret h) (items_property h (w ++ z)) (opening_is t opening u e)

items_joined : {f : Flags} {b a : Bool} {t w v : Text} → ReadItems f b t w a v → b ≡ true → (z : Text) →
    NoJoined (w ++ z)
items_joined at_close seen z = record { space = refl; control = refl }
items_joined (at_plain {c} {w} p h) seen z = at (c == code "&") refl
  where
    rest : NoSet (w ++ z)
    rest = items_set h seen z

    at : (b : Bool) → (c == code "&") ≡ b → NoJoined (c ∷ (w ++ z))
    at true e = record { space = rw e rest.space; control = rw e rest.control }
    at false e = record { space = rw e refl; control = rw e refl }
items_joined {f} {b} (at_escape {t} {u} {w} {e} q h) seen z =
    subst NoJoined (sym (append_assoc (escape_in_class b e) w z))
    ((escape_in f b false (none_below b) t u e q).front.joined seen (w ++ z))
items_joined (at_nested {w} (from_items {t} {u} {opening} {w = x} e h) k) seen z =
    opening_joined t opening u x w z (opening_is t opening u e)

-- ---- the induction

-- what was written for a class has, after its bracket, a source that is read as the class
pub record ClassSource (u σ : Bool) (x : Text) (m : Bool) : Type 0 where
  pub tail : Text
  pub after : Bool
  pub is : (z : Text) → source_from u σ (x ++ z) ≡ (code "[" ∷ tail) ++ source_from u after z
  pub below : IsBelow after m
  pub reads : (g : Flags) → g.unicode ≡ u → (r : Text) → Class g σ (tail ++ r) (written x after r)

-- the same for items up to the closing bracket, which were read from t
record ItemsSource (u σ : Bool) (t w : Text) (a : Bool) : Type 0 where
  source : Text
  after : Bool
  is : (z : Text) → source_from u σ (w ++ z) ≡ source ++ source_from u after z
  below : IsBelow after a
  reads : (g : Flags) → g.unicode ≡ u → (r : Text) → ClassItems g σ (source ++ r) (written w after r)
  no_caret : strip (code "^") t ≡ None → (r : Text) → strip (code "^") (source ++ r) ≡ None
  no_close : strip (code "]") t ≡ None → (r : Text) → strip (code "]") (source ++ r) ≡ None

with_class_start : (u σ a : Bool) (t opening s w : Text) → OpeningOf t opening s → ((z : Text) → NoProperty (w ++ z)) →
    (strip (code "^") s ≡ None → (z : Text) → strip (code "^") (w ++ z) ≡ None) → ItemsSource u σ s w a →
    ClassSource u σ (opening ++ w) a
with_class_start u σ a t _ s w (bare n m) property caret_free i = record {
  tail = i.source;
  after = i.after;
  is = λ z. open_on u σ (w ++ z) (property z) (caret_free n z) ∙ ap (λ q. code "[" ∷ q) (i.is z);
  below = i.below;
  reads = λ g like r. class_items (open_plain _ (i.no_caret n r) (i.no_close m r)) (i.reads g like r);
}
with_class_start u σ a _ _ s w (negated m) property caret_free i = record {
  tail = code "^" ∷ i.source;
  after = i.after;
  is = λ z. open_caret_on u σ (w ++ z) (property z) ∙ ap (λ q. codes "[^" ++ q) (i.is z);
  below = i.below;
  reads = λ g like r. class_items (open_caret _ (i.no_close m r)) (i.reads g like r);
}
with_class_start u σ a _ _ s w closing property caret_free i = record {
  tail = code "]" ∷ i.source;
  after = i.after;
  is =
      λ z. open_on u σ (code "]" ∷ (w ++ z)) (record { space = refl; control = refl }) refl
      ∙ (ap (λ q. code "[" ∷ q) (close_on u σ (w ++ z)) ∙ ap (λ q. codes "[]" ++ q) (i.is z));
  below = i.below;
  reads = λ g like r. class_items (open_closing _) (i.reads g like r);
}
with_class_start u σ a _ _ s w negated_closing property caret_free i = record {
  tail = codes "^]" ++ i.source;
  after = i.after;
  is =
      λ z. open_caret_on u σ (code "]" ∷ (w ++ z)) (record { space = refl; control = refl })
      ∙ (ap (λ q. codes "[^" ++ q) (close_on u σ (w ++ z)) ∙ ap (λ q. codes "[^]" ++ q) (i.is z));
  below = i.below;
  reads = λ g like r. class_items (open_both _) (i.reads g like r);
}

some_none : {A : Type 0} {a : A} → ◌≡◌ {A = Option A} (Some a) None → ⊥
some_none e = cc

close_source : (u σ b : Bool) (v : Text) → IsBelow σ b → ItemsSource u σ (code "]" ∷ v) (codes "]") b
close_source u σ b v below = record {
  source = codes "]";
  after = σ;
  is = λ z. close_on u σ z;
  below = below;
  reads = λ g like r. close;
  no_caret = λ n r. refl;
  no_close = λ n r. absurd (some_none n);
}

plain_source : (u σ a : Bool) (c : ℕ) (t w : Text) → c ∈ "\\[]" ≡ false →
    (σ ≡ true → (z : Text) → NoJoined (w ++ z)) → ItemsSource u σ t w a → ItemsSource u σ (c ∷ t) (c ∷ w) a
plain_source u σ a c t w h joined i = record {
  source = char_source c ++ i.source;
  after = i.after;
  is =
      λ z. char_on u σ c (w ++ z) h (λ e seen. joined seen z) ∙ (ap (λ q. char_source c ++ q) (i.is z)
      ∙ sym (append_assoc (char_source c) i.source (source_from u i.after z)));
  below = i.below;
  reads =
      λ g like r. subst (λ q. ClassItems g σ q (written (c ∷ w) i.after r))
      (sym (append_assoc (char_source c) i.source r))
      (char_items g σ c (i.source ++ r) r w i.after h (i.reads g like r));
  no_caret =
      λ n r. subst (λ q. strip (code "^") q ≡ None) (sym (append_assoc (char_source c) i.source r))
      (char_no_caret c (none_test (code "^") c t n) (i.source ++ r));
  no_close =
      λ n r. subst (λ q. strip (code "]") q ≡ None) (sym (append_assoc (char_source c) i.source r))
      (char_no_close c (none_test (code "]") c t n) (i.source ++ r));
}

escaped_source : (u b σ n a : Bool) (t s x w : Text) (e : InClass u b σ n x) → ItemsSource u e.after s w a →
    ItemsSource u σ t (x ++ w) a
escaped_source u b σ n a t s x w e i = record {
  source = e.source ++ i.source;
  after = i.after;
  is =
      λ z. ap (source_from u σ) (append_assoc x w z) ∙ (e.reads.is (w ++ z) ∙ (ap (λ q. e.source ++ q) (i.is z)
      ∙ sym (append_assoc e.source i.source (source_from u i.after z))));
  below = i.below;
  reads =
      λ g like r. subst (λ q. ClassItems g σ q (written (x ++ w) i.after r)) (sym (append_assoc e.source i.source r))
      (e.reads.reads g like (i.source ++ r) r w i.after (i.reads g like r));
  no_caret =
      λ m r. subst (λ q. strip (code "^") q ≡ None) (sym (append_assoc e.source i.source r))
      (e.opens.no_caret (i.source ++ r));
  no_close =
      λ m r. subst (λ q. strip (code "]") q ≡ None) (sym (append_assoc e.source i.source r))
      (e.opens.no_close (i.source ++ r));
}

nested_source : (u σ m a : Bool) (t s x w : Text) (c : ClassSource u σ x m) → ItemsSource u c.after s w a →
    ItemsSource u σ t (x ++ w) a
nested_source u σ m a t s x w c i = record {
  source = (code "[" ∷ c.tail) ++ i.source;
  after = i.after;
  is =
      λ z. ap (source_from u σ) (append_assoc x w z) ∙ (c.is (w ++ z) ∙ (ap (λ q. (code "[" ∷ c.tail) ++ q) (i.is z)
      ∙ sym (append_assoc (code "[" ∷ c.tail) i.source (source_from u i.after z))));
  below = i.below;
  reads =
      λ g like r. subst (λ q. ClassItems g σ (code "[" ∷ q) (written (x ++ w) i.after r))
      (sym (append_assoc c.tail i.source r))
      (nested (c.reads g like (i.source ++ r)) (i.reads g like r));
  no_caret = λ n r. refl;
  no_close = λ n r. refl;
}

mutual
  pub class_source_of : {f : Flags} {b m : Bool} {t x v : Text} → ReadClass f b t x m v → (σ : Bool) →
      IsBelow σ b → ClassSource f.unicode σ x m
  class_source_of {f} (from_items {a} {t} {u} {opening} {w} e h) σ below =
      with_class_start f.unicode σ a t opening u w (opening_is t opening u e) (items_property h) (items_no_caret h)
      (items_source_of h σ below)

  items_source_of : {f : Flags} {b a : Bool} {t w v : Text} → ReadItems f b t w a v → (σ : Bool) →
      IsBelow σ b → ItemsSource f.unicode σ t w a
  items_source_of {f} {b} (at_close {v}) σ below = close_source f.unicode σ b v below
  items_source_of {f} (at_plain {c} {a} {t} {w} p h) σ below =
      plain_source f.unicode σ a c t w (plain_not c p) (λ seen z. items_joined h (below seen) z)
      (items_source_of h σ below)
  items_source_of {f} {b} (at_escape {a} {t} {u} {w} {e} q h) σ below =
      let i = escape_in f b σ below t u e q in
      escaped_source f.unicode b σ (is_negated e) a (code "\\" ∷ t) u (escape_in_class b e) w i
      (items_source_of h i.after i.below)
  items_source_of {f} {b} (at_nested {m} {a} {t} {u} {x} {w} k h) σ below =
      let c = class_source_of k σ below in
      nested_source f.unicode σ m a (code "[" ∷ t) u x w c (items_source_of h c.after c.below)
