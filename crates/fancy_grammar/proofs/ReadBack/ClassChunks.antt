-- What a class is rewritten as is a class again, item by item.
use Rattle.std.proofs.Common.{◌≡◌, ℕ, Bool, true, false, ◌||◌, nat_le, [], ◌∷◌, ◌++◌, codes, None, refl, sym, ap, ◌∙◌}
use Rattle.std.proofs.Common.{subst, append_assoc}
use Rattle.std.proofs.lemmas.Bool.{and_from, cond_both}
use Rattle.std.specs.Char.{IsScalar}
use Rattle.std.specs.Str.{all_scalars}
use Prim.Native.Char.{code}
use Rattle.fancy_lex.specs.Characters.{metacharacters}
use Rattle.fancy_lex.specs.Class.{Class, class_items, ClassItems, close, plain, escaped, nested, written, class_start}
use Rattle.fancy_lex.specs.Class.{escape_in_class, is_negated, is_plain_in_class, needs_backslash_in_class, char_text}
use Rattle.fancy_lex.specs.Escape.{escape, escape_at, lone_escape}
use Rattle.fancy_lex.specs.Escaped.{Escape, literal, literal_bytes, delegate}
use Rattle.fancy_lex.specs.Reading.{gives}
use Rattle.fancy_lex.specs.Text.{Text, strip}
use Rattle.fancy_grammar.specs.Normal.{unicode_flags}
use Rattle.fancy_grammar.proofs.ReadBack.ClearLemmas.{apart, Each, no_more, also, each_among}
use Rattle.fancy_grammar.proofs.ReadBack.ScalarLemmas.{scalars_append}

-- the items of a class are read from s to v, whatever was read before
abbrev pub Goes : Text → Text → Type 0
Goes s v = (b : Bool) → (y : Text) × (a : Bool) × ClassItems (unicode_flags false) b s (written y a v)

-- the same for a class, after its bracket
abbrev pub ClassGoes : Text → Text → Type 0
ClassGoes s v = (b : Bool) → (y : Text) × (a : Bool) × Class (unicode_flags false) b s (written y a v)

pub pass_close : (v : Text) → Goes (code "]" ∷ v) v
pass_close v b = (_, b, close)

pub pass_plain : (c : ℕ) (s v : Text) → is_plain_in_class c ≡ true → Goes s v → Goes (c ∷ s) v
pass_plain c s v p g b = let (y, a, h) = g b in (c ∷ y, a, plain p h)

pub pass_escape : (t s v : Text) (e : Escape) →
    escape (unicode_flags false) true t ≡ gives e s → Goes s v → Goes (code "\\" ∷ t) v
pass_escape t s v e q g b = let (y, a, h) = g (b || is_negated e) in (escape_in_class b e ++ y, a, escaped q h)

pub pass_nested : (t s v : Text) → ClassGoes t s → Goes s v → Goes (code "[" ∷ t) v
pass_nested t s v k g b =
    let (x, c, h) = k b in
    let (y, a, i) = g c in
    (x ++ y, a, nested h i)

pub pass_class : (t opening r v : Text) → ◌≡◌ {A = Text × Text} (class_start [] t) (opening, r) → Goes r v →
    ClassGoes t v
pass_class t opening r v e g b = let (y, a, h) = g b in (opening ++ y, a, class_items e h)

-- what is written for an item: a class continues after it, and it begins with neither a caret nor a closing bracket
pub record Chunk (w : Text) : Type 0 where
  pub goes : (s v : Text) → Goes s v → Goes (w ++ s) v
  pub no_caret : (s : Text) → strip (code "^") (w ++ s) ≡ None
  pub no_close : (s : Text) → strip (code "]") (w ++ s) ≡ None
  pub scalars : all_scalars w ≡ true

-- what an escape in a class may be read as
abbrev pub Fine : Escape → Type 0
Fine (literal c b) = IsScalar c
Fine (literal_bytes v) = nat_le v 0xFF ≡ true
Fine (delegate w b) = Chunk w
Fine _ = ⊥

pub both_chunk : (w x : Text) → Chunk w → Chunk x → Chunk (w ++ x)
both_chunk w x p q =
    record {
      goes = λ s v g. subst (λ z. Goes z v) (sym (append_assoc w x s)) (p.goes (x ++ s) v (q.goes s v g));
      no_caret = λ s. ap (strip (code "^")) (append_assoc w x s) ∙ p.no_caret (x ++ s);
      no_close = λ s. ap (strip (code "]")) (append_assoc w x s) ∙ p.no_close (x ++ s);
      scalars = scalars_append w x p.scalars q.scalars;
    }

pub amp_chunk : Chunk (codes "&&")
amp_chunk = record {
  goes = λ s v g. pass_plain (code "&") (code "&" ∷ s) v refl (pass_plain (code "&") s v refl g);
  no_caret = λ s. refl;
  no_close = λ s. refl;
  scalars = refl;
}

-- ---- characters

abbrev class_metacharacters : Text
class_metacharacters = metacharacters ++ codes "]}#&-~"

abbrev Escapes : ℕ → Type 0
Escapes c = (s : Text) → escape (unicode_flags false) true (c ∷ s) ≡ gives (literal c false) s

escapes_metacharacters : Each Escapes class_metacharacters
unfolding escape_at lone_escape
escapes_metacharacters =
    also (λ s. refl) (also (λ s. refl) (also (λ s. refl) (also (λ s. refl)
    (also (λ s. refl) (also (λ s. refl) (also (λ s. refl) (also (λ s. refl)
    (also (λ s. refl) (also (λ s. refl) (also (λ s. refl) (also (λ s. refl)
    (also (λ s. refl) (also (λ s. refl) (also (λ s. refl) (also (λ s. refl)
    (also (λ s. refl) (also (λ s. refl) no_more)))))))))))))))))

metacharacter_chunk : (c : ℕ) → IsScalar c → needs_backslash_in_class c ≡ true → Chunk (code "\\" ∷ c ∷ [])
metacharacter_chunk c k h =
    record {
      goes = λ s v g. pass_escape (c ∷ s) s v (literal c false)
          (each_among Escapes class_metacharacters c escapes_metacharacters h s) g;
      no_caret = λ s. refl;
      no_close = λ s. refl;
      scalars = and_from _ true k refl;
    }

plain_chunk : (c : ℕ) → IsScalar c → needs_backslash_in_class c ≡ false → Chunk (c ∷ [])
plain_chunk c i h =
    let is_not = apart needs_backslash_in_class c h in
    record {
      goes = λ s v g.
          pass_plain c s v (rw (is_not (code "\\") refl, is_not (code "[") refl, is_not (code "]") refl) refl) g;
      no_caret = λ s. rw (is_not (code "^") refl) refl;
      no_close = λ s. rw (is_not (code "]") refl) refl;
      scalars = and_from _ true i refl;
    }

pub char_chunk : (c : ℕ) → IsScalar c → Chunk (char_text c)
char_chunk c k = cond_both (needs_backslash_in_class c) _ _ Chunk (λ h. metacharacter_chunk c k h) (λ h. plain_chunk c k h)
