-- The tree that a printable Delegate's text is read as is printable again.
use Rattle.std.proofs.Common.{◌≡◌, ◌≢◌, ℕ, Bool, true, false, ◌==◌, ◌&&◌, if◌then◌else◌, [], ◌∷◌, ◌++◌, codes, Option}
use Rattle.std.proofs.Common.{Some, None, is_some, option_map, ◌⊎◌, inl, inr, refl, sym, ap, ◌∙◌, subst, append-nil}
use Rattle.std.proofs.Common.{ne_eqb, ◌+◌, rules}
use Rattle.std.proofs.lemmas.Bool.{and_from, and_parts, cases_eq, false≢true}
use Rattle.std.specs.Str.{all_scalars}
use Rattle.fancy_lex.specs.Characters.{◌∈◌}
use Rattle.fancy_lex.specs.Class.{class, OuterClass}
use Rattle.fancy_lex.specs.Escape.{escape, escape_at, number_escape, property, lone_escape}
use Rattle.fancy_lex.specs.EscapeReference.{numbered_reference}
use Rattle.fancy_lex.specs.Escaped as escaped
use Rattle.fancy_lex.specs.Escaped.{Escape}
use Rattle.fancy_lex.specs.Located.{unclosed_unicode_name}
use Rattle.fancy_lex.specs.Hex.{hex}
use Rattle.std.specs.Char.{IsScalar, is_ascii_digit}
use Prim.Native.Char.{code}
use Rattle.fancy_lex.specs.Property.{Property, PropertyName, single, braced, read_property, name_at, property_text}
use Rattle.fancy_lex.specs.Property.{Form, set, pair, form, form_text, look_up, lowercase, without_caret, letter}
use Rattle.fancy_lex.specs.Reading.{Reading, gives, error_at, choose}
use Rattle.fancy_lex.specs.Text.{Text, reach_of}
use Rattle.fancy_lex.proofs.ClassLaws.{class_complete, class_reads, read_class}
use Rattle.fancy_lex.proofs.LoneLemmas.{of_lone}
use Rattle.fancy_lex.proofs.ReadingLemmas.{choose_both}
use Rattle.fancy_grammar.specs.AtomStart.{leaf_node, leaf_outcome}
use Rattle.fancy_grammar.specs.Tree.{delegate}
use Rattle.fancy_grammar.specs.Normal.{unicode_flags, case_flags, class_of, whole_leaf, normal}
use Rattle.fancy_grammar.specs.Printable.{printable}
use Rattle.fancy_grammar.proofs.ReadBack.ScalarLemmas.{scalars_append}
use Rattle.fancy_grammar.proofs.ReadBack.ClassChunks.{ClassGoes, Chunk}
use Rattle.fancy_grammar.proofs.ReadBack.CarriedLaws.{backref_leaf_none, class_carries, escape_carries, NoDelegate}
use Rattle.fancy_grammar.proofs.ReadBack.CarriedLaws.{hex_none, outside_none}
use Rattle.fancy_grammar.proofs.ReadBack.DelegateTexts.{bracket_read, bracket_normal, escape_read, escape_normal}
use Rattle.fancy_grammar.proofs.ReadBack.DelegateTexts.{no_other, nothing_whole}
use Rattle.fancy_grammar.proofs.ReadBack.ChunkLemmas.{FormOf, Pairs, form_of, name_scalars, bracket_goes, caret_goes}
use Rattle.fancy_grammar.proofs.ReadBack.ChunkLemmas.{IsName, NameOk, NameSome, name_ok, prop, single_small}
use Rattle.fancy_grammar.proofs.ReadBack.ChunkLemmas.{single_large, braced_small, braced_large, hex_word, space_other}
use Rattle.fancy_grammar.proofs.ReadBack.ChunkLemmas.{no_brace}
use Rattle.fancy_grammar.proofs.ReadBack.ChunkLemmas.{unprinted, lowercase_ok, without_caret_ok}
use Rattle.fancy_grammar.proofs.ReadBack.RewrittenLaws.{class_again}
use Rattle.fancy_grammar.proofs.ReadBack.RuleLemmas.{st}
use Rattle.fancy_grammar.proofs.ReadBack.ClearLemmas.{Each, no_more, also, each_among}

-- the text is one whole class or class escape
abbrev IsWhole : Text → Type 0
IsWhole w = (all_scalars w && is_some (class_of (unicode_flags false) w)) ≡ true

class_whole : (t : Text) → all_scalars t ≡ true → ClassGoes t [] → IsWhole (code "[" ∷ t)
unfolding class_of
class_whole t k g =
    let (y, a, h) = g false in
    and_from (all_scalars (code "[" ∷ t)) _ k
    (ap (λ o. is_some (whole_leaf (leaf_outcome (λ w. delegate w false) (st (unicode_flags false) (code "[" ∷ t)) o)))
    (class_complete (unicode_flags false) t _ h))

escape_whole : (t w : Text) (b : Bool) → all_scalars t ≡ true →
    escape (unicode_flags false) false t ≡ gives (escaped.delegate w b) [] → IsWhole (code "\\" ∷ t)
unfolding class_of
escape_whole t w b k e =
    and_from (all_scalars (code "\\" ∷ t)) _ k
    (ap (λ o. is_some (whole_leaf (leaf_outcome leaf_node (st (unicode_flags false) (code "\\" ∷ t)) o))) e)

-- ---- a class

class_stays : (u i : Bool) (t x : Text) → all_scalars t ≡ true →
    class (case_flags u i) t ≡ gives x [] → IsWhole x
class_stays u i t x k e =
    let f = case_flags u i in
    let (a, h) = subst (OuterClass f t) e (class_reads f t) in
    let c = class_again (read_class h) k in
    subst IsWhole (sym c.is)
    (class_whole c.inner c.scalars
    (subst (λ z. ClassGoes z []) (append-nil c.inner)
    (c.goes [])))

-- ---- a class escape

abbrev WholeOf : Reading Escape → Type 0
WholeOf (gives (escaped.delegate w b) t) = IsWhole w
WholeOf _ = Unit {0}

whole_none : (o : Reading Escape) → NoDelegate o → WholeOf o
whole_none (gives (escaped.delegate w b) t) h = absurd h
whole_none _ h = tt

whole_if : (b : Bool) (p q : Reading Escape) → (b ≡ true → WholeOf p) → WholeOf q → WholeOf (if b then p else q)
whole_if true p q h k = h refl
whole_if false p q h k = k

bracket_whole : (w : Text) → Chunk w → IsWhole (code "[" ∷ (w ++ code "]" ∷ []))
bracket_whole w c =
    class_whole (w ++ code "]" ∷ []) (scalars_append w (code "]" ∷ []) c.scalars refl)
    (subst (λ z. ClassGoes z []) (append-nil (w ++ code "]" ∷ []))
    (bracket_goes w c []))

caret_whole : (w : Text) → Chunk w → IsWhole (code "[" ∷ code "^" ∷ (w ++ code "]" ∷ []))
caret_whole w c =
    class_whole (code "^" ∷ (w ++ code "]" ∷ [])) (scalars_append w (code "]" ∷ []) c.scalars refl)
    (subst (λ z. ClassGoes (code "^" ∷ z) []) (append-nil (w ++ code "]" ∷ [])) (caret_goes w c []))

small_whole : (w : Text) → IsName w → IsWhole (code "\\" ∷ code "p" ∷ code "{" ∷ (w ++ code "}" ∷ []))
small_whole w h =
    escape_whole (code "p" ∷ code "{" ∷ (w ++ code "}" ∷ [])) _ _
    (scalars_append w (code "}" ∷ []) (name_scalars w h) refl)
    (braced_small (unicode_flags false) false w [] (no_brace w h))

large_whole : (w : Text) → IsName w → IsWhole (code "\\" ∷ code "P" ∷ code "{" ∷ (w ++ code "}" ∷ []))
large_whole w h =
    escape_whole (code "P" ∷ code "{" ∷ (w ++ code "}" ∷ [])) _ _
    (scalars_append w (code "}" ∷ []) (name_scalars w h) refl)
    (braced_large (unicode_flags false) false w [] (no_brace w h))

single_whole : (b : Bool) (c : ℕ) → (c == code "{") ≡ false → IsScalar c → IsWhole (letter b ++ c ∷ [])
single_whole false c h k = escape_whole (code "p" ∷ c ∷ []) _ _ (and_from _ true k refl)
    (single_small (unicode_flags false) false c [] h)
single_whole true c h k = escape_whole (code "P" ∷ c ∷ []) _ _ (and_from _ true k refl)
    (single_large (unicode_flags false) false c [] h)

letters_whole : Each (λ c. IsWhole (code "\\" ∷ c ∷ [])) (codes "dDsSwW")
unfolding class_of escape_at lone_escape
letters_whole = also refl (also refl (also refl (also refl (also refl (also refl no_more)))))

letter_whole : (c : ℕ) → c ∈ "dDsSwW" ≡ true → IsWhole (code "\\" ∷ c ∷ [])
letter_whole c h = each_among (λ c. IsWhole (code "\\" ∷ c ∷ [])) (codes "dDsSwW") c letters_whole h

whole_pairs : Pairs IsWhole
whole_pairs = record {
  word = (letter_whole (code "w") refl, letter_whole (code "W") refl);
  graph = (
    caret_whole (codes "\\p{White_Space}\\p{C}") space_other,
    bracket_whole (codes "\\p{White_Space}\\p{C}") space_other,
  );
  print = (
    caret_whole (codes "\\p{C}\\t\\n\\v\\f\\r") unprinted,
    bracket_whole (codes "\\p{C}\\t\\n\\v\\f\\r") unprinted,
  );
  small = small_whole;
  large = large_whole;
}

outside_form : (b : Bool) (f : Form) → FormOf IsWhole f → IsWhole (form_text false b f)
outside_form true (set items) h = caret_whole items h
outside_form false (set items) h = bracket_whole items h
outside_form true (pair x y) h = h.1
outside_form false (pair x y) h = h.0

property_whole : (u b : Bool) (name : PropertyName) → NameOk name → IsWhole (property_text u false (prop b name))
unfolding property_text
property_whole u b (single c) h = single_whole b c h.0 h.1
property_whole u b (braced s) h =
    let p = without_caret b s in
    let ok = lowercase_ok p.1 (without_caret_ok b s h) in
    outside_form p.0 (form u (look_up (lowercase p.1)) (lowercase p.1))
    (form_of IsWhole whole_pairs (lowercase p.1) ok u)

read_whole : (u i : Bool) (p : ℕ) (b : Bool) (o : Option (PropertyName × Text)) → NameSome o
    → WholeOf (choose (option_map {T = PropertyName × Text} {U = Property × Text} (λ q. (prop b q.0, q.1)) o)
    (λ q. gives (escaped.delegate (property_text u false q.0) i) q.1) (error_at p unclosed_unicode_name))
read_whole u i p b None h = tt
read_whole u i p b (Some q) h = property_whole u b q.0 h

outside_property : (u i : Bool) (p c : ℕ) (t : Text) → all_scalars t ≡ true →
    WholeOf (property (case_flags u i) false p c t)
unfolding property read_property
outside_property u i p c [] h = tt
outside_property u i p c (d ∷ t) h = read_whole u i p (c ∈ "P") (name_at (d ∷ t)) (name_ok d t h)

lone_whole : (u i : Bool) (c : ℕ) (t : Text) (e : Escape) → lone_escape (case_flags u i) false c ≡ Some e →
    WholeOf (gives e t)
lone_whole u i c t =
    let P : Escape → Type 0 = λ e. WholeOf (gives e t) in
    let set : c ∈ "dDsSwW" ≡ true → IsWhole (code "\\" ∷ c ∷ []) = letter_whole c in
    let digit : IsWhole (codes "[0-9A-Fa-f]") = bracket_whole (codes "0-9A-Fa-f") hex_word in
    let no_digit : IsWhole (codes "[^0-9A-Fa-f]") = caret_whole (codes "0-9A-Fa-f") hex_word in
    of_lone P (case_flags u i) false c (λ _. tt) (search rules) (search rules)

outside_whole : (u i : Bool) (t : Text) → all_scalars t ≡ true → WholeOf (escape (case_flags u i) false t)
unfolding escape_at number_escape
outside_whole u i [] k = tt
outside_whole u i (c ∷ t) k =
    let p = reach_of (c ∷ t) + 1 in
    let f = case_flags u i in
    whole_if (is_ascii_digit c) (number_escape f false p (c ∷ t)) _
    (λ _. whole_none _ (backref_leaf_none f (numbered_reference (c ∷ t))))
    (whole_if (c ∈ "x") (hex f 2 t) _ (λ _. whole_none _ (hex_none f 2 t))
    (whole_if (c ∈ "u") (hex f 4 t) _ (λ _. whole_none _ (hex_none f 4 t))
    (whole_if (c ∈ "U") (hex f 8 t) _ (λ _. whole_none _ (hex_none f 8 t))
    (whole_if (c ∈ "pP") (property f false p c t) _ (λ _. outside_property u i p c t (and_parts _ (all_scalars t) k).1)
    (choose_both WholeOf (lone_escape f false c) _ _ (lone_whole u i c t)
    (whole_none _ (outside_none u i p c t)))))))

-- ---- a Delegate

bracket_stays : (u i : Bool) (t : Text) → IsWhole (code "[" ∷ t) →
    printable (normal u (delegate (code "[" ∷ t) i)) ≡ true
bracket_stays u i t h =
    let (k, whole) = and_parts (all_scalars (code "[" ∷ t)) _ h in
    let (w, e) = bracket_read t whole in
    let (x, same) = class_carries u i t w [] e in
    let here = same [] in
    ap printable (bracket_normal u i t x here)
    ∙ class_stays u i (t ++ []) x (scalars_append t [] k refl) here

escape_stays : (u i : Bool) (t : Text) → IsWhole (code "\\" ∷ t) →
    printable (normal u (delegate (code "\\" ∷ t) i)) ≡ true
escape_stays u i t h =
    let (k, whole) = and_parts (all_scalars (code "\\" ∷ t)) _ h in
    let (w, b, e) = escape_read t whole in
    let (x, c, same) = escape_carries u i t w [] b e in
    ap printable (escape_normal u i t x c (same []))
    ∙ subst WholeOf (same []) (outside_whole u i (t ++ []) (scalars_append t [] k refl))

no_class : {X : Type 0} (s : Text) → false ≡ is_some (class_of (unicode_flags false) s) → IsWhole s → X
no_class s e h = absurd (false≢true (e ∙ (and_parts (all_scalars s) _ h).1))

pub delegates_stay : (u i : Bool) (s : Text) → IsWhole s → printable (normal u (delegate s i)) ≡ true
delegates_stay u i [] h = no_class [] nothing_whole h
delegates_stay u i (c ∷ t) h = by_bracket (cases_eq c (code "["))
  where
    by_escape : (c ≢ code "[") → (c ≡ code "\\") ⊎ (c ≢ code "\\") → printable (normal u (delegate (c ∷ t) i)) ≡ true
    by_escape a (inl e) =
        subst (λ x. printable (normal u (delegate (x ∷ t) i)) ≡ true) (sym e)
        (escape_stays u i t (subst (λ x. IsWhole (x ∷ t)) e h))
    by_escape a (inr b) = no_class (c ∷ t) (no_other c t (ne_eqb c (code "[") a) (ne_eqb c (code "\\") b)) h

    by_bracket : (c ≡ code "[") ⊎ (c ≢ code "[") → printable (normal u (delegate (c ∷ t) i)) ≡ true
    by_bracket (inl e) =
        subst (λ x. printable (normal u (delegate (x ∷ t) i)) ≡ true) (sym e)
        (bracket_stays u i t (subst (λ x. IsWhole (x ∷ t)) e h))
    by_bracket (inr a) = by_escape a (cases_eq c (code "\\"))
