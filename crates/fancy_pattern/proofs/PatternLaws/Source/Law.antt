-- Each Delegate that a reader gives has a source: the law for all escapes and all classes.
use Rattle.std.proofs.Common.{◌≡◌, ℕ, ◌+◌, Bool, true, false, not, ◌&&◌, ◌==◌, nat_le, [], ◌∷◌, ◌++◌, codes}
use Rattle.std.proofs.Common.{Option, Some, None, option_map, refl, ap, ◌∙◌, sym, subst, append_assoc, append-nil}
use Rattle.std.proofs.Common.{⊎_elim, rules}
use Rattle.std.proofs.Math.Bool.{and-false, and-true}
use Rattle.std.proofs.lemmas.Bool.{cond_both, cond-false, or_cases}
use Rattle.std.proofs.lemmas.Slice.Eq.{bytes_eq-Decides}
use Rattle.std.specs.Char.{is_ascii_digit}
use Rattle.std.specs.Str.{bytes_eq}
use Prim.Native.Char.{code}
use Rattle.fancy_lex.specs.Boundary as boundaries
use Rattle.fancy_lex.specs.BoundarySteps as boundary_steps
use Rattle.fancy_lex.specs.Characters.{◌∈◌}
use Rattle.fancy_lex.specs.Class.{class, OuterClass, class_items}
use Rattle.fancy_lex.specs.Escape.{escape, escape_at, number_escape, call_escape, backref_leaf, property, outside}
use Rattle.fancy_lex.specs.Escape.{lone_escape, lone_anywhere}
use Rattle.fancy_lex.specs.EscapeReference.{numbered_reference, back_reference, subroutine_call}
use Rattle.fancy_lex.specs.Escaped as leaves
use Rattle.fancy_lex.specs.Escaped.{Escape, hex_class, negated_hex_class}
use Rattle.fancy_lex.specs.ErrorTable.{property_not_closed}
use Rattle.fancy_lex.specs.Hex.{hex, value, leaf_of_value, is_scalar}
use Rattle.fancy_lex.specs.LayoutSteps.{layout}
use Rattle.fancy_lex.specs.Property.{Property, PropertyName, single, braced, read_property, name_at, property_text}
use Rattle.fancy_lex.specs.Property.{set, pair, letter, lowercase, look_up, without_caret, form, form_text}
use Rattle.fancy_lex.specs.Reading.{Reading, gives, fails, choose, layout_reading, ◌>=>◌}
use Rattle.fancy_lex.specs.Referred.{Reference}
use Rattle.fancy_lex.specs.Text.{Text, strip, reach_of}
use Rattle.fancy_lex.specs.declared.flags.Flags.{Flags}
use Rattle.fancy_lex.proofs.ClassLaws.{class_complete, class_reads, read_class}
use Rattle.fancy_lex.proofs.LoneLemmas.{AtRows, of_lone}
use Rattle.fancy_lex.proofs.ReadingLemmas.{choose_both}
use Rattle.fancy_grammar.specs.PatternNeeds.{is_hex_class}
use Rattle.fancy_grammar.specs.PatternSource.{source}
use Rattle.fancy_grammar.proofs.Writable.{IsLike, IsSource, an_escape, a_class, HasSource}
use Rattle.fancy_pattern.proofs.SourceLemmas.{source_ends}
use Rattle.fancy_grammar.proofs.ReadBack.ChunkLemmas.{HasNoBrace, prop, open_plain, open_caret}
use Rattle.fancy_grammar.proofs.ReadBack.ClearLemmas.{Each, no_more, also, each_among}
use Rattle.fancy_pattern.proofs.PatternLaws.Source.Parts.{kept_read}
use Rattle.fancy_pattern.proofs.PatternLaws.Source.Parts.{Reads, SetItems, bracket_read, negated_read, closed_items}
use Rattle.fancy_pattern.proofs.PatternLaws.Source.Names.{IsRowless, named_reads, rowless_read, rowless_reads, property_body}
use Rattle.fancy_pattern.proofs.PatternLaws.Source.Names.{short_read, short_reads}
use Rattle.fancy_pattern.proofs.PatternLaws.Source.Rows.{IsFree, any, alpha_digit, blanks, controls, tab_blank, posix}
use Rattle.fancy_pattern.proofs.PatternLaws.Source.Rows.{word_set}
use Rattle.fancy_pattern.proofs.PatternLaws.Source.Rows.{set_read, graph, print, turned_graph, turned_print, free_of}
use Rattle.fancy_pattern.proofs.PatternLaws.Source.Rows.{lower_free, lower_twice, without_caret_free}
use Rattle.fancy_pattern.proofs.PatternLaws.Source.Escapes.{IsNameFree, name_free, hex_items, letter_kept}
use Rattle.fancy_pattern.proofs.PatternLaws.Source.Classes.{ClassSource, class_source_of}
use Rattle.fancy_pattern.proofs.PatternLaws.Source.Alone.{class_source, escape_source}
use Rattle.fancy_pattern.proofs.PatternLaws.Source.Names.{negated_letter, property_written}

-- ---- a single part

-- a text that is one part has its source
alone : (u τ : Bool) (x s : Text) → Reads u false τ x s → source u x ≡ s
alone u τ x s r =
    ap (source u) (sym (append-nil x)) ∙ (r.is [] ∙ (ap (λ z. s ++ z) (source_ends u τ) ∙ append-nil s))

-- the same, if UNICODE is known
alone_under : (f : Flags) (u τ : Bool) (x s : Text) → f.unicode ≡ u → Reads u false τ x s → source f.unicode x ≡ s
alone_under f u τ x s same r = ap (λ b. source b x) same ∙ alone u τ x s r

like_unicode : (f g : Flags) → IsLike f g → g.unicode ≡ f.unicode
like_unicode f g like = ap (λ k. k.unicode) like

-- ---- escapes of one letter

abbrev ReadsLetter : ℕ → Type 0
ReadsLetter c = (g : Flags) (v : Text) → escape g false (c ∷ v) ≡ gives (leaves.delegate (code "\\" ∷ c ∷ []) g.casei) v

reads_letter : Each ReadsLetter (codes "dDsSwW")
unfolding escape_at lone_escape
reads_letter =
    also (λ g v. refl) (also (λ g v. refl) (also (λ g v. refl)
    (also (λ g v. refl) (also (λ g v. refl) (also (λ g v. refl)
    no_more)))))

-- `\d`, `\D`, `\s`, `\S`, `\w`, `\W`
letters_have_source : (f : Flags) (c : ℕ) (casei : Bool) → c ∈ "dDsSwW" ≡ true → HasSource f (code "\\" ∷ c ∷ []) casei
letters_have_source f c casei h =
    escape_source (code "\\" ∷ c ∷ []) refl f (c ∷ []) casei
    (alone f.unicode false _ _ (kept_read f.unicode false c (letter_kept c h)))
    (λ g like v. each_among ReadsLetter (codes "dDsSwW") c reads_letter h g v)

-- ---- sets

module _ (u : Bool) (items s : Text) (i : SetItems u false items s) (g : Flags) (like : g.unicode ≡ u) (v : Text) where
  set_is_read : class g ((s ++ codes "]") ++ v) ≡ gives (code "[" ∷ (items ++ codes "]")) v
  set_is_read =
      ap (class g) (append_assoc s (codes "]") v)
      ∙ class_complete g (s ++ code "]" ∷ v) _
      (class_items (open_plain _ (i.no_caret (code "]" ∷ v)) (i.no_close (code "]" ∷ v)))
      (closed_items u false items s i g like v))

  negated_is_read : class g (code "^" ∷ ((s ++ codes "]") ++ v)) ≡ gives (codes "[^" ++ (items ++ codes "]")) v
  negated_is_read =
      ap (λ z. class g (code "^" ∷ z)) (append_assoc s (codes "]") v)
      ∙ class_complete g (code "^" ∷ (s ++ code "]" ∷ v)) _
      (class_items (open_caret _ (i.no_close (code "]" ∷ v))) (closed_items u false items s i g like v))

-- ---- `\h` and `\H`

hex_escape : (f : Flags) (v : Text) → escape f false (code "h" ∷ v) ≡ gives (leaves.delegate hex_class false) v
unfolding escape_at lone_escape
hex_escape f v = refl

negated_hex_escape : (f : Flags) (v : Text) →
    escape f false (code "H" ∷ v) ≡ gives (leaves.delegate negated_hex_class false) v
unfolding escape_at lone_escape
negated_hex_escape f v = refl

-- as classes, if the case flag is as required
hex_as_class : (g : Flags) (casei : Bool) → g.casei ≡ casei → IsSource g hex_class casei (source g.unicode hex_class)
hex_as_class g casei e =
    let w = codes "0-9A-Fa-f" in
    let i = hex_items g.unicode false in
    subst (IsSource g hex_class casei)
    (sym (alone g.unicode false hex_class hex_class (bracket_read g.unicode false w w i)))
    (a_class e (λ v. set_is_read g.unicode w w i g refl v))

negated_hex_as_class : (g : Flags) (casei : Bool) → g.casei ≡ casei →
    IsSource g negated_hex_class casei (source g.unicode negated_hex_class)
negated_hex_as_class g casei e =
    let w = codes "0-9A-Fa-f" in
    let i = hex_items g.unicode false in
    subst (IsSource g negated_hex_class casei)
    (sym (alone g.unicode false negated_hex_class negated_hex_class (negated_read g.unicode false w w i)))
    (a_class e (λ v. negated_is_read g.unicode w w i g refl v))

-- whether the flag is on while the case is kept, as the text tests it
kept_on : (b : Bool) → ((b && true) && true) ≡ b
kept_on b = and-true (b && true) ∙ and-true b

kept_off : (b z : Bool) → ((b && false) && z) ≡ false
kept_off true z = refl
kept_off false z = refl

pub hex_has_source : (f : Flags) (casei : Bool) → HasSource f hex_class casei
hex_has_source f true g like none =
    let e : g.casei ≡ true = sym (ap (λ k. k.casei) none) in
    subst (IsSource g hex_class true)
    (sym (cond-false _ _ _ (kept_off g.casei true) ∙ cond-false _ _ _ (kept_off g.casei false)))
    (hex_as_class g true e)
hex_has_source f false g like none =
    cond_both ((g.casei && true) && true) _ _ (IsSource g hex_class false)
    (λ e. an_escape (λ v. hex_escape g v))
    (λ e. subst (IsSource g hex_class false) (sym (cond-false _ _ _ (and-false (g.casei && true))))
    (hex_as_class g false (sym (kept_on g.casei) ∙ e)))

pub negated_hex_has_source : (f : Flags) (casei : Bool) → HasSource f negated_hex_class casei
negated_hex_has_source f true g like none =
    let e : g.casei ≡ true = sym (ap (λ k. k.casei) none) in
    subst (IsSource g negated_hex_class true)
    (sym (cond-false _ _ _ (kept_off g.casei false) ∙ cond-false _ _ _ (kept_off g.casei true)))
    (negated_hex_as_class g true e)
negated_hex_has_source f false g like none =
    subst (IsSource g negated_hex_class false) (sym (cond-false _ _ _ (and-false (g.casei && true))))
    (cond_both ((g.casei && true) && true) _ _ (IsSource g negated_hex_class false)
    (λ e. an_escape (λ v. negated_hex_escape g v))
    (λ e. negated_hex_as_class g false (sym (kept_on g.casei) ∙ e)))

-- ---- classes

-- a class, in its own text
pub class_has_source : (f g : Flags) (t v s : Text) → f.unicode ≡ g.unicode → class g t ≡ gives s v → (casei : Bool) →
    HasSource f s casei
class_has_source f g t v s same e casei =
    let (a, h) = subst (OuterClass g t) e (class_reads g t) in
    by_hex (is_hex_class s) refl
    (subst (λ u. ClassSource u false s a) (sym same) (class_source_of (read_class h) false (λ e. absurd cc)))
  where
    by_hex : (b : Bool) {m : Bool} → is_hex_class s ≡ b → ClassSource f.unicode false s m → HasSource f s casei
    by_hex true hex c =
        ⊎_elim
        (λ e. subst (λ x. HasSource f x casei) (sym ((bytes_eq-Decides s hex_class).0 e)) (hex_has_source f casei))
        (λ e. subst (λ x. HasSource f x casei) (sym ((bytes_eq-Decides s negated_hex_class).0 e))
        (negated_hex_has_source f casei))
        (or_cases (bytes_eq s hex_class) (bytes_eq s negated_hex_class) hex)
    by_hex false hex c =
        class_source s hex f c.tail casei
        (ap (source f.unicode) (sym (append-nil s)) ∙ (c.is []
        ∙ (ap (λ z. (code "[" ∷ c.tail) ++ z) (source_ends f.unicode c.after) ∙ append-nil (code "[" ∷ c.tail))))
        (λ g like. ap (class g) (sym (append-nil c.tail))
        ∙ class_complete g (c.tail ++ []) _ (c.reads g (like_unicode f g like) []))

-- ---- properties

set_has_source : (f : Flags) (u negated casei : Bool) (items s : Text) → f.unicode ≡ u → SetItems u false items s →
    is_hex_class (codes "[" ++ (items ++ codes "]")) ≡ false →
    is_hex_class (codes "[^" ++ (items ++ codes "]")) ≡ false →
    HasSource f (form_text false negated (set items)) casei
set_has_source f u false casei items s same i h k =
    class_source (code "[" ∷ (items ++ codes "]")) h f (s ++ codes "]") casei
    (alone_under f u false _ _ same (bracket_read u false items s i))
    (λ g like. ap (class g) (sym (append-nil (s ++ codes "]")))
    ∙ set_is_read u items s i g (like_unicode f g like ∙ same) [])
set_has_source f u true casei items s same i h k =
    class_source (codes "[^" ++ (items ++ codes "]")) k f (code "^" ∷ (s ++ codes "]")) casei
    (alone_under f u false _ _ same (negated_read u false items s i))
    (λ g like. ap (λ z. class g (code "^" ∷ z)) (sym (append-nil (s ++ codes "]")))
    ∙ negated_is_read u items s i g (like_unicode f g like ∙ same) [])

rowless_has_source : (f : Flags) (negated : Bool) (w : Text) (casei : Bool) → IsRowless w →
    HasSource f (property_written negated w) casei
rowless_has_source f negated w casei h =
    escape_source (property_written negated w) (no_hex negated) f (property_body negated (strip (code "^") w) w) casei
    (alone f.unicode false _ _ (rowless_read f.unicode false negated w h))
    (λ g like v. rowless_reads g false negated w v h)
  where
    no_hex : (negated : Bool) → is_hex_class (property_written negated w) ≡ false
    no_hex true = refl
    no_hex false = refl

short_has_source : (f : Flags) (negated : Bool) (c : ℕ) (casei : Bool) → (c == code "{") ≡ false →
    HasSource f (letter negated ++ (c ∷ [])) casei
short_has_source f true c casei h =
    escape_source (codes "\\P" ++ c ∷ []) refl f (code "P" ∷ c ∷ []) casei
    (alone f.unicode false _ _ (short_read f.unicode false true c h)) (λ g like v. short_reads g false true c v h)
short_has_source f false c casei h =
    escape_source (codes "\\p" ++ c ∷ []) refl f (code "p" ∷ c ∷ []) casei
    (alone f.unicode false _ _ (short_read f.unicode false false c h)) (λ g like v. short_reads g false false c v h)

-- what the escape of a row is written as
table_has_source : (f : Flags) (negated τ : Bool) (name s : Text) (casei : Bool) → f.unicode ≡ true → HasNoBrace name →
    property_text true false (prop negated (braced name)) ≡ s → is_hex_class s ≡ false →
    Reads true false τ s (code "\\" ∷ negated_letter negated ∷ code "{" ∷ (name ++ codes "}")) → HasSource f s casei
table_has_source f negated τ name s casei same free is hex r =
    escape_source s hex f (negated_letter negated ∷ code "{" ∷ (name ++ codes "}")) casei
    (alone_under f true τ s _ same r)
    (λ g like v. ap (λ q. escape g false (negated_letter negated ∷ code "{" ∷ q)) (append_assoc name (codes "}") v)
    ∙ (named_reads g true false negated name v (like_unicode f g like ∙ same) free
    ∙ ap (λ x. gives (leaves.delegate x g.casei) v) is))

module _ (f : Flags) (negated : Bool) (l : Text) (casei : Bool) (free : HasNoBrace l) (lower : lowercase l ≡ l) where
  pair_has_source : (x y : Text) → HasSource f x casei → HasSource f y casei →
      HasSource f (form_text false negated (pair x y)) casei
  pair_has_source x y h k = by_sign negated
    where
      by_sign : (negated : Bool) → HasSource f (form_text false negated (pair x y)) casei
      by_sign true = k
      by_sign false = h

  any_has_source : HasSource f (form_text false negated (pair (codes "\\P{any}") (codes "\\p{any}"))) casei
  any_has_source =
      pair_has_source (codes "\\P{any}") (codes "\\p{any}") (rowless_has_source f true (codes "any") casei any)
      (rowless_has_source f false (codes "any") casei any)

  other_has_source : bytes_eq l (codes "alnum") ≡ false → bytes_eq l (codes "blank") ≡ false →
      bytes_eq l (codes "cntrl") ≡ false → bytes_eq l (codes "word") ≡ false → bytes_eq l (codes "graph") ≡ false →
      bytes_eq l (codes "print") ≡ false → bytes_eq l (codes "cs") ≡ false →
      HasSource f (form_text false negated (pair (property_written false l) (property_written true l))) casei
  other_has_source e1 e2 e3 e4 e5 e6 e7 =
      let h : IsRowless l
      = record { no_brace = free; lower = lower; other = λ u. rw (e1, e2, e3, e4, e5, e6, e7) refl } in
      pair_has_source (property_written false l) (property_written true l) (rowless_has_source f false l casei h)
      (rowless_has_source f true l casei h)

  graph_has_source : f.unicode ≡ true → HasSource f (codes "[^\\p{White_Space}\\p{C}]") casei
  unfolding property_text
  graph_has_source same =
      table_has_source f false true (codes "graph") _ casei same (free_of (codes "graph") refl) refl refl
      (set_read _ _ graph false)

  turned_graph_has_source : f.unicode ≡ true → HasSource f (codes "[\\p{White_Space}\\p{C}]") casei
  unfolding property_text
  turned_graph_has_source same =
      table_has_source f true false (codes "graph") _ casei same (free_of (codes "graph") refl) refl refl
      (turned_graph false)

  print_has_source : f.unicode ≡ true → HasSource f (codes "[^\\p{C}\\t\\n\\v\\f\\r]") casei
  unfolding property_text
  print_has_source same =
      table_has_source f false true (codes "print") _ casei same (free_of (codes "print") refl) refl refl
      (set_read _ _ print false)

  turned_print_has_source : f.unicode ≡ true → HasSource f (codes "[\\p{C}\\t\\n\\v\\f\\r]") casei
  unfolding property_text
  turned_print_has_source same =
      table_has_source f true false (codes "print") _ casei same (free_of (codes "print") refl) refl refl
      (turned_print false)

  abbrev HasFormSource : Bool → Type 0
  HasFormSource u = HasSource f (form_text false negated (form u (look_up l) l)) casei

  form_has_source : (u : Bool) → f.unicode ≡ u → HasFormSource u
  form_has_source true same =
      cond_both (bytes_eq l (codes "alnum")) _ _ (λ k. HasSource f (form_text false negated (form true k l)) casei)
      (λ _. set_has_source f true negated casei _ _ same (alpha_digit false) refl refl)
      (λ e1. cond_both (bytes_eq l (codes "blank")) _ _
      (λ k. HasSource f (form_text false negated (form true k l)) casei)
      (λ _. set_has_source f true negated casei _ _ same (blanks false) refl refl)
      (λ e2. cond_both (bytes_eq l (codes "cntrl")) _ _
      (λ k. HasSource f (form_text false negated (form true k l)) casei)
      (λ _. set_has_source f true negated casei _ _ same (controls false) refl refl)
      (λ e3. cond_both (bytes_eq l (codes "word")) _ _
      (λ k. HasSource f (form_text false negated (form true k l)) casei)
      (λ _. pair_has_source (codes "\\w") (codes "\\W") (letters_have_source f (code "w") casei refl)
      (letters_have_source f (code "W") casei refl))
      (λ e4. cond_both (bytes_eq l (codes "graph")) _ _
      (λ k. HasSource f (form_text false negated (form true k l)) casei)
      (λ _. pair_has_source (codes "[^\\p{White_Space}\\p{C}]") (codes "[\\p{White_Space}\\p{C}]")
      (graph_has_source same) (turned_graph_has_source same))
      (λ e5. cond_both (bytes_eq l (codes "print")) _ _
      (λ k. HasSource f (form_text false negated (form true k l)) casei)
      (λ _. pair_has_source (codes "[^\\p{C}\\t\\n\\v\\f\\r]") (codes "[\\p{C}\\t\\n\\v\\f\\r]")
      (print_has_source same) (turned_print_has_source same))
      (λ e6. cond_both (bytes_eq l (codes "cs")) _ _ (λ k. HasSource f (form_text false negated (form true k l)) casei)
      (λ _. any_has_source) (λ e7. other_has_source e1 e2 e3 e4 e5 e6 e7)))))))
  form_has_source false same =
      cond_both (bytes_eq l (codes "alnum")) _ _ (λ k. HasSource f (form_text false negated (form false k l)) casei)
      (λ _. set_has_source f false negated casei _ _ same (posix false false (codes "alnum:") refl) refl refl)
      (λ e1. cond_both (bytes_eq l (codes "blank")) _ _
      (λ k. HasSource f (form_text false negated (form false k l)) casei)
      (λ _. set_has_source f false negated casei _ _ same (tab_blank false) refl refl)
      (λ e2. cond_both (bytes_eq l (codes "cntrl")) _ _
      (λ k. HasSource f (form_text false negated (form false k l)) casei)
      (λ _. set_has_source f false negated casei _ _ same (posix false false (codes "cntrl:") refl) refl refl)
      (λ e3. cond_both (bytes_eq l (codes "word")) _ _
      (λ k. HasSource f (form_text false negated (form false k l)) casei)
      (λ _. set_has_source f false negated casei _ _ same (word_set false false) refl refl)
      (λ e4. cond_both (bytes_eq l (codes "graph")) _ _
      (λ k. HasSource f (form_text false negated (form false k l)) casei)
      (λ _. set_has_source f false negated casei _ _ same (posix false false (codes "graph:") refl) refl refl)
      (λ e5. cond_both (bytes_eq l (codes "print")) _ _
      (λ k. HasSource f (form_text false negated (form false k l)) casei)
      (λ _. set_has_source f false negated casei _ _ same (posix false false (codes "print:") refl) refl refl)
      (λ e6. cond_both (bytes_eq l (codes "cs")) _ _ (λ k. HasSource f (form_text false negated (form false k l)) casei)
      (λ _. any_has_source) (λ e7. other_has_source e1 e2 e3 e4 e5 e6 e7)))))))

-- a property, outside a class
property_has_source : (f : Flags) (u negated : Bool) (name : PropertyName) (casei : Bool) → f.unicode ≡ u →
    IsFree name → HasSource f (property_text u false (prop negated name)) casei
unfolding property_text
property_has_source f u negated (single c) casei same h = short_has_source f negated c casei h
property_has_source f u negated (braced w) casei same h =
    let p = without_caret negated w in
    form_has_source f p.0 (lowercase p.1) casei (lower_free p.1 (without_caret_free negated w h)) (lower_twice p.1) u same

-- ---- escapes

-- read under g, which has UNICODE exactly if f has it
module _ (f g : Flags) (same : f.unicode ≡ g.unicode) where
  -- a Delegate has a source
  abbrev Sourced : Escape → Type 0
  Sourced (leaves.delegate s casei) = HasSource f s casei
  Sourced _ = Unit {0}

  abbrev SourcedRead : Reading Escape → Type 0
  SourcedRead (gives e t) = Sourced e
  SourcedRead (fails x) = Unit {0}

  sourced_then : {A : Type 0} (o : Reading A) (k : A → Text → Reading Escape) →
      ((a : A) (t : Text) → SourcedRead (k a t)) →
      SourcedRead (o >=> k)
  sourced_then (gives a t) k h = h a t
  sourced_then (fails e) k h = tt

  reference_sourced : (o : Reading Reference) → SourcedRead (backref_leaf g o)
  reference_sourced o = sourced_then o _ (λ r u. tt)

  number_sourced : (p : ℕ) (t : Text) → SourcedRead (number_escape g false p t)
  unfolding number_escape
  number_sourced p t = reference_sourced (numbered_reference t)

  call_sourced : (p c : ℕ) (t : Text) → SourcedRead (call_escape p c t)
  unfolding call_escape
  call_sourced p c [] = tt
  call_sourced p c (d ∷ t) = sourced_then (subroutine_call (d ∷ t)) _ (λ r u. tt)

  coded_sourced : (width h v : ℕ) (t : Text) → SourcedRead (leaf_of_value g width h v t)
  unfolding leaf_of_value
  coded_sourced width h v t =
      cond_both (width == 2 && not g.unicode && nat_le 0x80 v && nat_le v 0xFF) _ _ SourcedRead (λ _. tt)
      (λ _. cond_both (is_scalar v) _ _ SourcedRead (λ _. tt) (λ _. tt))

  hex_sourced : (width : ℕ) (t : Text) → SourcedRead (hex g width t)
  unfolding hex
  hex_sourced width t =
      sourced_then (layout_reading (layout g.ignore_space t)) _
      (λ _ v. sourced_then (value g.ignore_space (reach_of v) width v) _ (λ a r. coded_sourced width (reach_of v) a r))

  property_sourced : (p c : ℕ) (t : Text) → SourcedRead (property g false p c t)
  unfolding property read_property
  property_sourced p c [] = tt
  property_sourced p c (d ∷ t) = from (name_at (d ∷ t)) (name_free (d ∷ t))
    where
      from : (o : Option (PropertyName × Text)) → IsNameFree o →
          SourcedRead (choose (option_map {T = PropertyName × Text} {U = Property × Text}
          (λ q. (prop (c ∈ "P") q.0, q.1)) o)
          (λ q. gives (leaves.delegate (property_text g.unicode false q.0) g.casei) q.1)
          (fails (property_not_closed p)))
      from None h = tt
      from (Some q) h = property_has_source f g.unicode (c ∈ "P") q.0 g.casei same h

  boundary_sourced : (p : ℕ) (negated : Bool) (t : Text) → SourcedRead (boundary_steps.boundary g.ignore_space p negated t)
  unfolding boundary_steps.boundary boundary_steps.named_boundary
  boundary_sourced p negated t =
      sourced_then (layout_reading (layout g.ignore_space t)) _
      (λ _ u. choose_both SourcedRead (strip (code "{") u) _ _
      (λ v _. sourced_then (layout_reading (layout g.ignore_space v)) _
      (λ _ w. cond_both (boundaries.at_count w) _ _ SourcedRead (λ _. tt) (λ _. braces v))) tt)
    where
      braces : (v : Text) → SourcedRead (boundary_steps.named_boundary g.ignore_space p negated v)
      braces v =
          sourced_then (boundary_steps.name g.ignore_space p _ v) _
          (λ w u. choose_both SourcedRead (boundaries.boundary_of_name negated w) _ _ (λ a _. tt) tt)

  outside_sourced : (p c : ℕ) (t : Text) → SourcedRead (outside g p c t)
  unfolding outside
  outside_sourced p c t =
      cond_both (c ∈ "k") _ _ SourcedRead (λ _. reference_sourced (back_reference t)) (λ _.
      cond_both (c ∈ "g") _ _ SourcedRead (λ _. call_sourced p c t) (λ _.
      cond_both (c ∈ "bB") _ _ SourcedRead (λ _. boundary_sourced p _ t) (λ _. tt)))

  lone_sourced : (c : ℕ) (e : Escape) → lone_escape g false c ≡ Some e → Sourced e
  lone_sourced c =
      of_lone Sourced g false c (λ _. tt)
      anywhere (search rules)
    where
      anywhere : AtRows Sourced c (lone_anywhere g c)
      anywhere = (
        λ h. letters_have_source f c g.casei h,
        (λ _. hex_has_source f false, (λ _. negated_hex_has_source f false, (search rules))),
      )

  escape_sourced : (t : Text) → SourcedRead (escape g false t)
  unfolding escape_at
  escape_sourced [] = tt
  escape_sourced (c ∷ t) =
      let p = reach_of (c ∷ t) + 1 in
      cond_both (is_ascii_digit c) _ _ SourcedRead (λ _. number_sourced p (c ∷ t)) (λ _.
      cond_both (c ∈ "x") _ _ SourcedRead (λ _. hex_sourced 2 t) (λ _.
      cond_both (c ∈ "u") _ _ SourcedRead (λ _. hex_sourced 4 t) (λ _.
      cond_both (c ∈ "U") _ _ SourcedRead (λ _. hex_sourced 8 t) (λ _.
      cond_both (c ∈ "pP") _ _ SourcedRead (λ _. property_sourced p c t) (λ _.
      choose_both SourcedRead (lone_escape g false c) _ _ (λ e q. lone_sourced c e q) (outside_sourced p c t))))))

-- what an escape outside a class gives
pub escape_has_source : (f g : Flags) (t v s : Text) (casei : Bool) → f.unicode ≡ g.unicode →
    escape g false t ≡ gives (leaves.delegate s casei) v → HasSource f s casei
escape_has_source f g t v s casei same e = subst (SourcedRead f g same) e (escape_sourced f g same t)

-- ---- the law

-- A Delegate that a reader gives, under flags that agree with these on UNICODE: an escape outside a class, or a class,
-- which has the case flag that holds.
pub data IsReadDelegate (f : Flags) (s : Text) (casei : Bool) : Type 0 where
  by_escape : (g : Flags) (t v : Text) → f.unicode ≡ g.unicode → escape g false t ≡ gives (leaves.delegate s casei) v →
      IsReadDelegate f s casei
  by_class : (g : Flags) (t v : Text) → f.unicode ≡ g.unicode → g.casei ≡ casei → class g t ≡ gives s v →
      IsReadDelegate f s casei

-- each of these has a source
pub sources_read : (f : Flags) (s : Text) (casei : Bool) → IsReadDelegate f s casei → HasSource f s casei
sources_read f s casei (by_escape g t v same e) = escape_has_source f g t v s casei same e
sources_read f s casei (by_class g t v same case e) = class_has_source f g t v s same e casei
