-- Parts of the text of a class, and their sources, which are read as these parts.
use Rattle.std.proofs.Common.{◌≡◌, ℕ, Bool, true, false, not, ◌&&◌, ◌||◌, ◌==◌, [], ◌∷◌, ◌++◌, codes, None}
use Rattle.std.proofs.Common.{refl, ap, ◌∙◌, sym, subst, append_assoc}
use Rattle.std.proofs.lemmas.Bool.{cond-false, or_parts, and_parts, not-true, false≢true}
use Rattle.std.specs.List.{list_all}
use Prim.Native.Char.{code}
use Rattle.fancy_lex.specs.Characters.{◌∈◌}
use Rattle.fancy_lex.specs.Class.{escape_in_class, escape_text, is_negated, joint, written, class_items}
use Rattle.fancy_lex.specs.Class.{ClassItems, close, plain, escaped, nested}
use Rattle.fancy_lex.specs.Escape.{escape}
use Rattle.fancy_lex.specs.Escaped as leaves
use Rattle.fancy_lex.specs.Escaped.{Escape}
use Rattle.fancy_lex.specs.Reading.{gives}
use Rattle.fancy_lex.specs.Text.{Text, strip}
use Rattle.fancy_lex.specs.declared.flags.Flags.{Flags}
use Rattle.fancy_grammar.specs.PatternLetters.{is_unseen}
use Rattle.fancy_grammar.specs.PatternSource.{part, part_at, source_from}
use Rattle.fancy_grammar.proofs.ReadBack.ChunkLemmas.{open_plain, open_caret}
use Rattle.fancy_pattern.proofs.PatternLaws.Source.Steps.{NoProperty, or_false, part_on, char_source}
use Rattle.fancy_pattern.proofs.PatternLaws.Source.Steps.{char_on, close_on, open_on, open_caret_on, CharSource, itself}
use Rattle.fancy_pattern.proofs.PatternLaws.Source.Steps.{by_escape, char_source_is}
use Rattle.fancy_pattern.proofs.PatternLaws.Source.Characters.{no_letter, unseen_plain, kept_escape}

-- a part of the text of a class; σ and τ say whether the source before it, and the source with it, has a negated set of
-- the rows: its source comes before that of what follows, and is read as the part
pub record Reads (u σ τ : Bool) (text source : Text) : Type 0 where
  pub is : (z : Text) → source_from u σ (text ++ z) ≡ source ++ source_from u τ z
  pub reads : (g : Flags) → g.unicode ≡ u → (v r w : Text) (a : Bool) → ClassItems g τ v (written w a r) →
      ClassItems g σ (source ++ v) (written (text ++ w) a r)

pub both_read : (u σ ρ τ : Bool) (t t' s s' : Text) → Reads u σ ρ t s → Reads u ρ τ t' s' →
    Reads u σ τ (t ++ t') (s ++ s')
both_read u σ ρ τ t t' s s' x y = record {
  is =
      λ z. ap (source_from u σ) (append_assoc t t' z) ∙ (x.is (t' ++ z) ∙ (ap (λ q. s ++ q) (y.is z)
      ∙ sym (append_assoc s s' (source_from u τ z))));
  reads =
      λ g like v r w a k. subst (λ q. ClassItems g σ q (written ((t ++ t') ++ w) a r)) (sym (append_assoc s s' v))
      (subst (λ q. ClassItems g σ (s ++ (s' ++ v)) (written q a r)) (sym (append_assoc t t' w))
      (x.reads g like (s' ++ v) r (t' ++ w) a (y.reads g like v r w a k)));
}

-- ---- characters

-- an escape, before other items
pub escape_item : (g : Flags) (σ τ : Bool) (t v r w : Text) (a : Bool) (e : Escape) (x : Text) →
    escape g true t ≡ gives e v → escape_in_class σ e ≡ x → (σ || is_negated e) ≡ τ →
    ClassItems g τ v (written w a r) → ClassItems g σ (code "\\" ∷ t) (written (x ++ w) a r)
escape_item g σ τ t v r w a e x q is n k =
    subst (λ z. ClassItems g σ (code "\\" ∷ t) (written (z ++ w) a r)) is
    (escaped q (subst (λ b. ClassItems g b v (written w a r)) (sym n) k))

-- an escape that is no negated set
pub alone : (σ : Bool) (e : Escape) → is_negated e ≡ false → escape_in_class σ e ≡ escape_text e
alone true e h = ap (λ b. joint b ++ escape_text e) h
alone false e h = refl

pub same_after : (σ : Bool) (e : Escape) → is_negated e ≡ false → (σ || is_negated e) ≡ σ
same_after σ e h = ap (λ b. σ || b) h ∙ or_false σ

pub char_items : (g : Flags) (σ : Bool) (c : ℕ) (v r w : Text) (a : Bool) → c ∈ "\\[]" ≡ false →
    ClassItems g σ v (written w a r) → ClassItems g σ (char_source c ++ v) (written (c ∷ w) a r)
char_items g σ c v r w a h k = from (char_source c) (char_source_is c)
  where
    from : (s : Text) → CharSource c s → ClassItems g σ (s ++ v) (written (c ∷ w) a r)
    from _ itself = plain (ap not h) k
    from _ (by_escape {after} hidden reads) =
        let (casei, q) = reads g in
        let (unescaped, no_metacharacter) = unseen_plain c hidden in
        escape_item g σ σ (after ++ v) v r w a (leaves.literal c casei) (c ∷ []) (q v)
        (alone σ (leaves.literal c casei) refl ∙ cond-false _ _ _ unescaped) (or_false σ) k

pub char_read : (u σ : Bool) (c : ℕ) → c ∈ "\\[]" ≡ false → (c == code "&") ≡ false →
    Reads u σ σ (c ∷ []) (char_source c)
char_read u σ c h k = record {
  is = λ z. char_on u σ c z h (λ e. absurd (false≢true (sym k ∙ e)));
  reads = λ g like v r w a m. char_items g σ c v r w a h m;
}

-- a visible character that is no `&`
abbrev pub is_shown : ℕ → Bool
is_shown c = not (c ∈ "\\[]") && (not (c == code "&") && not (is_unseen c))

pub shown_source : (c : ℕ) → is_unseen c ≡ false → char_source c ≡ c ∷ []
shown_source c h = rw (no_letter c h, h) refl

-- such characters
pub word_read : (u σ : Bool) (w : Text) → list_all is_shown w ≡ true → Reads u σ σ w w
word_read u σ [] h = record { is = λ z. refl; reads = λ g like v r w a k. k }
word_read u σ (c ∷ w) h =
    let (here, more) = and_parts (is_shown c) (list_all is_shown w) h in
    let (plain_here, seen_here) = and_parts (not (c ∈ "\\[]")) _ here in
    let (no_joint, no_code) = and_parts (not (c == code "&")) (not (is_unseen c)) seen_here in
    both_read u σ σ σ (c ∷ []) w (c ∷ []) w
    (subst (Reads u σ σ (c ∷ [])) (shown_source c (not-true (is_unseen c) no_code))
    (char_read u σ c (not-true (c ∈ "\\[]") plain_here) (not-true (c == code "&") no_joint)))
    (word_read u σ w more)

-- ---- escapes

-- an escape whose source is read as the escape
pub escape_read : (u σ τ : Bool) (x d : Text) →
    ((z : Text) → source_from u σ (x ++ z) ≡ code "\\" ∷ (d ++ source_from u τ z)) →
    ((g : Flags) → g.unicode ≡ u → (v : Text) → (e : Escape) × (escape g true (d ++ v) ≡ gives e v)
    × (escape_in_class σ e ≡ x) × ((σ || is_negated e) ≡ τ)) → Reads u σ τ x (code "\\" ∷ d)
escape_read u σ τ x d is reads = record {
  is = is;
  reads =
      λ g like v r w a k. let (e, q, text_is, n) = reads g like v in escape_item g σ τ (d ++ v) v r w a e x q text_is n k;
}

-- and is no negated set
pub single_read : (u σ : Bool) (x d : Text) →
    ((z : Text) → source_from u σ (x ++ z) ≡ code "\\" ∷ (d ++ source_from u σ z)) →
    ((g : Flags) → g.unicode ≡ u → (v : Text) → (e : Escape) × (escape g true (d ++ v) ≡ gives e v)
    × (escape_text e ≡ x) × (is_negated e ≡ false)) → Reads u σ σ x (code "\\" ∷ d)
single_read u σ x d is reads =
    escape_read u σ σ x d is
    (λ g like v. let (e, q, text_is, n) = reads g like v in (e, q, alone σ e n ∙ text_is, same_after σ e n))

escape_on : (u σ : Bool) (c : ℕ) (t : Text) → c ∈ "pPxt" ≡ false →
    source_from u σ (code "\\" ∷ c ∷ t) ≡ code "\\" ∷ c ∷ source_from u σ t
escape_on u σ c t h =
    let (p, h1) = or_parts (c == code "p") _ h in
    let (q, h2) = or_parts (c == code "P") _ h1 in
    let (x, y) = or_parts (c == code "x") _ h2 in
    part_on u σ (code "\\") (c ∷ t) (code "\\" ∷ c ∷ []) t (part_is u σ p q x y)
  where
    part_is : (u σ : Bool) → (c == code "p") ≡ false → (c == code "P") ≡ false → (c == code "x") ≡ false →
        (c == code "t") ≡ false → part_at u σ (code "\\") (c ∷ t) ≡ part (code "\\" ∷ c ∷ []) t
    part_is true true p q x y = rw (p, q, x) refl
    part_is true false p q x y = rw (p, q, x) refl
    part_is false true p q x y = rw (y, p, q) refl
    part_is false false p q x y = rw (y, p, q) refl

pub kept_read : (u σ : Bool) (c : ℕ) → c ∈ "dDsSwW\\.+*?()|[]{}^$#&-~" ≡ true →
    Reads u σ σ (code "\\" ∷ c ∷ []) (code "\\" ∷ c ∷ [])
kept_read u σ c h =
    let k = kept_escape c h in
    single_read u σ (code "\\" ∷ c ∷ []) (c ∷ []) (λ z. escape_on u σ c z k.no_row) (λ g like v. k.reads g v)

-- ---- sets

-- the items of a set; a bracket before their source opens a class
pub record SetItems (u σ : Bool) (items source : Text) : Type 0 where
  pub read : Reads u σ σ items source
  pub no_property : (z : Text) → NoProperty (items ++ z)
  pub no_caret_text : (z : Text) → strip (code "^") (items ++ z) ≡ None
  pub no_caret : (v : Text) → strip (code "^") (source ++ v) ≡ None
  pub no_close : (v : Text) → strip (code "]") (source ++ v) ≡ None

module _ (u σ : Bool) (items source : Text) (i : SetItems u σ items source) where
  set_closes : (z : Text) →
      source_from u σ (items ++ code "]" ∷ z) ≡ (source ++ codes "]") ++ source_from u σ z
  set_closes z =
      i.read.is (code "]" ∷ z) ∙ (ap (λ q. source ++ q) (close_on u σ z)
      ∙ sym (append_assoc source (codes "]") (source_from u σ z)))

  pub closed_items : (g : Flags) → g.unicode ≡ u → (v : Text) →
      ClassItems g σ (source ++ code "]" ∷ v) (written (items ++ codes "]") σ v)
  closed_items g like v = i.read.reads g like (code "]" ∷ v) v (codes "]") σ close

  pub bracket_read : Reads u σ σ (code "[" ∷ (items ++ codes "]")) (code "[" ∷ (source ++ codes "]"))
  bracket_read = record {
    is =
        λ z. ap (λ q. source_from u σ (code "[" ∷ q)) (append_assoc items (codes "]") z)
        ∙ (open_on u σ (items ++ code "]" ∷ z) (i.no_property (code "]" ∷ z)) (i.no_caret_text (code "]" ∷ z))
        ∙ ap (λ q. code "[" ∷ q) (set_closes z));
    reads =
        λ g like v r w a k.
        subst (λ q. ClassItems g σ (code "[" ∷ q) (written ((code "[" ∷ (items ++ codes "]")) ++ w) a r))
        (sym (append_assoc source (codes "]") v))
        (nested (class_items (open_plain _ (i.no_caret (code "]" ∷ v)) (i.no_close (code "]" ∷ v)))
        (closed_items g like v)) k);
  }

  pub negated_read : Reads u σ σ (codes "[^" ++ (items ++ codes "]")) (codes "[^" ++ (source ++ codes "]"))
  negated_read = record {
    is =
        λ z. ap (λ q. source_from u σ (codes "[^" ++ q)) (append_assoc items (codes "]") z)
        ∙ (open_caret_on u σ (items ++ code "]" ∷ z) (i.no_property (code "]" ∷ z))
        ∙ ap (λ q. codes "[^" ++ q) (set_closes z));
    reads =
        λ g like v r w a k.
        subst (λ q. ClassItems g σ (codes "[^" ++ q) (written ((codes "[^" ++ (items ++ codes "]")) ++ w) a r))
        (sym (append_assoc source (codes "]") v))
        (nested (class_items (open_caret _ (i.no_close (code "]" ∷ v))) (closed_items g like v)) k);
  }

  -- after `&&` or not
  pub joined_read : (n : Bool) →
      Reads u σ σ (joint n ++ (codes "[^" ++ (items ++ codes "]"))) (joint n ++ (codes "[^" ++ (source ++ codes "]")))
  joined_read false = negated_read
  joined_read true = record {
    is =
        λ z. char_on u σ (code "&") (codes "&[^" ++ ((items ++ codes "]") ++ z)) refl
        (λ _ _. let p = subst NoProperty (sym (append_assoc items (codes "]") z)) (i.no_property (codes "]" ++ z)) in
        record { space = p.space; control = p.control })
        ∙ ap (λ q. code "&" ∷ q) (char_on u σ (code "&") (codes "[^" ++ ((items ++ codes "]") ++ z)) refl
        (λ _ _. record { space = refl; control = refl })
        ∙ ap (λ q. code "&" ∷ q) (negated_read.is z));
    reads = λ g like v r w a k. plain refl (plain refl (negated_read.reads g like v r w a k));
  }
