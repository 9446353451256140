-- The rows of the table of property names: what a class writes for each is read as itself.
use Rattle.std.proofs.Common.{◌≡◌, ℕ, Bool, true, false, not, ◌&&◌, ◌||◌, ◌==◌, [], ◌∷◌, ◌++◌, codes}
use Rattle.std.proofs.Common.{refl, ap, ◌∙◌, sym, subst, append_assoc, if◌then◌else◌, arith}
use Rattle.std.proofs.lemmas.Bool.{cond_both, and_parts, not-true}
use Rattle.std.proofs.lemmas.Bool.Decides.{nat_tests}
use Rattle.std.specs.Char.{to_ascii_lowercase}
use Rattle.std.specs.List.{list_all}
use Rattle.std.specs.Str.{bytes_eq}
use Prim.Native.Char.{code}
use Rattle.fancy_lex.specs.Characters.{◌∈◌}
use Rattle.fancy_lex.specs.Class.{joint, plain}
use Rattle.fancy_lex.specs.Escape.{escape}
use Rattle.fancy_lex.specs.Escaped as leaves
use Rattle.fancy_lex.specs.Property.{set, pair, PropertyName, single, braced, lowercase, look_up, without_caret, form}
use Rattle.fancy_lex.specs.Property.{form_text, property_text, is_negated_set}
use Rattle.fancy_lex.specs.Reading.{gives}
use Rattle.fancy_lex.specs.Text.{Text}
use Rattle.fancy_grammar.specs.PatternSource.{part, part_at, source_from}
use Rattle.fancy_pattern.proofs.SourceLemmas.{source_goes_on}
use Rattle.fancy_grammar.proofs.ReadBack.ChunkLemmas.{HasNoBrace, prop}
use Rattle.fancy_pattern.proofs.PatternLaws.Source.Steps.{char_on}
use Rattle.fancy_pattern.proofs.PatternLaws.Source.Parts.{Reads, both_read, word_read, is_shown, escape_read, SetItems}
use Rattle.fancy_pattern.proofs.PatternLaws.Source.Parts.{bracket_read}
use Rattle.fancy_pattern.proofs.PatternLaws.Source.Names.{IsRowless, named_reads, rowless_read}
use Rattle.fancy_pattern.proofs.PatternLaws.Source.Items.{InClass, InText, IsBelow, in_by, unjoined}
use Rattle.fancy_pattern.proofs.PatternLaws.Source.Items.{front_escape, front_named, front_bracket, front_char, front_row}
use Rattle.fancy_pattern.proofs.PatternLaws.Source.Items.{opens_by, rowless_in, short_in, kept_in, in_set, row_read}
use Rattle.fancy_pattern.proofs.PatternLaws.Source.Names.{property_written}

-- ---- names that are written out

pub free_of : (w : Text) → list_all (λ c. not (c == code "}")) w ≡ true → HasNoBrace w
free_of [] h = tt
free_of (c ∷ w) h =
    let (here, more) = and_parts (not (c == code "}")) (list_all (λ c. not (c == code "}")) w) h in
    (not-true (c == code "}") here, free_of w more)

alpha : IsRowless (codes "alpha")
alpha = record { no_brace = free_of (codes "alpha") refl; lower = refl; other = λ u. refl }

digit : IsRowless (codes "digit")
digit = record { no_brace = free_of (codes "digit") refl; lower = refl; other = λ u. refl }

pub any : IsRowless (codes "any")
any = record { no_brace = free_of (codes "any") refl; lower = refl; other = λ u. refl }

-- ---- sets

pub alpha_digit : (σ : Bool) → SetItems true σ (codes "\\p{alpha}\\p{digit}") (codes "\\p{alpha}\\p{digit}")
alpha_digit σ = record {
  read =
      both_read true σ σ σ (codes "\\p{alpha}") (codes "\\p{digit}") (codes "\\p{alpha}") (codes "\\p{digit}")
      (rowless_read true σ false (codes "alpha") alpha) (rowless_read true σ false (codes "digit") digit);
  no_property = λ z. record { space = refl; control = refl };
  no_caret_text = λ z. refl;
  no_caret = λ v. refl;
  no_close = λ v. refl;
}

pub blanks : (σ : Bool) → SetItems true σ (codes "\\p{Zs}\\x09") (codes "\\p{blank}")
unfolding property_text
blanks σ = record {
  read =
      row_read true σ false (code "\\") (codes "p{Zs}\\x09") (codes "blank") (free_of (codes "blank") refl) (at σ) refl
      refl;
  no_property = λ z. record { space = refl; control = refl };
  no_caret_text = λ z. refl;
  no_caret = λ v. refl;
  no_close = λ v. refl;
}
  where
    at : (σ : Bool) (z : Text) → part_at true σ (code "\\") (codes "p{Zs}\\x09" ++ z) ≡ part (codes "\\p{blank}") z
    at true z = refl
    at false z = refl

pub controls : (σ : Bool) → SetItems true σ (codes "\\x00-\\x1F\\x7F-\\x9F") (codes "\\p{cntrl}")
unfolding property_text
controls σ = record {
  read =
      row_read true σ false (code "\\") (codes "x00-\\x1F\\x7F-\\x9F") (codes "cntrl") (free_of (codes "cntrl") refl)
      (at σ) refl refl;
  no_property = λ z. record { space = refl; control = refl };
  no_caret_text = λ z. refl;
  no_caret = λ v. refl;
  no_close = λ v. refl;
}
  where
    at : (σ : Bool) (z : Text) →
        part_at true σ (code "\\") (codes "x00-\\x1F\\x7F-\\x9F" ++ z) ≡ part (codes "\\p{cntrl}") z
    at true z = refl
    at false z = refl

pub tab_blank : (σ : Bool) → SetItems false σ (codes "\\t ") (codes "\\p{blank}")
unfolding property_text
tab_blank σ = record {
  read =
      row_read false σ false (code "\\") (codes "t ") (codes "blank") (free_of (codes "blank") refl) (at σ) refl refl;
  no_property = λ z. record { space = refl; control = refl };
  no_caret_text = λ z. refl;
  no_caret = λ v. refl;
  no_close = λ v. refl;
}
  where
    at : (σ : Bool) (z : Text) → part_at false σ (code "\\") (codes "t " ++ z) ≡ part (codes "\\p{blank}") z
    at true z = refl
    at false z = refl

colons : (u σ : Bool) (w : Text) → list_all is_shown (code ":" ∷ w) ≡ true →
    SetItems u σ (code ":" ∷ w) (code ":" ∷ w)
colons u σ w h = record {
  read = word_read u σ (code ":" ∷ w) h;
  no_property = λ z. record { space = refl; control = refl };
  no_caret_text = λ z. refl;
  no_caret = λ v. refl;
  no_close = λ v. refl;
}

posix_read : (u σ : Bool) (w : Text) → list_all is_shown (code ":" ∷ w) ≡ true →
    Reads u σ σ (codes "[:" ++ (w ++ codes "]")) (codes "[:" ++ (w ++ codes "]"))
posix_read u σ w h = bracket_read u σ (code ":" ∷ w) (code ":" ∷ w) (colons u σ w h)

pub posix : (u σ : Bool) (w : Text) → list_all is_shown (code ":" ∷ w) ≡ true →
    SetItems u σ (codes "[:" ++ (w ++ codes "]")) (codes "[:" ++ (w ++ codes "]"))
posix u σ w h = record {
  read = posix_read u σ w h;
  no_property = λ z. record { space = refl; control = refl };
  no_caret_text = λ z. refl;
  no_caret = λ v. refl;
  no_close = λ v. refl;
}

pub word_set : (u σ : Bool) → SetItems u σ (codes "_[:alnum:]") (codes "_[:alnum:]")
word_set u σ = record {
  read =
      both_read u σ σ σ (codes "_") (codes "[:alnum:]") (codes "_") (codes "[:alnum:]")
      (word_read u σ (codes "_") refl) (posix_read u σ (codes "alnum:") refl);
  no_property = λ z. record { space = refl; control = refl };
  no_caret_text = λ z. refl;
  no_caret = λ v. refl;
  no_close = λ v. refl;
}

posix_in : (u b σ negated : Bool) (w : Text) → IsBelow σ b → list_all is_shown (code ":" ∷ w) ≡ true →
    InText u b σ (form_text true negated (set (codes "[:" ++ (w ++ codes "]"))))
posix_in u b σ negated w below h =
    in_set u b σ negated (codes "[:" ++ (w ++ codes "]")) _ below (posix u σ w h) (front_bracket b (code ":") _ refl)
    (opens_by (code "[") _ refl refl) refl

-- ---- negated sets that are replaced by one escape

joint_read : (u : Bool) → Reads u false false (codes "&&") (codes "&&")
joint_read u = record {
  is =
      λ z. char_on u false (code "&") (code "&" ∷ z) refl (λ _ e. absurd cc)
      ∙ ap (λ q. code "&" ∷ q) (char_on u false (code "&") z refl (λ _ e. absurd cc));
  reads = λ g like v r w a k. plain refl (plain refl k);
}

-- a row: the text of the set after its caret, and its name
pub record IsRow (t name : Text) : Type 0 where
  free : HasNoBrace name
  text : property_text true true (prop false (braced name)) ≡ codes "[^" ++ t
  negated : is_negated_set (codes "[^" ++ t) ≡ true
  at : (σ : Bool) (z : Text) → source_from true σ ((joint σ ++ (codes "[^" ++ t)) ++ z)
      ≡ (codes "\\p{" ++ (name ++ codes "}")) ++ source_from true true z

module _ (t name : Text) (row : IsRow t name) where
  pub set_read : (σ : Bool) → Reads true σ true (joint σ ++ (codes "[^" ++ t)) (codes "\\p{" ++ (name ++ codes "}"))
  set_read σ =
      escape_read true σ true (joint σ ++ (codes "[^" ++ t)) (codes "p{" ++ (name ++ codes "}")) (row.at σ)
      (λ g like v. (
        leaves.delegate (codes "[^" ++ t) g.casei,
        ap (λ q. escape g true (codes "p{" ++ q)) (append_assoc name (codes "}") v)
            ∙ (named_reads g true true false name v like row.free
            ∙ ap (λ s. gives (leaves.delegate s g.casei) v) row.text),
        text_is σ,
        after σ,
      ))
    where
      text_is : (σ : Bool) →
          joint (σ && is_negated_set (codes "[^" ++ t)) ++ (codes "[^" ++ t) ≡ joint σ ++ (codes "[^" ++ t)
      text_is true = ap (λ n. joint n ++ (codes "[^" ++ t)) row.negated
      text_is false = refl

      after : (σ : Bool) → (σ || is_negated_set (codes "[^" ++ t)) ≡ true
      after true = refl
      after false = row.negated

  row_in : (b σ : Bool) → IsBelow σ b → InText true b σ (codes "[^" ++ t)
  row_in b σ below =
      subst (InClass true b σ (is_negated_set (codes "[^" ++ t))) (sym (joint_is b)) (by b σ below)
    where
      joint_is : (b : Bool) →
          joint (b && is_negated_set (codes "[^" ++ t)) ++ (codes "[^" ++ t) ≡ joint b ++ (codes "[^" ++ t)
      joint_is true = ap (λ n. joint n ++ (codes "[^" ++ t)) row.negated
      joint_is false = refl

      by : (b σ : Bool) → IsBelow σ b →
          InClass true b σ (is_negated_set (codes "[^" ++ t)) (joint b ++ (codes "[^" ++ t))
      by true true below = record {
        source = codes "\\p{" ++ (name ++ codes "}");
        after = true;
        reads = set_read true;
        below = λ e. refl;
        front = front_row true t;
        opens = opens_by (code "\\") _ refl refl;
      }
      by true false below = record {
        source = codes "&&\\p{" ++ (name ++ codes "}");
        after = true;
        reads =
            both_read true false false true (codes "&&") (codes "[^" ++ t) (codes "&&") _ (joint_read true)
            (set_read false);
        below = λ e. refl;
        front = front_row true t;
        opens = opens_by (code "&") _ refl refl;
      }
      by false true below = let e = below refl in absurd cc
      by false false below = record {
        source = codes "\\p{" ++ (name ++ codes "}");
        after = true;
        reads = set_read false;
        below = λ e. row.negated;
        front = front_row false t;
        opens = opens_by (code "\\") _ refl refl;
      }

pub graph : IsRow (codes "\\p{White_Space}\\p{C}]") (codes "graph")
unfolding property_text
graph = record { free = free_of (codes "graph") refl; text = refl; negated = refl; at = at }
  where
    at : (σ : Bool) (z : Text) → source_from true σ ((joint σ ++ codes "[^\\p{White_Space}\\p{C}]") ++ z)
        ≡ codes "\\p{graph}" ++ source_from true true z
    at true z = source_goes_on true true (code "&") (codes "&[^\\p{White_Space}\\p{C}]" ++ z)
    at false z = source_goes_on true false (code "[") (codes "^\\p{White_Space}\\p{C}]" ++ z)

pub print : IsRow (codes "\\p{C}\\t\\n\\v\\f\\r]") (codes "print")
unfolding property_text
print = record { free = free_of (codes "print") refl; text = refl; negated = refl; at = at }
  where
    at : (σ : Bool) (z : Text) → source_from true σ ((joint σ ++ codes "[^\\p{C}\\t\\n\\v\\f\\r]") ++ z)
        ≡ codes "\\p{print}" ++ source_from true true z
    at true z = source_goes_on true true (code "&") (codes "&[^\\p{C}\\t\\n\\v\\f\\r]" ++ z)
    at false z = source_goes_on true false (code "[") (codes "^\\p{C}\\t\\n\\v\\f\\r]" ++ z)

-- and the inverses of these
pub turned_graph : (σ : Bool) → Reads true σ σ (codes "[\\p{White_Space}\\p{C}]") (codes "\\P{graph}")
unfolding property_text
turned_graph σ =
    row_read true σ true (code "[") (codes "\\p{White_Space}\\p{C}]") (codes "graph") (free_of (codes "graph") refl)
    (at σ) refl refl
  where
    at : (σ : Bool) (z : Text) →
        part_at true σ (code "[") (codes "\\p{White_Space}\\p{C}]" ++ z) ≡ part (codes "\\P{graph}") z
    at true z = refl
    at false z = refl

pub turned_print : (σ : Bool) → Reads true σ σ (codes "[\\p{C}\\t\\n\\v\\f\\r]") (codes "\\P{print}")
unfolding property_text
turned_print σ =
    row_read true σ true (code "[") (codes "\\p{C}\\t\\n\\v\\f\\r]") (codes "print") (free_of (codes "print") refl)
    (at σ) refl refl
  where
    at : (σ : Bool) (z : Text) →
        part_at true σ (code "[") (codes "\\p{C}\\t\\n\\v\\f\\r]" ++ z) ≡ part (codes "\\P{print}") z
    at true z = refl
    at false z = refl

turned_in : (b σ : Bool) (c : ℕ) (r source : Text) → IsBelow σ b → (c == code "^") ≡ false →
    is_negated_set (code "[" ∷ c ∷ r) ≡ false → Reads true σ σ (code "[" ∷ c ∷ r) (code "\\" ∷ source) →
    InText true b σ (code "[" ∷ c ∷ r)
turned_in b σ c r source below h n k =
    unjoined true b σ (code "[" ∷ c ∷ r) n
    (in_by true b σ _ (code "[" ∷ c ∷ r) _ below k (front_bracket b c r h) (opens_by (code "\\") _ refl refl))

-- ---- the table

-- P holds for the pairs of the table
pair_in : (u b σ negated : Bool) (x y : Text) → InText u b σ x → InText u b σ y →
    InText u b σ (form_text true negated (pair x y))
pair_in u b σ true x y h k = k
pair_in u b σ false x y h k = h

word_in : (u b σ : Bool) (c : ℕ) → IsBelow σ b → c ∈ "wW" ≡ true → InText u b σ (code "\\" ∷ c ∷ [])
word_in u b σ c below h =
    unjoined u b σ (code "\\" ∷ c ∷ []) refl
    (kept_in u b σ _ c below (grind (arith, nat_tests)) (grind (arith, nat_tests)))

module _ (b σ negated : Bool) (l : Text) (below : IsBelow σ b) (free : HasNoBrace l) (lower : lowercase l ≡ l) where
  any_in : (u : Bool) → InText u b σ (form_text true negated (pair (codes "\\P{any}") (codes "\\p{any}")))
  any_in u = pair_in u b σ negated (codes "\\P{any}") (codes "\\p{any}")
      (rowless_in u b σ true (codes "any") below any) (rowless_in u b σ false (codes "any") below any)

  other_in : (u : Bool) → bytes_eq l (codes "alnum") ≡ false → bytes_eq l (codes "blank") ≡ false →
      bytes_eq l (codes "cntrl") ≡ false → bytes_eq l (codes "word") ≡ false → bytes_eq l (codes "graph") ≡ false →
      bytes_eq l (codes "print") ≡ false → bytes_eq l (codes "cs") ≡ false →
      InText u b σ (form_text true negated (pair (property_written false l) (property_written true l)))
  other_in u e1 e2 e3 e4 e5 e6 e7 =
      let h : IsRowless l
      = record { no_brace = free; lower = lower; other = λ u. rw (e1, e2, e3, e4, e5, e6, e7) refl } in
      pair_in u b σ negated (property_written false l) (property_written true l) (rowless_in u b σ false l below h)
      (rowless_in u b σ true l below h)

  form_in : (u : Bool) → InText u b σ (form_text true negated (form u (look_up l) l))
  form_in true =
      cond_both (bytes_eq l (codes "alnum")) _ _ (λ k. InText true b σ (form_text true negated (form true k l)))
      (λ _. in_set true b σ negated _ _ below (alpha_digit σ) (front_named b (code "a") _ refl refl)
      (opens_by (code "\\") _ refl refl) refl)
      (λ e1. cond_both (bytes_eq l (codes "blank")) _ _ (λ k. InText true b σ (form_text true negated (form true k l)))
      (λ _. in_set true b σ negated _ _ below (blanks σ) (front_named b (code "Z") _ refl refl)
      (opens_by (code "\\") _ refl refl) refl)
      (λ e2. cond_both (bytes_eq l (codes "cntrl")) _ _ (λ k. InText true b σ (form_text true negated (form true k l)))
      (λ _. in_set true b σ negated _ _ below (controls σ) (front_escape b (code "x") _ refl)
      (opens_by (code "\\") _ refl refl) refl)
      (λ e3. cond_both (bytes_eq l (codes "word")) _ _ (λ k. InText true b σ (form_text true negated (form true k l)))
      (λ _. pair_in true b σ negated (codes "\\w") (codes "\\W") (word_in true b σ (code "w") below refl)
      (word_in true b σ (code "W") below refl))
      (λ e4. cond_both (bytes_eq l (codes "graph")) _ _ (λ k. InText true b σ (form_text true negated (form true k l)))
      (λ _. pair_in true b σ negated (codes "[^\\p{White_Space}\\p{C}]") (codes "[\\p{White_Space}\\p{C}]")
      (row_in _ _ graph b σ below) (turned_in b σ (code "\\") _ _ below refl refl (turned_graph σ)))
      (λ e5. cond_both (bytes_eq l (codes "print")) _ _ (λ k. InText true b σ (form_text true negated (form true k l)))
      (λ _. pair_in true b σ negated (codes "[^\\p{C}\\t\\n\\v\\f\\r]") (codes "[\\p{C}\\t\\n\\v\\f\\r]")
      (row_in _ _ print b σ below) (turned_in b σ (code "\\") _ _ below refl refl (turned_print σ)))
      (λ e6. cond_both (bytes_eq l (codes "cs")) _ _ (λ k. InText true b σ (form_text true negated (form true k l)))
      (λ _. any_in true) (λ e7. other_in true e1 e2 e3 e4 e5 e6 e7)))))))
  form_in false =
      cond_both (bytes_eq l (codes "alnum")) _ _ (λ k. InText false b σ (form_text true negated (form false k l)))
      (λ _. posix_in false b σ negated (codes "alnum:") below refl)
      (λ e1. cond_both (bytes_eq l (codes "blank")) _ _
      (λ k. InText false b σ (form_text true negated (form false k l)))
      (λ _. in_set false b σ negated _ _ below (tab_blank σ) (front_escape b (code "t") _ refl)
      (opens_by (code "\\") _ refl refl) refl)
      (λ e2. cond_both (bytes_eq l (codes "cntrl")) _ _
      (λ k. InText false b σ (form_text true negated (form false k l)))
      (λ _. posix_in false b σ negated (codes "cntrl:") below refl)
      (λ e3. cond_both (bytes_eq l (codes "word")) _ _ (λ k. InText false b σ (form_text true negated (form false k l)))
      (λ _. in_set false b σ negated _ _ below (word_set false σ) (front_char b (code "_") _ refl refl refl refl)
      (opens_by (code "_") _ refl refl) refl)
      (λ e4. cond_both (bytes_eq l (codes "graph")) _ _
      (λ k. InText false b σ (form_text true negated (form false k l)))
      (λ _. posix_in false b σ negated (codes "graph:") below refl)
      (λ e5. cond_both (bytes_eq l (codes "print")) _ _
      (λ k. InText false b σ (form_text true negated (form false k l)))
      (λ _. posix_in false b σ negated (codes "print:") below refl)
      (λ e6. cond_both (bytes_eq l (codes "cs")) _ _ (λ k. InText false b σ (form_text true negated (form false k l)))
      (λ _. any_in false) (λ e7. other_in false e1 e2 e3 e4 e5 e6 e7)))))))

-- ---- properties

-- a name that the reader gives: one character that opens no brace, or a name without a closing brace
abbrev pub IsFree : PropertyName → Type 0
IsFree (single c) = (c == code "{") ≡ false
IsFree (braced w) = HasNoBrace w

lower_brace : (c : ℕ) → (c == code "}") ≡ false → (to_ascii_lowercase c == code "}") ≡ false
lower_brace c h = grind (arith, nat_tests)

pub lower_free : (w : Text) → HasNoBrace w → HasNoBrace (lowercase w)
lower_free [] h = tt
lower_free (c ∷ w) h = (lower_brace c h.0, lower_free w h.1)

lower_same : (c : ℕ) → to_ascii_lowercase (to_ascii_lowercase c) ≡ to_ascii_lowercase c
lower_same c = grind (arith, nat_tests)

pub lower_twice : (w : Text) → lowercase (lowercase w) ≡ lowercase w
lower_twice [] = refl
lower_twice (c ∷ w) = rw (lower_same c, lower_twice w) refl

pub without_caret_free : (negated : Bool) (w : Text) → HasNoBrace w → HasNoBrace (without_caret negated w).1
without_caret_free negated [] h = tt
without_caret_free negated (c ∷ w) h = by_test (c == code "^")
  where
    by_test : (x : Bool) → HasNoBrace (if◌then◌else◌ {A = Bool × Text} x (not negated, w) (negated, c ∷ w)).1
    by_test true = h.1
    by_test false = h

-- what a class writes for a property
pub property_in : (u b σ negated : Bool) (name : PropertyName) → IsBelow σ b → IsFree name →
    InText u b σ (property_text u true (prop negated name))
unfolding property_text
property_in u b σ negated (single c) below h = short_in u b σ negated c below h
property_in u b σ negated (braced w) below h =
    let p = without_caret negated w in
    form_in b σ p.0 (lowercase p.1) below (lower_free p.1 (without_caret_free negated w h)) (lower_twice p.1) u
