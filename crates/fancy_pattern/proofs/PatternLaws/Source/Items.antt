-- What a class writes for a property, also by the rows of the table, is read as itself.
use Rattle.std.proofs.Common.{◌≡◌, ℕ, Bool, true, false, ◌&&◌, ◌||◌, ◌==◌, [], ◌∷◌, ◌++◌, codes, None}
use Rattle.std.proofs.Common.{refl, ap, ◌∙◌, sym, subst, append_assoc}
use Prim.Native.Char.{code}
use Rattle.fancy_lex.specs.Characters.{◌∈◌}
use Rattle.fancy_lex.specs.Class.{joint}
use Rattle.fancy_lex.specs.Escape.{escape}
use Rattle.fancy_lex.specs.Escaped as leaves
use Rattle.fancy_lex.specs.Property.{set, braced, letter, lowercase, form_text, property_text, is_negated_set}
use Rattle.fancy_lex.specs.Reading.{gives}
use Rattle.fancy_lex.specs.Text.{Text, strip}
use Rattle.fancy_grammar.specs.PatternSource.{part, part_at}
use Rattle.fancy_grammar.proofs.ReadBack.ChunkLemmas.{HasNoBrace, prop}
use Rattle.fancy_pattern.proofs.PatternLaws.Source.Steps.{NoProperty, NoSet, NoJoined, part_on}
use Rattle.fancy_pattern.proofs.PatternLaws.Source.Parts.{Reads, single_read, kept_read, SetItems, joined_read}
use Rattle.fancy_pattern.proofs.PatternLaws.Source.Names.{IsRowless, named_reads, rowless_read, short_read}
use Rattle.fancy_pattern.proofs.PatternLaws.Source.Names.{negated_letter, property_written, no_capital}

-- ---- an item of a class

-- how the text of an item begins; b says whether a negated set was written before it
pub record Front (b : Bool) (x : Text) : Type 0 where
  pub property : (z : Text) → NoProperty (x ++ z)
  pub set : b ≡ true → (z : Text) → NoSet (x ++ z)
  pub joined : b ≡ true → (z : Text) → NoJoined (x ++ z)
  pub no_caret : (z : Text) → strip (code "^") (x ++ z) ≡ None

-- its source cannot be read as part of the beginning of a class
pub record Opens (s : Text) : Type 0 where
  pub no_caret : (v : Text) → strip (code "^") (s ++ v) ≡ None
  pub no_close : (v : Text) → strip (code "]") (s ++ v) ≡ None

-- an item of a class that has a source, and whether it is a negated set
pub record InClass (u b σ n : Bool) (x : Text) : Type 0 where
  pub source : Text
  pub after : Bool
  pub reads : Reads u σ after x source
  pub below : after ≡ true → (b || n) ≡ true
  pub front : Front b x
  pub opens : Opens source

-- what is written for such a text
abbrev pub InText : Bool → Bool → Bool → Text → Type 0
InText u b σ t = InClass u b σ (is_negated_set t) (joint (b && is_negated_set t) ++ t)

-- the source before it has a negated set of the rows only if one was written
abbrev pub IsBelow : Bool → Bool → Type 0
IsBelow σ b = σ ≡ true → b ≡ true

pub in_by : (u b σ n : Bool) (x source : Text) → IsBelow σ b → Reads u σ σ x source → Front b x → Opens source →
    InClass u b σ n x
in_by u b σ n x source below reads front opens = record {
  source = source;
  after = σ;
  reads = reads;
  below = λ e. ap (λ b. b || n) (below e);
  front = front;
  opens = opens;
}

pub unjoined : (u b σ : Bool) (t : Text) → is_negated_set t ≡ false → InClass u b σ (is_negated_set t) t →
    InText u b σ t
unjoined u b σ t h i = subst (InClass u b σ (is_negated_set t)) (sym (none b)) i
  where
    none : (b : Bool) → joint (b && is_negated_set t) ++ t ≡ t
    none true = ap (λ n. joint n ++ t) h
    none false = refl

-- ---- how a text begins

pub front_escape : (b : Bool) (d : ℕ) (r : Text) → (d == code "p") ≡ false → Front b (code "\\" ∷ d ∷ r)
front_escape b d r h = record {
  property = λ z. record { space = rw h refl; control = rw h refl };
  set = λ e z. record { space = refl; control = refl };
  joined = λ e z. record { space = refl; control = refl };
  no_caret = λ z. refl;
}

pub front_short : (b : Bool) (c : ℕ) (r : Text) → (c == code "{") ≡ false → Front b (codes "\\p" ++ c ∷ r)
front_short b c r h = record {
  property = λ z. record { space = rw h refl; control = rw h refl };
  set = λ e z. record { space = refl; control = refl };
  joined = λ e z. record { space = refl; control = refl };
  no_caret = λ z. refl;
}

pub front_named : (b : Bool) (c : ℕ) (r : Text) → (c == code "W") ≡ false → (c == code "C") ≡ false →
    Front b (codes "\\p{" ++ c ∷ r)
front_named b c r h k = record {
  property = λ z. record { space = rw h refl; control = rw k refl };
  set = λ e z. record { space = refl; control = refl };
  joined = λ e z. record { space = refl; control = refl };
  no_caret = λ z. refl;
}

pub front_bracket : (b : Bool) (c : ℕ) (r : Text) → (c == code "^") ≡ false → Front b (code "[" ∷ c ∷ r)
front_bracket b c r h = record {
  property = λ z. record { space = refl; control = refl };
  set = λ e z. record { space = rw h refl; control = rw h refl };
  joined = λ e z. record { space = refl; control = refl };
  no_caret = λ z. refl;
}

pub front_char : (b : Bool) (c : ℕ) (r : Text) → (c == code "\\") ≡ false → (c == code "[") ≡ false →
    (c == code "&") ≡ false → (c == code "^") ≡ false → Front b (c ∷ r)
front_char b c r h k l m = record {
  property = λ z. record { space = rw h refl; control = rw h refl };
  set = λ e z. record { space = rw k refl; control = rw k refl };
  joined = λ e z. record { space = rw l refl; control = rw l refl };
  no_caret = λ z. rw m refl;
}

-- a negated set, after `&&` if one was written before
pub front_set : (b n : Bool) (r : Text) → ((z : Text) → NoProperty (r ++ z)) →
    Front b (joint (b && n) ++ (codes "[^" ++ r))
front_set true true r h = record {
  property = λ z. record { space = refl; control = refl };
  set = λ e z. record { space = refl; control = refl };
  joined = λ e z. record { space = refl; control = refl };
  no_caret = λ z. refl;
}
front_set true false r h = record {
  property = λ z. record { space = refl; control = refl };
  set = λ e z. record { space = (h z).space; control = (h z).control };
  joined = λ e z. record { space = refl; control = refl };
  no_caret = λ z. refl;
}
front_set false n r h = record {
  property = λ z. record { space = refl; control = refl };
  set = λ e z. absurd cc;
  joined = λ e z. absurd cc;
  no_caret = λ z. refl;
}

-- one of the rows
pub front_row : (b : Bool) (r : Text) → Front b (joint b ++ (codes "[^" ++ r))
front_row true r = record {
  property = λ z. record { space = refl; control = refl };
  set = λ e z. record { space = refl; control = refl };
  joined = λ e z. record { space = refl; control = refl };
  no_caret = λ z. refl;
}
front_row false r = record {
  property = λ z. record { space = refl; control = refl };
  set = λ e z. absurd cc;
  joined = λ e z. absurd cc;
  no_caret = λ z. refl;
}

pub opens_by : (c : ℕ) (r : Text) → (c == code "^") ≡ false → (c == code "]") ≡ false → Opens (c ∷ r)
opens_by c r h k = record { no_caret = λ v. rw h refl; no_close = λ v. rw k refl }

opens_joined : (n : Bool) (r : Text) → Opens (joint n ++ (codes "[^" ++ r))
opens_joined true r = opens_by (code "&") _ refl refl
opens_joined false r = opens_by (code "[") _ refl refl

-- ---- names

pub rowless_in : (u b σ negated : Bool) (w : Text) → IsBelow σ b → IsRowless w →
    InText u b σ (property_written negated w)
rowless_in u b σ negated w below h =
    unjoined u b σ (property_written negated w) (no_set negated)
    (in_by u b σ _ (property_written negated w) _ below (rowless_read u σ negated w h) (front negated w h.lower)
    (opens_by (code "\\") _ refl refl))
  where
    no_set : (negated : Bool) → is_negated_set (property_written negated w) ≡ false
    no_set true = refl
    no_set false = refl

    first_code : Text → ℕ
    first_code [] = 0
    first_code (d ∷ t) = d

    front : (negated : Bool) (w : Text) → lowercase w ≡ w → Front b (property_written negated w)
    front true w e = front_escape b (code "P") _ refl
    front false [] e = front_named b (code "}") [] refl refl
    front false (c ∷ w) e =
        let capital = no_capital c (ap first_code e) in front_named b c (w ++ codes "}") capital.1 capital.2

pub short_in : (u b σ negated : Bool) (c : ℕ) → IsBelow σ b → (c == code "{") ≡ false →
    InText u b σ (letter negated ++ (c ∷ []))
short_in u b σ true c below h =
    unjoined u b σ (codes "\\P" ++ c ∷ []) refl
    (in_by u b σ _ (codes "\\P" ++ c ∷ []) _ below (short_read u σ true c h)
    (front_escape b (code "P") _ refl) (opens_by (code "\\") _ refl refl))
short_in u b σ false c below h =
    unjoined u b σ (codes "\\p" ++ c ∷ []) refl
    (in_by u b σ _ (codes "\\p" ++ c ∷ []) _ below (short_read u σ false c h)
    (front_short b c [] h) (opens_by (code "\\") _ refl refl))

pub kept_in : (u b σ n : Bool) (c : ℕ) → IsBelow σ b → c ∈ "dDsSwW\\.+*?()|[]{}^$#&-~" ≡ true →
    (c == code "p") ≡ false → InClass u b σ n (code "\\" ∷ c ∷ [])
kept_in u b σ n c below h k =
    in_by u b σ n (code "\\" ∷ c ∷ []) _ below (kept_read u σ c h) (front_escape b c [] k)
    (opens_by (code "\\") _ refl refl)

-- ---- sets of the table

-- a set, or its negation
pub in_set : (u b σ negated : Bool) (items source : Text) → IsBelow σ b → SetItems u σ items source → Front b items →
    Opens source → is_negated_set items ≡ false → InText u b σ (form_text true negated (set items))
in_set u b σ false items source below i front opens h =
    unjoined u b σ items h (in_by u b σ _ items source below i.read front opens)
in_set u b σ true items source below i front opens h =
    let n = is_negated_set (codes "[^" ++ (items ++ codes "]")) in
    in_by u b σ n _ _ below (joined_read u σ items source i (b && n))
    (front_set b n (items ++ codes "]")
    (λ z. subst NoProperty (sym (append_assoc items (codes "]") z)) (i.no_property (codes "]" ++ z))))
    (opens_joined (b && n) (source ++ codes "]"))

-- items that are replaced by one escape
pub row_read : (u σ negated : Bool) (c : ℕ) (t name : Text) → HasNoBrace name →
    ((z : Text) → part_at u σ c (t ++ z)
    ≡ part (code "\\" ∷ negated_letter negated ∷ code "{" ∷ (name ++ codes "}")) z) →
    property_text u true (prop negated (braced name)) ≡ c ∷ t → is_negated_set (c ∷ t) ≡ false →
    Reads u σ σ (c ∷ t) (code "\\" ∷ negated_letter negated ∷ code "{" ∷ (name ++ codes "}"))
row_read u σ negated c t name free at is n =
    single_read u σ (c ∷ t) (negated_letter negated ∷ code "{" ∷ (name ++ codes "}"))
    (λ z. part_on u σ c (t ++ z) (code "\\" ∷ negated_letter negated ∷ code "{" ∷ (name ++ codes "}")) z (at z))
    (λ g like v. (
      leaves.delegate (c ∷ t) g.casei,
      ap (λ q. escape g true (negated_letter negated ∷ code "{" ∷ q)) (append_assoc name (codes "}") v)
          ∙ (named_reads g u true negated name v like free ∙ ap (λ s. gives (leaves.delegate s g.casei) v) is),
      refl,
      n,
    ))
