-- The facts of leaves and of nodes over one tree.
use Rattle.std.proofs.Common.{◌≡◌, ℕ, ◌*◌, ◌≤◌, ◌&&◌, Bool, true, false, nat_lt, Option, Some, inl, inr, refl, sym, ap, ◌∙◌, subst, arith, List, []}
use Rattle.std.specs.Prelude.{MatchOption}
use Rattle.std.proofs.lemmas.Bool.{false≢true}
use Rattle.std.proofs.lemmas.Bool.Decides.{nat_tests}
use Rattle.std.specs.Char.{len_utf8}
use Rattle.class_meaning.specs.CharacterSet.{has_character}
use Rattle.class_meaning.specs.ClassMeaning.{IsMeaningOf}
use Rattle.class_meaning.specs.EnginePattern.{engine_pattern}
use Rattle.class_meaning.specs.declared.character_set.CharacterSet.{CharacterSet}
use Rattle.class_meaning.specs.declared.class_text.ClassMeaning.TheVariants.{Characters, NotOneCharacter}
use Rattle.regex_class.specs.Ranges.{in_ranges, IsBounds, Range}
use Rattle.fancy_grammar.specs.Label as label
use Rattle.fancy_grammar.specs.Label.{Wrap}
use Rattle.fancy_grammar.specs.Tree.{Tree, leaf, over, row, any, literal, delegate}
use Rattle.fancy_grammar.specs.declared.kinds.LookAround.{LookAround}
use Rattle.pattern_matches.specs.Lengths.{min_length, max_length, turns_most}
use Rattle.pattern_matches.specs.Matches.{HasCharacter, IsOneOf}
use Rattle.pattern_matches.proofs.CharacterLemmas.{same_ranges}
use Rattle.pattern_facts.specs.Anchors as side
use Rattle.pattern_facts.specs.Anchors.{is_side, touches}
use Rattle.pattern_facts.specs.Bytes.{AreBytesOfOne, IsOneLong}
use Rattle.pattern_facts.specs.Known.{IsFactsOf, IsKnownAs, is_empty_leaf}
use Rattle.pattern_facts.specs.Lengths.{AreLengths}
use Rattle.pattern_facts.specs.declared.node_facts.Facts.{Facts}

-- ---- leaves

pub empty_leaf_known : (u : Bool) (t : Tree) (f : Facts) → is_empty_leaf t ≡ true → AreLengths 0 (Some 0) f.characters →
    AreLengths 0 (Some 0) f.bytes → f.is_anchored_at_start ≡ is_side side.front t →
    f.is_anchored_at_end ≡ is_side side.back t → IsKnownAs u t f
empty_leaf_known u (leaf label.empty) f h characters bytes at_start at_end = record {
  defined = tt;
  characters = characters;
  bytes = (0, Some 0, (refl, refl), bytes);
  start = at_start;
  end = at_end;
}
empty_leaf_known u (leaf (label.assertion a)) f h characters bytes at_start at_end = record {
  defined = tt;
  characters = characters;
  bytes = (0, Some 0, (refl, refl), bytes);
  start = at_start;
  end = at_end;
}
empty_leaf_known u (leaf l) f h characters bytes at_start at_end = absurd (false≢true h)
empty_leaf_known u (over w t) f h characters bytes at_start at_end = absurd (false≢true h)
empty_leaf_known u (row r ts) f h characters bytes at_start at_end = absurd (false≢true h)

-- the characters of a set, which are those of a node
abbrev pub Has : CharacterSet → ℕ → Type 0
Has set c = has_character set c ≡ true

same_bytes : (F G : ℕ → Type 0) (n m : ℕ) → ((c : ℕ) → F c → G c) → ((c : ℕ) → G c → F c) → AreBytesOfOne F n m →
    AreBytesOfOne G n m
same_bytes F G n m f g h = record {
  within = λ c k. h.within c (g c k);
  reached = elim h.reached [
    | inl k ↦ inl ((k.0.0, f k.0.0 k.0.1, k.0.2), (k.1.0, f k.1.0 k.1.1, k.1.2))
    | inr k ↦ inr (λ c l. k.0 c (g c l), k.1, k.2)
  ];
}

one_long : (u : Bool) (t : Tree) (set : CharacterSet) (n m : ℕ) → IsOneOf u t set.class.ranges.items →
    AreBytesOfOne (Has set) n m → IsOneLong u t n (Some m)
one_long u t set n m is h =
    same_bytes (Has set) (HasCharacter u t) n m
    (λ c k. record { ranges = set.class.ranges.items; reads = is; inside = k; scalar = set.characters c k })
    (λ c k. same_ranges u t set.class.ranges.items k.ranges is k.reads c k.scalar ∙ k.inside) h

-- what the facts are of a node that matches the characters of a set
pub record AreOfSet (set : CharacterSet) (f : Facts) : Type 0 where
  pub characters : AreLengths 1 (Some 1) f.characters
  pub bytes : (n : ℕ) × (m : ℕ) × AreBytesOfOne (Has set) n m × AreLengths n (Some m) f.bytes
  pub start : f.is_anchored_at_start ≡ false
  pub end : f.is_anchored_at_end ≡ false

pub set_known : (u : Bool) (t : Tree) (set : CharacterSet) (f : Facts) → AreOfSet set f →
    MatchOption (engine_pattern u t) (Characters set ≡ NotOneCharacter)
    (λ (config, text). IsMeaningOf config text (Characters set)) → IsKnownAs u t f
set_known u (leaf (label.any newline crlf)) set f h is = record {
  defined = (set.class.ranges.items, is);
  characters = h.characters;
  bytes = (h.bytes.0, Some h.bytes.1, one_long u (any newline crlf) set h.bytes.0 h.bytes.1 is h.bytes.2, h.bytes.3);
  start = h.start;
  end = h.end;
}
set_known u (leaf (label.literal text casei)) set f h is = record {
  defined = (set.class.ranges.items, is);
  characters = h.characters;
  bytes = (h.bytes.0, Some h.bytes.1, one_long u (literal text casei) set h.bytes.0 h.bytes.1 is h.bytes.2, h.bytes.3);
  start = h.start;
  end = h.end;
}
set_known u (leaf (label.delegate text casei)) set f h is = record {
  defined = (set.class.ranges.items, is);
  characters = h.characters;
  bytes = (h.bytes.0, Some h.bytes.1, one_long u (delegate text casei) set h.bytes.0 h.bytes.1 is h.bytes.2, h.bytes.3);
  start = h.start;
  end = h.end;
}
set_known u (leaf l) set f h is = let x = is in cc
set_known u (over w t) set f h is = let x = is in cc
set_known u (row r ts) set f h is = let x = is in cc

-- ---- the bytes of a set

len_rises : (c d : ℕ) → c ≤ d → len_utf8 c ≤ len_utf8 d
len_rises c d h = grind (arith, nat_tests)

pub bounds_bytes : (set : CharacterSet) (b : ℕ × ℕ) → IsBounds set.class.ranges.items b →
    AreBytesOfOne (Has set) (len_utf8 b.0) (len_utf8 b.1)
bounds_bytes set b h = record {
  within = λ c k. (len_rises b.0 c (h.between c k).0, len_rises c b.1 (h.between c k).1);
  reached = inl ((b.0, h.first, refl), (b.1, h.last, refl));
}

never : (c : ℕ) → in_ranges [] c ≡ true → ⊥
unfolding in_ranges
never c e = false≢true e

none_inside : (rs : List Range) → rs ≡ [] → (c : ℕ) → in_ranges rs c ≡ true → ⊥
none_inside rs is c h = never c (subst (λ xs. in_ranges xs c ≡ true) is h)

pub no_bytes : (set : CharacterSet) → set.class.ranges.items ≡ [] → AreBytesOfOne (Has set) 1 1
no_bytes set is = record {
  within = λ c k. absurd (none_inside set.class.ranges.items is c k);
  reached = inr (λ c k. none_inside set.class.ranges.items is c k, refl, refl);
}

-- ---- nodes over one tree

pub group_known : (u : Bool) (t : Tree) (w : Wrap) (o : Option Facts) (f : Facts) → w ≡ label.group → o ≡ Some f →
    IsFactsOf u t o → IsKnownAs u (over w t) f
group_known u t w o f is some h =
    let k : IsKnownAs u t f = subst (IsFactsOf u t) some h in
    subst (λ x. IsKnownAs u (over x t) f) (sym is) (record {
      defined = (tt, k.defined);
      characters = k.characters;
      bytes = (k.bytes.0, k.bytes.1, (k.bytes.0, k.bytes.1, k.bytes.2, refl, refl), k.bytes.3);
      start = k.start;
      end = k.end;
    })

pub look_known : (u : Bool) (t : Tree) (w : Wrap) (l : LookAround) (o : Option Facts) (f put : Facts) →
    w ≡ label.look_around l → o ≡ Some f → AreLengths 0 (Some 0) put.characters → AreLengths 0 (Some 0) put.bytes →
    put.is_anchored_at_start ≡ (touches side.front l && f.is_anchored_at_start) →
    put.is_anchored_at_end ≡ (touches side.back l && f.is_anchored_at_end) → IsFactsOf u t o → IsKnownAs u (over w t) put
look_known u t w l o f put is some characters bytes at_start at_end h =
    let k : IsKnownAs u t f = subst (IsFactsOf u t) some h in
    subst (λ x. IsKnownAs u (over x t) put) (sym is) (record {
      defined = (tt, k.defined);
      characters = characters;
      bytes = (0, Some 0, (k.bytes.0, k.bytes.1, k.bytes.2, refl, refl), bytes);
      start = at_start ∙ ap (λ b. touches side.front l && b) k.start;
      end = at_end ∙ ap (λ b. touches side.back l && b) k.end;
    })

-- what the facts of a repeat are
pub record AreRepeated (lo hi : ℕ) (f put : Facts) : Type 0 where
  pub characters : (a : ℕ) (m : Option ℕ) → AreLengths a m f.characters →
      AreLengths (lo * a) (turns_most hi m) put.characters
  pub bytes : (a : ℕ) (m : Option ℕ) → AreLengths a m f.bytes → AreLengths (lo * a) (turns_most hi m) put.bytes
  pub start : put.is_anchored_at_start ≡ (nat_lt 0 lo && f.is_anchored_at_start)
  pub end : put.is_anchored_at_end ≡ (nat_lt 0 lo && f.is_anchored_at_end)

pub repeat_known : (u : Bool) (t : Tree) (w : Wrap) (lo hi : ℕ) (greedy : Bool) (o : Option Facts) (once put : Facts) →
    w ≡ label.repeat lo hi greedy → o ≡ Some once → lo ≤ hi → AreRepeated lo hi once put → IsFactsOf u t o →
    IsKnownAs u (over w t) put
repeat_known u t w lo hi greedy o once put is some low f h =
    let k : IsKnownAs u t once = subst (IsFactsOf u t) some h in
    subst (λ x. IsKnownAs u (over x t) put) (sym is) (record {
      defined = (low, k.defined);
      characters = f.characters (min_length t) (max_length t) k.characters;
      bytes = (
        lo * k.bytes.0,
        turns_most hi k.bytes.1,
        (k.bytes.0, k.bytes.1, k.bytes.2, refl, refl),
        f.bytes k.bytes.0 k.bytes.1 k.bytes.3,
      );
      start = f.start ∙ ap (λ b. nat_lt 0 lo && b) k.start;
      end = f.end ∙ ap (λ b. nat_lt 0 lo && b) k.end;
    })
