-- What is read is a slice of the text, and the groups and references in it are in text order.
use Rattle.std.proofs.Common.{◌≡◌, ℕ, ◌+◌, ◌≤◌, ◌∷◌, [], ◌++◌, List, refl, sym, ap, ◌∙◌, subst, arith, Bool, Option}
use Rattle.std.proofs.Common.{Some, append_assoc, append-nil}
use Rattle.std.proofs.lemmas.Str.{len_utf8_bounds}
use Rattle.std.specs.List.{AllByRecursion}
use Rattle.fancy_lex.proofs.LeaveLaws.{lies_past}
use Rattle.fancy_lex.proofs.LayoutLaws.{layout_cut, layout_lies}
use Rattle.fancy_lex.proofs.TakeLaws.{Takes, takes_bytes}
use Rattle.fancy_lex.proofs.TextLemmas.{bytes-append, strip_is}
use Rattle.fancy_lex.specs.LayoutSteps.{layout, Skipped, rest, failed as open_comment}
use Rattle.fancy_lex.specs.Text.{Text, EndsWith, LiesIn, begins, bytes, past_end, reach_of, strip}
use Rattle.fancy_grammar.specs.Label.{AstReference}
use Rattle.fancy_grammar.specs.Items.{Item, opening, reference}
use Rattle.fancy_grammar.specs.Slices.{Slice}
use Rattle.fancy_grammar.specs.State.{skipped, State, Outcome, done, failed, and_then}
use Rattle.fancy_grammar.proofs.Ordered.{DescendingReaches, reach_of_item}

-- in a pattern that ends with t: the reach at which a suffix of t begins, or of one past the end
abbrev pub MayLie : Text → ℕ → Type 0
MayLie t p = LiesIn past_end t p

-- a slice lies between the start of t and the start of u, and the items in it are in text order
pub record ItemSpan (l : List Item) (t u : Text) : Type 0 where
  pub slice : Slice t u
  pub descends : DescendingReaches (reach_of t + 1) (reach_of u + 1) l
  pub may_lie : AllByRecursion (λ i. MayLie t (reach_of_item i)) l

-- P holds of what was read, or the error is where a suffix of the text that begins at s begins, or one past its end
abbrev pub Reads : {A : Type 0} → (A → State → Type 0) → State → Outcome A → Type 0
Reads P s (done a t) = P a t
Reads P s (failed e) = MayLie s.rest e.reach

-- ---- slices

pub current : (t : Text) → Slice t t
current t = record { word = []; cut = refl }

pub on : {t u v : Text} → Slice t u → Slice u v → Slice t v
on {v} a b = record {
  word = a.word ++ b.word;
  cut = a.cut ∙ ap (λ x. a.word ++ x) b.cut ∙ sym (append_assoc a.word b.word v);
}

pub fits : {t u : Text} → Slice t u → bytes u ≤ bytes t
fits {u} a = omega (arith, ap bytes a.cut, bytes-append a.word u)

pub one : (c : ℕ) (t : Text) → Slice (c ∷ t) t
one c t = record { word = c ∷ []; cut = refl }

pub one_bytes : (c : ℕ) (t : Text) → bytes t + 1 ≤ bytes (c ∷ t)
unfolding bytes
one_bytes c t = omega (arith, (len_utf8_bounds c).0)

pub strip_slice : (c : ℕ) (t u : Text) → strip c t ≡ Some u → Slice t u
strip_slice c t u e = record { word = c ∷ []; cut = strip_is c t u e }

pub strip_bytes : (c : ℕ) (t u : Text) → strip c t ≡ Some u → bytes u + 1 ≤ bytes t
strip_bytes c t u e = omega (arith, ap bytes (strip_is c t u e), one_bytes c u)

pub cut_slice : {t u : Text} → (w : Text) × (t ≡ w ++ u) → Slice t u
cut_slice (w, e) = record { word = w; cut = e }

pub to_ends : {t u : Text} → Slice t u → EndsWith t u
to_ends a = (a.word, a.cut)

-- ---- where an error is

pub lies_at : {t u : Text} → Slice t u → MayLie t (reach_of u)
lies_at {u} a = begins u (to_ends a) refl

pub lies_in : {p : ℕ} {t u : Text} → Slice t u → MayLie u p → MayLie t p
lies_in a h = lies_past (to_ends a) h

-- ---- items in a slice

pub raised : (a b low : ℕ) (l : List Item) → b ≤ a → DescendingReaches b low l → DescendingReaches a low l
raised a b low [] h i = omega (arith, h, i)
raised a b low (x ∷ l) h i = (omega (arith, h, i.0), i.1)

pub lowered : (high a b : ℕ) (l : List Item) → b ≤ a → DescendingReaches high a l → DescendingReaches high b l
lowered high a b [] h i = omega (arith, h, i)
lowered high a b (x ∷ l) h i = (i.0, lowered (reach_of_item x) a b l h i.1)

joined : (a b c : ℕ) (l m : List Item) → DescendingReaches a b l → DescendingReaches b c m →
    DescendingReaches a c (l ++ m)
joined a b c [] m h i = raised a b c m h i
joined a b c (x ∷ l) m h i = (h.0, joined (reach_of_item x) b c l m h.1 i)

joined_lie : {t u : Text} (l m : List Item) → Slice t u →
    AllByRecursion (λ i. MayLie t (reach_of_item i)) l → AllByRecursion (λ i. MayLie u (reach_of_item i)) m →
    AllByRecursion (λ i. MayLie t (reach_of_item i)) (l ++ m)
joined_lie [] [] a h k = tt
joined_lie [] (x ∷ m) a h k = (lies_in a k.0, joined_lie [] m a tt k.1)
joined_lie (x ∷ l) m a h k = (h.0, joined_lie l m a h.1 k)

-- a slice without items
pub bare : {t u : Text} → Slice t u → ItemSpan [] t u
bare a = record { slice = a; descends = omega (arith, fits a); may_lie = tt }

-- one part after another
pub then : {l m : List Item} {t u v : Text} → ItemSpan l t u → ItemSpan m u v → ItemSpan (l ++ m) t v
then {l} {m} {t} {u} {v} a b = record {
  slice = on a.slice b.slice;
  descends = joined (reach_of t + 1) (reach_of u + 1) (reach_of v + 1) l m a.descends b.descends;
  may_lie = joined_lie l m a.slice a.may_lie b.may_lie;
}

-- the slice extends further, or began earlier
pub before : {l : List Item} {t u v : Text} → Slice t u → ItemSpan l u v → ItemSpan l t v
before a b = then (bare a) b

pub after : {l : List Item} {t u v : Text} → ItemSpan l t u → Slice u v → ItemSpan l t v
after {l} {t} {v} a b = subst (λ m. ItemSpan m t v) (append-nil l) (then a (bare b))

-- the same items
pub listed : {l m : List Item} {t u : Text} → l ≡ m → ItemSpan l t u → ItemSpan m t u
listed {t} {u} e h = subst (λ x. ItemSpan x t u) e h

-- an opening comes before what is read after it
pub opened : {l : List Item} {t u v : Text} (name : Option Text) → Slice t u × (bytes u + 1 ≤ bytes t) →
    ItemSpan l u v →
    ItemSpan (opening (record { reach = reach_of t; name = name }) ∷ l) t v
opened {l} {t} {u} {v} name a b = record {
  slice = on a.0 b.slice;
  descends = (
    omega arith,
    raised (reach_of t) (reach_of u + 1) (reach_of v + 1) l (omega (arith, a.1)) b.descends,
  );
  may_lie = (lies_at (current t), joined_lie [] l a.0 tt b.may_lie);
}

pub taken : {k : ℕ} {t u : Text} → Takes k t u → Slice t u
taken a = record { word = a.word; cut = a.cut }

-- a single reference, whose reach is that of a character in the slice
pub referred : {t m u : Text} (r : AstReference) (p : ℕ) → Slice t m → Takes 1 m u → p ≡ reach_of m →
    ItemSpan (reference r p ∷ []) t u
referred {t} {m} {u} r p a k e =
    let more = takes_bytes k in
    record {
      slice = on a (taken k);
      descends = (omega (arith, e, fits a), omega (arith, e, fits a, more));
      may_lie = (begins m (to_ends a) e, tt);
    }

-- ---- layout

-- the text after the layout is a suffix of the text, and the error of an open comment is at the end or one past it
abbrev pub SkippedSlice : Text → Skipped → Type 0
SkippedSlice t (rest u) = Slice t u
SkippedSlice t (open_comment p) = MayLie t p

pub layout_slice : (x : Bool) (t : Text) → SkippedSlice t (layout x t)
layout_slice x t = by_layout (layout x t) refl
  where
    by_layout : (k : Skipped) → layout x t ≡ k → SkippedSlice t k
    by_layout (rest u) e = cut_slice (layout_cut x t u e)
    by_layout (open_comment p) e = layout_lies 0 x t p e

pub skipped_slice : (s : State) (u : Text) → skipped s ≡ rest u → Slice s.rest u
skipped_slice s u l = subst (SkippedSlice s.rest) l (layout_slice s.flags.ignore_space s.rest)

pub open_comment_lies : (s : State) (p : ℕ) → skipped s ≡ open_comment p → MayLie s.rest p
open_comment_lies s p l = subst (SkippedSlice s.rest) l (layout_slice s.flags.ignore_space s.rest)

-- ---- one part after another

-- if q was read from t, and f continues after it
pub then_reads : {A B : Type 0} (P : A → State → Type 0) (Q : B → State → Type 0) (s t : State) (q : Outcome A)
    (f : A → State → Outcome B) → Slice s.rest t.rest → Reads P t q →
    ((a : A) (v : State) → P a v → Reads Q s (f a v)) → Reads Q s (and_then q f)
then_reads P Q s t (done a v) f x h g = g a v h
then_reads P Q s t (failed e) f x h g = lies_in x h
