-- Steps of a tree's text.
use Rattle.std.proofs.Common.{◌≡◌, ℕ, ◌+◌, ◌<◌, ◌≤◌, Option, zero, suc, Bool, true, false, nat_lt, if◌then◌else◌, List}
use Rattle.std.proofs.Common.{[], ◌∷◌, ◌++◌, length, drop, get_or, String, Global, codes, refl, sym, ap, ◌∙◌, append-nil}
use Rattle.std.proofs.Common.{append_assoc, drop-cons, add-one, arith, string_bytes, chars}
use Rattle.std.specs.Str.{IsUtf8}
use Rattle.std.specs.Prelude.{encode_utf8_all}
use Rattle.std.proofs.lemmas.Str.{encodes-chars, encodes-append, IsUtf8-string_bytes, len_utf8_bounds}
use Rattle.std.proofs.lemmas.Bool.Decides.{nat_tests}
use Rattle.std.proofs.lemmas.List.{drop_all}
use Rattle.fancy_lex.specs.Text.{Text, text_of, bytes}
use Rattle.fancy_syntax.specs.Sinks.{CanTake, Takes, contains, capacity_left}
use Rattle.fancy_lex.proofs.TextLemmas.{bytes_chars}
use Rattle.fancy_syntax.proofs.SinkLemmas.{can_first, can_second, can_third, three_taken}
use Rattle.fancy_syntax.proofs.SinkLemmas.{nothing_taken, then_taken}
use Rattle.fancy_grammar.specs.Tree.{Trees, no_trees, more_trees, literal, trees_of}
use Rattle.fancy_grammar.specs.Printed.{grouped, caseless, is_long, printed, printed_all, printed_branches, barred}
use Rattle.fancy_syntax.specs.declared.expr.Expr.{Expr}
use Rattle.fancy_syntax.specs.View.{view, views}

-- the text, if asked for
abbrev pub asked : Bool → Text → Text
asked b t = if b then t else []

pub grouped_is : (b : Bool) (t : Text) → grouped b t ≡ asked b (codes "(?:") ++ (t ++ asked b (codes ")"))
unfolding grouped
grouped_is true t = refl
grouped_is false t = sym (append-nil t)

pub caseless_is : (b : Bool) (t : Text) → caseless b t ≡ asked b (codes "(?i:") ++ (t ++ asked b (codes ")"))
unfolding caseless
caseless_is true t = refl
caseless_is false t = sym (append-nil t)

pub caseless_same : (t : Text) → caseless false t ≡ t
unfolding caseless
caseless_same t = refl

pub minds_case : (b : Bool) (t : Text) → b ≡ false → caseless b t ≡ t
minds_case b t e = rw e (caseless_same t)

-- a text of one byte is not long
pub short_text : (bs : List ℕ) → IsUtf8 bs → length bs < 2 → is_long (literal (chars bs) false) ≡ false
unfolding bytes
short_text bs utf8 h = by_chars (chars bs) (bytes_chars bs utf8) where
  by_chars : (t : Text) → bytes t ≡ length bs → is_long (literal t false) ≡ false
  by_chars [] e = refl
  by_chars (c ∷ []) e = refl
  by_chars (c ∷ d ∷ t) e = absurd (omega (arith, (len_utf8_bounds c).0, (len_utf8_bounds d).0))

-- ---- what a sink takes

module _ {S : Type 0} {limit : S → Option ℕ} where
  pub grouped_opens : (a : S) (g : Bool) (t : Text) → CanTake limit a (grouped g t) → CanTake limit a (asked g (codes "(?:"))
  grouped_opens a g t h = can_first a _ t (asked g (codes ")")) _ (grouped_is g t) h

  pub caseless_opens : (a : S) (g : Bool) (t : Text) → CanTake limit a (caseless g t) → CanTake limit a (asked g (codes "(?i:"))
  caseless_opens a g t h = can_first a _ t (asked g (codes ")")) _ (caseless_is g t) h

module _ {S : Type 0} {holds : S → Text → Type 0} {limit : S → Option ℕ} where
  pub grouped_goes_on : (a b : S) (g : Bool) (t : Text) → CanTake limit a (grouped g t) →
      Takes holds limit a b (asked g (codes "(?:")) → CanTake limit b t
  grouped_goes_on a b g t h p = can_second a b _ t (asked g (codes ")")) _ (grouped_is g t) h p

  pub grouped_closes : (a b c : S) (g : Bool) (t : Text) → CanTake limit a (grouped g t) →
      Takes holds limit a b (asked g (codes "(?:")) → Takes holds limit b c t →
      CanTake limit c (asked g (codes ")"))
  grouped_closes a b c g t h p q = can_third a b c _ t (asked g (codes ")")) _ (grouped_is g t) h p q

  pub grouped_taken : (a b c d : S) (g : Bool) (t : Text) → Takes holds limit a b (asked g (codes "(?:")) →
      Takes holds limit b c t → Takes holds limit c d (asked g (codes ")")) → Takes holds limit a d (grouped g t)
  grouped_taken a b c d g t p q r = three_taken a b c d _ t (asked g (codes ")")) _ (grouped_is g t) p q r

  pub caseless_goes_on : (a b : S) (g : Bool) (t : Text) → CanTake limit a (caseless g t) →
      Takes holds limit a b (asked g (codes "(?i:")) → CanTake limit b t
  caseless_goes_on a b g t h p = can_second a b _ t (asked g (codes ")")) _ (caseless_is g t) h p

  pub caseless_closes : (a b c : S) (g : Bool) (t : Text) → CanTake limit a (caseless g t) →
      Takes holds limit a b (asked g (codes "(?i:")) → Takes holds limit b c t →
      CanTake limit c (asked g (codes ")"))
  caseless_closes a b c g t h p q = can_third a b c _ t (asked g (codes ")")) _ (caseless_is g t) h p q

  pub caseless_taken : (a b c d : S) (g : Bool) (t : Text) → Takes holds limit a b (asked g (codes "(?i:")) →
      Takes holds limit b c t → Takes holds limit c d (asked g (codes ")")) → Takes holds limit a d (caseless g t)
  caseless_taken a b c d g t p q r = three_taken a b c d _ t (asked g (codes ")")) _ (caseless_is g t) p q r

pub ruleset sink_steps = (
  nothing_taken,
  then_taken,
  grouped_opens,
  grouped_goes_on,
  grouped_closes,
  grouped_taken,
  caseless_opens,
  caseless_goes_on,
  caseless_closes,
  caseless_taken,
)

-- ---- the trees that are left of a list

-- the trees from i on
abbrev pub left : List Expr → ℕ → Trees
left es i = trees_of (views (drop i es))

left_suc : (es : List Expr) (i : ℕ) (e : Expr) → i < length es → e ≡ get_or es i e →
    left es i ≡ more_trees (view e) (left es (suc i))
left_suc es i e h is = ap (λ xs. trees_of (views xs)) (drop-cons es i e h ∙ ap (λ x. x ∷ drop (suc i) es) (sym is))

pub left_step : (es : List Expr) (i : ℕ) (e : Expr) → i < length es → e ≡ get_or es i e →
    left es i ≡ more_trees (view e) (left es (i + 1))
left_step es i e h is = rw add-one (left_suc es i e h is)

pub left_end : (es : List Expr) (i : ℕ) → length es ≤ i → left es i ≡ no_trees
left_end es i h = ap (λ xs. trees_of (views xs)) (drop_all i es h)

pub all_step : (es : List Expr) (i : ℕ) (e : Expr) → i < length es → e ≡ get_or es i e →
    printed_all (left es i) ≡ printed (view e) 2 ++ printed_all (left es (i + 1))
all_step es i e h is = ap printed_all (left_step es i e h is)

pub all_end : (es : List Expr) (i : ℕ) → length es ≤ i → printed_all (left es i) ≡ []
all_end es i h = ap printed_all (left_end es i h)

-- the branches from i on, with a bar before each but the first of all
abbrev pub branches : List Expr → ℕ → Text
branches es zero = printed_branches (left es zero)
branches es (suc i) = barred (left es (suc i))

positive : (i : ℕ) → nat_lt 0 (suc i) ≡ true
positive i = grind (arith, nat_tests)

pub branches_step : (es : List Expr) (i : ℕ) (e : Expr) → i < length es → e ≡ get_or es i e →
    branches es i ≡ (asked (nat_lt 0 i) (codes "|") ++ printed (view e) 1) ++ branches es (i + 1)
branches_step es zero e h is = ap printed_branches (left_suc es zero e h is)
branches_step es (suc i) e h is =
    rw add-one (ap barred (left_suc es (suc i) e h is)
    ∙ ap (λ b. asked b (codes "|") ++ (printed (view e) 1 ++ barred (left es (suc (suc i))))) (sym (positive i))
    ∙ sym (append_assoc (asked (nat_lt 0 (suc i)) (codes "|")) (printed (view e) 1) (barred (left es (suc (suc i))))))

pub branches_end : (es : List Expr) (i : ℕ) → length es ≤ i → branches es i ≡ []
branches_end es zero h = ap printed_branches (left_end es zero h)
branches_end es (suc i) h = ap barred (left_end es (suc i) h)

-- ---- a text without bytes

pub bytes_none : (t : Text) → t ≡ [] → bytes t ≡ 0
unfolding bytes
bytes_none t e = rw e refl

-- the bytes that a text adds
pub added : (a b : String Global) (t : Text) → Takes contains capacity_left a b t →
    string_bytes b ≡ string_bytes a ++ encode_utf8_all t
added a b t p =
    sym (encodes-chars (string_bytes b) (IsUtf8-string_bytes b)) ∙ ap encode_utf8_all (p.follows (text_of a) refl)
    ∙ encodes-append (text_of a) t
    ∙ ap (λ bs. bs ++ encode_utf8_all t) (encodes-chars (string_bytes a) (IsUtf8-string_bytes a))
