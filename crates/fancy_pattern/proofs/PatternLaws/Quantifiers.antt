-- The text of a quantifier is read as that quantifier.
use Rattle.std.proofs.Common.{◌≡◌, ℕ, ◌+◌, ◌*◌, ◌^◌, ◌<◌, Bool, true, false, not, ◌&&◌, ◌==◌, nat_lt, [], ◌∷◌}
use Rattle.std.proofs.Common.{◌++◌}
use Rattle.std.proofs.Common.{Option, Some, None, is_none, codes, decimal, refl, sym, ap, ap₂, ◌∙◌, subst, arith}
use Rattle.std.proofs.Common.{append_assoc}
use Rattle.std.proofs.Common.{append-nil, eqb-true, lt-ltb, if◌then◌else◌}
use Rattle.std.proofs.Math.Bool.{beq}
use Rattle.std.specs.Char.{digit_value, is_ascii_digit}
use Rattle.std.specs.Str.Parse.{AllDigits, IsNumeral, digits_value_after}
use Rattle.std.proofs.Common.{◌||◌, ◌≤◌}
use Rattle.std.proofs.lemmas.Bool.{cond-true, cond-false, cond_both, and_parts, and_from, false≢true}
use Rattle.std.proofs.lemmas.Bool.Decides.{nat_tests}
use Rattle.std.proofs.lemmas.Fmt.{decimal_is_IsNumeral}
use Prim.Native.Char.{code}
use Rattle.fancy_lex.specs.Boundary.{unnamed_boundary, at_count}
use Rattle.fancy_lex.specs.BoundarySteps.{boundary}
use Rattle.fancy_lex.specs.LayoutSteps.{layout, after_comment_start, is_layout, past_layout, rest_of, rest}
use Rattle.fancy_lex.specs.Number.{at_digit, number, run}
use Rattle.fancy_lex.specs.Reading.{gives, choose}
use Rattle.fancy_lex.specs.Text.{Text, bytes, strip}
use Rattle.fancy_lex.specs.declared.flags.Flags.{Flags}
use Rattle.fancy_lex.proofs.TextLemmas.{bytes-append}
use Rattle.std.specs.Char.{len_utf8}
use Rattle.fancy_lex.proofs.NumberLemmas.{number_none, number_some, run_stop}
use Rattle.fancy_lex.specs.Quantifier.{most, count, spaced_count, counts_from, braced_counts, counts}
use Rattle.fancy_grammar.specs.Quote.{range, operator, counts_as}
use Rattle.fancy_lex.specs.declared.counts.Counts.{Counts}
use Rattle.fancy_grammar.specs.PatternQuantifier.{operator_left, lazy_operator, possessive_operator}
use Rattle.fancy_grammar.specs.PatternQuantifier.{quantifier_text, is_possessive as possessive_counts}
use Rattle.fancy_grammar.specs.Quantified as quantified
use Rattle.fancy_grammar.specs.Quantified.{is_repeatable, may_be_possessive, quant, after_lazy, suffix}
use Rattle.fancy_grammar.specs.Quantified.{is_swapped}
use Rattle.fancy_grammar.specs.State.{done, mapped}
use Rattle.fancy_grammar.specs.Tree.{Tree, repeat, atomic_repeat}
use Rattle.fancy_grammar.specs.Join.{is_empty}
use Rattle.fancy_grammar.specs.Label.{atomic_group as atomic, repeat as repeated}
use Rattle.fancy_grammar.specs.GroupInfo.{GroupInfo}
use Rattle.fancy_grammar.specs.Pattern.{group_count}
use Rattle.fancy_pattern.proofs.PatternLaws.Becomes.{Becomes}
use Rattle.fancy_pattern.proofs.PatternLaws.Groups.{over_becomes}
use Rattle.fancy_pattern.proofs.PatternLaws.Rules.{Clear, not_layout, no_question, no_plus}
use Rattle.fancy_grammar.proofs.ReadBack.ClearLemmas.{not_open}
use Rattle.fancy_grammar.proofs.ReadBack.CountTexts.{digit_is, counts_and_rest}
use Rattle.fancy_grammar.proofs.ReadBack.RuleLemmas.{st}
use Rattle.fancy_grammar.proofs.OutcomeLemmas.{after_rest}

-- ---- numbers

run_read : (a : ℕ) (ds s : Text) → AllDigits 10 ds → at_digit s ≡ false →
    run a (ds ++ s) ≡ (digits_value_after 10 a ds, s)
unfolding run
run_read a [] s h stop = run_stop a s stop
run_read a (d ∷ ds) s h stop =
    let (is, value) = digit_is d h.0 in
    rw (run, is)
    (ap (λ x. run (a * 10 + x) (ds ++ s)) value ∙ run_read (a * 10 + digit_value d) ds s h.1 stop)

number_first : (ds s : Text) → IsNumeral 10 ds → at_digit (ds ++ s) ≡ true
number_first [] s h = absurd (omega (arith, h.0))
number_first (d ∷ ds) s h = (digit_is d h.1.0).0

pub number_read : (n : ℕ) (s : Text) → n < 2 ^ 64 → at_digit s ≡ false → number (decimal n ++ s) ≡ Some (n, s)
number_read n s h d =
    let (numeral, value) = decimal_is_IsNumeral n h in
    number_some (decimal n ++ s) (number_first (decimal n) s numeral)
    ∙ ap Some (run_read 0 (decimal n) s numeral.1 d ∙ ap (λ k. (k, s)) value)

digit_layout : (c : ℕ) → is_ascii_digit c ≡ true → (is_layout true c ≡ false) × ((c == code "(") ≡ false)
digit_layout c h = (grind (arith, nat_tests), grind (arith, nat_tests))

module _ (x : Bool) where
  at_character : (c : ℕ) (s : Text) → after_comment_start (c ∷ s) ≡ None → is_layout true c ≡ false →
      layout x (c ∷ s) ≡ rest (c ∷ s)
  at_character c s o e = not_layout x c s o (both x e)
    where
      both : (x : Bool) → is_layout true c ≡ false → is_layout x c ≡ false
      both true e = e
      both false e = refl

  at_digits : (ds s : Text) → IsNumeral 10 ds → layout x (ds ++ s) ≡ rest (ds ++ s)
  at_digits [] s h = absurd (omega (arith, h.0))
  at_digits (d ∷ ds) s h =
      let (e, o) = digit_layout d ((digit_is d h.1.0).0) in at_character d (ds ++ s) (not_open d (ds ++ s) o) e

  count_read : (n : ℕ) (s : Text) → n < 2 ^ 64 → at_digit s ≡ false → layout x s ≡ rest s →
      spaced_count x (decimal n ++ s) ≡ Some (Some n, s)
  unfolding spaced_count count
  count_read n s h d e =
      let before : past_layout x (decimal n ++ s) ≡ Some (decimal n ++ s)
      = ap rest_of (at_digits (decimal n) s (decimal_is_IsNumeral n h).0) in
      let after : past_layout x s ≡ Some s = ap rest_of e in
      rw (before, number_read n s h d, lt-ltb n (2 ^ 64) h, after) refl

  count_none : (s : Text) → at_digit s ≡ false → layout x s ≡ rest s → spaced_count x s ≡ Some (None, s)
  unfolding spaced_count count
  count_none s d e = let here : past_layout x s ≡ Some s = ap rest_of e in rw (here, number_none s d, here) refl

  at_close : (s : Text) → layout x (code "}" ∷ s) ≡ rest (code "}" ∷ s)
  at_close s = at_character (code "}") s refl refl

  at_comma : (s : Text) → layout x (code "," ∷ s) ≡ rest (code "," ∷ s)
  at_comma s = at_character (code ",") s refl refl

  braces_one : (n : ℕ) (s : Text) → n < 2 ^ 64 →
      braced_counts x (decimal n ++ code "}" ∷ s) ≡ counts_and_rest n n true s
  unfolding braced_counts
  braces_one n s h = rw (count_read n (code "}" ∷ s) h refl (at_close s)) refl

  braces_open : (lo : ℕ) (s : Text) → lo < 2 ^ 64 →
      braced_counts x (decimal lo ++ code "," ∷ code "}" ∷ s) ≡ counts_and_rest lo most true s
  unfolding braced_counts counts_from
  braces_open lo s h =
      rw (count_read lo (code "," ∷ code "}" ∷ s) h refl (at_comma _), count_none (code "}" ∷ s) refl (at_close s)) refl

  braces_both : (lo hi : ℕ) (s : Text) → lo < 2 ^ 64 → hi < 2 ^ 64 →
      braced_counts x (decimal lo ++ code "," ∷ (decimal hi ++ code "}" ∷ s)) ≡ counts_and_rest lo hi true s
  unfolding braced_counts counts_from
  braces_both lo hi s l h =
      rw (
        count_read lo (code "," ∷ (decimal hi ++ code "}" ∷ s)) l refl (at_comma _),
        count_read hi (code "}" ∷ s) h refl (at_close s),
      ) refl

-- no name in braces is next
abbrev pub NoName : Bool → Text → Type 0
NoName x v = (p : ℕ) (negated : Bool) → boundary x p negated v ≡ gives (unnamed_boundary negated) v

pub no_name : (x : Bool) (v : Text) → layout x v ≡ rest v → strip (code "{") v ≡ None → NoName x v
unfolding boundary
no_name x v e b p negated = rw (e, b) refl

-- the counts before s, as they are written, in braces or not
pub record Counted (x : Bool) (lo hi : ℕ) (braces : Bool) (s q : Text) : Type 0 where
  pub counted : counts x q ≡ counts_and_rest lo hi braces s
  pub longer : bytes s < bytes q
  pub no_layout : layout x q ≡ rest q
  pub no_digit : at_digit q ≡ false
  pub no_name : NoName x q

digit_first : (ds s : Text) → IsNumeral 10 ds → at_count (ds ++ s) ≡ true
digit_first [] s h = absurd (omega (arith, h.0))
digit_first (d ∷ ds) s h = rw ((digit_is d h.1.0).0) refl

brace_name : (x : Bool) (ds s : Text) → IsNumeral 10 ds → NoName x (code "{" ∷ (ds ++ s))
unfolding boundary
brace_name x ds s h p negated =
    rw (at_character x (code "{") (ds ++ s) refl refl, at_digits x ds s h, digit_first ds s h) refl

same_counts : (lo hi l h : ℕ) (b : Bool) (s : Text) → l ≡ lo → h ≡ hi →
    counts_and_rest lo hi b s ≡ counts_and_rest l h b s
same_counts lo hi l h b s e g = ap₂ (λ x y. counts_and_rest x y b s) (sym e) (sym g)

brace_counted : (x : Bool) (lo hi n : ℕ) (w r s : Text) → n < 2 ^ 64 → r ≡ decimal n ++ w →
    braced_counts x (decimal n ++ (w ++ code "}" ∷ s)) ≡ counts_and_rest lo hi true s →
    Counted x lo hi true s ((codes "{" ++ (r ++ codes "}")) ++ s)
unfolding counts bytes
brace_counted x lo hi n w r s h q e =
    let numeral = (decimal_is_IsNumeral n h).0 in
    let same : (r ++ code "}" ∷ []) ++ s ≡ decimal n ++ (w ++ code "}" ∷ s) =
    append_assoc r (code "}" ∷ []) s ∙ ap (λ x. x ++ code "}" ∷ s) q ∙ append_assoc (decimal n) w (code "}" ∷ s) in
    record {
      counted = ap (braced_counts x) same ∙ e;
      longer = omega (arith, bytes-append (r ++ codes "}") s);
      no_layout = at_character x (code "{") _ refl refl;
      no_digit = refl;
      no_name = subst (λ y. NoName x (code "{" ∷ y)) (sym same) (brace_name x (decimal n) (w ++ code "}" ∷ s) numeral);
    }

sign_counted : (x : Bool) (lo hi l h c : ℕ) (s : Text) → lo ≡ l → hi ≡ h →
    counts x (c ∷ s) ≡ counts_and_rest l h false s → layout x (c ∷ s) ≡ rest (c ∷ s) →
    strip (code "{") (c ∷ s) ≡ None → is_ascii_digit c ≡ false → len_utf8 c ≡ 1 →
    Counted x lo hi false s ((c ∷ []) ++ s)
unfolding bytes
sign_counted x lo hi l h c s a b e o n z u =
    record {
      counted = e ∙ same_counts l h lo hi false s a b;
      longer = omega (arith, u);
      no_layout = o;
      no_digit = z;
      no_name = no_name x (c ∷ s) o n;
    }

module _ (x : Bool) (lo hi : ℕ) (s : Text) (l : lo < 2 ^ 64) (h : hi < 2 ^ 64) where
  range_counted : Counted x lo hi true s (counts_as lo hi None ++ s)
  unfolding range
  range_counted =
      cond_both (lo == hi) _ _ (λ r. Counted x lo hi true s ((codes "{" ++ (r ++ codes "}")) ++ s))
      (λ e. brace_counted x lo hi lo [] _ s l (sym (append-nil (decimal lo)))
      (braces_one x lo s l ∙ same_counts lo lo lo hi true s refl (sym (eqb-true lo hi e))))
      (λ _. cond_both (hi == most) _ _ (λ r. Counted x lo hi true s ((codes "{" ++ (r ++ codes "}")) ++ s))
      (λ e. brace_counted x lo hi lo (codes ",") _ s l refl
      (braces_open x lo s l ∙ same_counts lo most lo hi true s refl (eqb-true hi most e)))
      (λ _. brace_counted x lo hi lo (codes "," ++ decimal hi) _ s l refl
      (ap (λ y. braced_counts x (decimal lo ++ code "," ∷ y)) (append_assoc [] (decimal hi) _)
      ∙ braces_both x lo hi s l h)))

  -- after another quantifier, or not
  module _ (adjacent : Bool) where
    abbrev LeftCounted : Option ℕ → Type 0
    LeftCounted o =
        Counted x lo hi (is_none (operator_left adjacent o)) s (counts_as lo hi (operator_left adjacent o) ++ s)

    sign_left : (c : ℕ) → Counted x lo hi false s ((c ∷ []) ++ s) → LeftCounted (Some c)
    sign_left c k =
        cond_both (adjacent && not (c == code "*")) _ _ (λ o. Counted x lo hi (is_none o) s (counts_as lo hi o ++ s))
        (λ _. range_counted) (λ _. k)

    operator_counted : LeftCounted (operator lo hi)
    unfolding operator counts
    operator_counted =
        cond_both ((lo == 0) && (hi == 1)) _ _ LeftCounted
        (λ e. let (a, b) = and_parts _ _ e in
        sign_left (code "?") (sign_counted x lo hi 0 1 (code "?") s (eqb-true lo 0 a) (eqb-true hi 1 b) refl
        (at_character x (code "?") s refl refl) refl refl refl))
        (λ _. cond_both ((lo == 0) && (hi == most)) _ _ LeftCounted
        (λ e. let (a, b) = and_parts _ _ e in
        sign_left (code "*") (sign_counted x lo hi 0 most (code "*") s (eqb-true lo 0 a) (eqb-true hi most b) refl
        (at_character x (code "*") s refl refl) refl refl refl))
        (λ _. cond_both ((lo == 1) && (hi == most)) _ _ LeftCounted
        (λ e. let (a, b) = and_parts _ _ e in
        sign_left (code "+") (sign_counted x lo hi 1 most (code "+") s (eqb-true lo 1 a) (eqb-true hi most b) refl
        (at_character x (code "+") s refl refl) refl refl refl))
        (λ _. range_counted)))

  -- with the greatest first
  swapped_counted :
      Counted x hi lo true s ((codes "{" ++ ((decimal hi ++ (codes "," ++ decimal lo)) ++ codes "}")) ++ s)
  swapped_counted =
      brace_counted x hi lo hi (codes "," ++ decimal lo) _ s h refl
      (ap (λ y. braced_counts x (decimal hi ++ code "," ∷ y)) (append_assoc [] (decimal lo) _)
      ∙ braces_both x hi lo s h l)

-- ---- the operators after the counts

abbrev lazy : Bool → Text
lazy b = if b then codes "?" else []

-- after a quantifier: no layout, and no lazy or possessive operator
pub record Apart (x : Bool) (v : Text) : Type 0 where
  pub no_layout : layout x v ≡ rest v
  pub no_question : strip (code "?") v ≡ None
  pub no_plus : strip (code "+") v ≡ None

pub clear_apart : (x : Bool) (v : Text) → Clear x v → Apart x v
clear_apart x v c = record {
  no_layout = c.no_layout;
  no_question = no_question v c.no_quantifier;
  no_plus = no_plus v c.no_quantifier;
}

no_possessive : (f : Flags) (c : Counts) (b : Bool) (s v : Text) → strip (code "+") v ≡ None →
    after_lazy (st f s) c b v ≡ done (record { lazy = b; possessive = false }) (st f v)
no_possessive f c b s v k = rw k (same (may_be_possessive f c))
  where
    same : {A : Type 0} {a : A} (b : Bool) → (if b then a else a) ≡ a
    same true = refl
    same false = refl

is_possessive : (f : Flags) (c : Counts) (b : Bool) (s v : Text) → may_be_possessive f c ≡ true →
    after_lazy (st f s) c b (code "+" ∷ v) ≡ done (record { lazy = b; possessive = true }) (st f v)
is_possessive f c b s v o = cond-true _ _ _ o

possessive_read : (f : Flags) (c : Counts) (b possessive : Bool) (s v : Text) →
    (possessive ≡ true → may_be_possessive f c ≡ true) → Apart f.ignore_space v →
    after_lazy (st f s) c b (possessive_operator possessive ++ v)
    ≡ done (record { lazy = b; possessive = possessive }) (st f v)
possessive_read f c b true s v o k = is_possessive f c b s v (o refl)
possessive_read f c b false s v o k = no_possessive f c b s v k.no_plus

suffix_read : (f : Flags) (c : Counts) (b possessive : Bool) (v : Text) →
    (possessive ≡ true → may_be_possessive f c ≡ true) → Apart f.ignore_space v →
    suffix (st f (lazy b ++ (possessive_operator possessive ++ v))) c
    ≡ done (record { lazy = b; possessive = possessive }) (st f v)
suffix_read f c true possessive v o k =
    let t = possessive_operator possessive ++ v in
    after_rest _ _ (at_character f.ignore_space (code "?") t refl refl)
    ∙ possessive_read f c true possessive (code "?" ∷ t) v o k
suffix_read f c false true v o k =
    after_rest _ _ (at_character f.ignore_space (code "+") v refl refl)
    ∙ is_possessive f c false (code "+" ∷ v) v (o refl)
suffix_read f c false false v o k =
    after_rest _ _ k.no_layout
    ∙ ap (λ o. choose o (after_lazy (st f v) c true) (after_lazy (st f v) c false v)) k.no_question
    ∙ no_possessive f c false v v k.no_plus

greed : (swap greedy : Bool) → (if swap then beq greedy swap else not (beq greedy swap)) ≡ greedy
greed true true = refl
greed true false = refl
greed false true = refl
greed false false = refl

-- the tree under the quantifier
abbrev pub quantified_tree : Bool → Tree → ℕ → ℕ → Bool → Tree
quantified_tree true a lo hi greedy = atomic_repeat a lo hi greedy
quantified_tree false a lo hi greedy = repeat a lo hi greedy

quantified_as : (f : Flags) (a : Tree) (c : Counts) (possessive greedy : Bool) → is_swapped f c ≡ false →
    quantified.quantified f c (record { lazy = beq greedy f.swap_greed; possessive = possessive }) a
    ≡ quantified_tree possessive a c.low c.high greedy
quantified_as f a c true greedy o =
    cond-false _ _ _ o ∙ ap (λ g. atomic_repeat a c.low c.high g) (greed f.swap_greed greedy)
quantified_as f a c false greedy o =
    cond-false _ _ _ o ∙ ap (λ g. repeat a c.low c.high g) (greed f.swap_greed greedy)

-- a quantifier whose counts are exchanged
quantified_swapped : (f : Flags) (a : Tree) (c : Counts) (greedy : Bool) → is_swapped f c ≡ true →
    quantified.quantified f c (record { lazy = beq greedy f.swap_greed; possessive = false }) a
    ≡ quantified_tree true a c.high c.low greedy
quantified_swapped f a c greedy o =
    cond-true _ _ _ o ∙ ap (λ g. atomic_repeat a c.high c.low g) (greed f.swap_greed greedy)

quant_by : (left : ℕ) (f : Flags) (a b : Tree) (q v : Text) (possessive : Bool) (lo hi : ℕ) (braces greedy : Bool) →
    let c : Counts = record { low = lo; high = hi; braces = braces } in
    (possessive ≡ true → may_be_possessive f c ≡ true) → Apart f.ignore_space v → is_repeatable f a ≡ true →
    Counted f.ignore_space lo hi braces (lazy_operator f greedy ++ (possessive_operator possessive ++ v)) q →
    quantified.quantified f c (record { lazy = beq greedy f.swap_greed; possessive = possessive }) a ≡ b →
    quant left a (st f q) ≡ done b (st f v)
unfolding quant
quant_by left f a b q v possessive lo hi braces greedy o k r m e =
    let read_counts : Counts = record { low = lo; high = hi; braces = braces } in
    after_rest _ _ m.no_layout
    ∙ ap (quantified.with_counts left a (st f q)) m.counted
    ∙ cond-true _ _ _ r
    ∙ ap (mapped (λ m. quantified.quantified f read_counts m a))
    (suffix_read f read_counts (beq greedy f.swap_greed) possessive v o k)
    ∙ ap (λ x. done x (st f v)) e

-- ---- the text

-- q begins with this quantifier, and v follows it
pub record QuantifierAt (f : Flags) (possessive : Bool) (lo hi : ℕ) (greedy : Bool) (v q : Text) : Type 0 where
  pub reads : (left : ℕ) (a : Tree) → is_repeatable f a ≡ true →
      quant left a (st f q) ≡ done (quantified_tree possessive a lo hi greedy) (st f v)
  pub longer : bytes v < bytes q
  pub no_digit : at_digit q ≡ false
  pub no_name : NoName f.ignore_space q

-- the counts of a quantifier in this mode: no tree has the greatest below the least
abbrev pub AreOrdered : Flags → ℕ → ℕ → Type 0
AreOrdered f lo hi = f.oniguruma_mode && nat_lt hi lo ≡ false

operators_longer : (f : Flags) (possessive greedy : Bool) (v : Text) →
    bytes v ≤ bytes (lazy_operator f greedy ++ (possessive_operator possessive ++ v))
operators_longer f possessive greedy v =
    omega (
      arith,
      bytes-append (lazy_operator f greedy) (possessive_operator possessive ++ v),
      bytes-append (possessive_operator possessive) v,
    )

module _ (f : Flags) (possessive : Bool) (lo hi : ℕ) (greedy : Bool) (v : Text) (l : lo < 2 ^ 64) (h : hi < 2 ^ 64)
    (k : Apart f.ignore_space v) where
  -- counts in braces with the greatest first
  by_swapping : f.oniguruma_mode ≡ true → nat_lt lo hi ≡ true →
      QuantifierAt f true lo hi greedy v
      ((codes "{" ++ (decimal hi ++ (codes "," ++ (decimal lo ++ codes "}"))) ++ lazy_operator f greedy) ++ v)
  by_swapping o less =
      let first = decimal hi ++ (codes "," ++ decimal lo) in
      let lazy_text = lazy_operator f greedy in
      let m = swapped_counted f.ignore_space lo hi (lazy_text ++ v) l h in
      let same : (codes "{" ++ (decimal hi ++ (codes "," ++ (decimal lo ++ codes "}"))) ++ lazy_text) ++ v
      ≡ (codes "{" ++ (first ++ codes "}")) ++ (lazy_text ++ v)
      = ap (λ w. code "{" ∷ w)
      (append_assoc (decimal hi ++ (codes "," ++ (decimal lo ++ codes "}"))) lazy_text v
      ∙ ap (λ w. w ++ (lazy_text ++ v)) (sym (append_assoc (decimal hi) (codes "," ++ decimal lo) (codes "}")))) in
      let swapped : f.oniguruma_mode && nat_lt lo hi ≡ true = and_from _ _ o less in
      subst (QuantifierAt f true lo hi greedy v) (sym same) (record {
        reads =
            λ left a r. quant_by left f a (quantified_tree true a lo hi greedy) _ v false hi lo true greedy
            (λ e. absurd (false≢true e)) k r m
            (quantified_swapped f a (record { low = hi; high = lo; braces = true }) greedy swapped);
        longer = omega (arith, m.longer, operators_longer f false greedy v);
        no_digit = m.no_digit;
        no_name = m.no_name;
      })

  -- an operator, or counts in braces, and the operators after it
  by_operators : (o : Option ℕ) → AreOrdered f lo hi → f.oniguruma_mode && (possessive && is_none o) ≡ false →
      Counted f.ignore_space lo hi (is_none o) (lazy_operator f greedy ++ (possessive_operator possessive ++ v))
      (counts_as lo hi o ++ (lazy_operator f greedy ++ (possessive_operator possessive ++ v))) →
      QuantifierAt f possessive lo hi greedy v
      ((counts_as lo hi o ++ (lazy_operator f greedy ++ possessive_operator possessive)) ++ v)
  by_operators o ordered may m =
      let same : (counts_as lo hi o ++ (lazy_operator f greedy ++ possessive_operator possessive)) ++ v
      ≡ counts_as lo hi o ++ (lazy_operator f greedy ++ (possessive_operator possessive ++ v))
      = append_assoc (counts_as lo hi o) _ v
      ∙ ap (λ w. counts_as lo hi o ++ w) (append_assoc (lazy_operator f greedy) (possessive_operator possessive) v) in
      let may_be : possessive ≡ true → not (f.oniguruma_mode && is_none o) ≡ true
      = λ e. ap not (sym (ap (λ p. f.oniguruma_mode && (p && is_none o)) e) ∙ may) in
      subst (QuantifierAt f possessive lo hi greedy v) (sym same) (record {
        reads =
            λ left a r. quant_by left f a (quantified_tree possessive a lo hi greedy) _ v possessive lo hi (is_none o)
            greedy may_be k r m
            (quantified_as f a (record { low = lo; high = hi; braces = is_none o }) possessive greedy ordered);
        longer = omega (arith, m.longer, operators_longer f possessive greedy v);
        no_digit = m.no_digit;
        no_name = m.no_name;
      })

-- after another quantifier, or not
pub quantifier_at : (f : Flags) (possessive adjacent : Bool) (lo hi : ℕ) (greedy : Bool) (v : Text) → lo < 2 ^ 64 →
    hi < 2 ^ 64 → Apart f.ignore_space v → AreOrdered f lo hi →
    (possessive ≡ true → possessive_counts f lo hi ≡ true) →
    QuantifierAt f possessive lo hi greedy v (quantifier_text f possessive adjacent lo hi greedy ++ v)
quantifier_at f possessive adjacent lo hi greedy v l h k ordered possible =
    let o = operator_left adjacent (operator lo hi) in
    cond_both (f.oniguruma_mode && (possessive && is_none o)) _ _
    (λ w. QuantifierAt f possessive lo hi greedy v (w ++ v))
    (λ e. let (mode, both) = and_parts _ _ e in
    let (is, none) = and_parts possessive (is_none o) both in
    let text = codes "{" ++ (decimal hi ++ (codes "," ++ (decimal lo ++ codes "}"))) ++ lazy_operator f greedy in
    subst (λ p. QuantifierAt f p lo hi greedy v (text ++ v)) (sym is)
    (by_swapping f possessive lo hi greedy v l h k mode
    (subst (λ b. not b || nat_lt lo hi ≡ true) mode (possible is))))
    (λ e. by_operators f possessive lo hi greedy v l h k o ordered e
    (operator_counted f.ignore_space lo hi (lazy_operator f greedy ++ (possessive_operator possessive ++ v)) l h adjacent))

-- directly after another quantifier, its text is not read as an operator of that one
pub adjacent_apart : (f : Flags) (possessive : Bool) (lo hi : ℕ) (greedy : Bool) (v : Text) →
    Apart f.ignore_space (quantifier_text f possessive true lo hi greedy ++ v)
unfolding range
adjacent_apart f possessive lo hi greedy v =
    cond_both (f.oniguruma_mode && (possessive && is_none (operator_left true (operator lo hi)))) _ _
    (λ w. Apart f.ignore_space (w ++ v)) (λ _. brace_apart _)
    (λ _. by_operator (operator lo hi) (lazy_operator f greedy ++ possessive_operator possessive))
  where
    brace_apart : (w : Text) → Apart f.ignore_space (code "{" ∷ w)
    brace_apart w = record {
      no_layout = at_character f.ignore_space (code "{") w refl refl;
      no_question = refl;
      no_plus = refl;
    }

    star_apart : (w : Text) → Apart f.ignore_space (code "*" ∷ w)
    star_apart w = record {
      no_layout = at_character f.ignore_space (code "*") w refl refl;
      no_question = refl;
      no_plus = refl;
    }

    not_not : (b : Bool) → not b ≡ false → b ≡ true
    not_not true e = refl
    not_not false e = absurd (false≢true (sym e))

    by_operator : (o : Option ℕ) (w : Text) → Apart f.ignore_space ((counts_as lo hi (operator_left true o) ++ w) ++ v)
    by_operator None w = brace_apart _
    by_operator (Some c) w =
        cond_both (not (c == code "*")) _ _ (λ o. Apart f.ignore_space ((counts_as lo hi o ++ w) ++ v))
        (λ _. brace_apart _)
        (λ e. subst (λ c. Apart f.ignore_space (c ∷ (w ++ v))) (sym (eqb-true c (code "*") (not_not (c == code "*") e)))
        (star_apart (w ++ v)))

-- ---- an atom under a quantifier, before the pieces that follow

pub over_quantified : (μ : GroupInfo) (s : Text) (possessive : Bool) (c : ℕ) (r x : Tree) (lo hi : ℕ) (greedy : Bool) →
    Becomes μ s c r x →
    Becomes μ s c (quantified_tree possessive r lo hi greedy) (quantified_tree possessive x lo hi greedy)
over_quantified μ s true c r x lo hi greedy b =
    over_becomes μ s atomic c _ _ tt (over_becomes μ s (repeated lo hi greedy) c r x tt b)
over_quantified μ s false c r x lo hi greedy b = over_becomes μ s (repeated lo hi greedy) c r x tt b

pub solid_quantified : (possessive : Bool) (x : Tree) (lo hi : ℕ) (greedy : Bool) →
    is_empty (quantified_tree possessive x lo hi greedy) ≡ false
solid_quantified true x lo hi greedy = refl
solid_quantified false x lo hi greedy = refl

pub same_count : (possessive : Bool) (x : Tree) (lo hi : ℕ) (greedy : Bool) →
    group_count (quantified_tree possessive x lo hi greedy) ≡ group_count x
same_count true x lo hi greedy = refl
same_count false x lo hi greedy = refl
