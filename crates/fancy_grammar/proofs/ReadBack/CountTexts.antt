-- Counts that were printed are read back.
use Rattle.std.proofs.Common.{◌≡◌, ℕ, ◌+◌, ◌*◌, ◌-◌, ◌^◌, ◌<◌, Bool, true, false, ◌&&◌, ◌==◌, [], ◌∷◌, ◌++◌, Option}
use Rattle.std.proofs.Common.{Some, None, codes, decimal, refl, sym, ap, ap₂, ◌∙◌, arith, append_assoc, append-nil}
use Rattle.std.proofs.Common.{eqb-true, ne_eqb, le-leb, lt-ltb, subst}
use Rattle.std.specs.Char.{digit_value, is_ascii_digit}
use Rattle.std.specs.Str.Parse.{AllDigits, IsNumeral, digits_value_after}
use Rattle.std.proofs.lemmas.Bool.{and_from, cond_both, and_parts}
use Rattle.std.proofs.lemmas.Fmt.{decimal_is_IsNumeral}
use Rattle.std.proofs.lemmas.Str.{digit_value_digit}
use Rattle.std.proofs.lemmas.Str.Parse.{digit_from_value}
use Prim.Native.Char.{code}
use Rattle.fancy_lex.specs.Boundary.{unnamed_boundary, at_count}
use Rattle.fancy_lex.specs.BoundarySteps.{boundary}
use Rattle.fancy_lex.specs.LayoutSteps.{after_comment_start, rest_of, past_layout}
use Rattle.fancy_lex.specs.Number.{at_digit, number, run}
use Rattle.fancy_lex.specs.Reading.{gives}
use Rattle.fancy_lex.specs.Text.{Text, strip}
use Rattle.fancy_lex.proofs.NumberLemmas.{number_none, number_some, run_stop}
use Rattle.fancy_lex.specs.Quantifier.{most, count, spaced_count, counts_from, braced_counts, counts}
use Rattle.fancy_lex.specs.declared.counts.Counts.{Counts}
use Rattle.fancy_grammar.specs.Quote.{range, operator, counts_as, counts_text, quantifier}
use Rattle.fancy_grammar.proofs.ReadBack.ClearLemmas.{Clear, not_open, no_layout, clear_brace}

pub digit_is : (c : ℕ) → digit_value c < 10 → (is_ascii_digit c ≡ true) × (c - code "0" ≡ digit_value c)
digit_is c h =
    let r = digit_from_value c h in
    let v = digit_value_digit c r in
    (and_from _ _ (le-leb (code "0") c (omega arith)) (le-leb c (code "9") (omega arith)), omega arith)

-- digits before a text that begins with no digit
run_read : (a : ℕ) (ds s : Text) → AllDigits 10 ds → at_digit s ≡ false →
    run a (ds ++ s) ≡ (digits_value_after 10 a ds, s)
unfolding run
run_read a [] s h stop = run_stop a s stop
run_read a (d ∷ ds) s h stop =
    let (is, value) = digit_is d h.0 in
    rw (run, is)
    (ap (λ x. run (a * 10 + x) (ds ++ s)) value ∙ run_read (a * 10 + digit_value d) ds s h.1 stop)

number_first : (ds s : Text) → IsNumeral 10 ds → at_digit (ds ++ s) ≡ true
number_first [] s h = absurd (omega (arith, h.0))
number_first (d ∷ ds) s h = (digit_is d h.1.0).0

number_read : (n : ℕ) (s : Text) → n < 2 ^ 64 → at_digit s ≡ false → number (decimal n ++ s) ≡ Some (n, s)
number_read n s h d =
    let (numeral, value) = decimal_is_IsNumeral n h in
    number_some (decimal n ++ s) (number_first (decimal n) s numeral)
    ∙ ap Some (run_read 0 (decimal n) s numeral.1 d ∙ ap (λ k. (k, s)) value)

no_comment : (ds s : Text) → IsNumeral 10 ds → after_comment_start (ds ++ s) ≡ None
no_comment [] s h = absurd (omega (arith, h.0))
no_comment (d ∷ ds) s h = let r = digit_from_value d h.1.0 in not_open d (ds ++ s) (ne_eqb d (code "(") (omega arith))

skip_same : (s : Text) → after_comment_start s ≡ None → past_layout false s ≡ Some s
skip_same s e = ap rest_of (no_layout s e)

abbrev counted_some : ℕ → Text → Option (Option ℕ × Text)
counted_some n s = Some (Some n, s)

abbrev counted_none : Text → Option (Option ℕ × Text)
counted_none s = Some (None, s)

count_read : (n : ℕ) (s : Text) → n < 2 ^ 64 → at_digit s ≡ false → after_comment_start s ≡ None →
    spaced_count false (decimal n ++ s) ≡ counted_some n s
unfolding spaced_count count
count_read n s h d e =
    rw (
      skip_same (decimal n ++ s)
          (no_comment (decimal n) s (decimal_is_IsNumeral n h).0),
      number_read n s h d,
      lt-ltb n
          (2 ^ 64) h,
      skip_same s e,
    ) refl

count_none : (s : Text) → at_digit s ≡ false → after_comment_start s ≡ None → spaced_count false s ≡ counted_none s
unfolding spaced_count count
count_none s d e = rw (skip_same s e, number_none s d, skip_same s e) refl

-- the counts, whether they are in braces, and the text after them
abbrev pub counts_and_rest : ℕ → ℕ → Bool → Text → Option (Counts × Text)
counts_and_rest lo hi b s = Some (record { low = lo; high = hi; braces = b }, s)

braces_one : (n : ℕ) (s : Text) → n < 2 ^ 64 →
    braced_counts false (decimal n ++ code "}" ∷ s) ≡ counts_and_rest n n true s
unfolding braced_counts
braces_one n s h = rw (count_read n (code "}" ∷ s) h refl refl) refl

braces_open : (lo : ℕ) (s : Text) → lo < 2 ^ 64 →
    braced_counts false (decimal lo ++ code "," ∷ code "}" ∷ s) ≡ counts_and_rest lo most true s
unfolding braced_counts counts_from
braces_open lo s h = rw (count_read lo (code "," ∷ code "}" ∷ s) h refl refl, count_none (code "}" ∷ s) refl refl) refl

braces_both : (lo hi : ℕ) (s : Text) → lo < 2 ^ 64 → hi < 2 ^ 64 →
    braced_counts false (decimal lo ++ code "," ∷ (decimal hi ++ code "}" ∷ s)) ≡ counts_and_rest lo hi true s
unfolding braced_counts counts_from
braces_both lo hi s l h =
    rw (count_read lo (code "," ∷ (decimal hi ++ code "}" ∷ s)) l refl refl, count_read hi (code "}" ∷ s) h refl refl)
    refl

-- a boundary ends before the text: no name in braces follows it
abbrev pub NoName : Text → Type 0
NoName v = (p : ℕ) (negated : Bool) → boundary false p negated v ≡ gives (unnamed_boundary negated) v

pub no_brace : (v : Text) → after_comment_start v ≡ None → strip (code "{") v ≡ None → NoName v
unfolding boundary
no_brace v e b p negated = rw (no_layout v e, b) refl

pub clear_name : (v : Text) → Clear v → NoName v
clear_name v h = no_brace v h.no_comment (clear_brace v h)

digit_first : (ds s : Text) → IsNumeral 10 ds → at_count (ds ++ s) ≡ true
digit_first [] s h = absurd (omega (arith, h.0))
digit_first (d ∷ ds) s h = rw ((digit_is d h.1.0).0) refl

brace_name : (ds s : Text) → IsNumeral 10 ds → NoName (code "{" ∷ (ds ++ s))
unfolding boundary
brace_name ds s h p negated =
    rw (no_layout (code "{" ∷ (ds ++ s)) refl, no_layout (ds ++ s) (no_comment ds s h), digit_first ds s h) refl

-- the operator w before s
pub record IsOperator (lo hi : ℕ) (s w : Text) : Type 0 where
  pub braces : Bool
  pub counts : counts false (w ++ s) ≡ counts_and_rest lo hi braces s
  pub no_comment : after_comment_start (w ++ s) ≡ None
  pub no_name : NoName (w ++ s)

same_counts : (lo hi l h : ℕ) (b : Bool) (s : Text) → l ≡ lo → h ≡ hi →
    counts_and_rest lo hi b s ≡ counts_and_rest l h b s
same_counts lo hi l h b s e g = ap₂ (λ x y. counts_and_rest x y b s) (sym e) (sym g)

brace_operator : (lo hi n : ℕ) (w r s : Text) → n < 2 ^ 64 → r ≡ decimal n ++ w →
    braced_counts false (decimal n ++ (w ++ code "}" ∷ s)) ≡ counts_and_rest lo hi true s →
    IsOperator lo hi s (codes "{" ++ (r ++ codes "}"))
unfolding counts
brace_operator lo hi n w r s h q e =
    let numeral = (decimal_is_IsNumeral n h).0 in
    let same : (r ++ code "}" ∷ []) ++ s ≡ decimal n ++ (w ++ code "}" ∷ s) =
    append_assoc r (code "}" ∷ []) s ∙ ap (λ x. x ++ code "}" ∷ s) q ∙ append_assoc (decimal n) w (code "}" ∷ s) in
    record {
      braces = true;
      counts = ap (braced_counts false) same ∙ e;
      no_comment = refl;
      no_name = subst (λ x. NoName (code "{" ∷ x)) (sym same) (brace_name (decimal n) (w ++ code "}" ∷ s) numeral);
    }

sign_operator : (lo hi l h c : ℕ) (s : Text) → lo ≡ l → hi ≡ h → counts false (c ∷ s) ≡ counts_and_rest l h false s →
    after_comment_start (c ∷ s) ≡ None → strip (code "{") (c ∷ s) ≡ None → IsOperator lo hi s (c ∷ [])
sign_operator lo hi l h c s a b e o n =
    record {
      braces = false;
      counts = e ∙ same_counts l h lo hi false s a b;
      no_comment = o;
      no_name = no_brace (c ∷ s) o n;
    }

abbrev OperatorIs : ℕ → ℕ → Text → Option ℕ → Type 0
OperatorIs lo hi s o = IsOperator lo hi s (counts_as lo hi o)

range_operator : (lo hi : ℕ) (s : Text) → lo < 2 ^ 64 → hi < 2 ^ 64 → OperatorIs lo hi s None
unfolding range
range_operator lo hi s l h =
    cond_both (lo == hi) _ _ (λ r. IsOperator lo hi s (codes "{" ++ (r ++ codes "}")))
    (λ e. brace_operator lo hi lo [] _ s l (sym (append-nil (decimal lo)))
    (braces_one lo s l ∙ same_counts lo lo lo hi true s refl (sym (eqb-true lo hi e))))
    (λ _. cond_both (hi == most) _ _ (λ r. IsOperator lo hi s (codes "{" ++ (r ++ codes "}")))
    (λ e. brace_operator lo hi lo (codes ",") _ s l refl
    (braces_open lo s l ∙ same_counts lo most lo hi true s refl (eqb-true hi most e)))
    (λ _. brace_operator lo hi lo (codes "," ++ decimal hi) _ s l refl
    (ap (λ x. braced_counts false (decimal lo ++ code "," ∷ x)) refl ∙ braces_both lo hi s l h)))

operator_read : (lo hi : ℕ) (s : Text) → lo < 2 ^ 64 → hi < 2 ^ 64 → IsOperator lo hi s (counts_text lo hi)
unfolding counts_text operator counts
operator_read lo hi s l h =
    cond_both ((lo == 0) && (hi == 1)) _ _ (OperatorIs lo hi s)
    (λ e. let (a, b) = and_parts _ _ e in sign_operator lo hi 0 1 (code "?") s (eqb-true lo 0 a) (eqb-true hi 1 b) refl
    refl
    refl)
    (λ _. cond_both ((lo == 0) && (hi == most)) _ _ (OperatorIs lo hi s)
    (λ e. let (a, b) = and_parts _ _ e in
    sign_operator lo hi 0 most (code "*") s (eqb-true lo 0 a) (eqb-true hi most b) refl refl refl)
    (λ _. cond_both ((lo == 1) && (hi == most)) _ _ (OperatorIs lo hi s)
    (λ e. let (a, b) = and_parts _ _ e in
    sign_operator lo hi 1 most (code "+") s (eqb-true lo 1 a) (eqb-true hi most b) refl refl refl)
    (λ _. range_operator lo hi s l h)))

-- the lazy operator
abbrev pub lazy : Bool → Text
lazy true = []
lazy false = codes "?"

-- a whole quantifier before v
pub record IsQuantifier (lo hi : ℕ) (greedy : Bool) (v q : Text) : Type 0 where
  pub no_comment : after_comment_start q ≡ None
  pub braces : Bool
  pub counts : counts false q ≡ counts_and_rest lo hi braces (lazy greedy ++ v)
  pub no_name : NoName q

lazy_is : (lo hi : ℕ) (greedy : Bool) → quantifier lo hi greedy ≡ counts_text lo hi ++ lazy greedy
lazy_is lo hi true = refl
lazy_is lo hi false = refl

pub quantifier_read : (lo hi : ℕ) (greedy : Bool) (v : Text) → lo < 2 ^ 64 → hi < 2 ^ 64 →
    IsQuantifier lo hi greedy v (quantifier lo hi greedy ++ v)
quantifier_read lo hi greedy v l h =
    let m = operator_read lo hi (lazy greedy ++ v) l h in
    subst (IsQuantifier lo hi greedy v)
    (sym (ap (λ w. w ++ v) (lazy_is lo hi greedy) ∙ append_assoc (counts_text lo hi) (lazy greedy) v))
    (record { no_comment = m.no_comment; braces = m.braces; counts = m.counts; no_name = m.no_name })
