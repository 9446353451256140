-- What holds of the counts of a quantifier: the rest of the text is a suffix after one or more characters, the last of
-- which is an ASCII one.
use Rattle.std.proofs.Common.{◌≡◌, ℕ, ◌<◌, ◌^◌, nat_lt, ◌==◌, true, [], ◌∷◌, ◌++◌, List, chars, ap, sym, ◌∙◌}
use Rattle.std.proofs.Common.{append_assoc, length-append, Bor, Option, Some, None, IfSome, option_map, unwrap_or, refl}
use Rattle.std.proofs.Common.{subst, arith, Bool, if◌then◌else◌}
use Rattle.std.specs.Prelude.{option_and_then}
use Rattle.std.proofs.lemmas.Bool.{cond_both}
use Prim.Native.Char.{code}
use Rattle.fancy_lex.proofs.LayoutLaws.{layout_cut}
use Rattle.fancy_lex.proofs.NumberLemmas.{digits_of, number_taken}
use Rattle.fancy_lex.proofs.TakeLaws.{Takes, TakesSome, takes_on, takes_one}
use Rattle.fancy_lex.proofs.TextLemmas.{strip_is}
use Rattle.std.proofs.lemmas.Bool.Decides.{nat_tests}
use Rattle.fancy_lex.specs.LayoutSteps.{layout, Skipped, rest, rest_of, past_layout, failed as open_comment}
use Rattle.fancy_lex.specs.Number.{number}
use Rattle.fancy_lex.specs.Text.{Text, EndsWith, strip}
use Rattle.fancy_lex.proofs.GroupStartLaws.{takes_strip}
use Rattle.fancy_lex.specs.Quantifier.{counts, braced_counts, counts_from, in_braces, spaced_count}
use Rattle.fancy_lex.specs.Quantifier.{count, exact_or_range, most}
use Rattle.fancy_lex.specs.Reading.{choose}
use Rattle.fancy_lex.specs.declared.counts.Counts.{Counts}

takes_none : (t : Text) → Takes 0 t t
takes_none t = record { word = []; cut = refl; long = omega arith }

takes_number : (t : Text) → TakesSome 0 t (number t)
takes_number t = by_number (number t) refl
  where
    by_number : (o : Option (ℕ × Text)) → number t ≡ o → TakesSome 0 t o
    by_number None e = tt
    by_number (Some (n, u)) e =
        record { word = digits_of t; cut = (number_taken t u n e).cut; long = omega arith }

takes_count : (t : Text) → TakesSome 0 t (count t)
unfolding count
takes_count t = by_number (number t) (takes_number t)
  where
    by_number : (o : Option (ℕ × Text)) → TakesSome 0 t o →
        TakesSome 0 t (choose {B = Option (Option ℕ × Text)} o
        (λ p. if nat_lt p.0 (2 ^ 64) then Some (Some p.0, p.1) else None) (Some (None, t)))
    by_number None h = takes_none t
    by_number (Some (n, u)) h = cond_both (nat_lt n (2 ^ 64)) _ _ (TakesSome 0 t) (λ _. h) (λ _. tt)

takes_layout : (x : Bool) (t : Text) → IfSome (past_layout x t) (λ u. Takes 0 t u)
takes_layout x t = by_layout (layout x t) refl
  where
    by_layout : (k : Skipped) → layout x t ≡ k → IfSome (rest_of k) (λ u. Takes 0 t u)
    by_layout (rest u) e = let (w, cut) = layout_cut x t u e in record { word = w; cut = cut; long = omega arith }
    by_layout (open_comment p) e = tt

takes_spaced : (x : Bool) (t : Text) → TakesSome 0 t (spaced_count x t)
unfolding spaced_count
takes_spaced x t = by_first (past_layout x t) (takes_layout x t)
  where
    by_last : {u : Text} (n : Option ℕ) (o : Option Text) → IfSome o (λ v. Takes 0 u v) → Takes 0 t u →
        TakesSome 0 t (option_map (λ v. (n, v)) o)
    by_last n None h a = tt
    by_last n (Some v) h a = takes_on (omega arith) a h

    by_count : {u : Text} (o : Option (Option ℕ × Text)) → TakesSome 0 u o → Takes 0 t u →
        TakesSome 0 t (option_and_then (λ p. option_map (λ v. (p.0, v)) (past_layout x p.1)) o)
    by_count None h a = tt
    by_count (Some (n, v)) h a = by_last n (past_layout x v) (takes_layout x v) (takes_on (omega arith) a h)

    by_first : (o : Option Text) → IfSome o (λ u. Takes 0 t u) →
        TakesSome 0 t
        (option_and_then (λ u. option_and_then (λ p. option_map (λ v. (p.0, v)) (past_layout x p.1)) (count u)) o)
    by_first None h = tt
    by_first (Some u) h = by_count (count u) (takes_count u) h

-- ---- the operator or the closing brace

-- the text ends with an ASCII character and u
pub record Closed (t u : Text) : Type 0 where
  pub last_char : ℕ
  pub ascii : last_char < 128
  pub ends : EndsWith t (last_char ∷ u)

abbrev ClosesSome : Text → Option (Counts × Text) → Type 0
ClosesSome t o = IfSome o (λ p. Closed t p.1)

closed_past : {k : ℕ} {t u v : Text} → Takes k t u → Closed u v → Closed t v
closed_past {v} a h = record {
  last_char = h.last_char;
  ascii = h.ascii;
  ends = (
    a.word ++ h.ends.0,
    a.cut ∙ ap (λ x. a.word ++ x) h.ends.1 ∙ sym
        (append_assoc a.word h.ends.0 (h.last_char ∷ v)),
  );
}

closes_past : {t u : Text} (o : Option (Counts × Text)) → Takes 0 t u → ClosesSome u o → ClosesSome t o
closes_past None a h = tt
closes_past (Some p) a h = closed_past a h

by_brace : {t : Text} (u v : Text) → Takes 0 t u → strip (code "}") u ≡ Some v → Closed t v
by_brace u v a e =
    closed_past a (record { last_char = code "}"; ascii = omega arith; ends = ([], strip_is (code "}") u v e) })

closes_from : (x : Bool) (low : ℕ) (t : Text) → ClosesSome t (counts_from x low t)
unfolding counts_from
closes_from x low t = by_count (spaced_count x t) (takes_spaced x t)
  where
    closed : (p : Option ℕ × Text) (o : Option Text) → strip (code "}") p.1 ≡ o → Takes 0 t p.1 →
        ClosesSome t (option_map (λ v. (in_braces low (unwrap_or p.0 most), v)) o)
    closed p None e h = tt
    closed p (Some v) e h = by_brace p.1 v h e

    by_count : (o : Option (Option ℕ × Text)) → TakesSome 0 t o →
        ClosesSome t (option_and_then
        (λ p. option_map (λ v. (in_braces low (unwrap_or p.0 most), v)) (strip (code "}") p.1)) o)
    by_count None h = tt
    by_count (Some p) h = closed p (strip (code "}") p.1) refl h

closes_braces : (x : Bool) (t : Text) → ClosesSome t (braced_counts x t)
unfolding braced_counts
closes_braces x t = by_count (spaced_count x t) (takes_spaced x t)
  where
    exact : (low : Option ℕ) (v : Text) → Closed t v → ClosesSome t (option_map (λ n. (in_braces n n, v)) low)
    exact None v h = tt
    exact (Some n) v h = h

    range : (low : ℕ) (u : Text) (o : Option Text) → strip (code ",") u ≡ o → Takes 0 t u →
        ClosesSome t (option_and_then (counts_from x low) o)
    range low u None e h = tt
    range low u (Some v) e h =
        closes_past (counts_from x low v) (takes_on (omega arith) h (takes_strip (code ",") u v e))
        (closes_from x low v)

    closed : (low : Option ℕ) (u : Text) (o : Option Text) → strip (code "}") u ≡ o → Takes 0 t u →
        ClosesSome t (exact_or_range x low u o)
    closed low u (Some v) e h = exact low v (by_brace u v h e)
    closed low u None e h = range (unwrap_or low 0) u (strip (code ",") u) refl h

    by_count : (o : Option (Option ℕ × Text)) → TakesSome 0 t o →
        ClosesSome t (option_and_then (λ p. exact_or_range x p.0 p.1 (strip (code "}") p.1)) o)
    by_count None h = tt
    by_count (Some p) h = closed p.0 p.1 (strip (code "}") p.1) refl h

-- only an operator
by_operator : (c m : ℕ) (t : Text) → m < 128 → (c == m) ≡ true → Closed (c ∷ t) t
by_operator c m t l e = record { last_char = c; ascii = grind (arith, nat_tests); ends = ([], refl) }

-- the text after the counts is directly after their operator or closing brace
pub closes_counts : (x : Bool) (t : Text) → ClosesSome t (counts x t)
unfolding counts
closes_counts x [] = tt
closes_counts x (c ∷ t) =
    let P = ClosesSome (c ∷ t) in
    cond_both (c == code "?") _ _ P (λ e. by_operator c (code "?") t (omega arith) e) (λ _.
    cond_both (c == code "*") _ _ P (λ e. by_operator c (code "*") t (omega arith) e) (λ _.
    cond_both (c == code "+") _ _ P (λ e. by_operator c (code "+") t (omega arith) e) (λ _.
    cond_both (c == code "{") _ _ P
    (λ _. closes_past (braced_counts x t) (takes_less_one (takes_one c t)) (closes_braces x t)) (λ _. tt))))
  where
    takes_less_one : {t u : Text} → Takes 1 t u → Takes 0 t u
    takes_less_one a = record { word = a.word; cut = a.cut; long = omega arith }

pub takes_counts : (x : Bool) (t : Text) → TakesSome 1 t (counts x t)
takes_counts x t = by_counts (counts x t) (closes_counts x t)
  where
    by_counts : (o : Option (Counts × Text)) → ClosesSome t o → TakesSome 1 t o
    by_counts None h = tt
    by_counts (Some p) h = record {
      word = h.ends.0 ++ h.last_char ∷ [];
      cut = h.ends.1 ∙ sym (append_assoc h.ends.0 (h.last_char ∷ []) p.1);
      long = omega (arith, length-append h.ends.0 (h.last_char ∷ []));
    }

-- the clause of the reader
pub counts_cut : (x : Bool) (t : Text) (r : Option (Counts × Bor (List ℕ))) →
    counts x t ≡ option_map (λ p. (p.0, chars p.1.now)) r → IfSome r (λ p. EndsWith t (chars p.1.now))
counts_cut x t None e = tt
counts_cut x t (Some p) e =
    let h : TakesSome 1 t (option_map (λ p. (p.0, chars p.1.now)) (Some p)) =
    subst (TakesSome 1 t) e (takes_counts x t) in
    (h.word, h.cut)
