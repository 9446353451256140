-- What is printed for a printable tree consists of scalar values, so its bytes spell it.
use Rattle.std.proofs.Common.{◌≡◌, ℕ, ◌^◌, ◌<◌, Bool, true, false, ◌&&◌, ◌==◌, nat_lt, [], ◌∷◌, ◌++◌, Option, codes}
use Rattle.std.proofs.Common.{not, decimal, chars, refl, arith}
use Rattle.std.specs.Prelude.{encode_utf8_all}
use Rattle.std.proofs.lemmas.Bool.{and_from, and_parts, cond_both}
use Rattle.std.proofs.lemmas.Bool.Decides.{nat_tests}
use Rattle.std.proofs.lemmas.Fmt.{decimal_is_IsNumeral}
use Rattle.std.proofs.lemmas.Str.{chars-encodes}
use Rattle.std.specs.Char.{IsScalar, is_ascii_digit}
use Rattle.std.specs.Cmp.{first_so, second_so}
use Rattle.std.specs.Str.{all_scalars}
use Rattle.std.specs.Str.Parse.{AllDigits}
use Rattle.fancy_lex.specs.Text.{Text}
use Rattle.fancy_lex.specs.declared.escape.Assertion.{Assertion}
use Rattle.fancy_lex.specs.declared.escape.Assertion.TheVariants.{StartLine, StartLineOniguruma, EndLine}
use Rattle.fancy_lex.specs.Quantifier.{most}
use Rattle.fancy_grammar.specs.Quote.{quote_as, quote, quotes, range, operator, counts_as, counts_text}
use Rattle.fancy_grammar.specs.Quote.{quantifier}
use Rattle.fancy_grammar.specs.Join.{is_empty}
use Rattle.fancy_grammar.specs.Normal.{normal}
use Rattle.fancy_grammar.specs.Printable.{is_count, printable, all_printable}
use Rattle.fancy_grammar.specs.Printed.{any_text, assertion_text, grouped, caseless, is_long, printed, operand_text}
use Rattle.fancy_grammar.specs.Printed.{printed_all, printed_branches, barred}
use Rattle.fancy_grammar.specs.Printed.{WHOLE, BRANCH, PIECE, OPERAND}
use Rattle.fancy_grammar.specs.Tree.{Tree, Trees, no_trees, more_trees, any, assertion, literal, concat, alt, group}
use Rattle.fancy_grammar.specs.Tree.{repeat, delegate}
use Rattle.fancy_grammar.proofs.ReadBack.ClearLemmas.{by_after}
use Rattle.fancy_grammar.proofs.ReadBack.CountTexts.{digit_is}
use Rattle.fancy_grammar.proofs.ReadBack.PrintableLaws.{count_below}
use Rattle.fancy_grammar.proofs.ReadBack.ScalarLemmas.{scalars_append}

quote_scalars : (c : ℕ) → IsScalar c → all_scalars (quote c) ≡ true
unfolding quote
quote_scalars c k =
    by_after (λ c o. IsScalar c → all_scalars (quote_as c o) ≡ true) (λ _. refl) (λ _. refl) (λ _. refl) c
    (λ _ k. and_from _ true k refl) (λ _ k. and_from _ true k refl) k

quotes_scalars : (s : Text) → all_scalars s ≡ true → all_scalars (quotes s) ≡ true
quotes_scalars [] h = refl
quotes_scalars (c ∷ s) h =
    let (a, b) = and_parts _ (all_scalars s) h in
    scalars_append (quote c) (quotes s) (quote_scalars c a) (quotes_scalars s b)

digit_scalar : (c : ℕ) → is_ascii_digit c ≡ true → IsScalar c
digit_scalar c h = grind (arith, nat_tests)

digits_scalars : (w : Text) → AllDigits 10 w → all_scalars w ≡ true
digits_scalars [] h = refl
digits_scalars (c ∷ w) h = and_from _ _ (digit_scalar c (digit_is c h.0).0) (digits_scalars w h.1)

decimal_scalars : (n : ℕ) → n < 2 ^ 64 → all_scalars (decimal n) ≡ true
decimal_scalars n h = digits_scalars (decimal n) (decimal_is_IsNumeral n h).0.1

range_scalars : (lo hi : ℕ) → lo < 2 ^ 64 → hi < 2 ^ 64 → all_scalars (range lo hi) ≡ true
unfolding range
range_scalars lo hi l h =
    let P = λ (w : Text). all_scalars w ≡ true in
    cond_both (lo == hi) _ _ P (λ _. decimal_scalars lo l)
    (λ _. cond_both (hi == most) _ _ P (λ _. scalars_append (decimal lo) (codes ",") (decimal_scalars lo l) refl)
    (λ _. scalars_append (decimal lo) (codes "," ++ decimal hi) (decimal_scalars lo l) (decimal_scalars hi h)))

counts_scalars : (lo hi : ℕ) → lo < 2 ^ 64 → hi < 2 ^ 64 → all_scalars (counts_text lo hi) ≡ true
unfolding counts_text operator
counts_scalars lo hi l h =
    let P = λ (o : Option ℕ). all_scalars (counts_as lo hi o) ≡ true in
    cond_both ((lo == 0) && (hi == 1)) _ _ P (λ _. refl)
    (λ _. cond_both ((lo == 0) && (hi == most)) _ _ P (λ _. refl)
    (λ _. cond_both ((lo == 1) && (hi == most)) _ _ P (λ _. refl)
    (λ _. scalars_append (range lo hi) (codes "}") (range_scalars lo hi l h) refl)))

quantifier_scalars : (lo hi : ℕ) (greedy : Bool) → lo < 2 ^ 64 → hi < 2 ^ 64 →
    all_scalars (quantifier lo hi greedy) ≡ true
quantifier_scalars lo hi true l h = scalars_append (counts_text lo hi) [] (counts_scalars lo hi l h) refl
quantifier_scalars lo hi false l h = scalars_append (counts_text lo hi) (codes "?") (counts_scalars lo hi l h) refl

grouped_scalars : (b : Bool) (w : Text) → all_scalars w ≡ true → all_scalars (grouped b w) ≡ true
unfolding grouped
grouped_scalars true w h = scalars_append w (codes ")") h refl
grouped_scalars false w h = h

caseless_scalars : (b : Bool) (w : Text) → all_scalars w ≡ true → all_scalars (caseless b w) ≡ true
unfolding caseless
caseless_scalars true w h = scalars_append w (codes ")") h refl
caseless_scalars false w h = h

any_scalars : (a b : Bool) → all_scalars (any_text a b) ≡ true
any_scalars true b = refl
any_scalars false true = refl
any_scalars false false = refl

assertion_scalars : (a : Assertion) → all_scalars (assertion_text a) ≡ true
assertion_scalars (StartLine true) = refl
assertion_scalars (StartLine false) = refl
assertion_scalars (StartLineOniguruma true) = refl
assertion_scalars (StartLineOniguruma false) = refl
assertion_scalars (EndLine true) = refl
assertion_scalars (EndLine false) = refl
assertion_scalars _ = refl

repeat_scalars : (t : Tree) (lo hi : ℕ) (greedy : Bool) (p : ℕ) → (is_count lo && is_count hi) ≡ true →
    all_scalars (printed t OPERAND) ≡ true → all_scalars (printed (repeat t lo hi greedy) p) ≡ true
repeat_scalars t lo hi greedy p counts h =
    let (l, k) = and_parts (is_count lo) (is_count hi) counts in
    grouped_scalars (nat_lt PIECE p) _
    (scalars_append (operand_text t) (quantifier lo hi greedy) (grouped_scalars (is_long t) (printed t OPERAND) h)
    (quantifier_scalars lo hi greedy (count_below lo l) (count_below hi k)))

mutual
  pub printed_scalars : (t : Tree) (p : ℕ) → printable t ≡ true → all_scalars (printed t p) ≡ true
  printed_scalars (any a b) p h = any_scalars a b
  printed_scalars (assertion a) p h = assertion_scalars a
  printed_scalars (literal s i) p h = caseless_scalars i (quotes s) (quotes_scalars s h)
  printed_scalars (delegate s i) p h = caseless_scalars i s (first_so (all_scalars s) _ h)
  printed_scalars (concat ts) p h = grouped_scalars (nat_lt BRANCH p) (printed_all ts) (all_printed ts h)
  printed_scalars (alt ts) p h = grouped_scalars (nat_lt WHOLE p) (printed_branches ts) (branches_printed ts h)
  printed_scalars (group t) p h = scalars_append (printed t WHOLE) (codes ")") (printed_scalars t WHOLE h) refl
  printed_scalars (repeat t lo hi greedy) p h =
      repeat_scalars t lo hi greedy p (second_so (not (is_empty (normal false t))) _ (second_so (printable t) _ h))
      (printed_scalars t OPERAND (first_so (printable t) _ h))
  printed_scalars _ p h = refl

  all_printed : (ts : Trees) → all_printable ts ≡ true → all_scalars (printed_all ts) ≡ true
  all_printed no_trees h = refl
  all_printed (more_trees t ts) h =
      scalars_append (printed t PIECE) (printed_all ts) (printed_scalars t PIECE (first_so (printable t) _ h))
      (all_printed ts (second_so (printable t) _ h))

  branches_printed : (ts : Trees) → all_printable ts ≡ true → all_scalars (printed_branches ts) ≡ true
  branches_printed no_trees h = refl
  branches_printed (more_trees t ts) h =
      scalars_append (printed t BRANCH) (barred ts) (printed_scalars t BRANCH (first_so (printable t) _ h))
      (barred_printed ts (second_so (printable t) _ h))

  barred_printed : (ts : Trees) → all_printable ts ≡ true → all_scalars (barred ts) ≡ true
  barred_printed no_trees h = refl
  barred_printed (more_trees t ts) h =
      scalars_append (printed t BRANCH) (barred ts) (printed_scalars t BRANCH (first_so (printable t) _ h))
      (barred_printed ts (second_so (printable t) _ h))

-- the bytes that are printed spell the text
pub printed_spelled : (t : Tree) (p : ℕ) → printable t ≡ true → chars (encode_utf8_all (printed t p)) ≡ printed t p
printed_spelled t p h = chars-encodes (printed t p) (printed_scalars t p h)
