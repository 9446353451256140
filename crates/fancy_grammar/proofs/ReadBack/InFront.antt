-- What is printed for a tree, before a text: as `printed`, but with no appended texts to regroup.
use Rattle.std.proofs.Common.{◌≡◌, ℕ, Bool, true, false, nat_lt, [], ◌∷◌, ◌++◌, Option, Some, None, refl, sym, ap, ◌∙◌}
use Rattle.std.proofs.Common.{append_assoc, append-nil}
use Prim.Native.Char.{code}
use Rattle.fancy_lex.specs.Text.{Text}
use Rattle.fancy_lex.specs.declared.escape.Assertion.{Assertion}
use Rattle.fancy_lex.specs.declared.escape.Assertion.TheVariants.{StartLine, StartLineOniguruma, EndLine}
use Rattle.fancy_grammar.specs.Quote.{after_backslash, quote_as, quote, quotes, quantifier}
use Rattle.fancy_grammar.specs.Printed.{any_text, assertion_text, grouped, caseless, is_long, printed, operand_text}
use Rattle.fancy_grammar.specs.Printed.{printed_all, printed_branches, barred}
use Rattle.fancy_grammar.specs.Printed.{WHOLE, BRANCH, PIECE, OPERAND}
use Rattle.fancy_grammar.specs.Tree.{Tree, Trees, no_trees, more_trees, any, assertion, literal, concat, alt, group}
use Rattle.fancy_grammar.specs.Tree.{repeat, delegate}

abbrev pub put_as : ℕ → Option ℕ → Text → Text
put_as c None v = c ∷ v
put_as c (Some x) v = code "\\" ∷ x ∷ v

abbrev pub put_quotes : Text → Text → Text
put_quotes [] v = v
put_quotes (c ∷ cs) v = put_as c (after_backslash c) (put_quotes cs v)

abbrev pub put_any : Bool → Bool → Text → Text
put_any true crlf v = code "(" ∷ code "?" ∷ code "s" ∷ code ":" ∷ code "." ∷ code ")" ∷ v
put_any false true v = code "(" ∷ code "?" ∷ code "R" ∷ code "-" ∷ code "s" ∷ code ":" ∷ code "." ∷ code ")" ∷ v
put_any false false v = code "." ∷ v

-- an anchor in a group of its own, with the flags that it needs
abbrev pub put_line : ℕ → Bool → Text → Text
put_line c false v = code "(" ∷ code "?" ∷ code "m" ∷ code ":" ∷ c ∷ code ")" ∷ v
put_line c true v = code "(" ∷ code "?" ∷ code "R" ∷ code "m" ∷ code ":" ∷ c ∷ code ")" ∷ v

abbrev pub put_assertion : Assertion → Text → Text
put_assertion (StartLine crlf) v = put_line (code "^") crlf v
put_assertion (StartLineOniguruma crlf) v = put_line (code "^") crlf v
put_assertion (EndLine crlf) v = put_line (code "$") crlf v
put_assertion a v = assertion_text a ++ v

abbrev pub open_if : Bool → Text → Text
open_if true v = code "(" ∷ code "?" ∷ code ":" ∷ v
open_if false v = v

abbrev pub fold_if : Bool → Text → Text
fold_if true v = code "(" ∷ code "?" ∷ code "i" ∷ code ":" ∷ v
fold_if false v = v

abbrev pub close_if : Bool → Text → Text
close_if true v = code ")" ∷ v
close_if false v = v

abbrev mutual
  pub put : Tree → ℕ → Text → Text
  put (any newline crlf) p v = put_any newline crlf v
  put (assertion a) p v = put_assertion a v
  put (literal s casei) p v = fold_if casei (put_quotes s (close_if casei v))
  put (delegate s casei) p v = fold_if casei (s ++ close_if casei v)
  put (concat ts) p v = open_if (nat_lt BRANCH p) (puts ts (close_if (nat_lt BRANCH p) v))
  put (alt ts) p v = open_if (nat_lt WHOLE p) (put_branches ts (close_if (nat_lt WHOLE p) v))
  put (group t) p v = code "(" ∷ put t WHOLE (code ")" ∷ v)
  put (repeat t lo hi greedy) p v =
      open_if (nat_lt PIECE p) (open_if (is_long t)
      (put t OPERAND (close_if (is_long t) (quantifier lo hi greedy ++ close_if (nat_lt PIECE p) v))))
  put _ p v = v

  pub puts : Trees → Text → Text
  puts no_trees v = v
  puts (more_trees t ts) v = put t PIECE (puts ts v)

  pub put_branches : Trees → Text → Text
  put_branches no_trees v = v
  put_branches (more_trees t ts) v = put t BRANCH (put_barred ts v)

  pub put_barred : Trees → Text → Text
  put_barred no_trees v = v
  put_barred (more_trees t ts) v = code "|" ∷ put t BRANCH (put_barred ts v)

-- the operand of a quantifier
abbrev pub put_repeated : Tree → Text → Text
put_repeated t v = open_if (is_long t) (put t OPERAND (close_if (is_long t) v))

grouped_put : (b : Bool) (w v : Text) → open_if b (w ++ close_if b v) ≡ grouped b w ++ v
unfolding grouped
grouped_put true w v = ap (open_if true) (sym (append_assoc w (code ")" ∷ []) v))
grouped_put false w v = refl

caseless_put : (b : Bool) (w v : Text) → fold_if b (w ++ close_if b v) ≡ caseless b w ++ v
unfolding caseless
caseless_put true w v = ap (fold_if true) (sym (append_assoc w (code ")" ∷ []) v))
caseless_put false w v = refl

as_put : (c : ℕ) (o : Option ℕ) (v : Text) → put_as c o v ≡ quote_as c o ++ v
as_put c None v = refl
as_put c (Some x) v = refl

quoted_put : (c : ℕ) (v : Text) → put_as c (after_backslash c) v ≡ quote c ++ v
unfolding quote
quoted_put c v = as_put c (after_backslash c) v

quotes_put : (cs v : Text) → put_quotes cs v ≡ quotes cs ++ v
quotes_put [] v = refl
quotes_put (c ∷ cs) v =
    ap (put_as c (after_backslash c)) (quotes_put cs v)
    ∙ (quoted_put c (quotes cs ++ v) ∙ sym (append_assoc (quote c) (quotes cs) v))

any_put : (a b : Bool) (v : Text) → put_any a b v ≡ any_text a b ++ v
any_put true b v = refl
any_put false true v = refl
any_put false false v = refl

assertion_put : (a : Assertion) (v : Text) → put_assertion a v ≡ assertion_text a ++ v
assertion_put (StartLine true) v = refl
assertion_put (StartLine false) v = refl
assertion_put (StartLineOniguruma true) v = refl
assertion_put (StartLineOniguruma false) v = refl
assertion_put (EndLine true) v = refl
assertion_put (EndLine false) v = refl
assertion_put _ v = refl

mutual
  pub put_text : (t : Tree) (p : ℕ) (v : Text) → put t p v ≡ printed t p ++ v
  put_text (any a b) p v = any_put a b v
  put_text (assertion a) p v = assertion_put a v
  put_text (literal s casei) p v =
      ap (fold_if casei) (quotes_put s (close_if casei v)) ∙ caseless_put casei (quotes s) v
  put_text (delegate s casei) p v = caseless_put casei s v
  put_text (concat ts) p v =
      ap (open_if (nat_lt BRANCH p)) (puts_text ts (close_if (nat_lt BRANCH p) v))
      ∙ grouped_put (nat_lt BRANCH p) (printed_all ts) v
  put_text (alt ts) p v =
      ap (open_if (nat_lt WHOLE p)) (branches_text ts (close_if (nat_lt WHOLE p) v))
      ∙ grouped_put (nat_lt WHOLE p) (printed_branches ts) v
  put_text (group t) p v = ap (λ w. code "(" ∷ w)
      (put_text t WHOLE (code ")" ∷ v) ∙ sym (append_assoc (printed t WHOLE) (code ")" ∷ []) v))
  put_text (repeat t lo hi greedy) p v =
      let w = quantifier lo hi greedy ++ close_if (nat_lt PIECE p) v in
      ap (open_if (nat_lt PIECE p))
      (ap (open_if (is_long t)) (put_text t OPERAND (close_if (is_long t) w))
      ∙ grouped_put (is_long t) (printed t OPERAND) w
      ∙ sym (append_assoc (operand_text t) (quantifier lo hi greedy) (close_if (nat_lt PIECE p) v)))
      ∙ grouped_put (nat_lt PIECE p) (operand_text t ++ quantifier lo hi greedy) v
  put_text _ p v = refl

  puts_text : (ts : Trees) (v : Text) → puts ts v ≡ printed_all ts ++ v
  puts_text no_trees v = refl
  puts_text (more_trees t ts) v =
      ap (put t PIECE) (puts_text ts v)
      ∙ (put_text t PIECE (printed_all ts ++ v) ∙ sym (append_assoc (printed t PIECE) (printed_all ts) v))

  branches_text : (ts : Trees) (v : Text) → put_branches ts v ≡ printed_branches ts ++ v
  branches_text no_trees v = refl
  branches_text (more_trees t ts) v =
      ap (put t BRANCH) (barred_text ts v)
      ∙ (put_text t BRANCH (barred ts ++ v) ∙ sym (append_assoc (printed t BRANCH) (barred ts) v))

  barred_text : (ts : Trees) (v : Text) → put_barred ts v ≡ barred ts ++ v
  barred_text no_trees v = refl
  barred_text (more_trees t ts) v =
      ap (λ w. code "|" ∷ w) (ap (put t BRANCH) (barred_text ts v)
      ∙ (put_text t BRANCH (barred ts ++ v) ∙ sym (append_assoc (printed t BRANCH) (barred ts) v)))

-- what is printed before the empty text is the printed text
pub put_alone : (t : Tree) (p : ℕ) → put t p [] ≡ printed t p
put_alone t p = put_text t p [] ∙ append-nil (printed t p)
