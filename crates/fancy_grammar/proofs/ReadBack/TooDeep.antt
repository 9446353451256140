-- What is printed too deep is an error at the first group that is too deep.
use Rattle.std.proofs.Common.{◌≡◌, ℕ, zero, suc, ◌+◌, ◌<◌, ◌≤◌, Bool, true, false, nat_lt, nat_le, if◌then◌else◌, []}
use Rattle.std.proofs.Common.{◌∷◌, ◌++◌, refl, sym, ap, ◌∙◌, subst, arith, lt-ltb, leb-true, leb-false}
use Rattle.std.proofs.lemmas.Bool.{cond_both}
use Prim.Native.Char.{code}
use Rattle.fancy_lex.specs.Located.{recursion_exceeded}
use Rattle.fancy_lex.specs.Text.{Text, bytes, IsPositionOf, reach_of}
use Rattle.fancy_lex.specs.declared.escape.Assertion.{Assertion}
use Rattle.fancy_lex.specs.declared.escape.Assertion.TheVariants.{StartLine, StartLineOniguruma, EndLine}
use Rattle.fancy_lex.specs.ErrorTable.{group_too_deep}
use Rattle.fancy_grammar.specs.Quote.{quantifier}
use Rattle.fancy_lex.proofs.TextLemmas.{bytes-append}
use Rattle.fancy_grammar.specs.Depth.{max_depth, most_open}
use Rattle.fancy_grammar.specs.Grammar.{Alternation, Branches, Pieces, Atom, FailsWith}
use Rattle.fancy_grammar.specs.Printed.{is_long, printed}
use Rattle.fancy_grammar.specs.Printed.{WHOLE, BRANCH, PIECE, OPERAND}
use Rattle.fancy_grammar.specs.State.{failed}
use Rattle.fancy_grammar.specs.Tree.{Tree, Trees, no_trees, more_trees, empty, any, assertion, literal, concat, alt}
use Rattle.fancy_grammar.specs.Tree.{group, repeat, delegate, define_group}
use Rattle.fancy_grammar.proofs.ReadBack.Nest.{one_if, nest, nests}
use Rattle.fancy_grammar.specs.Normal.{unicode_flags}
use Rattle.fancy_grammar.proofs.ReadBack.OverLemmas.{at_open, at_open_if, position, positions, branch_positions}
use Rattle.fancy_grammar.proofs.ReadBack.OverLemmas.{barred_positions}
use Rattle.fancy_grammar.proofs.ReadBack.InFront.{put, puts, put_branches, put_barred, put_repeated, put_any}
use Rattle.fancy_grammar.proofs.ReadBack.InFront.{put_assertion, put_line, put_quotes, open_if, close_if, put_alone}
use Rattle.fancy_grammar.proofs.ReadBack.InFront.{put_text}
use Rattle.fancy_grammar.proofs.ReadBack.ClearLemmas.{Clear, Ends, clear_close, stops_bar, ends_close, ends_nothing}
use Rattle.fancy_grammar.proofs.ReadBack.LeafLemmas.{begins_any, begins_assertion, HasText}
use Rattle.fancy_grammar.proofs.ReadBack.Induction.{Starts, wrapped, wrap_starts, EachReads, reads_each, text_high}
use Rattle.fancy_grammar.proofs.ReadBack.Induction.{nest_high}
use Rattle.fancy_grammar.proofs.ReadBack.RuleLemmas.{st, kept_unicode, fails_deep, fails_group, fails_grouped}
use Rattle.fancy_grammar.proofs.ReadBack.RuleLemmas.{fails_piece}
use Rattle.fancy_grammar.proofs.ReadBack.RuleLemmas.{fails_first, fails_more, fails_whole, fails_text}
use Rattle.fancy_grammar.proofs.ReadBack.ShapeLemmas.{Printable, ArePrintable, begins_opening, begins_group, begins_atom}
use Rattle.fancy_grammar.proofs.ReadBack.ShapeLemmas.{begins_repeated, clear_put, clear_puts}

-- the text from the group that is too deep on
abbrev left_open : ℕ → Text → Text → Text
left_open d here inner = if nat_le most_open d then here else inner

abbrev left_if : Bool → ℕ → (Text → Text) → (ℕ → Text → Text) → Text → Text
left_if true d k inner v = left_open d (open_if true (k (code ")" ∷ v))) (inner (d + 1) (code ")" ∷ v))
left_if false d k inner v = inner d v

abbrev mutual
  left : Tree → ℕ → ℕ → Text → Text
  left (concat ts) p d v = left_if (nat_lt BRANCH p) d (λ w. puts ts w) (λ e w. lefts ts e w) v
  left (alt ts) p d v = left_if (nat_lt WHOLE p) d (λ w. put_branches ts w) (λ e w. branch_lefts ts e w) v
  left (group t) p d v = left_open d (code "(" ∷ put t WHOLE (code ")" ∷ v)) (left t WHOLE (d + 1) (code ")" ∷ v))
  left (repeat t lo hi greedy) p d v =
      left_if (nat_lt PIECE p) d (λ w. put_repeated t (quantifier lo hi greedy ++ w))
      (λ e w. left_if (is_long t) e (put t OPERAND) (left t OPERAND) (quantifier lo hi greedy ++ w)) v
  left t p d v = put t p v

  lefts : Trees → ℕ → Text → Text
  lefts no_trees d v = v
  lefts (more_trees t ts) d v = if nat_le max_depth (d + nest t PIECE) then left t PIECE d (puts ts v) else lefts ts d v

  branch_lefts : Trees → ℕ → Text → Text
  branch_lefts no_trees d v = v
  branch_lefts (more_trees t ts) d v =
      if nat_le max_depth (d + nest t BRANCH) then left t BRANCH d (put_barred ts v) else branch_lefts ts d v

abbrev repeated_left : Tree → ℕ → Text → Text
repeated_left t d v = left_if (is_long t) d (put t OPERAND) (left t OPERAND) v

-- What k prints before v, with m groups nested, fails at the text that o gives.
abbrev AtomFails : Bool → ℕ → Text → Text → Type 0
AtomFails u d s at = Atom d (st (unicode_flags u) s) (failed (group_too_deep at))

abbrev PiecesFail : Bool → ℕ → Text → Text → Type 0
PiecesFail u d s at = Pieces d (st (unicode_flags u) s) (failed (group_too_deep at))

abbrev BranchesFail : Bool → ℕ → Text → Text → Type 0
BranchesFail u d s at = Branches d (st (unicode_flags u) s) (failed (group_too_deep at))

abbrev WholeFails : Bool → ℕ → Text → Text → Type 0
WholeFails u d s at = Alternation d (st (unicode_flags u) s) (failed (group_too_deep at))

abbrev FailsAtom : Bool → (Text → Text) → ℕ → (ℕ → Text → Text) → Type 0
FailsAtom u k m o = (d : ℕ) (v : Text) → d < max_depth → max_depth ≤ d + m → AtomFails u d (k v) (o d v)

abbrev FailsRun : Bool → (Text → Text) → ℕ → (ℕ → Text → Text) → Type 0
FailsRun u k m o = (d : ℕ) (v : Text) → d < max_depth → max_depth ≤ d + m → Clear v → PiecesFail u d (k v) (o d v)

abbrev FailsWhole : Bool → (Text → Text) → ℕ → (ℕ → Text → Text) → Type 0
FailsWhole u k m o = (d : ℕ) (v : Text) → d < max_depth → max_depth ≤ d + m → Ends v → WholeFails u d (k v) (o d v)

record FailsBy (u : Bool) (k3 k2 k1 k0 : Text → Text) (m3 m2 m1 m0 : ℕ) (o3 o2 o1 o0 : ℕ → Text → Text) : Type 0 where
  atom : FailsAtom u k3 m3 o3
  high : FailsRun u k3 m3 o3
  run : FailsRun u k2 m2 o2
  branch : FailsRun u k1 m1 o1
  whole : FailsWhole u k0 m0 o0

abbrev Fails : Bool → Tree → Type 0
Fails u t =
    FailsBy u (put t OPERAND) (put t PIECE) (put t BRANCH) (put t WHOLE) (nest t OPERAND) (nest t PIECE)
    (nest t BRANCH) (nest t WHOLE) (left t OPERAND) (left t PIECE)
    (left t BRANCH) (left t WHOLE)

abbrev EachFails : Bool → Trees → Type 0
EachFails u no_trees = Unit {0}
EachFails u (more_trees t ts) = Fails u t × EachFails u ts

to_whole : (u : Bool) (k : Text → Text) (m : ℕ) (o : ℕ → Text → Text) → FailsRun u k m o → FailsWhole u k m o
to_whole u k m o r d v l h e =
    fails_whole d (unicode_flags u) _ (k v)
    (fails_first d (unicode_flags u) _ (k v) (r d v l h e.stops.clear))

atom_run : (u : Bool) (k : Text → Text) (m : ℕ) (o : ℕ → Text → Text) → Starts k → FailsAtom u k m o → FailsRun u k m o
atom_run u k m o s a d v l h _ =
    fails_piece d (unicode_flags u) _ (k v) (kept_unicode u) (s v).goes
    (s v).clear.no_comment (a d v l h)

-- never wrapped
by_atom : (u : Bool) (k : Text → Text) (m : ℕ) (o : ℕ → Text → Text) → Starts k → FailsAtom u k m o →
    FailsBy u k k k k m m m m o o o o
by_atom u k m o s a =
    let r = atom_run u k m o s a in
    record { atom = a; high = r; run = r; branch = r; whole = to_whole u k m o r }

-- without a group
by_none : (u : Bool) (k : Text → Text) (o : ℕ → Text → Text) → FailsBy u k k k k 0 0 0 0 o o o o
by_none u k o =
    record {
      atom = λ d v l h. absurd (omega arith);
      high = λ d v l h c. absurd (omega arith);
      run = λ d v l h c. absurd (omega arith);
      branch = λ d v l h c. absurd (omega arith);
      whole = λ d v l h e. absurd (omega arith);
    }

-- one group that contains no other
by_one : (u : Bool) (k : Text → Text) → ((v : Text) → (t : Text) × (k v ≡ code "(" ∷ t)) → Starts k →
    FailsBy u k k k k 1 1 1 1 (λ d v. k v) (λ d v. k v) (λ d v. k v) (λ d v. k v)
by_one u k h s =
    by_atom u k 1 (λ d v. k v) s
    (λ d v l m. subst (λ w. AtomFails u d w w) (sym (h v).1) (fails_deep d (unicode_flags u) (h v).0 m))

-- a group that opens at `here` and contains something
opened : (u : Bool) (d : ℕ) (t inner : Text) → (d + 1 < max_depth → AtomFails u d (code "(" ∷ t) inner) →
    d < max_depth →
    AtomFails u d (code "(" ∷ t) (left_open d (code "(" ∷ t) inner)
opened u d t inner f l =
    cond_both (nat_le most_open d) (code "(" ∷ t) inner (λ at. AtomFails u d (code "(" ∷ t) at)
    (λ yes. let h = leb-true most_open d yes in fails_deep d (unicode_flags u) t (omega arith))
    (λ no. let h = leb-false most_open d no in f (omega arith))

abbrev wrapped_left : (Text → Text) → (ℕ → Text → Text) → ℕ → Text → Text
wrapped_left k o d v = left_open d (open_if true (k (code ")" ∷ v))) (o (d + 1) (code ")" ∷ v))

wrap_fails : (u : Bool) (k : Text → Text) (m : ℕ) (o : ℕ → Text → Text) → FailsWhole u k m o →
    FailsAtom u (wrapped k) (1 + m) (wrapped_left k o)
wrap_fails u k m o w d v l h =
    let s = k (code ")" ∷ v) in
    opened u d (code "?" ∷ code ":" ∷ s) (o (d + 1) (code ")" ∷ v))
    (λ b. fails_grouped d (unicode_flags u) _ s (kept_unicode u) b
    (w (d + 1) (code ")" ∷ v) b (omega arith) (ends_close v))) l

-- wrapped from 1 on, from 2 on, from 3 on
by_whole : (u : Bool) (k : Text → Text) (m : ℕ) (o : ℕ → Text → Text) → FailsWhole u k m o
    → FailsBy u (wrapped k) (wrapped k) (wrapped k) k (1 + m) (1 + m) (1 + m) (0 + m) (wrapped_left k o)
    (wrapped_left k o) (wrapped_left k o) o
by_whole u k m o w =
    let a = wrap_fails u k m o w in
    let r = atom_run u (wrapped k) (1 + m) (wrapped_left k o) (wrap_starts k) a in
    record { atom = a; high = r; run = r; branch = r; whole = λ d v l h e. w d v l (omega arith) e }

by_branch : (u : Bool) (k : Text → Text) (m : ℕ) (o : ℕ → Text → Text) → FailsRun u k m o
    → FailsBy u (wrapped k) (wrapped k) k k (1 + m) (1 + m) (0 + m) (0 + m) (wrapped_left k o) (wrapped_left k o) o o
by_branch u k m o b =
    let w = to_whole u k m o b in
    let a = wrap_fails u k m o w in
    let r = atom_run u (wrapped k) (1 + m) (wrapped_left k o) (wrap_starts k) a in
    record {
      atom = a;
      high = r;
      run = r;
      branch = λ d v l h c. b d v l (omega arith) c;
      whole = λ d v l h e. w d v l (omega arith) e;
    }

by_run : (u : Bool) (k : Text → Text) (m : ℕ) (o : ℕ → Text → Text) → FailsRun u k m o
    → FailsBy u (wrapped k) k k k (1 + m) (0 + m) (0 + m) (0 + m) (wrapped_left k o) o o o
by_run u k m o b =
    let w = to_whole u k m o b in
    let a = wrap_fails u k m o w in
    record {
      atom = a;
      high = atom_run u (wrapped k) (1 + m) (wrapped_left k o) (wrap_starts k) a;
      run = λ d v l h c. b d v l (omega arith) c;
      branch = λ d v l h c. b d v l (omega arith) c;
      whole = λ d v l h e. w d v l (omega arith) e;
    }

any_fails : (u a b : Bool) → Fails u (any a b)
any_fails u true b = by_one u (put_any true b) (λ v. (_, refl)) (begins_any true b)
any_fails u false true = by_one u (put_any false true) (λ v. (_, refl)) (begins_any false true)
any_fails u false false = by_none u (put_any false false) (λ d v. put_any false false v)

line_open : (c : ℕ) (r : Bool) (v : Text) → (t : Text) × (put_line c r v ≡ code "(" ∷ t)
line_open c false v = (_, refl)
line_open c true v = (_, refl)

assertion_fails : (u : Bool) (a : Assertion) → HasText a → Fails u (assertion a)
assertion_fails u (StartLine r) h =
    by_one u (put_line (code "^") r) (line_open (code "^") r) (λ v. begins_assertion (StartLine r) v tt)
assertion_fails u (StartLineOniguruma r) h =
    by_one u (put_line (code "^") r) (line_open (code "^") r) (λ v. begins_assertion (StartLine r) v tt)
assertion_fails u (EndLine r) h =
    by_one u (put_line (code "$") r) (line_open (code "$") r) (λ v. begins_assertion (EndLine r) v tt)
assertion_fails u a h = by_none u (put_assertion a) (λ d v. put_assertion a v)

group_fails : (u : Bool) (t : Tree) → Printable t → Fails u t → Fails u (group t)
group_fails u t h r =
    let k = λ (v : Text). code "(" ∷ put t WHOLE (code ")" ∷ v) in
    let clear = λ (v : Text). clear_put t h WHOLE (code ")" ∷ v) (clear_close v) in
    by_atom u k (1 + nest t WHOLE) (λ d v. left_open d (k v) (left t WHOLE (d + 1) (code ")" ∷ v)))
    (λ v. begins_group (put t WHOLE (code ")" ∷ v)) (clear v))
    (λ d v l m. opened u d (put t WHOLE (code ")" ∷ v)) (left t WHOLE (d + 1) (code ")" ∷ v))
    (λ b. fails_group d (unicode_flags u) _ (put t WHOLE (code ")" ∷ v)) (kept_unicode u) b (clear v)
    (r.whole (d + 1) (code ")" ∷ v) b (omega arith) (ends_close v))) l)

concat_fails : (u : Bool) (ts : Trees) → ArePrintable ts → EachReads u ts → EachFails u ts →
    FailsRun u (puts ts) (nests ts PIECE) (lefts ts)
concat_fails u no_trees h r q d v l m c = absurd (omega arith)
concat_fails u (more_trees t ts) h r q d v l m c =
    cond_both (nat_le max_depth (d + nest t PIECE)) _ _ (λ at. PiecesFail u d (put t PIECE (puts ts v)) at)
    (λ yes. q.0.run d (puts ts v) l (leb-true max_depth (d + nest t PIECE) yes) (clear_puts ts h.1 v c))
    (λ no.
    let b = leb-false max_depth (d + nest t PIECE) no in
    (r.0.run d (puts ts v) b (clear_puts ts h.1 v c)).pieces _
    (concat_fails u ts h.1 r.1 q.1 d v l (omega arith) c))

alt_fails : (u : Bool) (ts : Trees) → EachReads u ts → EachFails u ts → (d : ℕ) (v : Text) → d < max_depth →
    max_depth ≤ d + nests ts BRANCH → Ends v
    → BranchesFail u d (put_branches ts v) (branch_lefts ts d v)
alt_fails u no_trees r q d v l m e = absurd (omega arith)
alt_fails u (more_trees t no_trees) r q d v l m e =
    cond_both (nat_le max_depth (d + nest t BRANCH)) _ _ (λ at. BranchesFail u d (put t BRANCH v) at)
    (λ yes. fails_first d (unicode_flags u) _ (put t BRANCH v)
    (q.0.branch d v l (leb-true max_depth (d + nest t BRANCH) yes) e.stops.clear))
    (λ no. let b = leb-false max_depth (d + nest t BRANCH) no in absurd (omega arith))
alt_fails u (more_trees t (more_trees x xs)) r q d v l m e =
    let rest = put x BRANCH (put_barred xs v) in
    cond_both (nat_le max_depth (d + nest t BRANCH)) _ _ (λ at. BranchesFail u d (put t BRANCH (code "|" ∷ rest)) at)
    (λ yes. fails_first d (unicode_flags u) _ (put t BRANCH (code "|" ∷ rest))
    (q.0.branch d (code "|" ∷ rest) l (leb-true max_depth (d + nest t BRANCH) yes) (stops_bar rest).clear))
    (λ no.
    let b = leb-false max_depth (d + nest t BRANCH) no in
    fails_more d (unicode_flags u) _ (put t BRANCH (code "|" ∷ rest)) rest _
    (r.0.branch d (code "|" ∷ rest) b (stops_bar rest))
    (alt_fails u (more_trees x xs) r.1 q.1 d v l (omega arith) e))

-- what is put in a group of its own if asked for
fails_if : (u b : Bool) (k : Text → Text) (m : ℕ) (o : ℕ → Text → Text) → FailsAtom u k m o → FailsWhole u k m o →
    FailsAtom u (λ v. open_if b (k (close_if b v))) (one_if b + m) (λ d v. left_if b d k o v)
fails_if u true k m o a w = wrap_fails u k m o w
fails_if u false k m o a w = λ d v l h. a d v l (omega arith)

-- the operand of a quantifier
repeated_fails : (u : Bool) (t : Tree) → Fails u t →
    FailsAtom u (put_repeated t) (one_if (is_long t) + nest t OPERAND) (repeated_left t)
repeated_fails u t q =
    fails_if u (is_long t) (put t OPERAND) (nest t OPERAND) (left t OPERAND) q.atom
    (to_whole u (put t OPERAND) (nest t OPERAND) (left t OPERAND) q.high)

repeat_fails : (u : Bool) (t : Tree) (lo hi : ℕ) (greedy : Bool) → Printable (repeat t lo hi greedy) → Fails u t
    → FailsRun u (λ v. put_repeated t (quantifier lo hi greedy ++ v)) (one_if (is_long t) + nest t OPERAND)
    (λ d v. repeated_left t d (quantifier lo hi greedy ++ v))
repeat_fails u t lo hi greedy h q d v l m c =
    let w = quantifier lo hi greedy ++ v in
    let b = begins_repeated t (h.1 false) (begins_atom t h.0) w in
    fails_piece d (unicode_flags u) _ (put_repeated t w) (kept_unicode u) b.goes
    b.clear.no_comment (repeated_fails u t q d w l m)

mutual
  fails : (u : Bool) (t : Tree) → Printable t → Fails u t
  fails u empty h = by_none u (λ v. v) (λ d v. v)
  fails u (any a b) h = any_fails u a b
  fails u (assertion a) h = assertion_fails u a h
  fails u (literal s true) h =
      by_one u (λ v. code "(" ∷ code "?" ∷ code "i" ∷ code ":" ∷ put_quotes s (code ")" ∷ v)) (λ v. (_, refl))
      (λ v. begins_opening (code "i") _ refl)
  fails u (literal s false) h = by_none u (put_quotes s) (λ d v. put_quotes s v)
  fails u (delegate s true) h =
      by_one u (λ v. code "(" ∷ code "?" ∷ code "i" ∷ code ":" ∷ (s ++ code ")" ∷ v)) (λ v. (_, refl))
      (λ v. begins_opening (code "i") _ refl)
  fails u (delegate s false) h = by_none u (λ v. s ++ v) (λ d v. s ++ v)
  fails u (concat ts) h =
      by_branch u (puts ts) (nests ts PIECE) (lefts ts) (concat_fails u ts h (reads_each u ts h) (fails_each u ts h))
  fails u (alt ts) h =
      by_whole u (put_branches ts) (nests ts BRANCH) (branch_lefts ts)
      (λ d v l m e. fails_whole d (unicode_flags u) _ (put_branches ts v)
      (alt_fails u ts (reads_each u ts h) (fails_each u ts h) d v l m e))
  fails u (group t) h = group_fails u t h (fails u t h)
  fails u (repeat t lo hi greedy) h =
      by_run u (λ v. put_repeated t (quantifier lo hi greedy ++ v)) (one_if (is_long t) + nest t OPERAND)
      (λ d v. repeated_left t d (quantifier lo hi greedy ++ v)) (repeat_fails u t lo hi greedy h (fails u t h.0))
  fails u (define_group t) h = by_none u (λ v. v) (λ d v. v)
  fails u _ h = absurd h

  fails_each : (u : Bool) (ts : Trees) → ArePrintable ts → EachFails u ts
  fails_each u no_trees h = tt
  fails_each u (more_trees t ts) h = (fails u t h.0, fails_each u ts h.1)

-- ---- how many bytes are left

open_bytes : (d w n : ℕ) (here inner : Text) → w + n + bytes inner ≡ bytes here →
    at_open d w n + bytes (left_open d here inner) ≡ bytes here
open_bytes d w n here inner e = by_test (nat_le most_open d) where
  by_test : (b : Bool) → (if b then 0 else w + n) + bytes (if b then here else inner) ≡ bytes here
  by_test true = omega arith
  by_test false = omega arith

opening_bytes : (k : Text) → bytes (code "(" ∷ code "?" ∷ code ":" ∷ k) ≡ 3 + bytes k
unfolding bytes
opening_bytes k = omega arith

paren_bytes : (k : Text) → bytes (code "(" ∷ k) ≡ 1 + bytes k
unfolding bytes
paren_bytes k = omega arith

bar_bytes : (k : Text) → bytes (code "|" ∷ k) ≡ 1 + bytes k
unfolding bytes
bar_bytes k = omega arith

if_bytes : (b : Bool) (d : ℕ) (k : Text → Text) (m : ℕ → ℕ) (o : ℕ → Text → Text) (v : Text) →
    ((e : ℕ) (w : Text) → m e + bytes (o e w) ≡ bytes (k w))
    → at_open_if b d m + bytes (left_if b d k o v) ≡ bytes (open_if b (k (close_if b v)))
if_bytes true d k m o v h =
    open_bytes d 3 (m (d + 1)) (open_if true (k (code ")" ∷ v))) (o (d + 1) (code ")" ∷ v))
    (omega (arith, h (d + 1) (code ")" ∷ v), opening_bytes (k (code ")" ∷ v))))
if_bytes false d k m o v h = h d v

cond_bytes : (b : Bool) (m n k : ℕ) (x y : Text) → m + bytes x ≡ k → n + bytes y ≡ k →
    (if b then m else n) + bytes (if b then x else y) ≡ k
cond_bytes true m n k x y p q = p
cond_bytes false m n k x y p q = q

put_bytes : (t : Tree) (p : ℕ) (v : Text) → bytes (put t p v) ≡ bytes (printed t p) + bytes v
put_bytes t p v = ap bytes (put_text t p v) ∙ bytes-append (printed t p) v

mutual
  left_bytes : (t : Tree) (p d : ℕ) (v : Text) → position t p d + bytes (left t p d v) ≡ bytes (put t p v)
  left_bytes (concat ts) p d v =
      if_bytes (nat_lt BRANCH p) d (puts ts) (positions ts) (lefts ts) v (λ e w. lefts_bytes ts e w)
  left_bytes (alt ts) p d v =
      if_bytes (nat_lt WHOLE p) d (put_branches ts) (branch_positions ts) (branch_lefts ts) v
      (λ e w. branches_bytes ts e w)
  left_bytes (group t) p d v =
      open_bytes d 1 (position t WHOLE (d + 1)) (code "(" ∷ put t WHOLE (code ")" ∷ v))
      (left t WHOLE (d + 1) (code ")" ∷ v))
      (omega (arith, left_bytes t WHOLE (d + 1) (code ")" ∷ v), paren_bytes (put t WHOLE (code ")" ∷ v))))
  left_bytes (repeat t lo hi greedy) p d v =
      if_bytes (nat_lt PIECE p) d (λ w. put_repeated t (quantifier lo hi greedy ++ w))
      (λ e. at_open_if (is_long t) e (position t OPERAND)) (λ e w. repeated_left t e (quantifier lo hi greedy ++ w)) v
      (λ e w. if_bytes (is_long t) e (put t OPERAND) (position t OPERAND) (left t OPERAND) (quantifier lo hi greedy ++ w)
      (λ c x. left_bytes t OPERAND c x))
  left_bytes _ p d v = omega arith

  lefts_bytes : (ts : Trees) (d : ℕ) (v : Text) → positions ts d + bytes (lefts ts d v) ≡ bytes (puts ts v)
  lefts_bytes no_trees d v = omega arith
  lefts_bytes (more_trees t ts) d v =
      cond_bytes (nat_le max_depth (d + nest t PIECE)) _ _ _ _ _ (left_bytes t PIECE d (puts ts v))
      (omega (arith, put_bytes t PIECE (puts ts v), lefts_bytes ts d v))

  branches_bytes : (ts : Trees) (d : ℕ) (v : Text) →
      branch_positions ts d + bytes (branch_lefts ts d v) ≡ bytes (put_branches ts v)
  branches_bytes no_trees d v = omega arith
  branches_bytes (more_trees t ts) d v =
      cond_bytes (nat_le max_depth (d + nest t BRANCH)) _ _ _ _ _ (left_bytes t BRANCH d (put_barred ts v))
      (omega (arith, put_bytes t BRANCH (put_barred ts v), barred_bytes ts d v))

  barred_bytes : (ts : Trees) (d : ℕ) (v : Text) →
      barred_positions ts d + bytes (branch_lefts ts d v) ≡ bytes (put_barred ts v)
  barred_bytes no_trees d v = omega arith
  barred_bytes (more_trees t ts) d v =
      let b = nat_le max_depth (d + nest t BRANCH) in
      let h : (if b then position t BRANCH d else bytes (printed t BRANCH) + barred_positions ts d) + bytes
      (if b then left t BRANCH d (put_barred ts v) else branch_lefts ts d v) ≡ bytes (put t BRANCH (put_barred ts v)) =
      cond_bytes b _ _ _ _ _ (left_bytes t BRANCH d (put_barred ts v))
      (omega (arith, put_bytes t BRANCH (put_barred ts v), barred_bytes ts d v)) in
      omega (arith, h, bar_bytes (put t BRANCH (put_barred ts v)))

position_high : (t : Tree) (p : ℕ) → 3 ≤ p → position t p 0 ≡ position t OPERAND 0
position_high (concat ts) p h = ap (λ b. at_open_if b 0 (positions ts)) (lt-ltb BRANCH p (omega arith))
position_high (alt ts) p h = ap (λ b. at_open_if b 0 (branch_positions ts)) (lt-ltb WHOLE p (omega arith))
position_high (repeat t lo hi greedy) p h =
    ap (λ b. at_open_if b 0 (λ e. at_open_if (is_long t) e (position t OPERAND))) (lt-ltb PIECE p (omega arith))
position_high t p h = refl

abbrev DeepFrom : Bool → Text → ℕ → Type 0
DeepFrom u s p = FailsWith (unicode_flags u) s recursion_exceeded p

at_level : (t : Tree) (p : ℕ) (u : Bool) → max_depth ≤ nest t p → FailsWhole u (put t p) (nest t p) (left t p) →
    DeepFrom u (printed t p) (position t p 0)
at_level t p u h w =
    let s = put t p [] in
    let at : IsPositionOf (bytes s) (reach_of (left t p 0 [])) (position t p 0) = omega (arith, left_bytes t p 0 []) in
    subst (λ x. DeepFrom u x (position t p 0)) (put_alone t p)
    (fails_text (unicode_flags u) s _ (position t p 0)
    (w 0 [] (omega arith) (omega arith) ends_nothing) at)

-- if too many groups nest, the text fails at the first parenthesis that opens too deep
pub deep_fails : (t : Tree) (p : ℕ) (u : Bool) → Printable t → max_depth ≤ nest t p →
    FailsWith (unicode_flags u) (printed t p) recursion_exceeded (position t p 0)
deep_fails t zero u h m = at_level t WHOLE u m (fails u t h).whole
deep_fails t (suc zero) u h m =
    at_level t BRANCH u m (to_whole u (put t BRANCH) (nest t BRANCH) (left t BRANCH) (fails u t h).branch)
deep_fails t (suc (suc zero)) u h m =
    at_level t PIECE u m (to_whole u (put t PIECE) (nest t PIECE) (left t PIECE) (fails u t h).run)
deep_fails t (suc (suc (suc p))) u h m =
    let big : 3 ≤ suc (suc (suc p)) = omega arith in
    subst (DeepFrom u (printed t (suc (suc (suc p))))) (sym (position_high t (suc (suc (suc p))) big))
    (subst (λ s. DeepFrom u s (position t OPERAND 0)) (sym (text_high t (suc (suc (suc p))) big))
    (at_level t OPERAND u (omega (arith, nest_high t (suc (suc (suc p))) big))
    (to_whole u (put t OPERAND) (nest t OPERAND) (left t OPERAND) (fails u t h).high)))
