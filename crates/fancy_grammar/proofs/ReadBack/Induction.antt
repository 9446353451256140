-- What is printed reads back.
use Rattle.std.proofs.Common.{◌≡◌, ℕ, zero, suc, ◌+◌, ◌<◌, ◌≤◌, Bool, true, false, not, ◌&&◌, ◌||◌, List, [], ◌∷◌, ◌++◌}
use Rattle.std.proofs.Common.{map, refl, sym, ap, subst, arith, lt-ltb}
use Prim.Native.Char.{code}
use Rattle.fancy_lex.specs.Text.{Text}
use Rattle.fancy_lex.specs.declared.escape.Assertion.{Assertion}
use Rattle.fancy_lex.specs.declared.escape.Assertion.TheVariants.{StartLineOniguruma}
use Rattle.fancy_grammar.specs.Depth.{max_depth}
use Rattle.fancy_grammar.specs.Quote.{after_backslash, quantifier}
use Rattle.fancy_grammar.specs.Grammar.{DerivesTree}
use Rattle.fancy_grammar.specs.Join.{solid, join, choice}
use Rattle.fancy_grammar.specs.Normal.{normal_character, pieces_of, case_flags, unicode_flags, normal, normal_pieces}
use Rattle.fancy_grammar.specs.Normal.{normals}
use Rattle.fancy_grammar.specs.Quantified.{is_repeatable}
use Rattle.fancy_grammar.specs.Printed.{is_long, printed, operand_text, printed_all, printed_branches, grouped}
use Rattle.fancy_grammar.specs.Printed.{WHOLE, BRANCH, PIECE, OPERAND}
use Rattle.fancy_grammar.specs.Tree.{Tree, Trees, no_trees, more_trees, empty, any, assertion, literal, concat, alt}
use Rattle.fancy_grammar.specs.Tree.{group, repeat, delegate, define_group}
use Rattle.fancy_grammar.specs.Over.{is_at_line}
use Rattle.fancy_grammar.proofs.ReadBack.Nest.{nest, nests, one_if}
use Rattle.fancy_grammar.proofs.ReadBack.InFront.{put, puts, put_branches, put_barred, put_repeated, put_any}
use Rattle.fancy_grammar.proofs.ReadBack.InFront.{put_assertion, put_quotes, open_if, close_if, put_alone}
use Rattle.fancy_grammar.proofs.ReadBack.ClearLemmas.{Clear, Stops, Ends, clear_close, stops_bar, ends_close}
use Rattle.fancy_grammar.proofs.ReadBack.ClearLemmas.{ends_nothing}
use Rattle.fancy_grammar.proofs.ReadBack.CountTexts.{NoName, clear_name, quantifier_read}
use Rattle.fancy_grammar.proofs.ReadBack.RuleLemmas.{Becomes, kept_unicode, kept_case, AtomAs, BranchAs, BranchesAs}
use Rattle.fancy_grammar.proofs.ReadBack.RuleLemmas.{WholeAs, Run, no_run, run_chain, reads_piece, reads_repeat}
use Rattle.fancy_grammar.proofs.ReadBack.RuleLemmas.{reads_branch, reads_last, reads_more, reads_whole, reads_only}
use Rattle.fancy_grammar.proofs.ReadBack.RuleLemmas.{reads_group, reads_grouped, reads_caseless, reads_char, reads_text}
use Rattle.fancy_grammar.proofs.ReadBack.RuleLemmas.{join_one}
use Rattle.fancy_grammar.proofs.ReadBack.LeafLemmas.{Begins, whole_atom, quotes_run, reads_any, begins_any}
use Rattle.fancy_grammar.proofs.ReadBack.LeafLemmas.{reads_assertion, begins_assertion, read_assertion, HasText}
use Rattle.fancy_grammar.proofs.ReadBack.ShapeLemmas.{DelegateText, Printable, ArePrintable, IsAtom, atom_of}
use Rattle.fancy_grammar.proofs.ReadBack.ShapeLemmas.{begins_opening, begins_group, begins_atom, begins_repeated}
use Rattle.fancy_grammar.proofs.ReadBack.ShapeLemmas.{clear_put, clear_puts}

-- what k prints, with m groups nested, is read as the tree x
abbrev pub ReadsAtom : Bool → (Text → Text) → ℕ → Tree → Type 0
ReadsAtom u k m x = (d : ℕ) (v : Text) → d + m < max_depth → NoName v → AtomAs d (unicode_flags u) (k v) v x

abbrev pub ReadsRun : Bool → (Text → Text) → ℕ → List Tree → Type 0
ReadsRun u k m ys = (d : ℕ) (v : Text) → d + m < max_depth → Clear v → Run d (unicode_flags u) (k v) v ys

abbrev pub ReadsBranch : Bool → (Text → Text) → ℕ → Tree → Type 0
ReadsBranch u k m x = (d : ℕ) (v : Text) → d + m < max_depth → Stops v → BranchAs d (unicode_flags u) (k v) v x

abbrev pub ReadsWhole : Bool → (Text → Text) → ℕ → Tree → Type 0
ReadsWhole u k m x = (d : ℕ) (v : Text) → d + m < max_depth → Ends v → WholeAs d (unicode_flags u) (k v) v x

abbrev pub Starts : (Text → Text) → Type 0
Starts k = (v : Text) → Begins (k v)

atom_run : (u : Bool) (k : Text → Text) (m : ℕ) (x : Tree) → Starts k → ReadsAtom u k m x →
    ReadsRun u k m (solid (x ∷ []))
atom_run u k m x s a d v l c =
    reads_piece d (unicode_flags u) (k v) v x (kept_unicode u) (s v).goes (s v).clear.no_comment c
    (a d v l (clear_name v c))

to_branch : (u : Bool) (k : Text → Text) (m : ℕ) (ys : List Tree) (x : Tree) → join ys ≡ x → ReadsRun u k m ys →
    ReadsBranch u k m x
to_branch u k m ys x e r d v l h = reads_branch x (r d v l h.clear) e h

to_whole : (u : Bool) (k : Text → Text) (m : ℕ) (x : Tree) → ReadsBranch u k m x → ReadsWhole u k m x
to_whole u k m x b d v l e = reads_only d (unicode_flags u) (k v) v x (b d v l e.stops) e

-- in a group of its own
abbrev pub wrapped : (Text → Text) → Text → Text
wrapped k v = open_if true (k (code ")" ∷ v))

wrap_atom : (u : Bool) (k : Text → Text) (m : ℕ) (x : Tree) → ReadsWhole u k m x → ReadsAtom u (wrapped k) (1 + m) x
wrap_atom u k m x w d v l _ =
    reads_grouped d (unicode_flags u) (k (code ")" ∷ v)) v x (kept_unicode u) (omega arith)
    (w (d + 1) (code ")" ∷ v) (omega arith) (ends_close v))

pub wrap_starts : (k : Text → Text) → Starts (wrapped k)
wrap_starts k v = begins_opening (code ":") (k (code ")" ∷ v)) refl

-- What the texts k3, k2, k1 and k0 of the four precedences are read as, with m3 to m0 groups nested: the tree x as an
-- atom if IsOne holds, pieces with the trees ys, a branch with the tree x, and a whole alternation.
pub record ReadsBy (u : Bool) (k3 k2 k1 k0 : Text → Text) (m3 m2 m1 m0 : ℕ) (IsOne : Type 0) (x : Tree)
    (ys : List Tree) : Type 0 where
  pub atom : IsOne → ReadsAtom u k3 m3 x
  pub high : ReadsRun u k3 m3 ys
  pub run : ReadsRun u k2 m2 ys
  pub branch : ReadsBranch u k1 m1 x
  pub whole : ReadsWhole u k0 m0 x

abbrev pub ReadsTree : Bool → Tree → Type 0
ReadsTree u t =
    ReadsBy u (put t OPERAND) (put t PIECE) (put t BRANCH) (put t WHOLE) (nest t OPERAND) (nest t PIECE)
    (nest t BRANCH) (nest t WHOLE) (IsAtom t)
    (normal u t) (pieces_of t (normal u t))

abbrev pub EachReads : Bool → Trees → Type 0
EachReads u no_trees = Unit {0}
EachReads u (more_trees t ts) = ReadsTree u t × EachReads u ts

-- never wrapped
by_atom : (u : Bool) (k : Text → Text) (m : ℕ) (IsOne : Type 0) (x : Tree) → Starts k → ReadsAtom u k m x →
    ReadsBy u k k k k m m m m IsOne x (solid (x ∷ []))
by_atom u k m i x s a =
    let r = atom_run u k m x s a in
    let b = to_branch u k m (solid (x ∷ [])) x (join_one x) r in
    record { atom = λ _. a; high = r; run = r; branch = b; whole = to_whole u k m x b }

-- wrapped from 1 on
by_whole : (u : Bool) (k : Text → Text) (m : ℕ) (IsOne : Type 0) (x : Tree) → ReadsWhole u k m x
    → ReadsBy u (wrapped k) (wrapped k) (wrapped k) k (1 + m) (1 + m) (1 + m) (0 + m) IsOne x (solid (x ∷ []))
by_whole u k m i x w =
    let a = wrap_atom u k m x w in
    let r = atom_run u (wrapped k) (1 + m) x (wrap_starts k) a in
    record {
      atom = λ _. a;
      high = r;
      run = r;
      branch = to_branch u (wrapped k) (1 + m) (solid (x ∷ [])) x (join_one x) r;
      whole = λ d v l e. w d v (omega arith) e;
    }

-- wrapped from 2 on
by_branch : (u : Bool) (k : Text → Text) (m : ℕ) (IsOne : Type 0) (x : Tree) (ys : List Tree) → join ys ≡ x →
    ReadsRun u k m ys
    → ReadsBy u (wrapped k) (wrapped k) k k (1 + m) (1 + m) (0 + m) (0 + m) IsOne x (solid (x ∷ []))
by_branch u k m i x ys e r =
    let b = to_branch u k m ys x e r in
    let w = to_whole u k m x b in
    let a = wrap_atom u k m x w in
    let h = atom_run u (wrapped k) (1 + m) x (wrap_starts k) a in
    record {
      atom = λ _. a;
      high = h;
      run = h;
      branch = λ d v l c. b d v (omega arith) c;
      whole = λ d v l c. w d v (omega arith) c;
    }

-- wrapped from 3 on
by_run : (u : Bool) (k : Text → Text) (m : ℕ) (IsOne : Type 0) (x : Tree) → ReadsRun u k m (solid (x ∷ []))
    → ReadsBy u (wrapped k) k k k (1 + m) (0 + m) (0 + m) (0 + m) IsOne x (solid (x ∷ []))
by_run u k m i x r =
    let b = to_branch u k m (solid (x ∷ [])) x (join_one x) r in
    let w = to_whole u k m x b in
    let a = wrap_atom u k m x w in
    record {
      atom = λ _. a;
      high = atom_run u (wrapped k) (1 + m) x (wrap_starts k) a;
      run = λ d v l c. r d v (omega arith) c;
      branch = λ d v l c. b d v (omega arith) c;
      whole = λ d v l c. w d v (omega arith) c;
    }

-- ---- each kind of tree

empty_reads : (u : Bool) → ReadsTree u empty
empty_reads u =
    let k = λ (v : Text). v in
    let r : ReadsRun u k 0 [] = λ d v l c. no_run d (unicode_flags u) v in
    let b = to_branch u k 0 [] empty refl r in
    record { atom = λ i. absurd i; high = r; run = r; branch = b; whole = to_whole u k 0 empty b }

define_reads : (u : Bool) (t : Tree) → ReadsTree u (define_group t)
define_reads u t =
    let r = empty_reads u in
    record { atom = λ i. absurd i; high = r.high; run = r.run; branch = r.branch; whole = r.whole }

any_reads : (u a b : Bool) → ReadsTree u (any a b)
any_reads u a b =
    by_atom u (put_any a b) (one_if (a || b)) (Unit {0}) (any a (not a && b)) (begins_any a b)
    (λ d v l _. reads_any d u a b v l)

assertion_is : (u : Bool) (a : Assertion) → read_assertion a ≡ normal u (assertion a)
assertion_is u (StartLineOniguruma crlf) = refl
assertion_is u _ = refl

assertion_reads : (u : Bool) (a : Assertion) → HasText a → ReadsTree u (assertion a)
assertion_reads u a h =
    let k = put_assertion a in
    let m = one_if (is_at_line a) in
    subst (λ x. ReadsBy u k k k k m m m m (Unit {0}) x (solid (x ∷ []))) (assertion_is u a)
    (by_atom u k m (Unit {0}) (read_assertion a) (λ v. begins_assertion a v h)
    (λ d v l e. reads_assertion d u a v h l e))

caseless_reads : (u : Bool) (s : Text) → ReadsTree u (literal s true)
caseless_reads u s =
    let k = λ (v : Text). code "(" ∷ code "?" ∷ code "i" ∷ code ":" ∷ put_quotes s (code ")" ∷ v) in
    let f = case_flags u true in
    let x = join (map (normal_character true) s) in
    by_atom u k 1 (Unit {0}) x (λ v. begins_opening (code "i") _ refl)
    (λ d v l _. reads_caseless d u (put_quotes s (code ")" ∷ v)) v x l
    (reads_only (d + 1) f (put_quotes s (code ")" ∷ v)) (code ")" ∷ v) x
    (reads_branch x (quotes_run (d + 1) f s (code ")" ∷ v) (kept_case u true) (clear_close v)) refl
    (ends_close v).stops) (ends_close v)))

literal_atom : (u : Bool) (s : Text) → IsAtom (literal s false) →
    ReadsAtom u (put_quotes s) 0 (join (map (normal_character false) s))
literal_atom u [] i d v l _ = absurd i
literal_atom u (c ∷ []) i d v l _ = reads_char d (unicode_flags u) c v (after_backslash c) refl
literal_atom u (c ∷ e ∷ cs) i d v l _ = absurd i

literal_reads : (u : Bool) (s : Text) → ReadsTree u (literal s false)
literal_reads u s =
    let k = put_quotes s in
    let ys = map (normal_character false) s in
    let r : ReadsRun u k 0 ys = λ d v l c. quotes_run d (unicode_flags u) s v (kept_unicode u) c in
    let b = to_branch u k 0 ys (join ys) refl r in
    record { atom = literal_atom u s; high = r; run = r; branch = b; whole = to_whole u k 0 (join ys) b }

delegate_reads : (u : Bool) (s : Text) → DelegateText s → ReadsTree u (delegate s false)
delegate_reads u s h =
    by_atom u (λ v. s ++ v) 0 (Unit {0}) (normal u (delegate s false)) h.begins (λ d v l _. h.reads d u false v)

caseless_delegate_reads : (u : Bool) (s : Text) → DelegateText s → ReadsTree u (delegate s true)
caseless_delegate_reads u s h =
    let x = normal u (delegate s true) in
    by_atom u (λ v. code "(" ∷ code "?" ∷ code "i" ∷ code ":" ∷ (s ++ code ")" ∷ v)) 1 (Unit {0}) x
    (λ v. begins_opening (code "i") _ refl)
    (λ d v l _. reads_caseless d u (s ++ code ")" ∷ v) v x l
    (whole_atom (d + 1) (case_flags u true) (s ++ code ")" ∷ v) v x (kept_case u true)
    (h.begins (code ")" ∷ v)) (h.reads (d + 1) u true (code ")" ∷ v))))

group_reads : (u : Bool) (t : Tree) → Printable t → ReadsTree u t → ReadsTree u (group t)
group_reads u t h r =
    let k = λ (v : Text). code "(" ∷ put t WHOLE (code ")" ∷ v) in
    by_atom u k (1 + nest t WHOLE) (Unit {0}) (group (normal u t))
    (λ v. begins_group _ (clear_put t h WHOLE (code ")" ∷ v) (clear_close v)))
    (λ d v l _. reads_group d (unicode_flags u) (put t WHOLE (code ")" ∷ v)) v (normal u t) (kept_unicode u)
    (omega arith) (clear_put t h WHOLE (code ")" ∷ v) (clear_close v))
    (r.whole (d + 1) (code ")" ∷ v) (omega arith) (ends_close v)))

concat_run : (u : Bool) (ts : Trees) → ArePrintable ts → EachReads u ts →
    ReadsRun u (puts ts) (nests ts PIECE) (normal_pieces u ts)
concat_run u no_trees h r d v l c = no_run d (unicode_flags u) v
concat_run u (more_trees t ts) h r d v l c =
    run_chain (r.0.run d (puts ts v) (omega arith) (clear_puts ts h.1 v c))
    (concat_run u ts h.1 r.1 d v (omega arith) c)

concat_reads : (u : Bool) (ts : Trees) → ArePrintable ts → EachReads u ts → ReadsTree u (concat ts)
concat_reads u ts h r =
    by_branch u (puts ts) (nests ts PIECE) (Unit {0}) (join (normal_pieces u ts)) (normal_pieces u ts) refl
    (concat_run u ts h r)

alt_branches : (u : Bool) (t : Tree) (ts : Trees) → ReadsTree u t → EachReads u ts → (d : ℕ) (v : Text) →
    d + nest t BRANCH < max_depth → d + nests ts BRANCH < max_depth → Ends v
    → BranchesAs d (unicode_flags u) (put t BRANCH (put_barred ts v)) v (normal u t ∷ normals u ts)
alt_branches u t no_trees r rs d v l m e =
    reads_last d (unicode_flags u) (put t BRANCH v) v (normal u t) (r.branch d v l e.stops) e
alt_branches u t (more_trees x xs) r rs d v l m e =
    reads_more d (unicode_flags u) (put t BRANCH (code "|" ∷ put x BRANCH (put_barred xs v)))
    (put x BRANCH (put_barred xs v)) v
    (normal u t) (normal u x ∷ normals u xs)
    (r.branch d (code "|" ∷ put x BRANCH (put_barred xs v)) l (stops_bar _))
    (alt_branches u x xs rs.0 rs.1 d v (omega arith) (omega arith) e)

alt_whole : (u : Bool) (ts : Trees) → EachReads u ts →
    ReadsWhole u (put_branches ts) (nests ts BRANCH) (choice (normals u ts))
alt_whole u no_trees r d v l e =
    reads_only d (unicode_flags u) v v empty (reads_branch empty (no_run d (unicode_flags u) v) refl e.stops) e
alt_whole u (more_trees t ts) r d v l e =
    reads_whole d (unicode_flags u) (put t BRANCH (put_barred ts v)) v (normal u t ∷ normals u ts)
    (alt_branches u t ts r.0 r.1 d v (omega arith) (omega arith) e)

alt_reads : (u : Bool) (ts : Trees) → EachReads u ts → ReadsTree u (alt ts)
alt_reads u ts r = by_whole u (put_branches ts) (nests ts BRANCH) (Unit {0}) (choice (normals u ts)) (alt_whole u ts r)

join_items : (u : Bool) (t : Tree) → join (pieces_of t (normal u t)) ≡ normal u t
join_items u (literal s false) = refl
join_items u t = join_one (normal u t)

from_run : (u : Bool) (t : Tree) (p : ℕ) → ReadsRun u (put t p) (nest t p) (pieces_of t (normal u t)) →
    ReadsWhole u (put t p) (nest t p) (normal u t)
from_run u t p r =
    to_whole u (put t p) (nest t p) (normal u t)
    (to_branch u (put t p) (nest t p) (pieces_of t (normal u t)) (normal u t) (join_items u t) r)

-- what is put in a group of its own if asked for
atom_if : (u b : Bool) (k : Text → Text) (m : ℕ) (x : Tree) → (b ≡ false → ReadsAtom u k m x) → ReadsWhole u k m x →
    ReadsAtom u (λ v. open_if b (k (close_if b v))) (one_if b + m) x
atom_if u true k m x a w = wrap_atom u k m x w
atom_if u false k m x a w = λ d v l c. a refl d v (omega arith) c

-- the operand of a quantifier is one atom
repeated_atom : (u : Bool) (t : Tree) → is_repeatable (unicode_flags false) (normal false t) ≡ true → ReadsTree u t →
    ReadsAtom u (put_repeated t) (one_if (is_long t) + nest t OPERAND) (normal u t)
repeated_atom u t n r =
    atom_if u (is_long t) (put t OPERAND) (nest t OPERAND) (normal u t) (λ e. r.atom (atom_of t n e))
    (from_run u t OPERAND r.high)

repeat_run : (u : Bool) (t : Tree) (lo hi : ℕ) (greedy : Bool) → Printable (repeat t lo hi greedy) → ReadsTree u t
    → ReadsRun u (λ v. put_repeated t (quantifier lo hi greedy ++ v)) (one_if (is_long t) + nest t OPERAND)
    (repeat (normal u t) lo hi greedy ∷ [])
repeat_run u t lo hi greedy h r d v l c =
    let q = quantifier lo hi greedy ++ v in
    let m = quantifier_read lo hi greedy v h.2 h.3 in
    let b = begins_repeated t (h.1 false) (begins_atom t h.0) q in
    reads_repeat d (unicode_flags u) (put_repeated t q) q v (normal u t) lo hi greedy
    (kept_unicode u) b.goes b.clear.no_comment c m (h.1 u)
    (repeated_atom u t (h.1 false) r d q l m.no_name)

repeat_reads : (u : Bool) (t : Tree) (lo hi : ℕ) (greedy : Bool) → Printable (repeat t lo hi greedy) → ReadsTree u t →
    ReadsTree u (repeat t lo hi greedy)
repeat_reads u t lo hi greedy h r =
    by_run u (λ v. put_repeated t (quantifier lo hi greedy ++ v)) (one_if (is_long t) + nest t OPERAND) (Unit {0})
    (repeat (normal u t) lo hi greedy) (repeat_run u t lo hi greedy h r)

mutual
  pub reads : (u : Bool) (t : Tree) → Printable t → ReadsTree u t
  reads u empty h = empty_reads u
  reads u (any a b) h = any_reads u a b
  reads u (assertion a) h = assertion_reads u a h
  reads u (literal s true) h = caseless_reads u s
  reads u (literal s false) h = literal_reads u s
  reads u (delegate s true) h = caseless_delegate_reads u s h
  reads u (delegate s false) h = delegate_reads u s h
  reads u (concat ts) h = concat_reads u ts h (reads_each u ts h)
  reads u (alt ts) h = alt_reads u ts (reads_each u ts h)
  reads u (group t) h = group_reads u t h (reads u t h)
  reads u (repeat t lo hi greedy) h = repeat_reads u t lo hi greedy h (reads u t h.0)
  reads u (define_group t) h = define_reads u t
  reads u _ h = absurd h

  pub reads_each : (u : Bool) (ts : Trees) → ArePrintable ts → EachReads u ts
  reads_each u no_trees h = tt
  reads_each u (more_trees t ts) h = (reads u t h.0, reads_each u ts h.1)

-- ---- any precedence

pub text_high : (t : Tree) (p : ℕ) → 3 ≤ p → printed t p ≡ printed t OPERAND
text_high (literal s casei) p h = refl
text_high (concat ts) p h = ap (λ b. grouped b (printed_all ts)) (lt-ltb BRANCH p (omega arith))
text_high (alt ts) p h = ap (λ b. grouped b (printed_branches ts)) (lt-ltb WHOLE p (omega arith))
text_high (repeat t lo hi greedy) p h =
    ap (λ b. grouped b (operand_text t ++ quantifier lo hi greedy)) (lt-ltb PIECE p (omega arith))
text_high t p h = refl

pub nest_high : (t : Tree) (p : ℕ) → 3 ≤ p → nest t p ≡ nest t OPERAND
nest_high (literal s casei) p h = refl
nest_high (concat ts) p h = ap (λ b. one_if b + nests ts PIECE) (lt-ltb BRANCH p (omega arith))
nest_high (alt ts) p h = ap (λ b. one_if b + nests ts BRANCH) (lt-ltb WHOLE p (omega arith))
nest_high (repeat t lo hi greedy) p h =
    ap (λ b. one_if b + (one_if (is_long t) + nest t OPERAND)) (lt-ltb PIECE p (omega arith))
nest_high t p h = refl

abbrev ReadsFrom : Bool → Tree → Text → Type 0
ReadsFrom u t s = (r : Tree) × DerivesTree (unicode_flags u) s r × Becomes r (normal u t)

from_whole : (u : Bool) (t : Tree) (s : Text) → WholeAs 0 (unicode_flags u) s [] (normal u t) →
    ReadsFrom u t s
from_whole u t s w = reads_text (unicode_flags u) s (normal u t) w

at_level : (t : Tree) (p : ℕ) (u : Bool) → nest t p < max_depth → ReadsWhole u (put t p) (nest t p) (normal u t) →
    ReadsFrom u t (printed t p)
at_level t p u l w =
    subst (ReadsFrom u t) (put_alone t p)
    (from_whole u t (put t p []) (w 0 [] (omega arith) ends_nothing))

pub reads_back : (t : Tree) (p : ℕ) (u : Bool) → Printable t → nest t p < max_depth → ReadsFrom u t (printed t p)
reads_back t zero u h l = at_level t WHOLE u l (reads u t h).whole
reads_back t (suc zero) u h l =
    at_level t BRANCH u l (to_whole u (put t BRANCH) (nest t BRANCH) (normal u t) (reads u t h).branch)
reads_back t (suc (suc zero)) u h l = at_level t PIECE u l (from_run u t PIECE (reads u t h).run)
reads_back t (suc (suc (suc p))) u h l =
    let big : 3 ≤ suc (suc (suc p)) = omega arith in
    subst (ReadsFrom u t) (sym (text_high t (suc (suc (suc p))) big))
    (at_level t OPERAND u (omega (arith, nest_high t (suc (suc (suc p))) big))
    (from_run u t OPERAND (reads u t h).high))
