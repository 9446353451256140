-- How each step of the loop keeps the contents of the stack valid.
use Rattle.std.proofs.Common.{◌≡◌, ◌≢◌, ◌==◌, if◌then◌else◌, tests, rules, ℕ, ◌+◌, Bool, true, false}
use Rattle.std.proofs.Common.{true≢false, List, [], ◌∷◌, ◌++◌, length, Some, None, refl, sym, ap, ◌∙◌}
use Rattle.std.proofs.Common.{subst, append-nil, arith, Option}
use Rattle.std.proofs.lemmas.Bool.{cond-true, cond-false}
use Rattle.std.proofs.lemmas.Bool.Decides.{nat_tests}
use Rattle.std.proofs.lemmas.List.{length_push, append_assoc}
use Prim.Native.Char.{code}
use Rattle.fancy_lex.specs.Located.{Located}
use Rattle.fancy_lex.specs.ErrorTable.{bar_for_close_paren, body_missing}
use Rattle.fancy_lex.specs.LayoutSteps.{rest, failed as open_comment}
use Rattle.fancy_lex.specs.Text.{Text, bytes, reach_of, strip}
use Rattle.fancy_lex.specs.declared.error.ReadError.{ReadError}
use Rattle.fancy_lex.specs.declared.flags.Flags.{Flags}
use Rattle.fancy_lex.specs.declared.error.ReadError.TheVariants.{At}
use Rattle.fancy_lex.specs.declared.error.ParseError.TheVariants.{UnclosedOpenParen}
use Rattle.fancy_lex.specs.Reading.{choose}
use Rattle.fancy_grammar.specs.Grammar.{Alternation, alternation, last, branch_error, branch, stop}
use Rattle.fancy_grammar.specs.Grammar.{piece_error, Piece, piece, layout_error, Atom, atom, Inside, inside, the_body}
use Rattle.fancy_grammar.specs.Grammar.{condition_error, two_branches, one_branch, absent_error, closed, not_closed}
use Rattle.fancy_grammar.specs.Grammar.{more, next, restored, conditional_after, clear_or_stopper}
use Rattle.fancy_grammar.specs.Grammar as grammar
use Rattle.fancy_grammar.specs.Items.{Item, items}
use Rattle.fancy_grammar.specs.Join.{solid, one_or, choice}
use Rattle.fancy_grammar.specs.Spans.{end_of}
use Rattle.fancy_syntax.specs.Log.{Log, body_begun, branch_begun, branch_ended, atom_closed}
use Rattle.fancy_syntax.specs.Recording.{PieceTo, PiecesTo, BranchTo, BranchesTo, AlternationTo, piece_recorded}
use Rattle.fancy_syntax.specs.Recording.{pieces_recorded}
use Rattle.fancy_syntax.specs.Recording.{branches_recorded, atom_recorded, inside_recorded, quants_recorded}
use Rattle.fancy_syntax.specs.Recording.{group_recorded, atom_read}
use Rattle.fancy_syntax.specs.Recording.{conditional_recorded, stopper_recorded, choice_recorded, added}
use Rattle.fancy_grammar.specs.Grammar.{a_nothing, a_read}
use Rattle.fancy_syntax.specs.Log.{leaf_recorded, left_out, pass, layout_passed}
use Rattle.fancy_syntax.specs.Machine.{IsPlainLeaf}
use Rattle.fancy_syntax.specs.Machine.{part_recorded}
use Rattle.fancy_syntax.specs.Machine.{OpenPart, top, group, condition, body, first, second, part_of, holds_one}
use Rattle.fancy_syntax.specs.Machine.{is_second, items_opening, opened_by_bar, branches_at_bar, IsErrorOfBar, Part, OpensPart}
use Rattle.fancy_syntax.specs.Machine.{a_group}
use Rattle.fancy_syntax.specs.Machine.{a_condition, a_body, after_condition, a_branch, after_branch, lacks_body}
use Rattle.fancy_syntax.specs.Machine.{has_body_next, ended_part, ended_with, made_of, Began, IsPart, ReadSoFar}
use Rattle.fancy_syntax.specs.Machine.{OpenGroups, Running}
use Rattle.fancy_syntax.specs.Machine.{outermost, inner, HoldsTrees, IsStep}
use Rattle.fancy_grammar.specs.GroupKind.{group_node}
use Rattle.fancy_grammar.specs.Quantified.{quants}
use Rattle.fancy_grammar.specs.Errors.{IsErrorAmong}
use Rattle.fancy_grammar.specs.State.{ends, skipped, State, at, Outcome, done, failed, and_then, mapped}
use Rattle.fancy_grammar.specs.Tree.{Tree, concat, expression}
use Rattle.fancy_syntax.specs.declared.grammar.frame.Enclosing.{Enclosing}
use Rattle.fancy_syntax.specs.declared.grammar.frame.Frame.{Frame}
use Rattle.fancy_syntax.specs.declared.grammar.frame.PieceStart.{PieceStart}
use Rattle.fancy_syntax.specs.declared.grammar.frame.OpenPart as declared
use Rattle.fancy_lex.proofs.TextLemmas.{strip_is}
use Rattle.fancy_grammar.proofs.OutcomeLemmas.{Holds, IsErrorAmong-map, before-nil, before-push}
use Rattle.fancy_grammar.proofs.OutcomeLemmas.{trees_before, solid-append, piece_as}
use Rattle.fancy_grammar.proofs.ReadLaws.{piece_read}
use Rattle.fancy_grammar.proofs.Slices.{current, on, strip_slice}
use Rattle.fancy_syntax.specs.Found.{items_in}
use Rattle.fancy_syntax.proofs.ItemsReadLemmas.{items_append, items_one, items_pieces, items_branches_pieces, items_under}
use Rattle.fancy_syntax.proofs.ItemsReadLemmas.{items_solid, items_choice_pieces}
use Rattle.fancy_syntax.proofs.PassedLemmas.{nothing_passed}
use Rattle.fancy_syntax.proofs.SolidLemmas.{IsSolid, quants_solid}
use Rattle.fancy_syntax.proofs.TreesLemmas.{push-same}

-- ---- a step

-- an atom, with the log before and the log after
abbrev pub AtomTo : ℕ → State → Outcome Tree → Log → Log → Type 0
AtomTo d s o l m = (a : Atom d s o) × (atom_recorded a l ≡ m)

-- an atom after layout is a piece under its quantifiers
pub piece_to : {d : ℕ} {s : State} {u : Text} {q o : Outcome Tree} {l m n : Log} → skipped s ≡ rest u →
    AtomTo d (at s u) q (layout_passed s l) m → and_then q (quants d (bytes s.rest)) ≡ o →
    quants_recorded (bytes s.rest) q m ≡ n → PieceTo d s o l n
piece_to {d} {s} {q} {l} {n} i (a, h) e j =
    subst (λ o. PieceTo d s o l n) e (piece i a, ap (quants_recorded (bytes s.rest) q) h ∙ j)

-- so it is a step, after which its tree follows the others unless it is Empty
pub steps_piece : {d left : ℕ} (g : Bool) (s : State) {t v : State} {u : Text} {a r : Tree} {l m : Log} (ts : List Tree) →
    left ≡ bytes s.rest → skipped s ≡ rest u → AtomTo d (at s u) (done a t) (layout_passed s l) m →
    quants d left a t ≡ done r v →
    IsStep g d s l ts None (ts ++ solid (r ∷ [])) v (added r (quants_recorded left (done a t) m))
    (items_in (solid (r ∷ [])))
steps_piece {d} {left} g s {t} {v} {a} {r} {m} ts i k x h = (
  r,
  quants_recorded left (done a t) m,
  piece_to k x (subst (λ z. quants d z a t ≡ done r v) i h) (ap (λ z. quants_recorded z (done a t) m) (sym i)),
  refl,
  refl,
  refl,
)

-- an error in its quantifiers is the error of the piece
pub steps_error : {d left : ℕ} (s : State) {t : State} {u : Text} {a : Tree} (e : ReadError) → left ≡ bytes s.rest →
    skipped s ≡ rest u → Atom d (at s u) (done a t) → IsErrorAmong e (λ o. quants d left a t ≡ o) →
    IsErrorAmong e (Piece d s)
steps_error {d} {left} s {t} {a} e i k x h =
    IsErrorAmong-map (λ o. quants d left a t ≡ o) (Piece d s) e
    (λ f g. piece_as k x (subst (λ z. quants d z a t ≡ failed f) i g)) h

-- an error in the layout before a piece is the error of the piece
pub steps_layout : (d : ℕ) (s : State) {p : ℕ} (e : ReadError) → e ≡ At p UnclosedOpenParen →
    skipped s ≡ open_comment p → IsErrorAmong e (Piece d s)
steps_layout d s e i l = rw i (layout_error l)

-- ---- open parts

-- an error inside is the error of the piece
pub opens_error : {d : ℕ} {s v : State} {error : Located} {o : OpenPart} {l m : Log} (n : Log) → OpensPart d s l o v m →
    Part o (d + 1) v (failed error) m n → Piece d s (failed error)
opens_error n (a_group l e) (r, x) = piece l (atom e (grammar.a_group (inside r)))
opens_error n (a_condition l e) (r, x) = piece l (atom e (condition_error (inside r)))
opens_error n (a_body l e) (r, x) = piece l (atom e (grammar.a_body (the_body r)))
opens_error n (after_condition (a_condition l e) i) (r, x) = piece l (atom e (grammar.a_condition i (the_body r)))
opens_error n (a_branch l e) (r, x) = piece l (atom e (absent_error r))
opens_error n (after_branch (a_branch l e) b f) (r, x) = piece l (atom e (two_branches b f r))

-- a closing parenthesis is taken whatever the tree
pub closed_through : (f : Tree → Tree) (r : Tree) (s : State) → mapped f (closed r s) ≡ closed (f r) s
closed_through f r s = by_paren (strip (code ")") s.rest)
  where
    by_paren : (o : Option Text) →
        mapped f (choose o (λ u. done r (at s u)) (failed (not_closed s.rest)))
        ≡ choose o (λ u. done (f r) (at s u)) (failed (not_closed s.rest))
    by_paren (Some u) = refl
    by_paren None = refl

pub ended_without_body : (g : declared.OpenPart) (r : Tree) (s : State) → lacks_body (part_of g) s ≡ true →
    ended_with g r s ≡ failed (body_missing s.rest)
ended_without_body g r s e = rw e refl

pub ended_closed : (g : declared.OpenPart) (r : Tree) (s : State) → lacks_body (part_of g) s ≡ false →
    ended_with g r s ≡ closed (made_of g r) s
ended_closed g r s e = rw e refl

-- a bar may end a single-branch part only if it is the second branch of an absent expression, and then it is an error
abbrev MayEnd : OpenPart → State → Type 0
MayEnd p s = holds_one p ≡ true → is_second p ≡ false → strip (code "|") s.rest ≡ None

-- the same, if the outcome decides the log
closed_to : {d : ℕ} {s : State} (f : Flags) (g : Tree → Tree) (r : Tree) (w : State) (h : Outcome Tree → Log) (l : Log) →
    AtomTo d s (restored f (mapped g (closed r w))) l (h (mapped g (closed r w))) →
    AtomTo d s (restored f (closed (g r) w)) l (h (closed (g r) w))
closed_to {d} {s} f g r w h l a = subst (λ o. AtomTo d s (restored f o) l (h o)) (closed_through g r w) a

-- a part ends, and the atom with it: the flags from before it are restored; the end of the outcome decides the log
opens_ended : {d : ℕ} {s v : State} {p : OpenPart} {l m : Log} (n : Log) (r : Tree) (w : State) → OpensPart d s l p v m →
    Part p (d + 1) v (done r w) m n → has_body_next p ≡ false →
    MayEnd p w → (t : Text) × (skipped s ≡ rest t)
    × AtomTo d (at s t) (restored s.flags (ended_part p r w)) (layout_passed s l)
    (part_recorded p r (reach_of w.rest) (end_of (ended_part p r w)) n)
opens_ended {d} {s} {l} n q w (a_group {u} {h} i e) (r, x) g f = (
  u,
  i,
  closed_to s.flags (group_node h (reach_of u)) q w (λ o. group_recorded h (end_of o) n) (layout_passed s l) (
    atom e (grammar.a_group (inside r)),
    ap (group_recorded h (end_of (mapped (group_node h (reach_of u)) (closed q w)))) x,
  ),
)
opens_ended n q w (a_condition i e) r g f = absurd (true≢false g)
opens_ended n q w (a_body {t} {u} {c} i e) (r, x) g f = (
  u,
  i,
  (
    atom e (grammar.a_body (the_body r)),
    ap (conditional_recorded q (reach_of w.rest) (end_of (conditional_after c (bytes t.rest) q w))) x,
  ),
)
opens_ended n q w (after_condition {v} {c} (a_condition {u} i e) j) (r, x) g f = (
  u,
  i,
  (
    atom e (grammar.a_condition j (the_body r)),
    ap (conditional_recorded q (reach_of w.rest) (end_of (conditional_after c (bytes v.rest) q w))) x,
  ),
)
opens_ended n q w (a_branch {u} i e) (r, x) g f = (
  u,
  i,
  (atom e (one_branch r (f refl refl)), ap (stopper_recorded q (end_of (closed (clear_or_stopper q) w))) x),
)
opens_ended n q w (after_branch {a} (a_branch {u} i e) b j) (r, x) g f = (
  u,
  i,
  (atom e (two_branches b j r), ap (atom_closed (end_of (closed (expression a q) w)) false) x),
)

-- if the atom continues, the body of the conditional comes next
pub closes_condition : {d : ℕ} {s v t : State} {p : OpenPart} {c : Tree} {l m : Log} (n : Log) (r : Tree) (w : State) →
    OpensPart d s l p v m → Part p (d + 1) v (done r w) m n → has_body_next p ≡ true → ended_part p r w ≡ done c t →
    OpensPart d s l (body c (bytes t.rest)) t (part_recorded p r (reach_of w.rest) (reach_of t.rest) n)
closes_condition {d} {s} {v} {t} {c} {l} {m} n r w (a_condition i e) (x, y) g h =
    let (z, k) = subst (λ o. (a : Inside d v o) × (inside_recorded a m ≡ n)) h (inside x, y) in
    subst (λ n. OpensPart d s l (body c (bytes t.rest)) t (body_begun (reach_of t.rest) n)) k
    (after_condition (a_condition i e) z)
closes_condition n r w (a_group l e) x g h = absurd (true≢false (sym g))
closes_condition n r w (a_body l e) x g h = absurd (true≢false (sym g))
closes_condition n r w (after_condition x y) z g h = absurd (true≢false (sym g))
closes_condition n r w (a_branch l e) x g h = absurd (true≢false (sym g))
closes_condition n r w (after_branch x y z) a g h = absurd (true≢false (sym g))

-- an error at the end of a part is the error of the piece
pub ended_error : {d : ℕ} {s v : State} {error : Located} {p : OpenPart} {l m : Log} (n : Log) (r : Tree) (w : State) →
    OpensPart d s l p v m → Part p (d + 1) v (done r w) m n →
    MayEnd p w → ended_part p r w ≡ failed error → Piece d s (failed error)
ended_error {d} {s} {error} {p} {l} n r w x y f h = by_goes (has_body_next p) refl
  where
    of_condition : {v : State} {p : OpenPart} {m : Log} → OpensPart d s l p v m → Part p (d + 1) v (done r w) m n →
        has_body_next p ≡ true → ended_part p r w ≡ failed error → Piece d s (failed error)
    of_condition {v} (a_condition l e) (x, y) g h =
        piece l (atom e (condition_error (subst (Inside d v) h (inside x))))
    of_condition (a_group l e) x g h = absurd (true≢false (sym g))
    of_condition (a_body l e) x g h = absurd (true≢false (sym g))
    of_condition (after_condition x y) z g h = absurd (true≢false (sym g))
    of_condition (a_branch l e) x g h = absurd (true≢false (sym g))
    of_condition (after_branch x y z) a g h = absurd (true≢false (sym g))

    by_goes : (b : Bool) → has_body_next p ≡ b → Piece d s (failed error)
    by_goes true g = of_condition x y g h
    by_goes false g =
        let (u, i, a) = opens_ended n r w x y g f in piece i (subst (Atom d (at s u)) (ap (restored s.flags) h) a.0)

-- the atom that ends with a part, after layout
part_atom : {d : ℕ} {s v t : State} {a : Tree} {p : OpenPart} {l m : Log} (n : Log) (flags : Flags) (r : Tree) (w : State) →
    OpensPart d s l p v m → Part p (d + 1) v (done r w) m n → has_body_next p ≡ false →
    strip (code "|") w.rest ≡ None → ended_part p r w ≡ done a t → flags ≡ s.flags →
    (u : Text) × (skipped s ≡ rest u)
    × AtomTo d (at s u) (done a (record t { flags = flags })) (layout_passed s l)
    (part_recorded p r (reach_of w.rest) (reach_of t.rest) n)
part_atom {d} {s} {t} {a} {p} {l} n flags r w x y g f h j =
    let (u, c, b) = opens_ended n r w x y g (λ _ _. f) in (
      u,
      c,
      subst (λ f. AtomTo d (at s u) (done a (record t { flags = f })) (layout_passed s l)
          (part_recorded p r (reach_of w.rest) (reach_of t.rest) n)) (sym j)
          (subst (λ o. AtomTo d (at s u) (restored s.flags o) (layout_passed s l)
          (part_recorded p r (reach_of w.rest) (end_of o) n)) h b),
    )

-- it ends a step, under its quantifiers
pub closes : {d left : ℕ} {s v t z : State} {a q : Tree} {p : OpenPart} {l m : Log} (i : Bool) (ts : List Tree) (n : Log) (flags : Flags) (r : Tree) (w : State) → OpensPart d s l p v m → Part p (d + 1) v (done r w) m n →
    has_body_next p ≡ false → strip (code "|") w.rest ≡ None → ended_part p r w ≡ done a t → left ≡ bytes s.rest →
    flags ≡ s.flags → quants d left a (record t { flags = flags }) ≡ done q z →
    IsStep i d s l ts None (ts ++ solid (q ∷ [])) z (added q (quants_recorded left (done a (record t { flags = flags }))
    (part_recorded p r (reach_of w.rest) (reach_of t.rest) n))) (items_in (solid (q ∷ [])))
closes {s} k ts n flags r w x y g f h i j e =
    let (u, c, b) = part_atom n flags r w x y g f h j in steps_piece k s ts i c b e

pub closes_error : {d left : ℕ} {s v t : State} {a : Tree} {p : OpenPart} {l m : Log} (n : Log) (flags : Flags) (r : Tree)
    (w : State) (error : ReadError) → OpensPart d s l p v m → Part p (d + 1) v (done r w) m n →
    has_body_next p ≡ false → strip (code "|") w.rest ≡ None → ended_part p r w ≡ done a t → left ≡ bytes s.rest →
    flags ≡ s.flags → IsErrorAmong error (λ o. quants d left a (record t { flags = flags }) ≡ o) →
    IsErrorAmong error (Piece d s)
closes_error {s} n flags r w error x y g f h i j e =
    let (u, c, b) = part_atom n flags r w x y g f h j in steps_error s error i c b.0 e

-- ---- what is read of the innermost part

reading_new : (d : ℕ) (p : OpenPart) (s : State) (l : Log) (bs ps : List Tree) → bs ≡ [] → ps ≡ [] →
    ReadSoFar d p s l bs ps s l
reading_new d p s l bs ps e f = record {
  begin = s;
  before = l;
  read = [];
  same = rw f;
  branch = λ o m b. rw before-nil b;
  all = λ o m b. rw (e, before-nil) b;
  one = λ _. (refl, e, refl);
  slice = current s.rest;
}

-- one more piece, or one more branch
next_to : {d : ℕ} {s t : State} {r : Tree} {l m n : Log} (o : Outcome (List Tree)) → ends s.rest ≡ false →
    PieceTo d s (done r t) l m → PiecesTo d t o (added r m) n → PiecesTo d s (trees_before (r ∷ []) o) l n
next_to {r} o e (a, x) (b, y) = (next e a b, ap (λ m. pieces_recorded b (added r m)) x ∙ y)

more_to : {d : ℕ} {s t : State} {u : Text} {r : Tree} {l m n : Log} (o : Outcome (List Tree)) →
    BranchTo d s (done r t) l m → strip (code "|") t.rest ≡ Some u →
    BranchesTo d (at t u) o (branch_begun (reach_of u) m) n → BranchesTo d s (trees_before (r ∷ []) o) l n
more_to {u} o (a, x) e (b, y) = (more a e b, ap (λ m. branches_recorded b (branch_begun (reach_of u) m)) x ∙ y)

reading_piece : {d : ℕ} {p : OpenPart} {s t v : State} {r : Tree} {bs ps : List Tree} {l m n : Log}
    (cs qs : List Tree) → ReadSoFar d p s l bs ps t m → ends t.rest ≡ false →
    PieceTo d t (done r v) m n → cs ≡ bs → qs ≡ ps ++ solid (r ∷ []) → ReadSoFar d p s l cs qs v (added r n)
reading_piece {d} {r} cs qs h e a i j = record {
  begin = h.begin;
  before = h.before;
  read = h.read ++ r ∷ [];
  same = solid-append h.read (r ∷ []) ∙ ap (λ x. x ++ solid (r ∷ [])) h.same ∙ sym j;
  branch = λ o k p.
      subst (λ q. PiecesTo d h.begin q h.before k) (sym (before-push h.read r o)) (h.branch _ k (next_to o e a p));
  all = λ o k b. rw i (h.all o k b);
  one = λ k. ((h.one k).0, i ∙ (h.one k).1, (h.one k).2);
  slice = on h.slice (piece_read a.0).span.slice;
}

-- the tree of the branch that is open
abbrev pub joined : List Tree → Tree
joined = one_or concat

-- the open branch, with these pieces, ends at t
abbrev pub branch_closed : List Tree → State → Log → Log
branch_closed ps t l = branch_ended (length ps) (reach_of t.rest) l

reading_branch : {d : ℕ} {p : OpenPart} {s t : State} {bs ps : List Tree} {l m : Log} (h : ReadSoFar d p s l bs ps t m) →
    ends t.rest ≡ true →
    BranchTo d h.begin (done (joined ps) t) h.before (branch_closed ps t m)
reading_branch {d} {t} {m} h e =
    let (p, x) = h.branch (done [] t) m (stop e, refl) in
    subst (λ x. BranchTo d h.begin (done (one_or concat x) t) h.before (branch_closed x t m))
    (ap solid (append-nil h.read) ∙ h.same)
    (branch p, ap (branch_closed (solid (h.read ++ [])) t) x)

-- the one branch of a part that holds no other
reading_one : {d : ℕ} {p : OpenPart} {s t : State} {bs ps : List Tree} {l m : Log} → ReadSoFar d p s l bs ps t m →
    holds_one p ≡ true → ends t.rest ≡ true →
    BranchTo d s (done (joined ps) t) l (branch_closed ps t m)
reading_one {d} {t} {ps} {m} h k e =
    subst (λ l. BranchTo d _ (done (joined ps) t) l (branch_closed ps t m)) (h.one k).2
    (subst (λ (x : State). BranchTo d x (done (joined ps) t) h.before (branch_closed ps t m)) (h.one k).0
    (reading_branch h e))

reading_bar : {d : ℕ} {p : OpenPart} {s t : State} {u : Text} {bs ps : List Tree} {l m : Log} (cs qs : List Tree) →
    ReadSoFar d p s l bs ps t m → holds_one p ≡ false →
    ends t.rest ≡ true → strip (code "|") t.rest ≡ Some u → cs ≡ bs ++ joined ps ∷ [] → qs ≡ [] →
    ReadSoFar d p s l cs qs (at t u) (branch_begun (reach_of u) (branch_closed ps t m))
reading_bar {d} {s} {t} {u} {bs} {ps} {l} {m} cs qs h k e f i j = record {
  begin = at t u;
  before = branch_begun (reach_of u) (branch_closed ps t m);
  read = [];
  same = rw j;
  branch = λ o n p. rw before-nil p;
  all = λ o n b.
      subst (λ c. BranchesTo d s (trees_before c o) l n) (sym i)
      (subst (λ q. BranchesTo d s q l n) (sym (before-push bs (joined ps) o))
      (h.all _ n (more_to o (reading_branch h e) f b)));
  one = λ l. absurd (true≢false (sym l ∙ k));
  slice = on h.slice (strip_slice (code "|") t.rest u f);
}

-- the log when the open part ends at t with these branches and pieces
abbrev pub choice_closed : List Tree → List Tree → State → Log → Log
choice_closed bs ps t l = choice_recorded (bs ++ joined ps ∷ []) (reach_of t.rest) (branch_closed ps t l)

reading_alternation : {d : ℕ} {p : OpenPart} {s t : State} {bs ps : List Tree} {l m : Log} →
    ReadSoFar d p s l bs ps t m → ends t.rest ≡ true → strip (code "|") t.rest ≡ None →
    AlternationTo d s (done (choice (bs ++ joined ps ∷ [])) t) l (choice_closed bs ps t m)
reading_alternation {t} {bs} {ps} h e f =
    let (b, x) = reading_branch h e in
    let (a, y) = h.all _ _ (last b f, x) in
    (alternation a, ap (choice_recorded (bs ++ joined ps ∷ []) (reach_of t.rest)) y)

-- the open part ends at t
reading_end : {d : ℕ} {s t : State} {bs ps : List Tree} {l m : Log} (p : OpenPart) → ReadSoFar d p s l bs ps t m →
    ends t.rest ≡ true → strip (code "|") t.rest ≡ None →
    Part p d s (done (choice (bs ++ joined ps ∷ [])) t) l (choice_closed bs ps t m)
reading_end top h e f = reading_alternation h e f
reading_end (group _ _) h e f = reading_alternation h e f
reading_end condition h e f = reading_alternation h e f
reading_end (body _ _) h e f = reading_alternation h e f
reading_end {d} {s} {t} {ps} {l} {m} first h e f =
    subst (λ c. BranchTo d s (done (choice (c ++ joined ps ∷ [])) t) l (choice_closed c ps t m)) (sym (h.one refl).1)
    (reading_one h refl e)
reading_end {d} {s} {t} {ps} {l} {m} (second a) h e f =
    subst (λ c. BranchTo d s (done (choice (c ++ joined ps ∷ [])) t) l (choice_closed c ps t m)) (sym (h.one refl).1)
    (reading_one h refl e)

reading_branch_error : {d : ℕ} {p : OpenPart} {s t : State} {error : Located} {bs ps : List Tree} {l m : Log}
    (h : ReadSoFar d p s l bs ps t m) → ends t.rest ≡ false →
    Piece d t (failed error) → (n : Log) × BranchTo d h.begin (failed error) h.before n
reading_branch_error {error} {m} h e a =
    let (p, x) = h.branch (failed error) (piece_recorded a m) (piece_error e a, refl) in (_, (branch p, x))

reading_error : {d : ℕ} {s t : State} {error : Located} {bs ps : List Tree} {l m : Log} (p : OpenPart) →
    ReadSoFar d p s l bs ps t m → ends t.rest ≡ false →
    Piece d t (failed error) → (n : Log) × Part p d s (failed error) l n
reading_error {d} {s} {error} {bs} {l} p h e a = by_part p h.one
  where
    f : (n : Log) × BranchTo d h.begin (failed error) h.before n
    f = reading_branch_error h e a

    several : (n : Log) × AlternationTo d s (failed error) l n
    several = let (b, x) = h.all (failed error) f.0 (branch_error f.1.0, f.1.1) in (_, (alternation b, x))

    only : (h.begin ≡ s) × (bs ≡ []) × (h.before ≡ l) → (n : Log) × BranchTo d s (failed error) l n
    only i = (
      f.0,
      subst (λ l. BranchTo d s (failed error) l f.0) i.2
          (subst (λ (x : State). BranchTo d x (failed error) h.before f.0) i.0 f.1),
    )

    by_part : (p : OpenPart) → (holds_one p ≡ true → (h.begin ≡ s) × (bs ≡ []) × (h.before ≡ l)) →
        (n : Log) × Part p d s (failed error) l n
    by_part top i = several
    by_part (group _ _) i = several
    by_part condition i = several
    by_part (body _ _) i = several
    by_part first i = only (i refl)
    by_part (second b) i = only (i refl)

-- ---- the stack of open groups

-- an error in the innermost part is the error of the whole text
levels_error : {start : State} {none : Log} {d : ℕ} {s : State} {error : Located} {fs : List Enclosing} {ts : List Tree}
    {o : OpenPart} {l : Log} {is : List Item} (n : Log) → OpenGroups start none fs ts o d s l is →
    Part o d s (failed error) l n → Alternation 0 start (failed error)
levels_error n outermost (r, x) = r
levels_error n (inner {q} f e x w l h i m j z) r =
    let (k, y) = reading_error q h m (opens_error n j r) in levels_error k l y

push-not_nil : {A : Type 0} (l : List A) (x : A) → [] ≡ l ++ x ∷ [] → ⊥
push-not_nil [] x e = cc
push-not_nil (y ∷ l) x e = cc

levels_none : {start : State} {none : Log} {d : ℕ} {s : State} {fs : List Enclosing} {ts : List Tree} {o : OpenPart}
    {l : Log} {is : List Item} → OpenGroups start none fs ts o d s l is →
    fs ≡ [] → (d ≡ 0) × (s ≡ start) × (o ≡ top) × (l ≡ none) × (is ≡ [])
levels_none outermost e = (refl, refl, refl, refl, refl)
levels_none (inner {outer} f i x w l h a j k z) e = absurd (push-not_nil outer f (sym e ∙ i))

-- the group on top of the stack, in which the innermost part was opened, and the trees up to the last of its own
record Outer (start : State) (none : Log) (gs : List Enclosing) (g : Enclosing) (ts : List Tree) (o : OpenPart)
    (d : ℕ) (s : State) (l : Log) (is : List Item) : Type 0 where
  depth : ℕ
  begin : State
  before : Log
  current : State
  recorded : Log
  items_before : List Item
  below : List Tree
  branches : List Tree
  pieces : List Tree
  deeper : d ≡ depth + 1
  holds : HoldsTrees g.frame ts below branches pieces
  part : OpenPart
  is_part : IsPart start.flags.ignore_numbered_groups g.frame.open_part part
  levels : OpenGroups start none gs below part depth begin before items_before
  reading : ReadSoFar depth part begin before branches pieces current recorded
  began : Began g.piece current
  more : ends current.rest ≡ false
  opens : OpensPart depth current recorded o s l
  same_items : is ≡ (items_before ++ items_in (branches ++ pieces)) ++ items_opening o

levels_pop : {start : State} {none : Log} (gs : List Enclosing) (g : Enclosing) {d : ℕ} {s : State} {fs : List Enclosing}
    {ts : List Tree} {o : OpenPart} {l : Log} {is : List Item} → OpenGroups start none fs ts o d s l is →
    fs ≡ gs ++ g ∷ [] → Outer start none gs g ts o d s l is
levels_pop gs g outermost e = absurd (push-not_nil gs g e)
levels_pop {start} {none} gs g {ts} (inner {d} {s} {l = c} {t} {m} {q} {outer} {below} {branches} {pieces} {is} f i x y l
    h a w j z) e =
    let p = push-same outer gs f g (sym i ∙ e) in
    record {
      depth = d;
      begin = s;
      before = c;
      current = t;
      recorded = m;
      items_before = is;
      below = below;
      branches = branches;
      pieces = pieces;
      deeper = refl;
      holds = subst (λ (y : Enclosing). HoldsTrees y.frame ts below branches pieces) p.1 x;
      part = q;
      is_part = subst (λ (y : Enclosing). IsPart start.flags.ignore_numbered_groups y.frame.open_part q) p.1 y;
      levels = subst (λ y. OpenGroups start none y below q d s c is) p.0 l;
      reading = h;
      began = subst (λ (y : Enclosing). Began y.piece t) p.1 a;
      more = w;
      opens = j;
      same_items = z;
    }

-- ---- the loop's state: the stack, the innermost part, the trees and the position

-- a group in which nothing is read yet is above all trees
holds_new : (g : Frame) (trees : List Tree) → g.branches ≡ length trees → g.pieces ≡ length trees →
    HoldsTrees g trees trees [] []
holds_new g trees i j =
    let n = append-nil trees in (sym (append-nil (trees ++ []) ∙ n), i, j ∙ ap length (sym n))

pub running_start : (start : State) (none : Log) (stack : List Enclosing) (f : Frame) (trees : List Tree) → stack ≡ [] →
    trees ≡ [] → f.branches ≡ 0 → f.pieces ≡ 0 → IsPart start.flags.ignore_numbered_groups f.open_part top →
    Running start none stack f trees start none []
running_start start none stack f trees e x i j k = record {
  depth = 0;
  begin = start;
  before = none;
  items_before = [];
  below = [];
  branches = [];
  pieces = [];
  is_depth = rw e;
  holds = (x, i, j);
  part = top;
  is_part = k;
  levels = rw e outermost;
  reading = reading_new 0 _ start none _ _ refl refl;
  same_items = refl;
}

pub running_error : {start t : State} {none l : Log} {stack : List Enclosing} {f : Frame} {trees : List Tree}
    {error : Located} {is : List Item} (h : Running start none stack f trees t l is) → ends t.rest ≡ false →
    Piece (length stack) t (failed error) → Alternation 0 start (failed error)
running_error {t} {f} {error} h e a =
    let (n, x) = reading_error h.part h.reading e
    (subst (λ d. Piece d t (failed error)) (sym h.is_depth) a) in
    levels_error n h.levels x

pub running_piece : {start t v : State} {none l m : Log} {stack : List Enclosing} {f : Frame} {trees : List Tree} {r : Tree}
    {is : List Item} (all : List Tree) (js : List Item) → Running start none stack f trees t l is →
    ends t.rest ≡ false → PieceTo (length stack) t (done r v) l m → all ≡ trees ++ solid (r ∷ []) →
    js ≡ is ++ items_in (solid (r ∷ [])) → Running start none stack f all v (added r m) js
running_piece {t} {v} {l} {m} {r} all js h e a i j = record {
  depth = h.depth;
  begin = h.begin;
  before = h.before;
  items_before = h.items_before;
  below = h.below;
  branches = h.branches;
  pieces = h.pieces ++ solid (r ∷ []);
  is_depth = h.is_depth;
  holds = (
    i ∙ ap (λ l. l ++ solid (r ∷ [])) h.holds.0 ∙ append_assoc (h.below ++ h.branches) h.pieces (solid (r ∷ [])),
    h.holds.1,
    h.holds.2,
  );
  part = h.part;
  is_part = h.is_part;
  levels = h.levels;
  reading = reading_piece _ _ h.reading e (subst (λ d. PieceTo d t (done r v) l m) (sym h.is_depth) a) refl refl;
  same_items = j ∙ ap (λ x. x ++ items_in (solid (r ∷ []))) h.same_items
      ∙ append_assoc h.items_before (items_in (h.branches ++ h.pieces)) (items_in (solid (r ∷ [])))
      ∙ ap (λ x. h.items_before ++ x) (sym (items_append (h.branches ++ h.pieces) (solid (r ∷ [])))
      ∙ ap items_in (append_assoc h.branches h.pieces (solid (r ∷ []))));
}

-- a leaf that a look ahead reads has no layout before it, and is no inline flags
leaf_passed : {t u : State} {r : Tree} (l : Log) → IsPlainLeaf t r u →
    atom_read t (done r u) (layout_passed t l) ≡ leaf_recorded (reach_of t.rest) (reach_of u.rest) l
leaf_passed {t} {u} {r} l p =
    let leaf : Log → Log = λ m. leaf_recorded (reach_of t.rest) (reach_of u.rest) m in
    rw (p.solid, p.no_comments, p.no_inner)
    (nothing_passed (pass [] (leaf (pass [] l))) ∙ nothing_passed (leaf (pass [] l)) ∙ ap leaf (nothing_passed l))

-- a leaf that a look ahead reads, under its quantifiers
pub running_leaf : {start t u v : State} {none l : Log} {stack : List Enclosing} {f : Frame} {trees : List Tree}
    {r q : Tree} {is : List Item} (all : List Tree) (js : List Item) → Running start none stack f trees t l is →
    IsPlainLeaf t r u → quants (length stack) (bytes t.rest) r u ≡ done q v → all ≡ trees ++ q ∷ [] →
    js ≡ is ++ items_in (r ∷ []) → Running start none stack f all v
    (quants_recorded (bytes t.rest) (done r u) (leaf_recorded (reach_of t.rest) (reach_of u.rest) l)) js
running_leaf {start} {t} {u} {v} {none} {l} {stack} {f} {trees} {r} {q} {is} all js h p e i j =
    let m = quants_recorded (bytes t.rest) (done r u) (leaf_recorded (reach_of t.rest) (reach_of u.rest) l) in
    let solid = subst (Holds IsSolid) e (quants_solid (length stack) (bytes t.rest) r u p.solid) in
    subst (λ m. Running start none stack f all v m js) (ap (λ b. if b then left_out m else m) solid)
    (running_piece all js h p.more (piece_to p.no_layout (atom (p.leaf (length stack)) a_read, leaf_passed l p) e refl)
    (i ∙ ap (λ b. trees ++ (if b then [] else q ∷ [])) (sym solid))
    (j ∙ ap (λ x. is ++ x) (items_one r ∙ sym (items_under _ _ _ _ e) ∙ sym (items_solid q))))

-- an error in its quantifiers is the error of the whole text
pub running_leaf_error : {start t u : State} {none l : Log} {stack : List Enclosing} {f : Frame} {trees : List Tree}
    {r : Tree} {error : Located} {is : List Item} → Running start none stack f trees t l is → IsPlainLeaf t r u →
    quants (length stack) (bytes t.rest) r u ≡ failed error → Alternation 0 start (failed error)
running_leaf_error h p e = running_error h p.more (piece_as p.no_layout (atom (p.leaf _) a_read) e)

-- a part is opened in a piece that begins there
running_open : {start t v : State} {none l m : Log} {stack : List Enclosing} {f : Frame} {trees : List Tree} {o : OpenPart}
    {is : List Item} (p : PieceStart) (all : List Enclosing) (g : Frame) (js : List Item) →
    Running start none stack f trees t l is →
    Began p t → ends t.rest ≡ false → OpensPart (length stack) t l o v m →
    all ≡ stack ++ record { frame = f; piece = p } ∷ [] →
    IsPart start.flags.ignore_numbered_groups g.open_part o → g.branches ≡ length trees → g.pieces ≡ length trees →
    js ≡ is ++ items_opening o →
    Running start none all g trees v m js
running_open {t} {v} {l = c} {m} {stack} {f} {trees} {o} p all g js h b e a i j k l z = record {
  depth = h.depth + 1;
  begin = v;
  before = m;
  items_before = js;
  below = trees;
  branches = [];
  pieces = [];
  is_depth = omega (arith, h.is_depth, ap length i, length_push stack (record { frame = f; piece = p }));
  holds = holds_new g trees k l;
  part = o;
  is_part = j;
  levels = inner (record { frame = f; piece = p }) i h.holds h.is_part h.levels h.reading b e
      (subst (λ d. OpensPart d t c o v m) (sym h.is_depth) a) (z ∙ ap (λ x. x ++ items_opening o) h.same_items);
  reading = reading_new _ _ v m _ _ refl refl;
  same_items = sym (append-nil js);
}

-- a step reads a piece
pub running_read : {start t v : State} {none l : Log} {stack : List Enclosing} {f : Frame} {trees us : List Tree}
    {is js : List Item} (i : Bool) (m : Log) → Running start none stack f trees t l is → ends t.rest ≡ false →
    IsStep i (length stack) t l trees None us v m js → Running start none stack f us v m (is ++ js)
running_read {us} {is} i m h e (r, n, a, x, j, k) = rw j (running_piece us _ h e a x (ap (λ l. is ++ l) k))

-- a step opens a part
pub running_opened : {start t v : State} {none l : Log} {stack all : List Enclosing} {f g : Frame} {trees us : List Tree}
    {is js : List Item} (m : Log) (open_part : declared.OpenPart) (p : PieceStart) → Running start none stack f trees t l is →
    Began p t → ends t.rest ≡ false →
    IsStep start.flags.ignore_numbered_groups (length stack) t l trees (Some open_part) us v m js →
    all ≡ stack ++ record { frame = f; piece = p } ∷ [] → g.open_part ≡ open_part → g.branches ≡ length us →
    g.pieces ≡ length us → Running start none all g us v m (is ++ js)
running_opened {start} {all} {g} {is} m open_part p h b e (o, is_part, a, same, w) i j k l =
    rw same (running_open p all g _ h b e a i (subst (λ q. IsPart start.flags.ignore_numbered_groups q o) (sym j) is_part)
    (k ∙ ap length same) (l ∙ ap length same) (ap (λ x. is ++ x) w))

-- after a bar, the second branch of an absent expression is open
levels_bar : {d : ℕ} {start s t : State} {none l m : Log} {u : Text} {a : Tree} {fs : List Enclosing} {ts : List Tree} →
    {is : List Item} → OpenGroups start none fs ts first d s l is → BranchTo d s (done a t) l m →
    strip (code "|") t.rest ≡ Some u →
    OpenGroups start none fs ts (second a) d (at t u) (branch_begun (reach_of u) m) (is ++ items a)
levels_bar {start} {t} {none} {u} {a} {fs} {ts} {is} (inner {d} f i l q h m j x y w) (b, z) e =
    subst (λ m. OpenGroups start none fs ts (second a) (d + 1) (at t u) (branch_begun (reach_of u) m) (is ++ items a)) z
    (inner f i l q h m j x (after_branch y b e) (ap (λ x. x ++ items a) (w ∙ append-nil _)))

pub running_bar : {start t : State} {none l : Log} {u : Text} {stack : List Enclosing} {f : Frame} {trees : List Tree}
    {is : List Item} (all : List Tree) (g : Frame) (h : Running start none stack f trees t l is) →
    ends t.rest ≡ true → strip (code "|") t.rest ≡ Some u → is_second h.part ≡ false →
    IsPart start.flags.ignore_numbered_groups g.open_part (opened_by_bar h.part (joined h.pieces)) →
    HoldsTrees g all h.below (branches_at_bar h.part h.branches (joined h.pieces)) [] →
    Running start none stack g all (at t u) (branch_begun (reach_of u) (branch_closed h.pieces t l)) is
running_bar {start} {t} {none} {l = c} {u} {stack} {f} {is} all g h e b x i j =
    by_open h.part h.levels h.reading x i j
  where
    n : Log
    n = branch_begun (reach_of u) (branch_closed h.pieces t c)

    ordinary : {p : OpenPart} → holds_one p ≡ false → OpenGroups start none stack h.below p h.depth h.begin h.before
        h.items_before → ReadSoFar h.depth p h.begin h.before h.branches h.pieces t c →
        IsPart start.flags.ignore_numbered_groups g.open_part p →
        HoldsTrees g all h.below (h.branches ++ joined h.pieces ∷ []) [] → Running start none stack g all (at t u) n is
    ordinary z l r i j = record {
      depth = h.depth;
      begin = h.begin;
      before = h.before;
      items_before = h.items_before;
      below = h.below;
      branches = h.branches ++ joined h.pieces ∷ [];
      pieces = [];
      is_depth = h.is_depth;
      holds = j;
      part = _;
      is_part = i;
      levels = l;
      reading = reading_bar _ _ r z e b refl refl;
      same_items = h.same_items
          ∙ ap (λ x. h.items_before ++ x) (sym (items_choice_pieces h.branches h.pieces)
          ∙ ap items_in (sym (append-nil (h.branches ++ joined h.pieces ∷ []))));
    }

    by_open : (p : OpenPart) → OpenGroups start none stack h.below p h.depth h.begin h.before h.items_before →
        ReadSoFar h.depth p h.begin h.before h.branches h.pieces t c →
        is_second p ≡ false →
        IsPart start.flags.ignore_numbered_groups g.open_part (opened_by_bar p (joined h.pieces)) →
        HoldsTrees g all h.below (branches_at_bar p h.branches (joined h.pieces)) [] →
        Running start none stack g all (at t u) n is
    by_open top l r x i j = ordinary refl l r i j
    by_open (group _ _) l r x i j = ordinary refl l r i j
    by_open condition l r x i j = ordinary refl l r i j
    by_open (body _ _) l r x i j = ordinary refl l r i j
    by_open first l r x i j = record {
      depth = h.depth;
      begin = at t u;
      before = n;
      items_before = h.items_before ++ items (joined h.pieces);
      below = h.below;
      branches = h.branches;
      pieces = [];
      is_depth = h.is_depth;
      holds = j;
      part = second (joined h.pieces);
      is_part = i;
      levels = levels_bar l (reading_one r refl e) b;
      reading = reading_new _ _ _ _ _ _ (r.one refl).1 refl;
      same_items = h.same_items
          ∙ (λ k. h.items_before ++ (ap items_in (ap (λ x. x ++ h.pieces) (r.one refl).1) ∙ sym (items_pieces h.pieces)) k)
          ∙ sym (append-nil (h.items_before ++ items (joined h.pieces)))
          ∙ ap (λ x. (h.items_before ++ items (joined h.pieces)) ++ items_in (x ++ [])) (sym (r.one refl).1);
    }
    by_open (second a) l r x i j = absurd (true≢false x)

-- a closing parenthesis follows if a branch ends here without a bar
pub closed_here : (r : Tree) (t : State) (c : ℕ) (u : Text) → t.rest ≡ c ∷ u → ends t.rest ≡ true →
    strip (code "|") t.rest ≡ None → closed r t ≡ done r (at t u)
closed_here r t c u e h n =
    ap (λ o. choose o (λ v. done r (at t v)) (failed (not_closed t.rest)))
    (ap (strip (code ")")) e ∙ cond-true _ _ _ (by_bar (rw e at h) (rw e at n)))
  where
    by_bar : ends (c ∷ u) ≡ true → strip (code "|") (c ∷ u) ≡ None → (c == code ")") ≡ true
    by_bar h n = grind (arith, nat_tests)

-- a character other than the closing parenthesis follows
closed_other : (r : Tree) (t : State) (c : ℕ) (u : Text) → t.rest ≡ c ∷ u → c ≢ code ")" →
    closed r t ≡ failed (bar_for_close_paren t.rest)
closed_other r t c u e h =
    let other : (c == code ")") ≡ false = search (tests, rules) in
    ap (λ o. choose o (λ v. done r (at t v)) (failed (not_closed t.rest)))
    (ap (strip (code ")")) e ∙ cond-false _ _ _ other)
    ∙ rw e refl

bar_does_not_close : code "|" ≢ code ")"
bar_does_not_close e = omega (arith, e)

second_error : {d : ℕ} {start s t : State} {none l m : Log} {error : Located} {a r : Tree} {fs : List Enclosing}
    {ts : List Tree} {is : List Item} → OpenGroups start none fs ts (second a) d s l is → BranchTo d s (done r t) l m →
    closed (expression a r) t ≡ failed error → Alternation 0 start (failed error)
second_error {t} {a} {r} (inner {q} f i y k l h m j x w) b e =
    let (n, z) = reading_error q h j (ended_error _ r t x b (λ _ z. absurd (true≢false z)) e) in
    levels_error n l z

pub running_bar_error : {start t : State} {none l : Log} {u : Text} {stack : List Enclosing} {f : Frame}
    {trees : List Tree} {is : List Item} (o : Outcome Tree) (h : Running start none stack f trees t l is) →
    ends t.rest ≡ true → strip (code "|") t.rest ≡ Some u → IsErrorOfBar h.part t.rest o →
    Alternation 0 start o
running_bar_error {start} {t} {none} {l = c} {u} {stack} {f} o h e b x = by_open h.part h.levels h.reading x
  where
    by_open : (p : OpenPart) → OpenGroups start none stack h.below p h.depth h.begin h.before h.items_before →
        ReadSoFar h.depth p h.begin h.before h.branches h.pieces t c →
        IsErrorOfBar p t.rest o → Alternation 0 start o
    by_open (second a) l r x =
        subst (Alternation 0 start) (sym x)
        (second_error l (reading_one r refl e)
        (closed_other (expression a (joined h.pieces)) t (code "|") u (strip_is (code "|") t.rest u b)
        bar_does_not_close))
    by_open top l r x = absurd x
    by_open (group _ _) l r x = absurd x
    by_open condition l r x = absurd x
    by_open (body _ _) l r x = absurd x
    by_open first l r x = absurd x

pub running_end : {start t : State} {none l : Log} {stack : List Enclosing} {f : Frame} {trees : List Tree}
    {is : List Item} (r : Tree) (h : Running start none stack f trees t l is) → ends t.rest ≡ true → strip (code "|") t.rest ≡ None →
    r ≡ choice (h.branches ++ joined h.pieces ∷ []) → stack ≡ [] →
    AlternationTo 0 start (done r t) none (choice_closed h.branches h.pieces t l)
running_end {start} {t} {none} {l} r h e a i j =
    let (d, s, p, c, none_before) = levels_none h.levels j in
    let whole = choice (h.branches ++ joined h.pieces ∷ []) in
    let n = choice_closed h.branches h.pieces t l in
    rw i (subst (λ c. AlternationTo 0 start (done whole t) c n) c
    (subst (λ s. AlternationTo 0 s (done whole t) h.before n) s
    (subst (λ d. AlternationTo d h.begin (done whole t) h.before n) d (reading_alternation h.reading e a))))

-- its items are all that were read
pub running_end_items : {start t : State} {none l : Log} {stack : List Enclosing} {f : Frame} {trees : List Tree}
    {is : List Item} (r : Tree) (h : Running start none stack f trees t l is) →
    r ≡ choice (h.branches ++ joined h.pieces ∷ []) → stack ≡ [] → is ≡ items r
running_end_items r h i j =
    let (d, s, p, c, none_before) = levels_none h.levels j in
    h.same_items ∙ ap (λ x. x ++ items_in (h.branches ++ h.pieces)) none_before
    ∙ sym (items_branches_pieces h.branches h.pieces) ∙ ap items (sym i)

-- the context of the part that is to be closed
pub record Closing (start : State) (none : Log) (stack : List Enclosing) (g : Enclosing) (trees : List Tree)
    (o : OpenPart) (r : Tree) (t : State) (n : Log) (is : List Item) : Type 0 where
  pub current : State
  pub recorded : Log
  pub items_before : List Item
  pub inside : State
  pub before : Log
  pub outer : Running start none stack g.frame trees current recorded items_before
  pub began : Began g.piece current
  pub more : ends current.rest ≡ false
  pub opens : OpensPart (length stack) current recorded o inside before
  pub whole : Part o (length stack + 1) inside (done r t) before n
  pub same_items : is ≡ items_before ++ (items_opening o ++ items r)

pub running_closing : {start t : State} {none l : Log} {all : List Enclosing} {f : Frame} {trees : List Tree}
    {is : List Item} (stack : List Enclosing) (g : Enclosing) (h : Running start none all f trees t l is) → ends t.rest ≡ true → strip (code "|") t.rest ≡ None →
    all ≡ stack ++ g ∷ [] →
    Closing start none stack g h.below h.part (choice (h.branches ++ joined h.pieces ∷ [])) t
    (choice_closed h.branches h.pieces t l) is
running_closing {t} {l} stack g h e a j =
    let o = levels_pop stack g h.levels j in
    let m : o.depth ≡ length stack = omega (arith, o.deeper, h.is_depth, ap length j, length_push stack g) in
    let opens : OpensPart (length stack) o.current o.recorded h.part h.begin h.before =
    subst (λ d. OpensPart d o.current o.recorded h.part h.begin h.before) m o.opens in
    let n = choice_closed h.branches h.pieces t l in
    record {
      current = o.current;
      recorded = o.recorded;
      items_before = o.items_before ++ items_in (o.branches ++ o.pieces);
      inside = h.begin;
      before = h.before;
      outer = record {
        depth = o.depth;
        begin = o.begin;
        before = o.before;
        items_before = o.items_before;
        below = o.below;
        branches = o.branches;
        pieces = o.pieces;
        is_depth = m;
        holds = o.holds;
        part = o.part;
        is_part = o.is_part;
        levels = o.levels;
        reading = o.reading;
        same_items = refl;
      };
      began = o.began;
      more = o.more;
      opens = opens;
      whole = subst (λ d. Part h.part d h.begin
          (done (choice (h.branches ++ joined h.pieces ∷ [])) t) h.before n) (o.deeper ∙ ap (λ d. d + 1) m)
          (reading_end h.part h.reading e a);
      same_items =
          let before = o.items_before ++ items_in (o.branches ++ o.pieces) in
          h.same_items
          ∙ (λ k. o.same_items k ++ sym (items_branches_pieces h.branches h.pieces) k)
          ∙ append_assoc before (items_opening h.part) (items (choice (h.branches ++ joined h.pieces ∷ [])));
    }
