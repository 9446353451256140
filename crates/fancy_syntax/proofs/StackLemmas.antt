-- No more groups are open at once than the text has opening parentheses.
use Rattle.std.proofs.Common.{◌≡◌, ◌≢◌, ℕ, zero, suc, ◌+◌, ◌<◌, ◌≤◌, ◌==◌, Bool, true, false, Some, None, List, [], ◌∷◌}
use Rattle.std.proofs.Common.{◌++◌, chars, drop, append-nil}
use Rattle.std.proofs.Common.{length, refl, sym, ap, ◌∙◌, subst, arith, if◌then◌else◌}
use Rattle.std.specs.Prelude.{nat_le, slice_index}
use Rattle.std.proofs.lemmas.Bool.{cond_both}
use Rattle.std.proofs.lemmas.Bool.Decides.{nat_tests}
use Rattle.std.proofs.lemmas.List.{length_push}
use Rattle.std.proofs.lemmas.Str.{encode_ascii, encodes-chars, inside_one}
use Rattle.std.proofs.Math.Utf8.{encode, encodes}
use Rattle.std.specs.Str.{IsUtf8}
use Rattle.memchr.specs.Find.{IsFirstByte, is_byte}
use Prim.Native.Char.{code}
use Rattle.fancy_lex.specs.Text.{Text, bytes}
use Rattle.fancy_grammar.specs.AtomStart.{AtomStart, nothing, read, atom_start, start_of}
use Rattle.fancy_grammar.specs.AtomStart.{begins_no_atom}
use Rattle.fancy_grammar.specs.Depth.{max_depth, most_open}
use Rattle.fancy_grammar.specs.Items.{Item}
use Rattle.fancy_grammar.specs.Slices.{Slice}
use Rattle.fancy_grammar.specs.State.{State, at}
use Rattle.fancy_grammar.specs.Tree.{Tree}
use Rattle.fancy_grammar.proofs.AtomStartLaws.{StartReads, start_reads}
use Rattle.fancy_grammar.proofs.ReadLaws.{inside_read, branch_read}
use Rattle.fancy_grammar.proofs.Slices.{skipped_slice, strip_slice}
use Rattle.fancy_syntax.specs.Log.{Log}
use Rattle.fancy_syntax.specs.Machine.{OpenPart, OpensPart, a_group, a_condition, a_body, after_condition, a_branch}
use Rattle.fancy_syntax.specs.Machine.{after_branch, OpenGroups, outermost, inner, Running}
use Rattle.fancy_syntax.specs.StackCapacity.{open_parens, groups_at_once}
use Rattle.fancy_syntax.specs.declared.grammar.frame.Enclosing.{Enclosing}
use Rattle.fancy_syntax.specs.declared.grammar.frame.Frame.{Frame}

-- ---- parentheses in a text

open_parens-append : (w u : Text) → open_parens (w ++ u) ≡ open_parens w + open_parens u
open_parens-append [] u = omega arith
open_parens-append (c ∷ w) u = by_test (c == code "(") (open_parens-append w u)
  where
    by_test : (b : Bool) → open_parens (w ++ u) ≡ open_parens w + open_parens u →
        (if b then open_parens (w ++ u) + 1 else open_parens (w ++ u))
        ≡ (if b then open_parens w + 1 else open_parens w) + open_parens u
    by_test true e = omega (arith, e)
    by_test false e = omega (arith, e)

-- a slice takes none from what follows it
fewer_after : {t u : Text} → Slice t u → open_parens u ≤ open_parens t
fewer_after {u} a = omega (arith, ap open_parens a.cut, open_parens-append a.word u)

-- after an opening parenthesis there is one less
one_fewer : {s t u : Text} → s ≡ code "(" ∷ t → Slice s u → bytes u + 1 ≤ bytes s → open_parens u + 1 ≤ open_parens s
one_fewer {s} {t} {u} e a long = by_word a.word a.cut
  where
    by_word : (w : Text) → s ≡ w ++ u → open_parens u + 1 ≤ open_parens s
    by_word [] cut = absurd (omega (arith, long, ap bytes cut))
    by_word (c ∷ w) cut =
        let both : code "(" ∷ t ≡ c ∷ (w ++ u) = sym e ∙ cut in
        let first : c ≡ code "(" = cc in
        let word : open_parens (c ∷ w) ≡ open_parens w + 1 = rw first refl in
        omega (arith, ap open_parens cut, open_parens-append (c ∷ w) u, word)

-- ---- the opening of a part begins with a parenthesis

abbrev Opens : AtomStart → Type 0
Opens nothing = ⊥
Opens (read o) = ⊥
Opens _ = Unit {0}

abbrev Begins : State → AtomStart → Type 0
Begins s k = Opens k → (t : Text) × (s.rest ≡ code "(" ∷ t)

first_opens : (d : ℕ) (s : State) → Opens (atom_start d s) → (t : Text) × (s.rest ≡ code "(" ∷ t)
unfolding atom_start
first_opens d s = by_text s.rest refl
  where
    by_text : (u : Text) → s.rest ≡ u → Begins s (start_of d s u)
    by_text [] e = λ h. absurd h
    by_text (c ∷ t) e =
        cond_both (c == code "(") _ _ (Begins s) (λ is _. (t, e ∙ ap (λ x. x ∷ t) (same is))) (λ _.
        cond_both (begins_no_atom c) _ _ (Begins s) (λ _ h. absurd h) (λ _ h. absurd h))
      where
        same : (c == code "(") ≡ true → c ≡ code "("
        same is = grind (arith, nat_tests)

opens_start : (d : ℕ) (s : State) (k : AtomStart) (u : Text) → atom_start d s ≡ k → Opens k → Slice s.rest u →
    bytes u + 1 ≤ bytes s.rest → open_parens u + 1 ≤ open_parens s.rest
opens_start d s k u e h a long =
    let (t, first) = first_opens d s (subst Opens (sym e) h) in one_fewer first a long

-- a part is opened by a parenthesis or more
opened_fewer : {d : ℕ} {s t : State} {o : OpenPart} {l m : Log} → OpensPart d s l o t m →
    open_parens t.rest + 1 ≤ open_parens s.rest
opened_fewer (a_group {d} {s} {t} {u} l e) =
    let past = subst (StartReads (at s u)) e (start_reads d (at s u)) in
    omega (arith, fewer_after (skipped_slice s u l), opens_start d (at s u) _ t.rest e tt past.0 past.1)
opened_fewer (a_condition {d} {s} {t} {u} l e) =
    let past = subst (StartReads (at s u)) e (start_reads d (at s u)) in
    omega (arith, fewer_after (skipped_slice s u l), opens_start d (at s u) _ t.rest e tt past.0 past.1)
opened_fewer (a_body {d} {s} {t} {u} l e) =
    let past = subst (StartReads (at s u)) e (start_reads d (at s u)) in
    omega (
      arith,
      fewer_after (skipped_slice s u l),
      opens_start d (at s u) _ t.rest e tt past.0.slice (omega (arith, past.1)),
    )
opened_fewer (after_condition x i) = omega (arith, opened_fewer x, fewer_after (inside_read i).span.slice)
opened_fewer (a_branch {d} {s} {t} {u} l e) =
    let past = subst (StartReads (at s u)) e (start_reads d (at s u)) in
    omega (arith, fewer_after (skipped_slice s u l), opens_start d (at s u) _ t.rest e tt past.0 past.1)
opened_fewer (after_branch {v} {u} x b e) =
    omega (
      arith,
      opened_fewer x,
      fewer_after (branch_read b).span.slice,
      fewer_after (strip_slice (code "|") v.rest u e),
    )

-- ---- the stack

-- each group that is open has taken one
groups_fewer : {start : State} {none l : Log} {d : ℕ} {s : State} {fs : List Enclosing} {ts : List Tree} {o : OpenPart}
    {is : List Item} → OpenGroups start none fs ts o d s l is → length fs + open_parens s.rest ≤ open_parens start.rest
groups_fewer outermost = omega arith
groups_fewer (inner {outer} f i x w l h a m j z) =
    omega (arith, groups_fewer l, ap length i, length_push outer f, fewer_after h.slice, opened_fewer j)

-- so the stack has capacity for one more if one opens
pub capacity_for_one : {start t v : State} {none l m : Log} {stack : List Enclosing} {f : Frame} {trees : List Tree} {o : OpenPart}
    {is : List Item} (reserved : ℕ) → Running start none stack f trees t l is → OpensPart (length stack) t l o v m →
    length stack + 1 < max_depth →
    groups_at_once start.rest ≤ reserved → length stack < reserved
capacity_for_one {start} {stack} reserved h opens below fits =
    let open_here : length stack + 1 ≤ open_parens start.rest =
    omega (arith, groups_fewer h.levels, fewer_after h.reading.slice, opened_fewer opens) in
    by_test (nat_le most_open (open_parens start.rest)) open_here fits
  where
    by_test : (b : Bool) → length stack + 1 ≤ open_parens start.rest →
        (if b then most_open else open_parens start.rest) ≤ reserved → length stack < reserved
    by_test true i k = omega (arith, below, k)
    by_test false i k = omega (arith, i, k)

-- ---- the count

-- the byte of an opening parenthesis is in a text where the character is
no_paren : (bs : List ℕ) → ((k : ℕ) → k < length bs → slice_index bs k ≢ code "(") → open_parens bs ≡ 0
no_paren [] h = refl
no_paren (b ∷ bs) h =
    by_test (b == code "(") refl (no_paren bs (λ k l. h (suc k) (omega (arith, l))))
  where
    by_test : (x : Bool) → (b == code "(") ≡ x → open_parens bs ≡ 0 →
        (if x then open_parens bs + 1 else open_parens bs) ≡ 0
    by_test true e more = absurd (h 0 (omega arith) (grind (arith, nat_tests)))
    by_test false e more = more

parens_encoded : (cs : Text) → open_parens (encodes cs) ≡ open_parens cs
parens_encoded [] = refl
parens_encoded (c ∷ cs) =
    open_parens-append (encode c) (encodes cs) ∙ by_test (c == code "(") refl (parens_encoded cs)
  where
    one_of : (c == code "(") ≡ true → open_parens (encode c) ≡ 1
    one_of e =
        let is : c ≡ code "(" = grind (arith, nat_tests) in
        rw (encode_ascii c (omega (arith, is)), is) refl

    none_of : (c == code "(") ≡ false → open_parens (encode c) ≡ 0
    none_of e = no_paren (encode c) (λ k l i.
        let same : c ≡ slice_index (encode c) k =
        inside_one c [] (encode c) k (sym (append-nil (encode c))) l (omega (arith, i)) in
        grind (arith, nat_tests))

    by_test : (b : Bool) → (c == code "(") ≡ b → open_parens (encodes cs) ≡ open_parens cs →
        open_parens (encode c) + open_parens (encodes cs) ≡ (if b then open_parens cs + 1 else open_parens cs)
    by_test true e more = omega (arith, one_of e, more)
    by_test false e more = omega (arith, none_of e, more)

pub parens_of_bytes : (bs : List ℕ) → IsUtf8 bs → open_parens bs ≡ open_parens (chars bs)
parens_of_bytes bs u = ap open_parens (sym (encodes-chars bs u)) ∙ parens_encoded (chars bs)

-- if none is found, none is left
pub none_found : (bs : List ℕ) → IsFirstByte (is_byte (code "(")) bs None → open_parens bs ≡ 0
none_found bs none = no_paren bs (λ k l e. none k (omega arith) l (grind (arith, nat_tests)))

-- after the first there is one less
paren_at : (bs : List ℕ) (k : ℕ) → k < length bs → ((j : ℕ) → j < k → slice_index bs j ≢ code "(") →
    slice_index bs k ≡ code "(" → open_parens bs ≡ open_parens (drop 1 (drop k bs)) + 1
paren_at [] k l h e = absurd (omega (arith, l))
paren_at (b ∷ bs) zero l h e = by_test (b == code "(") refl
  where
    by_test : (x : Bool) → (b == code "(") ≡ x →
        (if x then open_parens bs + 1 else open_parens bs) ≡ open_parens bs + 1
    by_test true i = refl
    by_test false i = absurd (grind (arith, nat_tests))
paren_at (b ∷ bs) (suc k) l h e =
    by_test (b == code "(") refl (paren_at bs k (omega (arith, l)) (λ j m. h (suc j) (omega (arith, m))) e)
  where
    by_test : (x : Bool) → (b == code "(") ≡ x → open_parens bs ≡ open_parens (drop 1 (drop k bs)) + 1 →
        (if x then open_parens bs + 1 else open_parens bs) ≡ open_parens (drop 1 (drop k bs)) + 1
    by_test true i more = absurd (h 0 (omega arith) (grind (arith, nat_tests)))
    by_test false i more = more

pub first_found : (bs : List ℕ) (k : ℕ) → IsFirstByte (is_byte (code "(")) bs (Some k) →
    open_parens bs ≡ open_parens (drop 1 (drop k bs)) + 1
first_found bs k first =
    paren_at bs k first.0.high (λ j l e. first.0.before j (omega arith) l (grind (arith, nat_tests)))
    (grind (arith, nat_tests))

-- if fewer than the limit are counted, they are all that there are
pub all_counted : (t : Text) (count : ℕ) → open_parens t ≡ count → count < most_open → count ≡ groups_at_once t
all_counted t count e l = by_test (nat_le most_open (open_parens t)) refl
  where
    by_test : (b : Bool) → nat_le most_open (open_parens t) ≡ b → count ≡ (if b then most_open else open_parens t)
    by_test true i = absurd (grind (arith, nat_tests))
    by_test false i = sym e

-- and no more are counted than the limit
pub most_counted : (t : Text) (count : ℕ) → most_open ≤ open_parens t → count ≡ most_open → count ≡ groups_at_once t
most_counted t count l e = by_test (nat_le most_open (open_parens t)) refl
  where
    by_test : (b : Bool) → nat_le most_open (open_parens t) ≡ b → count ≡ (if b then most_open else open_parens t)
    by_test true i = e
    by_test false i = absurd (grind (arith, nat_tests))
