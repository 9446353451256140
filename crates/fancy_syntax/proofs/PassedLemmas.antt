-- What is passed that no node has.
use Rattle.std.proofs.Common.{◌≡◌, ℕ, ◌+◌, ◌<◌, Bool, true, false, ◌&&◌, if◌then◌else◌, List, [], ◌∷◌, ◌++◌, length, take, map, get_or, refl, sym, ap, subst, ◌∙◌}
use Rattle.std.proofs.Common.{append-nil, append_assoc, drop, ◌≤◌, ◌==◌, min, Some, nat_lt, arith}
use Rattle.std.proofs.lemmas.Bool.Decides.{nat_tests}
use Rattle.std.specs.Prelude.{not, insert}
use Rattle.std.proofs.lemmas.List.{map-append, take_more, drop_more, drop_all, take-map, drop-map, length-map}
use Rattle.fancy_grammar.specs.Trivia.{Trivium, Passed, part, dropped, with_dropped, filled, located, kept, of_comment}
use Rattle.fancy_grammar.specs.State.{State, at, skipped}
use Rattle.fancy_grammar.specs.Tree.{Tree}
use Rattle.fancy_lex.specs.Comments.{comments}
use Rattle.fancy_lex.specs.Quantifier.{counts}
use Rattle.fancy_lex.specs.LayoutSteps.{rest}
use Rattle.fancy_lex.specs.Text.{Text}
use Rattle.fancy_lex.specs.declared.counts.Counts.{Counts}
use Rattle.fancy_lex.proofs.CommentLaws.{none_after_layout}
use Rattle.fancy_syntax.specs.Log.{Log, pass, layout_passed, text_dropped, text_filled, inserted}
use Rattle.fancy_syntax.specs.Log.{text_inserted, body_dropped, conditional_dropped}
use Rattle.fancy_syntax.specs.Recording.{counted_recorded, quant_recorded}
use Rattle.fancy_syntax.specs.declared.grammar.recorded.ConditionPart.{ConditionPart}
use Rattle.fancy_syntax.specs.TriviaViews.{recorded_part}
use Rattle.fancy_syntax.specs.declared.grammar.recorded.RecordedTrivium.{RecordedTrivium}

-- if it is nothing, the log stays the same
pub nothing_passed : (l : Log) → pass [] l ≡ l
nothing_passed l = ap (λ xs. record l { passed = xs }) (append-nil l.passed)

-- where no layout is, no comment is passed
pub no_layout_passed : (s : State) (v : Text) (l : Log) → skipped s ≡ rest v → v ≡ s.rest → l ≡ layout_passed s l
no_layout_passed s v l e same =
    let x = s.flags.ignore_space in
    let none : comments x s.rest ≡ [] = subst (λ t. comments x t ≡ []) same (none_after_layout x s.rest v e) in
    sym (nothing_passed l) ∙ ap (λ cs. pass (map of_comment cs) l) (sym none)

-- the first is passed before the others
pub pass_first : (x : Passed) (xs : List Passed) (l : Log) → pass (x ∷ xs) l ≡ pass xs (pass (x ∷ []) l)
pass_first x xs l = ap (λ ys. record l { passed = ys }) (sym (append_assoc l.passed (x ∷ []) xs))

-- parts of two tokens are passed one after the other
pub pass_both : (xs ys : List Passed) (l : Log) → pass (xs ++ ys) l ≡ pass ys (pass xs l)
pass_both xs ys l = ap (λ zs. record l { passed = zs }) (sym (append_assoc l.passed xs ys))

-- the quantifier after layout, whose counts are at u and end before t
pub quant_counted : (a : Tree) (s : State) (u t : Text) (c : Counts) (l : Log) → skipped s ≡ rest u →
    counts s.flags.ignore_space u ≡ Some (c, t) →
    counted_recorded u a (at s u) (layout_passed s l) (c, t) ≡ quant_recorded a s l
quant_counted a s u t c l e f = rw (e, f) refl

-- the next part lies in the one before it
pub filled_inner : (xs : List RecordedTrivium) (i : ℕ) (d : RecordedTrivium) (from end : ℕ) (l n : Log) → i < length xs →
    from < (get_or xs i d).start → n ≡ pass (recorded_part (get_or xs i d) ∷ []) l →
    text_filled from end (map recorded_part (drop i xs)) l ≡ text_filled from end (map recorded_part (drop (i + 1) xs)) n
filled_inner xs i d from end l n lt earlier added =
    let x = get_or xs i d in
    let others = map recorded_part (drop (i + 1) xs) in
    let inner : nat_lt from x.start ≡ true = grind (arith, nat_tests) in
    ap (λ ys. text_filled from end (map recorded_part ys) l) (drop_more xs i d lt)
    ∙ ap (λ b. record l {
      passed = if b then filled from end others (l.passed ++ recorded_part x ∷ [])
          else filled x.end end others (with_dropped from x.start l.passed ++ recorded_part x ∷ []);
    }) inner
    ∙ ap (text_filled from end others) (sym added)

-- the next part is added after the text before it
pub filled_next : (xs : List RecordedTrivium) (i : ℕ) (d : RecordedTrivium) (from end : ℕ) (l m n : Log) → i < length xs →
    (get_or xs i d).start ≤ from → m ≡ text_dropped from (get_or xs i d).start l → n ≡ pass (recorded_part (get_or xs i d) ∷ []) m →
    text_filled from end (map recorded_part (drop i xs)) l
    ≡ text_filled (get_or xs i d).end end (map recorded_part (drop (i + 1) xs)) n
filled_next xs i d from end l m n lt later before added =
    let x = get_or xs i d in
    let others = map recorded_part (drop (i + 1) xs) in
    let none : nat_lt from x.start ≡ false = grind (arith, nat_tests) in
    ap (λ ys. text_filled from end (map recorded_part ys) l) (drop_more xs i d lt)
    ∙ ap (λ b. record l {
      passed = if b then filled from end others (l.passed ++ recorded_part x ∷ [])
          else filled x.end end others (with_dropped from x.start l.passed ++ recorded_part x ∷ []);
    }) none
    ∙ ap (text_filled x.end end others) (sym (added ∙ ap (pass (recorded_part x ∷ [])) before))

-- after the last part, the text up to the end
pub filled_end : (xs : List RecordedTrivium) (i from end : ℕ) (l : Log) → length xs ≤ i →
    text_filled from end (map recorded_part (drop i xs)) l ≡ text_dropped from end l
filled_end xs i from end l past = ap (λ ys. text_filled from end (map recorded_part ys) l) (drop_all i xs past)

-- a part inserted among others, as they are recorded
recorded_insert : (xs : List RecordedTrivium) (i : ℕ) (x : RecordedTrivium) →
    map recorded_part (insert xs i x) ≡ insert (map recorded_part xs) i (recorded_part x)
recorded_insert xs i x =
    map-append recorded_part (take i xs) (x ∷ drop i xs)
    ∙ (λ j. sym (take-map recorded_part i xs) j ++ recorded_part x ∷ sym (drop-map recorded_part i xs) j)

pub inserted_recorded : (height start end n : ℕ) (xs ys : List RecordedTrivium) (x : RecordedTrivium) →
    (start == end) ≡ false → recorded_part x ≡ part start end dropped false →
    ys ≡ insert xs (min height n) x → n ≡ length xs →
    map recorded_part ys ≡ inserted height start end (map recorded_part xs)
inserted_recorded height start end n xs ys x differ is e k =
    ap (map recorded_part) (e ∙ ap (λ n. insert xs (min height n) x) k) ∙ recorded_insert xs (min height (length xs)) x
    ∙ (λ j. insert (map recorded_part xs) (min height (sym (length-map xs recorded_part) j)) (is j))
    ∙ sym (ap (λ b. if b then map recorded_part xs
    else insert (map recorded_part xs) (min height (length (map recorded_part xs))) (part start end dropped false)) differ)

-- the parts of a body, and those before it, are recorded apart
split_recorded : (xs : List RecordedTrivium) (many passed start first closing end : ℕ) →
    filled closing end (map recorded_part (drop (min many (length xs)) xs))
    (inserted passed start first (map recorded_part (take (min many (length xs)) xs)))
    ≡ (let ps = map recorded_part xs in let n = min many (length ps) in
    filled closing end (drop n ps) (inserted passed start first (take n ps)))
split_recorded xs many passed start first closing end =
    let f = filled closing end in
    (λ j. f (sym (drop-map recorded_part (min many (length xs)) xs) j)
    (inserted passed start first (sym (take-map recorded_part (min many (length xs)) xs) j)))
    ∙ ap (λ n. f (drop (min many n) (map recorded_part xs))
    (inserted passed start first (take (min many n) (map recorded_part xs)))) (sym (length-map xs recorded_part))

-- the parts of a conditional of which only the condition is left
pub conditional_recorded : (l m : Log) (xs ys zs : List RecordedTrivium) (c : ConditionPart) (n end : ℕ) →
    l.passed ≡ map recorded_part xs → l.open_atom.condition ≡ Some c → n ≡ length xs →
    ys ≡ take (min c.passed n) xs → zs ≡ drop (min c.passed n) xs →
    m ≡ text_inserted l.open_atom.passed l.open_atom.start c.start
    (record l { recorded = take l.open_atom.branches l.recorded; passed = map recorded_part ys }) →
    text_filled c.closing end (map recorded_part zs) m ≡ conditional_dropped end l
conditional_recorded l m xs ys zs c n end p is k before after e =
    let o = l.open_atom in
    let f = before ∙ ap (λ n. take (min c.passed n) xs) k in
    let g = after ∙ ap (λ n. drop (min c.passed n) xs) k in
    let with_parts : List Passed → Log = λ q. record l { recorded = take o.branches l.recorded; passed = q } in
    ap (text_filled c.closing end (map recorded_part zs)) e
    ∙ (λ j. with_parts (filled c.closing end (map recorded_part (g j))
    (inserted o.passed o.start c.start (map recorded_part (f j)))))
    ∙ ap with_parts (split_recorded xs c.passed o.passed o.start c.start c.closing end
    ∙ (λ j. body_dropped o end (sym is j) (sym p j)))

kept_more : (named : Bool) (xs : List Passed) (x : Passed) →
    kept named (xs ++ x ∷ []) ≡ kept named xs ++ kept named (x ∷ [])
kept_more named [] x = refl
kept_more named (y ∷ xs) x = by_test (y.unnamed && not named) (kept_more named xs x)
  where
    by_test : (b : Bool) → kept named (xs ++ x ∷ []) ≡ kept named xs ++ kept named (x ∷ []) →
        (if b then kept named (xs ++ x ∷ []) else y.trivium ∷ kept named (xs ++ x ∷ []))
        ≡ (if b then kept named xs else y.trivium ∷ kept named xs) ++ kept named (x ∷ [])
    by_test true h = h
    by_test false h = ap (λ l. y.trivium ∷ l) h

-- what is returned for the parts so far, with what is returned for the next
pub kept_next : (n : ℕ) (named : Bool) (xs : List RecordedTrivium) (i : ℕ) (d : RecordedTrivium) (ys zs : List Trivium) →
    i < length xs → ys ≡ map (located n) (kept named (map recorded_part (take i xs))) →
    zs ≡ ys ++ map (located n) (kept named (recorded_part (get_or xs i d) ∷ [])) →
    zs ≡ map (located n) (kept named (map recorded_part (take (i + 1) xs)))
kept_next n named xs i d ys zs lt before next =
    let x = get_or xs i d in
    let so_far = map recorded_part (take i xs) in
    let all : map recorded_part (take (i + 1) xs) ≡ so_far ++ recorded_part x ∷ [] =
    ap (map recorded_part) (take_more xs i d lt) ∙ map-append recorded_part (take i xs) (x ∷ []) in
    next ∙ ap (λ l. l ++ map (located n) (kept named (recorded_part x ∷ []))) before
    ∙ sym (map-append (located n) (kept named so_far) (kept named (recorded_part x ∷ [])))
    ∙ ap (map (located n)) (sym (kept_more named so_far (recorded_part x)) ∙ ap (kept named) (sym all))
