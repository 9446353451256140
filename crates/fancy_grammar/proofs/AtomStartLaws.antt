-- What begins an atom: the slice that it reads, which leaves there are, and that a group opens only below the greatest
-- depth.
use Rattle.std.proofs.Common.{◌≡◌, ℕ, ◌+◌, ◌<◌, ◌≤◌, ◌∷◌, [], refl, sym, ap, subst, arith, Bool, true, false, Option}
use Rattle.std.proofs.Common.{Some}
use Rattle.std.specs.Prelude.{◌==◌, nat_le, IfSome, codes}
use Rattle.std.proofs.lemmas.Bool.{cond_both}
use Rattle.std.proofs.lemmas.Bool.Decides.{nat_tests}
use Prim.Native.Char.{code}
use Rattle.fancy_lex.proofs.EscapeLaws.{leaves_escape}
use Rattle.fancy_lex.proofs.LeaveLaws.{Leaves, leaves, errs, lies_past, lies_before, lies_at_end, lies_trans}
use Rattle.fancy_lex.proofs.PositionLaws.{leaves_class}
use Rattle.fancy_lex.proofs.EscapeSound.{Sound, sound_escape}
use Rattle.fancy_lex.proofs.ReadingLemmas.{choose_both}
use Rattle.fancy_lex.proofs.ReferencePositions.{IfGives, ReferenceAt, CallAt}
use Rattle.fancy_lex.proofs.TakeLaws.{Takes, TakesOrFails, takes, fails_at, takes_bytes}
use Rattle.fancy_lex.proofs.TextLemmas.{strip_word_is}
use Rattle.fancy_lex.specs.Referred.{Reference, Call}
use Rattle.fancy_lex.specs.Class.{class}
use Rattle.fancy_lex.specs.Escape.{escape}
use Rattle.fancy_lex.specs.Escaped.{Escape}
use Rattle.fancy_lex.specs.Escaped as escaped
use Rattle.fancy_lex.specs.Reading.{Reading, gives, fails}
use Rattle.fancy_lex.specs.Text.{Text, bytes, reach_of, strip_word}
use Rattle.fancy_lex.proofs.FlagLaws.{leaves_letters}
use Rattle.fancy_lex.proofs.GroupStartLaws.{takes_group_name, takes_named_reference, takes_named_call}
use Rattle.fancy_lex.proofs.GroupStartLaws.{takes_condition_target, named_reference_at, named_call_at}
use Rattle.fancy_lex.proofs.GroupStartLaws.{condition_target_at}
use Rattle.fancy_lex.specs.GroupName.{group_name}
use Rattle.fancy_lex.specs.GroupReference.{named_reference, named_call, begins_target, condition_target}
use Rattle.fancy_lex.specs.FlagLetters.{Letters, inline_flags, flag_group as scoped}
use Rattle.fancy_lex.specs.LetterSteps.{letters}
use Rattle.fancy_grammar.specs.AtomStart.{AtomStart, nothing, read, of_kind, condition, body, absent_branch, atom_start}
use Rattle.fancy_grammar.specs.AtomStart.{start_of}
use Rattle.fancy_grammar.specs.AtomStart.{error_start, group_start, after_question, condition_start, repeater_start}
use Rattle.fancy_grammar.specs.AtomStart.{verb_start, flags_start, leaf_node, leaf_outcome, leaf_of, begins_no_atom}
use Rattle.fancy_grammar.specs.AtomStart.{named_start, target_start, backref_node, call_node}
use Rattle.fancy_grammar.specs.Depth.{max_depth}
use Rattle.fancy_grammar.specs.Items.{items}
use Rattle.fancy_grammar.specs.Slices.{Slice}
use Rattle.fancy_grammar.specs.State.{skipped, State, at, Outcome, done, after_skipped}
use Rattle.fancy_grammar.specs.Tree.{Tree, delegate, verb}
use Rattle.fancy_grammar.specs.Verb.{verb_at}
use Rattle.fancy_grammar.specs.declared.kinds.BacktrackingControlVerb.{BacktrackingControlVerb}
use Rattle.fancy_grammar.proofs.Slices.{MayLie, ItemSpan, Reads, current, on, fits, one, one_bytes, cut_slice, to_ends}
use Rattle.fancy_grammar.proofs.Slices.{lies_at, lies_in, bare, listed, taken, referred, skipped_slice}
use Rattle.fancy_grammar.proofs.Slices.{open_comment_lies}
use Rattle.fancy_grammar.proofs.TreeLaws.{IsReadLeaf}
use Rattle.fancy_grammar.proofs.OutcomeLemmas.{skipped_both}

-- a slice of at least one byte
abbrev pub Past : State → Text → Type 0
Past s t = Slice s.rest t × (bytes t + 1 ≤ bytes s.rest)

further : (s : State) {t u : Text} → Past s t → Slice t u → Past s u
further s (a, h) b = (on a b, omega (arith, h, fits b))

-- a leaf reads at least one byte, and is a single node
pub record IsLeaf (s : State) (r : Tree) (t : State) : Type 0 where
  pub span : ItemSpan (items r) s.rest t.rest
  pub past : bytes t.rest + 1 ≤ bytes s.rest
  pub alone : IsReadLeaf r

-- what the leaf is, or where its error is
abbrev LeafReads : State → Outcome Tree → Type 0
LeafReads s o = Reads (IsLeaf s) s o

-- what an atom reads, by its start
abbrev pub StartReads : State → AtomStart → Type 0
StartReads s nothing = Unit {0}
StartReads s (read o) = LeafReads s o
StartReads s (of_kind h t) = Past s t.rest
StartReads s (condition t) = Past s t.rest
StartReads s (body c t) = ItemSpan (items c) s.rest t.rest × (bytes t.rest + 2 ≤ bytes s.rest) × IsReadLeaf c
StartReads s (absent_branch t) = Past s t.rest

first_slice : (s : State) (c : ℕ) (t : Text) → s.rest ≡ c ∷ t → Past s t
first_slice s c t e = (record { word = c ∷ []; cut = e }, omega (arith, ap bytes e, one_bytes c t))

-- a leaf without items
leaf_past : (s : State) {r : Tree} {t : State} → items r ≡ [] → IsReadLeaf r → Past s t.rest → IsLeaf s r t
leaf_past s e i h = record { span = listed (sym e) (bare h.0); past = h.1; alone = i }

word_slice : (w t u : Text) → strip_word w t ≡ Some u → Slice t u
word_slice w t u e = record { word = w; cut = strip_word_is w t u e }

-- a verb, if there is one, ends before a slice
abbrev VerbSlice : Text → Option (BacktrackingControlVerb × Text) → Type 0
VerbSlice t o = IfSome o (λ p. Slice t p.1)

verb_slice : (t : Text) → VerbSlice t (verb_at t)
unfolding verb_at
verb_slice t =
    let P = VerbSlice t in
    choose_both P (strip_word (codes "F)") t) _ _ (word_slice (codes "F)") t) (
    choose_both P (strip_word (codes "FAIL)") t) _ _ (word_slice (codes "FAIL)") t) (
    choose_both P (strip_word (codes "ACCEPT)") t) _ _ (word_slice (codes "ACCEPT)") t) (
    choose_both P (strip_word (codes "COMMIT)") t) _ _ (word_slice (codes "COMMIT)") t) (
    choose_both P (strip_word (codes "SKIP)") t) _ _ (word_slice (codes "SKIP)") t) (
    choose_both P (strip_word (codes "PRUNE)") t) _ _ (word_slice (codes "PRUNE)") t) tt)))))

pub verb_rest : (t : Text) (p : BacktrackingControlVerb × Text) → verb_at t ≡ Some p → Slice t p.1
verb_rest t p e = subst (VerbSlice t) e (verb_slice t)

verb_past : (s : State) (t : Text) (p : BacktrackingControlVerb × Text) → Past s t → verb_at t ≡ Some p → Past s p.1
verb_past s t p h e = further s h (verb_rest t p e)

flags_reads : (s : State) (t : Text) (o : Reading Letters) → Past s t → Leaves (reach_of t) t o →
    StartReads s (flags_start o)
flags_reads s t (gives (inline_flags f) u) a (leaves e) = leaf_past s refl (tt, refl, refl) (further s a (cut_slice e))
flags_reads s t (gives (scoped f) u) a (leaves e) = further s a (cut_slice e)
flags_reads s t (fails e) a (errs l) = lies_in a.0 (lies_trans (lies_at (current t)) l)

letters_start_reads : (s z : State) (t : Text) → Past s t → StartReads s (flags_start (letters z.flags t))
letters_start_reads s z t h = flags_reads s t (letters z.flags t) h (leaves_letters z.flags t)

at_least_one : {t u : Text} → Takes 2 t u → Takes 1 t u
at_least_one a = record { word = a.word; cut = a.cut; long = omega (arith, a.long) }

-- a `?` comes before the text
abbrev AfterQuestion : State → Text → Type 0
AfterQuestion s t = Past s t × MayLie s.rest (reach_of t + 1)

name_reads : (s z : State) (t u : Text) (o : Reading Text) → Past s u → MayLie s.rest (reach_of t + 1) →
    TakesOrFails (reach_of t + 1) 2 u o → StartReads s (named_start z o)
name_reads s z t u (gives w v) h m (takes a) = further s h (taken a)
name_reads s z t u (fails e) h m (fails_at l) = subst (MayLie s.rest) (sym l) m

target_reads : (s z : State) (t : Text) (o : Reading Reference) → Past s t →
    TakesOrFails (reach_of t) 2 t o →
    IfGives (ReferenceAt (reach_of t)) o → StartReads s (target_start z o)
target_reads s z t (gives r u) h (takes a) e =
    (referred _ _ h.0 (at_least_one a) e, omega (arith, h.1, takes_bytes a), (tt, refl, refl))
target_reads s z t (fails k) h (fails_at l) e = subst (MayLie s.rest) (sym l) (lies_at h.0)

backref_reads : (s z : State) (casei : Bool) (t : Text) (o : Reading Reference) → Past s t →
    TakesOrFails (reach_of t) 2 t o →
    IfGives (ReferenceAt (reach_of t)) o → LeafReads s (leaf_outcome (backref_node casei) z o)
backref_reads s z casei t (gives r u) h (takes a) e = record {
  span = referred _ _ h.0 (at_least_one a) e;
  past = omega (arith, h.1, takes_bytes a);
  alone = (tt, refl, refl);
}
backref_reads s z casei t (fails k) h (fails_at l) e = subst (MayLie s.rest) (sym l) (lies_at h.0)

call_reads : (s z : State) (t : Text) (o : Reading Call) → Past s t →
    TakesOrFails (reach_of t) 2 t o →
    IfGives (CallAt (reach_of t)) o → LeafReads s (leaf_outcome call_node z o)
call_reads s z t (gives c u) h (takes a) e = record {
  span = referred _ _ h.0 (at_least_one a) e;
  past = omega (arith, h.1, takes_bytes a);
  alone = (tt, refl, refl);
}
call_reads s z t (fails k) h (fails_at l) e = subst (MayLie s.rest) (sym l) (lies_at h.0)

condition_start_reads : (s z : State) (t : Text) → Past s t → StartReads s (condition_start z t)
condition_start_reads s z [] h = lies_at_end s.rest
condition_start_reads s z (c ∷ t) h =
    cond_both (begins_target (c ∷ t)) _ _ (StartReads s)
    (λ _. target_reads s z (c ∷ t) (condition_target (c ∷ t)) h (takes_condition_target (c ∷ t))
    (condition_target_at (c ∷ t))) (λ _.
    cond_both (c == code "*") _ _ (StartReads s)
    (λ e. choose_both (StartReads s) (verb_at t) _ _ (λ p e. verb_condition_reads p e)
    (subst (λ x. MayLie s.rest (reach_of (x ∷ t))) (is_asterisk e) (lies_at h.0))) (λ _. h))
  where
    is_asterisk : (c == code "*") ≡ true → c ≡ code "*"
    is_asterisk e = grind (arith, nat_tests)

    verb_condition_reads : (p : BacktrackingControlVerb × Text) → verb_at t ≡ Some p →
        StartReads s (body (verb p.0) (at z p.1))
    verb_condition_reads p e =
        let a = verb_rest t p e in
        (bare (on (on h.0 (one c t)) a), omega (arith, h.1, one_bytes c t, fits a), (tt, refl, refl))

repeater_reads : (s z : State) (t : Text) → Past s t → StartReads s (repeater_start z t)
repeater_reads s z [] h = lies_at_end s.rest
repeater_reads s z (c ∷ t) h = h

question_reads : (s z : State) (t : Text) → AfterQuestion s t → StartReads s (after_question z t)
question_reads s z t h =
    let P = StartReads s in
    choose_both P (strip_word (codes "=") t) _ _ (after (codes "=")) (
    choose_both P (strip_word (codes "!") t) _ _ (after (codes "!")) (
    choose_both P (strip_word (codes "<=") t) _ _ (after (codes "<=")) (
    choose_both P (strip_word (codes "<!") t) _ _ (after (codes "<!")) (
    choose_both P (strip_word (codes "<") t) _ _ (named (code ">") (codes "<")) (
    choose_both P (strip_word (codes "'") t) _ _ (named (code "'") (codes "'")) (
    choose_both P (strip_word (codes "P<") t) _ _ (named (code ">") (codes "P<")) (
    choose_both P (strip_word (codes "P=") t) _ _
    (λ u e. backref_reads s z z.flags.casei u (named_reference u) (after (codes "P=") u e)
    (takes_named_reference u) (named_reference_at u)) (
    choose_both P (strip_word (codes "P>") t) _ _
    (λ u e. call_reads s z u (named_call u) (after (codes "P>") u e) (takes_named_call u) (named_call_at u)) (
    choose_both P (strip_word (codes "~|") t) _ _ (after (codes "~|")) (
    choose_both P (strip_word (codes "~") t) _ _ (λ u e. repeater_reads s z u (after (codes "~") u e)) (
    choose_both P (strip_word (codes ">") t) _ _ (after (codes ">")) (
    choose_both P (strip_word (codes "(DEFINE)") t) _ _ (after (codes "(DEFINE)")) (
    choose_both P (strip_word (codes "(") t) _ _ (λ u e. condition_start_reads s z u (after (codes "(") u e))
    (letters_start_reads s z t h.0))))))))))))))
  where
    after : (w u : Text) → strip_word w t ≡ Some u → Past s u
    after w u e = further s h.0 (word_slice w t u e)

    named : (delimiter : ℕ) (w u : Text) → strip_word w t ≡ Some u → StartReads s
        (named_start z (group_name delimiter t u))
    named delimiter w u e = name_reads s z t u (group_name delimiter t u) (after w u e) h.1
        (takes_group_name delimiter t u)

group_reads : (s z : State) (t : Text) → Past s t → StartReads s (group_start z t)
group_reads s z t h =
    choose_both (StartReads s) (strip_word (codes "?") t) _ _ with_question (
    choose_both (StartReads s) (strip_word (codes "*") t) _ _ starred h)
  where
    after : (w u : Text) → strip_word w t ≡ Some u → Past s u
    after w u e = further s h (word_slice w t u e)

    with_question : (u : Text) → strip_word (codes "?") t ≡ Some u → StartReads s (after_question z u)
    with_question u e =
        let cut : Slice s.rest (code "?" ∷ u) = subst (Slice s.rest) (strip_word_is (codes "?") t u e) h.0 in
        question_reads s z u (after (codes "?") u e, lies_before (omega arith) (to_ends cut))

    starred : (u : Text) → strip_word (codes "*") t ≡ Some u → StartReads s
        (verb_start (λ v y. read (done v y)) z u)
    starred u e =
        let cut : Slice s.rest (code "*" ∷ u) = subst (Slice s.rest) (strip_word_is (codes "*") t u e) h.0 in
        choose_both (StartReads s) (verb_at u) _ _
        (λ p i. leaf_past s refl (tt, refl, refl) (verb_past s u p (after (codes "*") u e) i)) (lies_at cut)

-- what an escape is read as, after the first character
escape_reads : (s z : State) (t : Text) → Past s t → MayLie s.rest (reach_of t + 1) → (o : Reading Escape) →
    Leaves (reach_of t + 1) t o → Sound t o → LeafReads s (leaf_outcome leaf_node z o)
escape_reads s z t h m (gives e u) (leaves l) p =
    let x = by_leaf e p in record { span = x.0; past = (further s h (cut_slice l)).1; alone = x.1 }
  where
    plain : ItemSpan [] s.rest u
    plain = bare (on h.0 (cut_slice l))

    by_leaf : (e : Escape) → Sound t (gives e u) → ItemSpan (items (leaf_node e)) s.rest u × IsReadLeaf (leaf_node e)
    by_leaf (escaped.literal c casei) p = (plain, (refl, refl, refl))
    by_leaf (escaped.literal_bytes b) p = (plain, ((refl, (p, tt)), refl, refl))
    by_leaf (escaped.backref r casei) p =
        (referred _ _ (on h.0 (cut_slice p.ends)) p.takes p.reach, (tt, refl, refl))
    by_leaf (escaped.subroutine_call c) p =
        (referred _ _ (on h.0 (cut_slice p.ends)) p.takes p.reach, (tt, refl, refl))
    by_leaf e p = (plain, (tt, refl, refl))
escape_reads s z t h m (fails e) (errs l) p = lies_trans m (lies_past (to_ends h.0) l)

-- a class, after its bracket
class_reads : (s z : State) (casei : Bool) (t : Text) → Past s t → (o : Reading Text) → Leaves 0 t o →
    LeafReads s (leaf_outcome (λ w. delegate w casei) z o)
class_reads s z casei t h (gives a u) (leaves e) = leaf_past s refl (tt, refl, refl) (further s h (cut_slice e))
class_reads s z casei t h (fails e) (errs l) = lies_in h.0 l

backslash_ascii : (c : ℕ) → (c == code "\\") ≡ true → c < 128
backslash_ascii c e = grind (arith, nat_tests)

leaf_reads : (s : State) (c : ℕ) (t : Text) → Past s t → Slice s.rest (c ∷ t) → LeafReads s (leaf_of s c t)
leaf_reads s c t h cut =
    cond_both (c == code ".") _ _ (LeafReads s) (λ _. leaf_past s refl (tt, refl, refl) h) (λ _.
    cond_both (c == code "^") _ _ (LeafReads s) (λ _. leaf_past s refl (tt, refl, refl) h) (λ _.
    cond_both (c == code "$") _ _ (LeafReads s) (λ _. leaf_past s refl (tt, refl, refl) h) (λ _.
    cond_both (c == code "\\") _ _ (LeafReads s)
    (λ e. escape_reads s s t h (lies_before (backslash_ascii c e) (to_ends cut)) (escape s.flags false t)
    (leaves_escape s.flags false t) (sound_escape s.flags false t)) (λ _.
    cond_both (c == code "[") _ _ (LeafReads s)
    (λ _. class_reads s s s.flags.casei t h (class s.flags t) (leaves_class s.flags t))
    (λ _. leaf_past s refl (refl, refl, refl) h)))))

pub start_reads : (d : ℕ) (s : State) → StartReads s (atom_start d s)
unfolding atom_start
start_reads d s = by_text s.rest refl
  where
    by_text : (t : Text) → s.rest ≡ t → StartReads s (start_of d s t)
    by_text [] e = tt
    by_text (c ∷ t) e =
        let h = first_slice s c t e in
        let cut : Slice s.rest (c ∷ t) = record { word = []; cut = e } in
        cond_both (c == code "(") _ _ (StartReads s) (λ _.
        cond_both (nat_le max_depth (d + 1)) _ _ (StartReads s) (λ _. lies_at cut)
        (λ _. skipped_both (StartReads s) (skipped (at s t)) _ _
        (λ u i. group_reads s s u (further s h (skipped_slice (at s t) u i)))
        (λ p i. lies_in h.0 (open_comment_lies (at s t) p i)))) (λ _.
        cond_both (begins_no_atom c) _ _ (StartReads s) (λ _. tt) (λ _. leaf_reads s c t h cut))

-- a group opens only below the greatest depth
abbrev pub OpensBelow : ℕ → AtomStart → Type 0
OpensBelow d nothing = Unit {0}
OpensBelow d (read o) = Unit {0}
OpensBelow d _ = d + 1 < max_depth

below_at : (d : ℕ) (k : AtomStart) → d + 1 < max_depth → OpensBelow d k
below_at d nothing h = tt
below_at d (read o) h = tt
below_at d _ h = h

pub start_below : (d : ℕ) (s : State) → OpensBelow d (atom_start d s)
unfolding atom_start
start_below d s = by_text s.rest
  where
    may_open : nat_le max_depth (d + 1) ≡ false → d + 1 < max_depth
    may_open e = grind (arith, nat_tests)

    by_text : (t : Text) → OpensBelow d (start_of d s t)
    by_text [] = tt
    by_text (c ∷ t) =
        cond_both (c == code "(") _ _ (OpensBelow d)
        (λ _. cond_both (nat_le max_depth (d + 1)) _ _ (OpensBelow d) (λ _. tt)
        (λ e. below_at d (after_skipped (skipped (at s t)) (group_start s) error_start) (may_open e))) (λ _.
        cond_both (begins_no_atom c) _ _ (OpensBelow d) (λ _. tt) (λ _. tt))
