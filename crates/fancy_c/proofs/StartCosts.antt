-- The start of an atom has at most six bytes of text for each byte that is read.
use Rattle.std.proofs.Common.{◌≡◌, ℕ, ◌+◌, ◌-◌, ◌*◌, ◌≤◌, ◌∷◌, [], Bool, false, Option, Some, None, refl, ap, arith}
use Rattle.std.specs.Prelude.{◌==◌, nat_le, codes}
use Rattle.std.proofs.lemmas.Bool.{cond_both}
use Prim.Native.Char.{code}
use Rattle.fancy_lex.proofs.ReadingLemmas.{choose_both}
use Rattle.fancy_lex.proofs.TextLemmas.{strip_word_is, bytes-append}
use Rattle.fancy_lex.specs.Class.{class}
use Rattle.fancy_lex.specs.Delimited.{name_before}
use Rattle.fancy_lex.specs.Escape.{escape}
use Rattle.fancy_lex.specs.Escaped as escaped
use Rattle.fancy_lex.specs.Escaped.{Escape}
use Rattle.fancy_lex.specs.Reading.{Reading, gives, fails, read_or}
use Rattle.fancy_lex.specs.Referred.{Reference, Call}
use Rattle.fancy_lex.specs.Text.{Text, bytes, strip_word, reach_of}
use Rattle.fancy_lex.specs.Located.{Located}
use Rattle.fancy_lex.specs.ErrorTable.{group_not_named}
use Rattle.fancy_lex.specs.FlagLetters.{Letters, inline_flags, flag_group as scoped}
use Rattle.fancy_lex.specs.LetterSteps.{letters}
use Rattle.fancy_lex.specs.GroupName.{group_name}
use Rattle.fancy_lex.specs.GroupReference.{named_reference, named_call, call_of, begins_target, condition_target}
use Rattle.fancy_grammar.specs.AtomStart.{AtomStart, read, of_kind, body, atom_start}
use Rattle.fancy_grammar.specs.AtomStart.{start_of, group_start, after_question, condition_start, repeater_start}
use Rattle.fancy_grammar.specs.AtomStart.{flags_start, leaf_node, leaf_outcome, leaf_of, begins_no_atom}
use Rattle.fancy_grammar.specs.AtomStart.{named_start, target_start, backref_node, call_node}
use Rattle.fancy_grammar.specs.Depth.{max_depth}
use Rattle.fancy_grammar.specs.GroupKind.{capture}
use Rattle.fancy_grammar.specs.Label as label
use Rattle.fancy_grammar.specs.Label.{ast_call}
use Rattle.fancy_grammar.specs.State.{skipped, State, at, Outcome, done, failed}
use Rattle.fancy_grammar.specs.Tree.{Tree, leaf, delegate}
use Rattle.fancy_grammar.specs.Verb.{verb_at}
use Rattle.fancy_grammar.proofs.Slices.{fits, one_bytes, skipped_slice}
use Rattle.fancy_grammar.proofs.OutcomeLemmas.{skipped_both}
use Rattle.fancy_c.proofs.ClassCosts.{IsClassWithin, class_within}
use Rattle.fancy_c.proofs.EscapeCosts.{IsPaidIn, escape_paid, NamesWithin, more_within, IsCallIn, call_in, IsNameIn}
use Rattle.fancy_c.proofs.EscapeCosts.{name_in, target_within}
use Rattle.fancy_c.proofs.TreeCosts.{cost}

-- what is read from n bytes up to u: a delegate, or a call with its name
abbrev ReadWithin : ℕ → Tree → Text → Type 0
ReadWithin n (leaf (label.delegate w casei)) u = bytes w + 6 * bytes u ≤ 6 * n
ReadWithin n (leaf (label.ast_node (ast_call g) reach)) u = NamesWithin (n - bytes u) g
ReadWithin n _ u = Unit {0}

abbrev LeafWithin : ℕ → Outcome Tree → Type 0
LeafWithin n (done r t) = ReadWithin n r t.rest
LeafWithin n (failed e) = Unit {0}

-- what is said of texts at the start of an atom that is read from n bytes: of a leaf, and of the name of a group; the
-- condition of a conditional has no text
abbrev pub StartWithin : ℕ → AtomStart → Type 0
StartWithin n (read o) = LeafWithin n o
StartWithin n (of_kind (capture (Some w)) t) = bytes w + 1 + bytes t.rest ≤ n
StartWithin n (body c t) = cost c ≡ 0
StartWithin n _ = Unit {0}

word_fits : (w t u : Text) → strip_word w t ≡ Some u → bytes u ≤ bytes t
word_fits w t u e = omega (arith, ap bytes (strip_word_is w t u e), bytes-append w u)

-- ---- leaves

escape_within : (n : ℕ) (s : State) (t : Text) (o : Reading Escape) → bytes t + 1 ≤ n → IsPaidIn t o →
    LeafWithin n (leaf_outcome leaf_node s o)
escape_within n s t (gives (escaped.delegate w casei) u) l h = omega (arith, l, h)
escape_within n s t (gives (escaped.subroutine_call c) u) l h =
    more_within (bytes t - bytes u) (n - bytes u) c.target (omega (arith, l)) h
escape_within n s t (gives e u) l h = tt
escape_within n s t (fails e) l h = tt

class_read : (n : ℕ) (s : State) (casei : Bool) (m : ℕ) (o : Reading Text) → m ≤ 6 * n → IsClassWithin m o →
    LeafWithin n (leaf_outcome (λ w. delegate w casei) s o)
class_read n s casei m (gives w u) l h = omega (arith, l, h)
class_read n s casei m (fails e) l h = tt

leaf_within : (n : ℕ) (s : State) (c : ℕ) (t : Text) → bytes t + 1 ≤ n → LeafWithin n (leaf_of s c t)
leaf_within n s c t l =
    let P = LeafWithin n in
    cond_both (c == code ".") _ _ P (λ _. tt) (λ _.
    cond_both (c == code "^") _ _ P (λ _. tt) (λ _.
    cond_both (c == code "$") _ _ P (λ _. tt) (λ _.
    cond_both (c == code "\\") _ _ P
    (λ _. escape_within n s t (escape s.flags false t) l (escape_paid s.flags false t)) (λ _.
    cond_both (c == code "[") _ _ P
    (λ _. class_read n s s.flags.casei (6 * bytes t + 1) (class s.flags t) (omega (arith, l)) (class_within s.flags t))
    (λ _. tt)))))

-- ---- openings of groups

flags_within : (n : ℕ) (o : Reading Letters) → StartWithin n (flags_start o)
flags_within n (gives (inline_flags f) u) = tt
flags_within n (gives (scoped f) u) = tt
flags_within n (fails e) = tt

named_within : (n : ℕ) (s : State) (e : Located) (u : Text) (o : Option (Text × Text)) → bytes u ≤ n → IsNameIn u o →
    StartWithin n (named_start s (read_or e o))
named_within n s e u None l h = tt
named_within n s e u (Some (w, v)) l h = omega (arith, l, h)

target_start_within : (n : ℕ) (s : State) (o : Reading Reference) → StartWithin n (target_start s o)
target_start_within n s (gives r u) = refl
target_start_within n s (fails e) = tt

backref_within : (n : ℕ) (s : State) (casei : Bool) (o : Reading Reference) →
    LeafWithin n (leaf_outcome (backref_node casei) s o)
backref_within n s casei (gives r u) = tt
backref_within n s casei (fails e) = tt

call_within : (n : ℕ) (s : State) (t : Text) (o : Reading Call) → bytes t ≤ n → IsCallIn t o →
    LeafWithin n (leaf_outcome call_node s o)
call_within n s t (gives c u) l h = more_within (bytes t - bytes u) (n - bytes u) c.target (omega (arith, l)) h
call_within n s t (fails e) l h = tt

named_call_in : (t : Text) → IsCallIn t (named_call t)
unfolding named_call
named_call_in t =
    call_in (reach_of t) t (call_of (reach_of t)) (name_before (code ")") t) (name_in (code ")") t) target_within

condition_within : (n : ℕ) (s : State) (t : Text) → StartWithin n (condition_start s t)
condition_within n s [] = tt
condition_within n s (c ∷ t) =
    cond_both (begins_target (c ∷ t)) _ _ (StartWithin n) (λ _. target_start_within n s (condition_target (c ∷ t))) (λ _.
    cond_both (c == code "*") _ _ (StartWithin n)
    (λ _. choose_both (StartWithin n) (verb_at t) _ _ (λ p _. refl) tt) (λ _. tt))

repeater_within : (n : ℕ) (s : State) (t : Text) → StartWithin n (repeater_start s t)
repeater_within n s [] = tt
repeater_within n s (c ∷ t) = tt

question_within : (n : ℕ) (s : State) (t : Text) → bytes t ≤ n → StartWithin n (after_question s t)
unfolding group_name
question_within n s t l =
    let P = StartWithin n in
    choose_both P (strip_word (codes "=") t) _ _ (λ u e. tt) (
    choose_both P (strip_word (codes "!") t) _ _ (λ u e. tt) (
    choose_both P (strip_word (codes "<=") t) _ _ (λ u e. tt) (
    choose_both P (strip_word (codes "<!") t) _ _ (λ u e. tt) (
    choose_both P (strip_word (codes "<") t) _ _ (named (code ">") (codes "<")) (
    choose_both P (strip_word (codes "'") t) _ _ (named (code "'") (codes "'")) (
    choose_both P (strip_word (codes "P<") t) _ _ (named (code ">") (codes "P<")) (
    choose_both P (strip_word (codes "P=") t) _ _ (λ u e. backref_within n s s.flags.casei (named_reference u)) (
    choose_both P (strip_word (codes "P>") t) _ _
    (λ u e. call_within n s u (named_call u) (omega (arith, l, word_fits (codes "P>") t u e)) (named_call_in u)) (
    choose_both P (strip_word (codes "~|") t) _ _ (λ u e. tt) (
    choose_both P (strip_word (codes "~") t) _ _ (λ u e. repeater_within n s u) (
    choose_both P (strip_word (codes ">") t) _ _ (λ u e. tt) (
    choose_both P (strip_word (codes "(DEFINE)") t) _ _ (λ u e. tt) (
    choose_both P (strip_word (codes "(") t) _ _ (λ u e. condition_within n s u)
    (flags_within n (letters s.flags t)))))))))))))))
  where
    named : (delimiter : ℕ) (w u : Text) → strip_word w t ≡ Some u →
        StartWithin n (named_start s (group_name delimiter t u))
    named delimiter w u e =
        named_within n s (group_not_named t) u (name_before delimiter u) (omega (arith, l, word_fits w t u e))
        (name_in delimiter u)

group_within : (n : ℕ) (s : State) (t : Text) → bytes t ≤ n → StartWithin n (group_start s t)
group_within n s t l =
    choose_both (StartWithin n) (strip_word (codes "?") t) _ _
    (λ u e. question_within n s u (omega (arith, l, word_fits (codes "?") t u e))) (
    choose_both (StartWithin n) (strip_word (codes "*") t) _ _
    (λ u e. choose_both (StartWithin n) (verb_at u) _ _ (λ p _. tt) tt) tt)

pub start_within : (d : ℕ) (s : State) → StartWithin (bytes s.rest) (atom_start d s)
unfolding atom_start
start_within d s = by_text s.rest
  where
    by_text : (t : Text) → StartWithin (bytes t) (start_of d s t)
    by_text [] = tt
    by_text (c ∷ t) =
        let P = StartWithin (bytes (c ∷ t)) in
        let less = one_bytes c t in
        cond_both (c == code "(") _ _ P (λ _.
        cond_both (nat_le max_depth (d + 1)) _ _ P (λ _. tt)
        (λ _. skipped_both P (skipped (at s t)) _ _
        (λ u i. group_within (bytes (c ∷ t)) s u (omega (arith, less, fits (skipped_slice (at s t) u i)))) (λ p i. tt)))
        (λ _.
        cond_both (begins_no_atom c) _ _ P (λ _. tt) (λ _. leaf_within (bytes (c ∷ t)) s c t less))
