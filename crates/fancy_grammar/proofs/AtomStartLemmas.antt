-- A piece reads a character if a branch does not end at its start.
use Rattle.std.proofs.Common.{◌≡◌, ◌≢◌, ℕ, ◌+◌, Bool, true, false, ◌||◌, ◌&&◌, if◌then◌else◌, ◌⊎◌, inl, inr, []}
use Rattle.std.proofs.Common.{◌∷◌, ◌==◌, Option, Some, None, nat_le, nat_lt, codes, refl, sym, ◌∙◌, true≢false, tests}
use Rattle.std.proofs.Common.{rules, ap, arith}
use Rattle.std.proofs.lemmas.Bool.{cond-true, cond-false}
use Rattle.std.proofs.lemmas.Bool.Decides.{nat_tests}
use Prim.Native.Char.{code}
use Rattle.fancy_lex.proofs.ReadingLemmas.{choose_both}
use Rattle.fancy_lex.specs.ErrorTable.{group_too_deep, not_repeatable}
use Rattle.fancy_lex.specs.LayoutSteps.{layout, layout_from, is_layout, rest}
use Rattle.fancy_lex.specs.Reading.{Reading, gives, fails, choose}
use Rattle.fancy_lex.specs.Referred.{Reference}
use Rattle.fancy_lex.specs.Text.{Text, bytes, strip_word}
use Rattle.fancy_lex.specs.FlagLetters.{Letters, inline_flags, flag_group as scoped}
use Rattle.fancy_lex.specs.GroupReference.{begins_target, condition_target}
use Rattle.fancy_lex.specs.LetterSteps.{letters, letters_in}
use Rattle.fancy_lex.specs.Quantifier.{counts, as_operator, most}
use Rattle.fancy_lex.specs.declared.counts.Counts.{Counts}
use Rattle.fancy_grammar.specs.AtomStart.{AtomStart, nothing, read, of_kind, condition, body, atom_start, start_of}
use Rattle.fancy_grammar.specs.AtomStart.{group_start, after_question, condition_start, repeater_start, verb_start}
use Rattle.fancy_grammar.specs.AtomStart.{named_start, target_start, flags_start, group_start}
use Rattle.fancy_grammar.specs.AtomStart.{error_start, leaf_of, begins_no_atom}
use Rattle.fancy_grammar.specs.Depth.{max_depth}
use Rattle.fancy_grammar.specs.GroupKind as kinds
use Rattle.fancy_grammar.specs.GroupKind.{GroupKind, define}
use Rattle.fancy_grammar.specs.Quantified.{quant, quants, adjacent, max_adjacent}
use Rattle.fancy_grammar.specs.State.{ends, skipped, State, at, Outcome, done, failed, and_then, after_skipped}
use Rattle.fancy_grammar.specs.Tree.{Tree, empty}
use Rattle.fancy_grammar.specs.Verb.{verb_at}
use Rattle.fancy_grammar.proofs.PlainLemmas.{no_layout as passes_none}
use Rattle.fancy_grammar.proofs.OutcomeLemmas.{skipped_both}

-- ---- a parenthesis opens something

-- the start of an atom is not nothing
abbrev IsThere : AtomStart → Type 0
IsThere k = k ≡ nothing → ⊥

read_there : (o : Outcome Tree) → IsThere (read o)
read_there o e = cc

opens_there : (h : GroupKind) (s : State) → IsThere (of_kind h s)
opens_there h s e = cc

flags_there : (o : Reading Letters) → IsThere (flags_start o)
flags_there (gives (inline_flags f) u) e = cc
flags_there (gives (scoped f) u) e = cc
flags_there (fails k) e = cc

named_there : (s : State) (o : Reading Text) → IsThere (named_start s o)
named_there s (gives w u) e = cc
named_there s (fails k) e = cc

target_there : (s : State) (o : Reading Reference) → IsThere (target_start s o)
target_there s (gives r u) e = cc
target_there s (fails k) e = cc

either_there : (b : Bool) {x y : AtomStart} → IsThere x → IsThere y → IsThere (if b then x else y)
either_there true f g = f
either_there false f g = g

condition_there : (s : State) → IsThere (condition s)
condition_there s e = cc

body_there : (c : Tree) (s : State) → IsThere (body c s)
body_there c s e = cc

verb_there : (f : Tree → State → AtomStart) → ((v : Tree) (z : State) → IsThere (f v z)) → (s : State) (t : Text) →
    IsThere (verb_start f s t)
verb_there f there s t = choose_both IsThere (verb_at t) _ _ (λ p _. there _ _) (read_there _)

condition_start_there : (s : State) (t : Text) → IsThere (condition_start s t)
condition_start_there s [] = read_there _
condition_start_there s (c ∷ t) =
    either_there (begins_target (c ∷ t)) (target_there s _)
    (either_there (c == code "*") (verb_there body body_there s t) (condition_there _))

repeater_there : (s : State) (t : Text) → IsThere (repeater_start s t)
repeater_there s [] = read_there _
repeater_there s (c ∷ t) = opens_there _ _

question_there : (s : State) (t : Text) → IsThere (after_question s t)
question_there s t =
    choose_both IsThere (strip_word (codes "=") t) _ _ (λ u _. opens_there _ _) (
    choose_both IsThere (strip_word (codes "!") t) _ _ (λ u _. opens_there _ _) (
    choose_both IsThere (strip_word (codes "<=") t) _ _ (λ u _. opens_there _ _) (
    choose_both IsThere (strip_word (codes "<!") t) _ _ (λ u _. opens_there _ _) (
    choose_both IsThere (strip_word (codes "<") t) _ _ (λ u _. named_there s _) (
    choose_both IsThere (strip_word (codes "'") t) _ _ (λ u _. named_there s _) (
    choose_both IsThere (strip_word (codes "P<") t) _ _ (λ u _. named_there s _) (
    choose_both IsThere (strip_word (codes "P=") t) _ _ (λ u _. read_there _) (
    choose_both IsThere (strip_word (codes "P>") t) _ _ (λ u _. read_there _) (
    choose_both IsThere (strip_word (codes "~|") t) _ _ (λ u _ e. cc) (
    choose_both IsThere (strip_word (codes "~") t) _ _ (λ u _. repeater_there s u) (
    choose_both IsThere (strip_word (codes ">") t) _ _ (λ u _. opens_there _ _) (
    choose_both IsThere (strip_word (codes "(DEFINE)") t) _ _ (λ u _. opens_there _ _) (
    choose_both IsThere (strip_word (codes "(") t) _ _ (λ u _. condition_start_there s u) (flags_there _))))))))))))))

group_there : (s : State) (t : Text) → IsThere (group_start s t)
group_there s t =
    choose_both IsThere (strip_word (codes "?") t) _ _ (λ u _. question_there s u) (
    choose_both IsThere (strip_word (codes "*") t) _ _
    (λ u _. verb_there (λ v z. read (done v z)) (λ v z. read_there _) s u) (opens_there _ _))

deep_there : (d c : ℕ) (s : State) (t : Text) →
    IsThere (if nat_le max_depth (d + 1) then error_start (group_too_deep (c ∷ t))
    else after_skipped (skipped (at s t)) (group_start s) error_start)
deep_there d c s t =
    either_there (nat_le max_depth (d + 1)) (read_there _)
    (skipped_both IsThere (skipped (at s t)) _ _ (λ u _. group_there s u) (λ p _. read_there _))

begins_no_atom_at : (d : ℕ) (s : State) (c : ℕ) (t : Text) → start_of d s (c ∷ t) ≡ nothing →
    begins_no_atom c ≡ true
begins_no_atom_at d s c t e = by_tests (c == code "(") (begins_no_atom c) _ (deep_there d c s t) e
  where
    by_tests : (p b : Bool) (x : AtomStart) → (x ≡ nothing → ⊥) →
        (if p then x else if b then nothing else read (leaf_of s c t)) ≡ nothing → b ≡ true
    by_tests true b x f e = absurd (f e)
    by_tests false true x f e = refl
    by_tests false false x f e = absurd (read_there _ e)

-- ---- a flag group without letters

colon_no_layout : (x : Bool) → is_layout x (code ":") ≡ false
colon_no_layout true = refl
colon_no_layout false = refl

pub bare_flag_group : (s : State) (t u : Text) → t ≡ code ":" ∷ u → after_question s t ≡ of_kind kinds.flag_group (at s u)
unfolding letters letters_in
bare_flag_group s t u e =
    ap (after_question s) e
    ∙ rw (passes_none (code ":") s.flags.ignore_space u refl (colon_no_layout s.flags.ignore_space)) refl

-- ---- the rows of conditionals

pub defines : (s : State) (t u : Text) → strip_word (codes "DEFINE)") t ≡ Some u →
    after_question s (code "(" ∷ t) ≡ of_kind define (at s u)
defines s t u e = ap (λ o. choose o (λ v. of_kind define (at s v)) (condition_start s t)) e

condition_is : (s : State) (t : Text) → strip_word (codes "DEFINE)") t ≡ None →
    after_question s (code "(" ∷ t) ≡ condition_start s t
condition_is s t e = ap (λ o. choose o (λ v. of_kind define (at s v)) (condition_start s t)) e

pub target_is : (s : State) (c : ℕ) (t : Text) → s.rest ≡ c ∷ t →
    strip_word (codes "DEFINE)") s.rest ≡ None →
    begins_target s.rest ≡ true → after_question s (code "(" ∷ s.rest) ≡ target_start s (condition_target s.rest)
target_is s c t e h i =
    condition_is s s.rest h ∙ ap (condition_start s) e
    ∙ cond-true (begins_target (c ∷ t)) _ _ (ap begins_target (sym e) ∙ i)
    ∙ ap (λ u. target_start s (condition_target u)) (sym e)

pub no_condition_start : (s : State) (c : ℕ) (t : Text) → s.rest ≡ c ∷ t →
    strip_word (codes "DEFINE)") s.rest ≡ None →
    begins_target s.rest ≡ false → c ≢ code "*" → after_question s (code "(" ∷ s.rest) ≡ condition s
no_condition_start s c t e h i j =
    condition_is s s.rest h ∙ ap (condition_start s) e
    ∙ cond-false (begins_target (c ∷ t)) _ _ (ap begins_target (sym e) ∙ i)
    ∙ cond-false (c == code "*") _ _ (search (tests, rules)) ∙ ap (λ x. condition (at s x)) (sym e)

-- ---- an operator begins a quantifier, and no layout comes before it

abbrev IsOperator : ℕ → Type 0
IsOperator c = (c ≡ code "+") ⊎ ((c ≡ code "*") ⊎ (c ≡ code "?"))

operator_is : (c : ℕ) (t : Text) → begins_no_atom c ≡ true → ends (c ∷ t) ≡ false → IsOperator c
operator_is c t h k = by_tests (c == code "+") (c == code "*") (c == code "?") (c == code "|") (c == code ")") refl refl
    refl h k
  where
    by_tests : (p s q b r : Bool) → (c == code "+") ≡ p → (c == code "*") ≡ s → (c == code "?") ≡ q →
        (p || (s || (q || (b || r)))) ≡ true → (b || r) ≡ false → IsOperator c
    by_tests true s q b r e f g h k = inl (search (tests, rules))
    by_tests false true q b r e f g h k = inr (inl (search (tests, rules)))
    by_tests false false true b r e f g h k = inr (inr (search (tests, rules)))
    by_tests false false false b r e f g h k = absurd (true≢false (sym h ∙ k))

no_layout : (x : Bool) (c : ℕ) (t : Text) → IsOperator c → layout x (c ∷ t) ≡ rest (c ∷ t)
unfolding layout_from
no_layout true c t (inl e) = rw e refl
no_layout false c t (inl e) = rw e refl
no_layout true c t (inr (inl e)) = rw e refl
no_layout false c t (inr (inl e)) = rw e refl
no_layout true c t (inr (inr e)) = rw e refl
no_layout false c t (inr (inr e)) = rw e refl

operator_counts : (x : Bool) (c : ℕ) (t : Text) → IsOperator c →
    (q : Counts) × (◌≡◌ {A = Option (Counts × Text)} (counts x (c ∷ t)) (Some (q, t)))
unfolding counts
operator_counts x c t (inl e) = (as_operator 1 most, rw e refl)
operator_counts x c t (inr (inl e)) = (as_operator 0 most, rw e refl)
operator_counts x c t (inr (inr e)) = (as_operator 0 1, rw e refl)

-- an operator has one byte
operator_bytes : (c : ℕ) (t : Text) → IsOperator c → nat_lt (bytes t + 1) (bytes (c ∷ t)) ≡ false
unfolding bytes
operator_bytes c t (inl e) = rw e (grind (arith, nat_tests))
operator_bytes c t (inr (inl e)) = rw e (grind (arith, nat_tests))
operator_bytes c t (inr (inr e)) = rw e (grind (arith, nat_tests))

and_false : (b c : Bool) → c ≡ false → (b && (true && c)) ≡ false
and_false true c e = e
and_false false c e = refl

-- an Empty under an operator at the start of a piece is an error
operator_error : (s : State) (c : ℕ) (t : Text) → IsOperator c →
    quant (bytes (c ∷ t)) empty (at s (c ∷ t)) ≡ failed (not_repeatable t)
unfolding quant
operator_error s c t m =
    let (q, e) = operator_counts s.flags.ignore_space c t m in
    let kept = and_false s.flags.oniguruma_mode _ (operator_bytes c t m) in
    rw (no_layout s.flags.ignore_space c t m, e, kept) refl

pub nothing_repeats : (d : ℕ) (s : State) (u : Text) → atom_start d (at s u) ≡ nothing → ends u ≡ false →
    (t : Text) × (quants d (bytes u) empty (at s u) ≡ failed (not_repeatable t))
unfolding atom_start
nothing_repeats d s [] e h = absurd (true≢false h)
nothing_repeats d s (c ∷ t) e h =
    let f = operator_error s c t (operator_is c t (begins_no_atom_at d (at s (c ∷ t)) c t e) h) in
    (_, ap (λ o. and_then o (λ b z. if z.flags.oniguruma_mode then adjacent max_adjacent d b z else done b z)) f)
