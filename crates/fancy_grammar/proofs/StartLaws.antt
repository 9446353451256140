-- What the token that begins an atom is, and that the comments in it lie in it, one after another.
use Rattle.std.proofs.Common.{◌≡◌, ℕ, ◌+◌, ◌<◌, ◌==◌, Bool, true, false, List, [], ◌∷◌, ◌++◌, Option, Some, None, codes}
use Rattle.std.proofs.Common.{nat_le, refl, sym, ap, ◌∙◌, arith, inl, inr, map, ◌&&◌}
use Rattle.std.specs.Prelude.{⊤, not}
use Rattle.std.specs.Option.{option_and_then}
use Rattle.std.proofs.lemmas.Bool.{cond_both, false≢true}
use Rattle.std.proofs.lemmas.Bool.Decides.{nat_tests}
use Prim.Native.Char.{code}
use Rattle.fancy_lex.proofs.CommentLaws.{no_more as no_unit, a_comment, a_line}
use Rattle.fancy_lex.proofs.ReadingLemmas.{choose_both}
use Rattle.fancy_lex.proofs.TextLemmas.{bytes-append, strip_is, strip_word_is}
use Rattle.fancy_lex.proofs.TokenCommentLaws.{AreInToken, class_after, escape_after, token_after, token_units}
use Rattle.fancy_lex.specs.Comments.{Comment}
use Rattle.fancy_lex.specs.Class.{class}
use Rattle.fancy_lex.specs.Escape.{escape}
use Rattle.fancy_lex.specs.Escaped as escaped
use Rattle.fancy_lex.specs.Escaped.{Escape}
use Rattle.fancy_lex.specs.FlagLetters.{Letters, inline_flags, flag_group as scoped}
use Rattle.fancy_lex.specs.GroupName.{group_name}
use Rattle.fancy_lex.specs.GroupReference.{begins_target, condition_target, named_call, named_reference}
use Rattle.fancy_lex.specs.Layout.{IsComment, IsLineComment}
use Rattle.fancy_lex.specs.LayoutSteps.{Skipped, layout, rest, rest_of, past_layout, failed as open_comment}
use Rattle.fancy_lex.specs.LetterSteps.{letters}
use Rattle.fancy_lex.specs.Reading.{Reading, gives, fails}
use Rattle.fancy_lex.specs.Referred.{Reference}
use Rattle.fancy_lex.specs.Text.{Text, EndsWith, bytes, reach_of, strip, strip_word}
use Rattle.fancy_lex.specs.declared.counts.Counts.{Counts}
use Rattle.fancy_lex.specs.declared.flags.Flags.{Flags}
use Rattle.fancy_grammar.specs.AtomStart.{AtomStart, read, of_kind, condition, body, atom_start}
use Rattle.fancy_grammar.specs.AtomStart.{after_question, backref_node, begins_no_atom, call_node, condition_start}
use Rattle.fancy_grammar.specs.AtomStart.{flags_start, group_start, leaf_node, leaf_of, leaf_outcome, named_start}
use Rattle.fancy_grammar.specs.AtomStart.{end_anchor, repeater_start, start_anchor, start_of, target_start}
use Rattle.fancy_grammar.specs.Depth.{max_depth}
use Rattle.fancy_grammar.specs.Grammar.{branches_of}
use Rattle.fancy_grammar.specs.GroupKind.{capture, flag_group}
use Rattle.fancy_grammar.specs.Join.{is_empty}
use Rattle.fancy_grammar.specs.Slices.{Slice}
use Rattle.fancy_grammar.specs.Spans.{condition_text}
use Rattle.fancy_grammar.specs.State.{State, at, skipped, Outcome, done}
use Rattle.fancy_grammar.specs.Tree.{Tree, any, assertion, delegate, literal, verb}
use Rattle.fancy_grammar.specs.Trivia.{comments_in_start, dropped, flags, inner_at, inner_comment, inner_line_comment}
use Rattle.fancy_grammar.specs.Trivia.{inner_of_counts, IsDropped, IsTextOf, of_inner, opening, start_of_conditional}
use Rattle.fancy_grammar.specs.Trivia.{TriviumKind}
use Rattle.fancy_grammar.specs.Verb.{verb_at}
use Rattle.fancy_grammar.proofs.OutcomeLemmas.{skipped_both}
use Rattle.fancy_grammar.proofs.Slices.{SkippedSlice, fits, layout_slice, one_bytes, to_ends}
use Rattle.fancy_grammar.proofs.TriviaLemmas.{InToken, no_comment, a_comment_in}

-- ---- comments in a token

comment_bytes : (u : Text) → IsComment u → 0 < bytes u
comment_bytes u (i, h, e) = omega (arith, ap bytes e, one_bytes (code "(") (codes "?#" ++ (i ++ code ")" ∷ [])))

line_bytes : (u v : Text) → IsLineComment u v → 0 < bytes u
line_bytes u v (i, h, inl e) = omega (arith, ap bytes e, one_bytes (code "#") (i ++ code "\n" ∷ []))
line_bytes u v (i, h, inr (e, z)) = omega (arith, ap bytes e, one_bytes (code "#") i)

units_in : {t v : Text} {l : List Comment} → AreInToken t v l → InToken t v (map of_inner l)
units_in (no_unit w p e) = no_comment (record { word = w; cut = e })
units_in (a_comment {m} w u p e h k) =
    a_comment_in inner_comment u (record { word = w; cut = e }) refl h refl (comment_bytes u h) (units_in k) refl
units_in (a_line {m} w u p e h k) =
    a_comment_in inner_line_comment u (record { word = w; cut = e }) refl h refl (line_bytes u m h) (units_in k) refl

pub counts_inner : (c : Counts) (t v : Text) → Slice t v → InToken t v (inner_of_counts c t v)
counts_inner c t v s =
    cond_both c.braces _ _ (InToken t v) (λ _. units_in (token_units t v (to_ends s))) (λ _. no_comment s)

start_units : (f : Flags) (t v : Text) → EndsWith t v → AreInToken t v (comments_in_start f t (reach_of v))
start_units f [] v h = no_unit h.0 tt h.1
start_units f (c ∷ t) v h =
    let P = AreInToken (c ∷ t) v in
    cond_both (c == code "(") _ _ P (λ _. token_after c t v h) (λ _.
    cond_both (c == code "\\") _ _ P (λ _. escape_after c t v h) (λ _.
    cond_both (c == code "[") _ _ P (λ _. class_after f c t v h) (λ _. no_unit h.0 tt h.1)))

pub start_inner : (s : State) (v : Text) → Slice s.rest v → InToken s.rest v (inner_at s (reach_of v))
start_inner s v h = units_in (start_units s.flags s.rest v (to_ends h))

-- ---- the text of the token

-- the text from s to t is one of the kind, however it is cut
abbrev pub HasText : TriviumKind → State → State → Type 0
HasText k s t = (w : Text) → s.rest ≡ w ++ t.rest → IsTextOf k w t.rest

-- whether a tree leaves other text than separators: a tree but Empty, or an Alt of two Empties
abbrev pub is_loud : Tree → Bool
is_loud r = not (is_empty (branches_of r).0 && is_empty (branches_of r).1)

-- what the token is, if no node has it; all others make trees
abbrev pub HasStart : State → AtomStart → Type 0
HasStart s (read (done r t)) = (is_empty r ≡ true → HasText (flags s.flags t.flags) s t) × (is_empty r ≡ false → is_loud r ≡ true)
HasStart s (of_kind flag_group t) = HasText (opening s.flags t.flags) s t
HasStart s (of_kind (capture None) t) = HasText (opening s.flags t.flags) s t
HasStart s (condition t) = HasText dropped s t
HasStart s (body c t) = is_loud c ≡ true
HasStart s _ = ⊤

-- no token is an Empty but inline flags
solid_leaf : (s t : State) (r : Tree) → is_empty r ≡ false → is_loud r ≡ true → HasStart s (read (done r t))
solid_leaf s t r e h = (λ i. absurd (false≢true (sym e ∙ i)), λ i. h)

read_leaf : {A : Type 0} (s : State) (node : A → Tree) →
    ((a : A) → (is_empty (node a) ≡ false) × (is_loud (node a) ≡ true)) → (o : Reading A) →
    HasStart s (read (leaf_outcome node s o))
read_leaf s node h (gives a t) = solid_leaf s (at s t) (node a) (h a).0 (h a).1
read_leaf s node h (fails e) = tt

node_is_solid : (e : Escape) → (is_empty (leaf_node e) ≡ false) × (is_loud (leaf_node e) ≡ true)
node_is_solid (escaped.literal c casei) = (refl, refl)
node_is_solid e = (refl, refl)

leaf_has : (s : State) (c : ℕ) (t : Text) → HasStart s (read (leaf_of s c t))
leaf_has s c t =
    let P : Outcome Tree → Type 0 = λ o. HasStart s (read o) in
    cond_both (c == code ".") _ _ P (λ _. solid_leaf s (at s t) (any s.flags.dotnl s.flags.crlf) refl refl) (λ _.
    cond_both (c == code "^") _ _ P (λ _. solid_leaf s (at s t) (assertion (start_anchor s.flags)) refl refl) (λ _.
    cond_both (c == code "$") _ _ P (λ _. solid_leaf s (at s t) (assertion (end_anchor s.flags)) refl refl) (λ _.
    cond_both (c == code "\\") _ _ P (λ _. read_leaf s leaf_node node_is_solid (escape s.flags false t)) (λ _.
    cond_both (c == code "[") _ _ P
    (λ _. read_leaf s (λ w. delegate w s.flags.casei) (λ w. (refl, refl)) (class s.flags t))
    (λ _. solid_leaf s (at s t) (literal (c ∷ []) s.flags.casei) refl refl)))))

module _ (s : State) (t u : Text) (e : s.rest ≡ code "(" ∷ t) (i : layout s.flags.ignore_space t ≡ rest u) where
  -- after the question mark at z
  module _ (z : Text) (j : u ≡ code "?" ∷ z) where
    flags_has : (o : Reading Letters) → letters s.flags z ≡ o → HasStart s (flags_start o)
    flags_has (gives (inline_flags f) v) g =
        (λ _ w cut. (t, z, sym cut ∙ e, i ∙ ap rest j, g), λ h. absurd (false≢true (sym h)))
    flags_has (gives (scoped f) v) g = λ w cut. inl (t, z, sym cut ∙ e, i ∙ ap rest j, g)
    flags_has (fails d) g = tt

    named_has : (o : Reading Text) → HasStart s (named_start s o)
    named_has (gives w v) = tt
    named_has (fails d) = tt

    target_has : (o : Reading Reference) → HasStart s (target_start s o)
    target_has (gives r v) = refl
    target_has (fails d) = tt

    repeater_has : (v : Text) → HasStart s (repeater_start s v)
    repeater_has [] = tt
    repeater_has (c ∷ v) = tt

    condition_has : (v : Text) → z ≡ code "(" ∷ v → HasStart s (condition_start s v)
    condition_has [] k = tt
    condition_has (c ∷ v) k =
        cond_both (begins_target (c ∷ v)) _ _ (HasStart s) (λ _. target_has (condition_target (c ∷ v))) (λ _.
        cond_both (c == code "*") _ _ (HasStart s) (λ _. choose_both (HasStart s) (verb_at v) _ _ (λ p h. refl) tt) (λ _.
        λ w cut. start_of_conditional s.flags t (sym cut ∙ e) (i ∙ ap rest (j ∙ ap (λ y. code "?" ∷ y) k))))

    question_has : HasStart s (after_question s z)
    question_has =
        let P = HasStart s in
        choose_both P (strip_word (codes "=") z) _ _ (λ v h. tt) (
        choose_both P (strip_word (codes "!") z) _ _ (λ v h. tt) (
        choose_both P (strip_word (codes "<=") z) _ _ (λ v h. tt) (
        choose_both P (strip_word (codes "<!") z) _ _ (λ v h. tt) (
        choose_both P (strip_word (codes "<") z) _ _ (λ v h. named_has (group_name (code ">") z v)) (
        choose_both P (strip_word (codes "'") z) _ _ (λ v h. named_has (group_name (code "'") z v)) (
        choose_both P (strip_word (codes "P<") z) _ _ (λ v h. named_has (group_name (code ">") z v)) (
        choose_both P (strip_word (codes "P=") z) _ _
        (λ v h. read_leaf s (backref_node s.flags.casei) (λ r. (refl, refl)) (named_reference v)) (
        choose_both P (strip_word (codes "P>") z) _ _
        (λ v h. read_leaf s call_node (λ c. (refl, refl)) (named_call v)) (
        choose_both P (strip_word (codes "~|") z) _ _ (λ v h. tt) (
        choose_both P (strip_word (codes "~") z) _ _ (λ v h. repeater_has v) (
        choose_both P (strip_word (codes ">") z) _ _ (λ v h. tt) (
        choose_both P (strip_word (codes "(DEFINE)") z) _ _ (λ v h. tt) (
        choose_both P (strip_word (codes "(") z) _ _ (λ v h. condition_has v (strip_word_is (codes "(") z v h))
        (flags_has (letters s.flags z) refl))))))))))))))

  group_has : HasStart s (group_start s u)
  group_has =
      choose_both (HasStart s) (strip_word (codes "?") u) _ _
      (λ z j. question_has z (strip_word_is (codes "?") u z j)) (
      choose_both (HasStart s) (strip_word (codes "*") u) _ _
      (λ z j. choose_both (HasStart s) (verb_at z) _ _ (λ p h. solid_leaf s (at s p.1) (verb p.0) refl refl) tt)
      (λ w cut. inr (refl, (t, sym cut ∙ e, i))))

pub has_start : (d : ℕ) (s : State) → HasStart s (atom_start d s)
unfolding atom_start
has_start d s = by_text s.rest refl
  where
    by_text : (t : Text) → s.rest ≡ t → HasStart s (start_of d s t)
    by_text [] e = tt
    by_text (c ∷ t) e =
        cond_both (c == code "(") _ _ (HasStart s) (λ h.
        cond_both (nat_le max_depth (d + 1)) _ _ (HasStart s) (λ _. tt)
        (λ _. skipped_both (HasStart s) (skipped (at s t)) _ _
        (λ u i. group_has s t u (e ∙ ap (λ d. d ∷ t) (is_paren h)) i) (λ p i. tt))) (λ _.
        cond_both (begins_no_atom c) _ _ (HasStart s) (λ _. tt) (λ _. leaf_has s c t))
      where
        is_paren : (c == code "(") ≡ true → c ≡ code "("
        is_paren h = grind (arith, nat_tests)

-- ---- a condition that is no alternation

-- what comes before its text
pub before_condition : (s : State) (u : Text) → condition_text s ≡ Some u → (w : Text) → s.rest ≡ w ++ u → IsDropped w u
before_condition s u h w cut = by_paren (strip (code "(") s.rest) refl h
  where
    by_layout : (t : Text) → s.rest ≡ code "(" ∷ t → (k : Skipped) → layout s.flags.ignore_space t ≡ k →
        option_and_then (strip_word (codes "?(")) (rest_of k) ≡ Some u → IsDropped w u
    by_layout t e (rest v) i j =
        start_of_conditional s.flags t (sym cut ∙ e) (i ∙ ap rest (strip_word_is (codes "?(") v u j))
    by_layout t e (open_comment p) i j = absurd cc

    by_paren : (o : Option Text) → strip (code "(") s.rest ≡ o → option_and_then (strip_word (codes "?("))
        (option_and_then (past_layout s.flags.ignore_space) o) ≡ Some u → IsDropped w u
    by_paren None i j = absurd cc
    by_paren (Some t) i j = by_layout t (strip_is (code "(") s.rest t i) (layout s.flags.ignore_space t) refl j

pub condition_shorter : (s : State) (u : Text) → condition_text s ≡ Some u → bytes u < bytes s.rest
condition_shorter s u h = by_paren (strip (code "(") s.rest) refl h
  where
    by_layout : (t : Text) → s.rest ≡ code "(" ∷ t → (k : Skipped) → SkippedSlice t k →
        option_and_then (strip_word (codes "?(")) (rest_of k) ≡ Some u → bytes u < bytes s.rest
    by_layout t e (rest v) i j =
        omega (
          arith,
          ap bytes e,
          one_bytes (code "(") t,
          fits i,
          ap bytes (strip_word_is (codes "?(") v u j),
          bytes-append (codes "?(") u,
        )
    by_layout t e (open_comment p) i j = absurd cc

    by_paren : (o : Option Text) → strip (code "(") s.rest ≡ o → option_and_then (strip_word (codes "?("))
        (option_and_then (past_layout s.flags.ignore_space) o) ≡ Some u → bytes u < bytes s.rest
    by_paren None i j = absurd cc
    by_paren (Some t) i j =
        by_layout t (strip_is (code "(") s.rest t i) (layout s.flags.ignore_space t) (layout_slice s.flags.ignore_space t) j
