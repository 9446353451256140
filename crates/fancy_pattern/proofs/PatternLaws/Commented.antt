-- An empty comment before an alternation does not change what it is read as.
use Rattle.std.proofs.Common.{◌≡◌, ℕ, Bool, true, false, ◌&&◌, ◌==◌, nat_lt, ◌+◌, List, ◌∷◌, ◌++◌, codes, Option}
use Rattle.std.proofs.Common.{Some, None}
use Rattle.std.proofs.Common.{refl, sym, ap, ◌∙◌, subst, if◌then◌else◌}
use Rattle.std.proofs.lemmas.Bool.{cond_both, cond-true, cond-false, false≢true}
use Prim.Native.Char.{code}
use Rattle.fancy_lex.specs.Class.{class}
use Rattle.fancy_lex.specs.Escape.{escape}
use Rattle.fancy_lex.specs.Escaped as escaped
use Rattle.fancy_lex.specs.Escaped.{Escape}
use Rattle.fancy_lex.specs.LayoutSteps.{Skipped, rest, failed as open_comment}
use Rattle.fancy_lex.specs.Reading.{Reading, gives, fails}
use Rattle.fancy_lex.specs.Text.{Text, bytes}
use Rattle.fancy_lex.specs.declared.flags.Flags.{Flags}
use Rattle.fancy_lex.specs.Quantifier.{counts}
use Rattle.fancy_lex.specs.declared.counts.Counts.{Counts}
use Rattle.fancy_grammar.specs.AtomStart.{atom_start, nothing, begins_no_atom, leaf_of, leaf_node, leaf_outcome}
use Rattle.fancy_grammar.specs.Grammar.{Alternation, alternation, Branches, last, more, branch_error, Branch, branch}
use Rattle.fancy_grammar.specs.Grammar.{Pieces, stop, next, piece_error, Piece, piece, layout_error, Atom, atom}
use Rattle.fancy_grammar.specs.Grammar.{a_nothing, a_read}
use Rattle.fancy_grammar.specs.Join.{is_empty}
use Rattle.fancy_grammar.specs.GroupInfo.{GroupInfo}
use Rattle.fancy_grammar.specs.Pattern.{Context}
use Rattle.fancy_grammar.specs.Quantified.{is_repeatable, is_dropped, quant, quants, with_counts}
use Rattle.fancy_grammar.specs.Quantified.{adjacent, max_adjacent}
use Rattle.fancy_grammar.specs.State.{State, at, skipped, after_skipped, Outcome, done, failed, and_then, ends}
use Rattle.fancy_grammar.specs.Tree.{Tree, empty, delegate}
use Rattle.fancy_grammar.proofs.OutcomeLemmas.{Holds, piece_as}
use Rattle.fancy_pattern.proofs.PatternLaws.Becomes.{in_longer}
use Rattle.fancy_pattern.proofs.PatternLaws.Rules.{Clear, WholeAt, comment_passed, quants_one, quant_none}
use Rattle.fancy_grammar.proofs.ReadBack.RuleLemmas.{st, leaf_at}
use Rattle.fancy_grammar.proofs.Unique.{same_layout, layout_or_failed, atom_unique}

-- ---- where a piece began matters only for an Empty

same_counts : (l m : ℕ) (a : Tree) (s : State) → is_empty a ≡ false → (o : Option (Counts × Text)) →
    with_counts l a s o ≡ with_counts m a s o
same_counts l m a s e None = refl
same_counts l m a s e (Some (c, t)) =
    let dropped : is_dropped s.flags l a t ≡ is_dropped s.flags m a t
    = ap (λ b. s.flags.oniguruma_mode && (b && nat_lt (bytes t + 1) l)) e
    ∙ sym (ap (λ b. s.flags.oniguruma_mode && (b && nat_lt (bytes t + 1) m)) e) in
    cond_both (is_repeatable s.flags a) _ _ (λ z. z ≡ with_counts m a s (Some (c, t)))
    (λ q. sym (cond-true _ _ _ q))
    (λ q. cond_both (is_dropped s.flags l a t) _ _ (λ z. z ≡ with_counts m a s (Some (c, t)))
    (λ d. sym (cond-false _ _ _ q ∙ cond-true _ _ _ (sym dropped ∙ d)))
    (λ d. sym (cond-false _ _ _ q ∙ cond-false _ _ _ (sym dropped ∙ d))))

same_quant : (l m : ℕ) (a : Tree) (s : State) → is_empty a ≡ false → quant l a s ≡ quant m a s
unfolding quant
same_quant l m a s e = by_layout (skipped s)
  where
    by_layout : (k : Skipped) →
        after_skipped k (λ t. with_counts l a (at s t) (counts s.flags.ignore_space t)) failed
        ≡ after_skipped k (λ t. with_counts m a (at s t) (counts s.flags.ignore_space t)) failed
    by_layout (rest t) = same_counts l m a (at s t) e (counts s.flags.ignore_space t)
    by_layout (open_comment p) = refl

same_quants : (d l m : ℕ) (a : Tree) (s : State) → is_empty a ≡ false → quants d l a s ≡ quants d m a s
same_quants d l m a s e =
    ap (λ q. and_then q (λ b t. if t.flags.oniguruma_mode then adjacent max_adjacent d b t else done b t))
    (same_quant l m a s e)

node_solid : (e : Escape) → is_empty (leaf_node e) ≡ false
node_solid (escaped.literal c casei) = refl
node_solid e = refl

-- ---- after an atom that opens no group, it does not matter where the piece began

module _ (d : ℕ) (f : Flags) (c : ℕ) (t : Text) (k : Clear f.ignore_space (c ∷ t)) (e : (c == code "(") ≡ false) where
  abbrev FromAnywhere : Outcome Tree → Type 0
  FromAnywhere = Holds (λ r u. (l m : ℕ) → quants d l r u ≡ quants d m r u)

  leaf_keeps : {A : Type 0} (node : A → Tree) → ((a : A) → is_empty (node a) ≡ false) → (r : Reading A) →
      FromAnywhere (leaf_outcome node (st f (c ∷ t)) r)
  leaf_keeps node solid (gives a u) = λ l m. same_quants d l m (node a) (st f u) (solid a)
  leaf_keeps node solid (fails k) = tt

  one_keeps : (a : Tree) → is_empty a ≡ false → FromAnywhere (done a (st f t))
  one_keeps a solid = λ l m. same_quants d l m a (st f t) solid

  character_keeps : FromAnywhere (leaf_of (st f (c ∷ t)) c t)
  character_keeps =
      cond_both (c == code ".") _ _ FromAnywhere (λ _. one_keeps _ refl)
      (λ _. cond_both (c == code "^") _ _ FromAnywhere (λ _. one_keeps _ refl)
      (λ _. cond_both (c == code "$") _ _ FromAnywhere (λ _. one_keeps _ refl)
      (λ _. cond_both (c == code "\\") _ _ FromAnywhere (λ _. leaf_keeps leaf_node node_solid (escape f false t))
      (λ _. cond_both (c == code "[") _ _ FromAnywhere
      (λ _. leaf_keeps (λ w. delegate w f.casei) (λ w. refl) (class f t)) (λ _. one_keeps _ refl)))))

  nothing_keeps : FromAnywhere (done empty (st f (c ∷ t)))
  nothing_keeps =
      λ l m. let one = λ (n : ℕ). quants_one d n f empty empty (c ∷ t) (c ∷ t) k (quant_none n f empty (c ∷ t) k) in
      one l ∙ sym (one m)

  nothing_starts : begins_no_atom c ≡ true → atom_start d (st f (c ∷ t)) ≡ nothing
  unfolding atom_start
  nothing_starts b = cond-false _ _ _ e ∙ cond-true _ _ _ b

  atom_keeps : {q : Outcome Tree} → Atom d (st f (c ∷ t)) q → FromAnywhere q
  atom_keeps a = by_test (begins_no_atom c) refl a
    where
      by_test : (b : Bool) → begins_no_atom c ≡ b → {q : Outcome Tree} → Atom d (st f (c ∷ t)) q → FromAnywhere q
      by_test true b a = subst FromAnywhere (atom_unique (atom (nothing_starts b) a_nothing) a refl) nothing_keeps
      by_test false b a = subst FromAnywhere (atom_unique (atom (leaf_at d f c t e b) a_read) a refl) character_keeps

  -- ---- the alternation

  module _ (clear : skipped (st f (c ∷ t)) ≡ rest (c ∷ t)) (go : ends (c ∷ t) ≡ false) where
    abbrev commented : State
    commented = st f (codes "(?#)" ++ c ∷ t)

    past : skipped commented ≡ rest (c ∷ t)
    past = comment_passed f.ignore_space (c ∷ t) ∙ clear

    quants_past : (q : Outcome Tree) → FromAnywhere q →
        and_then q (quants d (bytes (codes "(?#)" ++ c ∷ t))) ≡ and_then q (quants d (bytes (c ∷ t)))
    quants_past (done a s) h = h _ _
    quants_past (failed e) h = refl

    piece_from : (s : State) → s ≡ st f (c ∷ t) → {q : Outcome Tree} → Piece d s q → Piece d commented q
    piece_from s same (piece {u = w} {q} l a) =
        let a2 : Atom d (st f (c ∷ t)) q
        = subst (λ z. Atom d z q) (λ i. record { flags = (same i).flags; rest = same_layout l clear same i }) a in
        piece_as past a2
        (quants_past q (atom_keeps a2) ∙ ap (λ (z : State). and_then q (quants d (bytes z.rest))) (sym same))
    piece_from s same (layout_error l) = absurd (layout_or_failed clear l (sym same))

    pieces_from : (s : State) → s ≡ st f (c ∷ t) → {q : Outcome (List Tree)} → Pieces d s q → Pieces d commented q
    pieces_from s same (stop e) = absurd (false≢true (sym go ∙ (ap (λ (z : State). ends z.rest) (sym same) ∙ e)))
    pieces_from s same (next e p m) = next refl (piece_from s same p) m
    pieces_from s same (piece_error e p) = piece_error refl (piece_from s same p)

    branch_from : (s : State) → s ≡ st f (c ∷ t) → {q : Outcome Tree} → Branch d s q → Branch d commented q
    branch_from s same (branch p) = branch (pieces_from s same p)

    branches_from : (s : State) → s ≡ st f (c ∷ t) → {q : Outcome (List Tree)} → Branches d s q → Branches d commented q
    branches_from s same (last b e) = last (branch_from s same b) e
    branches_from s same (more b e r) = more (branch_from s same b) e r
    branches_from s same (branch_error b) = branch_error (branch_from s same b)

    alternation_from : (s : State) → s ≡ st f (c ∷ t) → {q : Outcome Tree} → Alternation d s q →
        Alternation d commented q
    alternation_from s same (alternation b) = alternation (branches_from s same b)

-- a text that begins with no parenthesis is read the same after the comment
pub commented_whole : (μ : GroupInfo) (h : Context) (c : ℕ) (t v : Text) (g : Flags) (x : Tree) →
    (c == code "(") ≡ false → ends (c ∷ t) ≡ false →
    Clear h.flags.ignore_space (c ∷ t) → WholeAt μ h (c ∷ t) g v x → WholeAt μ h (codes "(?#)" ++ c ∷ t) g v x
commented_whole μ h c t v g x e go clear w = record {
  tree = w.tree;
  derives = alternation_from h.depth h.flags c t clear e clear.no_layout go (st h.flags (c ∷ t)) refl w.derives;
  becomes = in_longer μ (c ∷ t) _ (codes "(?#)", refl) h.opened w.tree x w.becomes;
}
