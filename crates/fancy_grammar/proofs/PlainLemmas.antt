-- No quantifier comes after a plain character, and no layout before it.
use Rattle.std.proofs.Common.{◌≡◌, if◌then◌else◌, zero, suc, ℕ, Bool, true, false, ◌==◌, [], ◌∷◌, None, refl, sym}
use Rattle.std.proofs.Common.{subst, ◌∙◌, ap, arith, tests, rules}
use Rattle.std.proofs.lemmas.Bool.Decides.{nat_tests}
use Prim.Native.Char.{code}
use Rattle.fancy_lex.specs.Comments.{comments, comments_from}
use Rattle.fancy_lex.specs.Layout.{is_blank}
use Rattle.fancy_lex.specs.LayoutSteps.{layout, layout_from, is_layout, after_comment_start, rest}
use Rattle.fancy_lex.specs.Escape.{escape}
use Rattle.fancy_lex.specs.Escaped.{Escape}
use Rattle.fancy_lex.specs.Reading.{gives}
use Rattle.fancy_lex.specs.Text.{Text, bytes}
use Rattle.fancy_lex.specs.Quantifier.{counts}
use Rattle.fancy_grammar.specs.AtomStart.{atom_start, read, leaf_node, leaf_outcome}
use Rattle.fancy_grammar.specs.Plain.{is_special, is_suffix}
use Rattle.fancy_grammar.specs.Quantified.{quant, quants, adjacent, max_adjacent, is_unmoved}
use Rattle.fancy_grammar.specs.State.{ends, State, at, Outcome, done, and_then}
use Rattle.fancy_grammar.specs.Tree.{Tree, literal}

-- a state is unmoved from itself
pub unmoved : (s : State) → is_unmoved s s ≡ true
unmoved s = search (tests, rules)

pub not_open : (c : ℕ) → is_special c ≡ false → (c == code "(") ≡ false
not_open c e = grind (arith, nat_tests)

not_hash : (c : ℕ) → is_layout true c ≡ false → (c == code "#") ≡ false
not_hash c e = grind (arith, nat_tests)

not_blank : (c : ℕ) → is_layout true c ≡ false → is_blank c ≡ false
not_blank c e = grind (arith, nat_tests)

pub not_paren : (c : ℕ) → is_suffix c ≡ false → (c == code "(") ≡ false
not_paren c e = grind (arith, nat_tests)

pub no_layout : (c : ℕ) (x : Bool) (t : Text) → (c == code "(") ≡ false → is_layout x c ≡ false →
    layout x (c ∷ t) ≡ rest (c ∷ t)
unfolding layout_from
no_layout c false t e h = rw e refl
no_layout c true t e h = rw (e, not_hash c h, not_blank c h) refl

pub no_comments : (c : ℕ) (x : Bool) (t : Text) → (c == code "(") ≡ false → is_layout x c ≡ false →
    comments x (c ∷ t) ≡ []
unfolding comments_from
no_comments c false t e h = rw e refl
no_comments c true t e h = rw (e, not_hash c h, not_blank c h) refl

pub no_comments_at_end : (x : Bool) → comments x [] ≡ []
unfolding comments_from
no_comments_at_end x = refl

pub no_end : (c : ℕ) (t : Text) → is_special c ≡ false → ends (c ∷ t) ≡ false
no_end c t e = grind (arith, nat_tests)

pub is_leaf : (d c : ℕ) (s : State) (t : Text) → is_special c ≡ false →
    atom_start d (at s (c ∷ t)) ≡ read (done (literal (c ∷ []) s.flags.casei) (at s t))
unfolding atom_start
is_leaf d c s t e = grind (arith, nat_tests)

pub no_counts : (c : ℕ) (x : Bool) (t : Text) → is_suffix c ≡ false → ◌≡◌ {A = _} (counts x (c ∷ t)) None
unfolding counts
no_counts c x t e = grind (arith, nat_tests)

pub no_quant : (left c : ℕ) (a : Tree) (s : State) (t : Text) → is_layout s.flags.ignore_space c ≡ false →
    is_suffix c ≡ false → quant left a (at s (c ∷ t)) ≡ done a (at s (c ∷ t))
unfolding quant
no_quant left c a s t x e =
    rw (no_layout c s.flags.ignore_space t (not_paren c e) x, no_counts c s.flags.ignore_space t e) refl

pub no_layout_at_end : (x : Bool) → layout x [] ≡ rest []
unfolding layout_from
no_layout_at_end x = refl

pub no_counts_at_end : (x : Bool) → ◌≡◌ {A = _} (counts x []) None
unfolding counts
no_counts_at_end x = refl

pub no_quant_at_end : (left : ℕ) (a : Tree) (s : State) → quant left a (at s []) ≡ done a (at s [])
unfolding quant
no_quant_at_end left a s = rw (no_layout_at_end s.flags.ignore_space, no_counts_at_end s.flags.ignore_space) refl

no_adjacent : (k d : ℕ) (a : Tree) (s : State) → ((l : ℕ) → quant l a s ≡ done a s) → adjacent k d a s ≡ done a s
unfolding adjacent
no_adjacent zero d a s e = rw (e (bytes s.rest), unmoved s) refl
no_adjacent (suc k) d a s e = rw (e (bytes s.rest), unmoved s) refl

-- if the first quantifier does not follow, none does
no_quants : (d left : ℕ) (a : Tree) (s : State) → ((l : ℕ) → quant l a s ≡ done a s) →
    quants d left a s ≡ done a s
no_quants d left a s e =
    ap (λ o. and_then o (λ b z. if z.flags.oniguruma_mode then adjacent max_adjacent d b z else done b z)) (e left)
    ∙ either s.flags.oniguruma_mode (no_adjacent max_adjacent d a s e)
  where
    either : (b : Bool) {o q : Outcome Tree} → o ≡ q → (if b then o else q) ≡ q
    either true h = h
    either false h = refl

pub unquantified_at_end : (s : State) (d left : ℕ) (a : Tree) → s.rest ≡ [] → quants d left a s ≡ done a s
unquantified_at_end s d left a e =
    subst (λ t. quants d left a (at s t) ≡ done a (at s t)) (sym e)
    (no_quants d left a (at s []) (λ l. no_quant_at_end l a s))

pub unquantified : (s : State) (c : ℕ) (t : Text) (d left : ℕ) (a : Tree) → s.rest ≡ c ∷ t →
    is_layout s.flags.ignore_space c ≡ false → is_suffix c ≡ false → quants d left a s ≡ done a s
unquantified s c t d left a e x h =
    subst (λ u. quants d left a (at s u) ≡ done a (at s u)) (sym e)
    (no_quants d left a (at s (c ∷ t)) (λ l. no_quant l c a s t x h))

-- ---- a parenthesis that begins no comment

pub no_layout_at_paren : (x : Bool) (t : Text) → ◌≡◌ {A = _} (after_comment_start (code "(" ∷ t)) None →
    layout x (code "(" ∷ t) ≡ rest (code "(" ∷ t)
unfolding layout_from
no_layout_at_paren false t e = rw e refl
no_layout_at_paren true t e = rw e refl

pub no_comments_at_paren : (x : Bool) (t : Text) → ◌≡◌ {A = _} (after_comment_start (code "(" ∷ t)) None →
    comments x (code "(" ∷ t) ≡ []
unfolding comments_from
no_comments_at_paren false t e = rw e refl
no_comments_at_paren true t e = rw e refl

pub no_counts_at_paren : (x : Bool) (t : Text) → ◌≡◌ {A = _} (counts x (code "(" ∷ t)) None
unfolding counts
no_counts_at_paren x t = refl

pub no_quant_at_paren : (left : ℕ) (a : Tree) (s : State) (t : Text) →
    ◌≡◌ {A = _} (after_comment_start (code "(" ∷ t)) None →
    quant left a (at s (code "(" ∷ t)) ≡ done a (at s (code "(" ∷ t))
unfolding quant
no_quant_at_paren left a s t e =
    rw (no_layout_at_paren s.flags.ignore_space t e, no_counts_at_paren s.flags.ignore_space t) refl

pub unquantified_at_paren : (s : State) (t : Text) (d left : ℕ) (a : Tree) → s.rest ≡ code "(" ∷ t →
    ◌≡◌ {A = _} (after_comment_start (code "(" ∷ t)) None → quants d left a s ≡ done a s
unquantified_at_paren s t d left a e h =
    subst (λ u. quants d left a (at s u) ≡ done a (at s u)) (sym e)
    (no_quants d left a (at s (code "(" ∷ t)) (λ l. no_quant_at_paren l a s t h))

pub backslash_no_layout : (x : Bool) → is_layout x (code "\\") ≡ false
backslash_no_layout true = refl
backslash_no_layout false = refl

pub is_escape : (d : ℕ) (s : State) (t u : Text) (e : Escape) → escape s.flags false t ≡ gives e u →
    atom_start d (at s (code "\\" ∷ t)) ≡ read (done (leaf_node e) (at s u))
unfolding atom_start
is_escape d s t u e h = ap (λ o. read (leaf_outcome leaf_node s o)) h
