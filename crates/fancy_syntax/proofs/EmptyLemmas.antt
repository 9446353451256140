-- When the normal form of a tree with several branches, or of the rest of a list, is Empty.
use Rattle.std.proofs.Common.{◌≡◌, ℕ, ◌+◌, ◌<◌, ◌≤◌, false, true, ◌&&◌, List, [], ◌∷◌, length, get_or, refl, ap, ◌∙◌, arith}
use Rattle.fancy_grammar.specs.Join.{is_empty, choice}
use Rattle.fancy_grammar.specs.Normal.{normal, normals}
use Rattle.fancy_grammar.specs.Tree.{Tree, alt, trees_of}
use Rattle.fancy_grammar.proofs.PrintableLemmas.{empties}
use Rattle.fancy_syntax.specs.declared.expr.Expr.{Expr}
use Rattle.fancy_syntax.specs.View.{view, views}
use Rattle.fancy_syntax.proofs.PrintLemmas.{left, left_step, left_end}

choice_several : (es : List Expr) → 2 ≤ length es → is_empty (choice (normals false (trees_of (views es)))) ≡ false
choice_several [] h = absurd (omega arith)
choice_several (e ∷ []) h = absurd (omega arith)
choice_several (e ∷ f ∷ es) h = refl

pub alt_several : (t : Tree) (es : List Expr) → t ≡ alt (trees_of (views es)) → 2 ≤ length es →
    is_empty (normal false t) ≡ false
alt_several t es is h = ap (λ x. is_empty (normal false x)) is ∙ choice_several es h

-- ---- one tree of a list

pub empties_stop : (es : List Expr) (i : ℕ) (e : Expr) → i < length es → e ≡ get_or es i e →
    is_empty (normal false (view e)) ≡ false → empties (left es i) ≡ false
empties_stop es i e h is one = ap empties (left_step es i e h is) ∙ ap (λ b. b && empties (left es (i + 1))) one

pub empties_end : (es : List Expr) (i : ℕ) → length es ≤ i → empties (left es i) ≡ true
empties_end es i h = ap empties (left_end es i h)
