-- Writers of trees one after another.
use Rattle.std.proofs.Common.{◌≡◌, ℕ, Bool, ◌&&◌, List, [], ◌∷◌, ◌++◌, subst, append_assoc}
use Rattle.std.proofs.Common.{sym, refl, ap, ◌∙◌, codes, ◌-◌, ◌<◌, ◌≤◌, length, take, drop, get_or, arith}
use Rattle.std.proofs.Math.Seq.{take-length}
use Rattle.fancy_lex.specs.Number.{at_digit}
use Rattle.fancy_lex.specs.Text.{Text, text_of, bytes}
use Rattle.fancy_grammar.specs.GroupInfo.{GroupInfo}
use Rattle.fancy_grammar.specs.Pattern.{Context, separated_if, is_in_digits, written, written_all, written_branches}
use Rattle.fancy_grammar.specs.Pattern.{written_barred, after}
use Rattle.fancy_grammar.specs.PatternWalk.{needs_listed, all_listed, after_all}
use Rattle.fancy_grammar.specs.Tree.{Tree, Trees, no_trees, more_trees, trees_of}
use Rattle.fancy_grammar.specs.declared.needs.Needs.{Needs}
use Rattle.fancy_grammar.specs.declared.precedence.Precedence.{Precedence}
use Rattle.fancy_grammar.specs.declared.precedence.Precedence.TheVariants.{Branch, Piece}
use Rattle.fancy_pattern.proofs.ContextLemmas.{after_none, after_next}
use Rattle.fancy_pattern.specs.TextOutput.{Added, Changed}
use Rattle.fancy_syntax.specs.View.{view, views}
use Rattle.fancy_pattern.specs.Writers.{Writes}
use Rattle.fancy_syntax.specs.declared.expr.Expr.{Expr}
use Rattle.fancy_pattern.specs.declared.context.Context as code
use Rattle.fancy_pattern.specs.declared.output.TextOutput.{TextOutput}
use Rattle.fancy_syntax.proofs.PrintLemmas.{left}
use Rattle.fancy_pattern.proofs.SettledLemmas.{keeps_after}
use Rattle.fancy_pattern.proofs.WritesLemmas.{nothing_writes, then_writes, writes_as, text_writes, changed_writes}

-- what several trees write: the needs of their nodes, their text, and the position of what follows
pub record Rest : Type 0 where
  pub needs : Bool → List Needs
  pub text : Context → Text
  pub next : Context → Context

abbrev pub WritesRest : (old new : TextOutput) (from to : code.Context) → Rest → Type 0
WritesRest a b i j r = Writes a b i j r.needs r.text r.next

-- a writing that began at a and is at b: with the rest it is the whole
pub record WritesOn (a b : TextOutput) (i j : code.Context) (rest whole : Rest) :
    Type 0 where
  pub ends : (z : TextOutput) (k : code.Context) → WritesRest b z j k rest → WritesRest a z i k whole

-- the pieces that are left, with or without a reference in digits before them
abbrev pub pieces_left : GroupInfo → Bool → Trees → Rest
pieces_left m digits ts = record {
  needs = λ o. all_listed o ts;
  text = written_all m digits ts;
  next = after_all ts Piece;
}

-- the branches, and those left after the first, with a bar before each
abbrev pub all_branches : GroupInfo → Trees → Rest
all_branches m ts = record {
  needs = λ o. all_listed o ts;
  text = written_branches m ts;
  next = after_all ts Branch;
}

abbrev pub barred_left : GroupInfo → Trees → Rest
barred_left m ts = record {
  needs = λ o. all_listed o ts;
  text = written_barred m ts;
  next = after_all ts Branch;
}

-- the first branch, and the others
pub first_branch : (es : List Expr) (e : Expr) → 1 ≤ length es → e ≡ get_or es 0 e →
    trees_of (views es) ≡ more_trees (view e) (left (take (length es - 1) (drop 1 es)) 0)
first_branch [] e h is = absurd (omega arith)
first_branch (x ∷ es) e h is =
    let others : length (x ∷ es) - 1 ≡ length es = omega arith in
    let all : take (length (x ∷ es) - 1) es ≡ es = ap (λ n. take n es) others ∙ take-length es in
    λ i. more_trees (view (sym is i)) (trees_of (views (sym all i)))

pub on_starts : (a : TextOutput) (i : code.Context) (whole : Rest) → WritesOn a a i i whole whole
on_starts a i whole = record { ends = λ z k w. w }

pub on_as : (a b : TextOutput) (i j : code.Context) (rest other whole : Rest) → rest ≡ other →
    WritesOn a b i j rest whole → WritesOn a b i j other whole
on_as a b i j rest other whole e w = subst (λ r. WritesOn a b i j r whole) e w

-- ---- pieces

pieces_next : (b c z : TextOutput) (j k e : code.Context) (m : GroupInfo) (digits : Bool) (t : Tree) (ts : Trees) →
    Writes b c j k (λ o. needs_listed o t)
    (λ h. separated_if (digits && at_digit (written m t Piece h)) (written m t Piece h)) (after t Piece) →
    WritesRest c z k e (pieces_left m (is_in_digits m t) ts) →
    WritesRest b z j e (pieces_left m digits (more_trees t ts))
pieces_next b c z j k e m digits t ts one rest =
    writes_as b z j e _ _ _ _ _ _
    (then_writes b c z j k e _ _ _ _ _ _ (keeps_after t Piece) one rest)
    (λ o. refl) (λ h. refl) (λ h. sym (after_next t ts Piece h))

-- one more piece is written, and separated from digits before it if it has to be
pub on_piece : (a b c d : TextOutput) (i j k : code.Context) (m : GroupInfo) (digits : Bool) (position : ℕ) (t : Tree)
    (ts : Trees)
    (whole : Rest) → position ≡ bytes (text_of b.text) →
    WritesOn a b i j (pieces_left m digits (more_trees t ts)) whole →
    Writes b c j k (λ o. needs_listed o t) (written m t Piece) (after t Piece) →
    Changed c d position (λ u. separated_if (digits && at_digit u) u) →
    WritesOn a d i k (pieces_left m (is_in_digits m t) ts) whole
on_piece a b c d i j k m digits position t ts whole at w one parts = record {
  ends = λ z e rest. w.ends z e
      (pieces_next b d z j k e m digits t ts (changed_writes b c d j k position _ _ _ _ at one parts) rest);
}

nothing_left : (b : TextOutput) (j : code.Context) (p : Precedence) →
    Writes b b j j (λ o. []) (λ h. []) (after_all no_trees p)
nothing_left b j p =
    writes_as b b j j _ _ _ _ _ _ (nothing_writes b j) (λ o. refl) (λ h. refl)
    (λ h. sym (after_none p h))

pub pieces_end : (a b : TextOutput) (i j : code.Context) (m : GroupInfo) (digits : Bool) (whole : Rest) →
    WritesOn a b i j (pieces_left m digits no_trees) whole → WritesRest a b i j whole
pieces_end a b i j m digits whole w = w.ends b j (nothing_left b j Piece)

-- ---- branches

branch_next : (b c z : TextOutput) (j k e : code.Context) (m : GroupInfo) (t : Tree) (ts : Trees) (bar : Text) →
    Writes b c j k (λ o. needs_listed o t) (λ h. bar ++ written m t Branch h) (after t Branch) →
    WritesRest c z k e (barred_left m ts) →
    Writes b z j e (λ o. all_listed o (more_trees t ts))
    (λ h. bar ++ (written m t Branch h ++ written_barred m ts (after t Branch h)))
    (after_all (more_trees t ts) Branch)
branch_next b c z j k e m t ts bar one rest =
    writes_as b z j e _ _ _ _ _ _
    (then_writes b c z j k e _ _ _ _ _ _ (keeps_after t Branch) one rest)
    (λ o. refl) (λ h. append_assoc bar (written m t Branch h) (written_barred m ts (after t Branch h)))
    (λ h. sym (after_next t ts Branch h))

pub on_first : (a b c : TextOutput) (i j k : code.Context) (m : GroupInfo) (t : Tree) (ts : Trees) (whole : Rest) →
    WritesOn a b i j (all_branches m (more_trees t ts)) whole →
    Writes b c j k (λ o. needs_listed o t) (written m t Branch) (after t Branch) →
    WritesOn a c i k (barred_left m ts) whole
on_first a b c i j k m t ts whole w one = record {
  ends = λ z e rest. w.ends z e (branch_next b c z j k e m t ts [] one rest);
}

pub on_branch : (a b c d : TextOutput) (i j k : code.Context) (m : GroupInfo) (t : Tree) (ts : Trees) (whole : Rest) →
    WritesOn a b i j (barred_left m (more_trees t ts)) whole → Added b c (codes "|") →
    Writes c d j k (λ o. needs_listed o t) (written m t Branch) (after t Branch) →
    WritesOn a d i k (barred_left m ts) whole
on_branch a b c d i j k m t ts whole w bar one = record {
  ends = λ z e rest. w.ends z e
      (branch_next b d z j k e m t ts (codes "|")
      (writes_as b d j k _ _ _ _ _ _
      (then_writes b c d j j k _ _ _ _ _ _ (λ h. refl) (text_writes b c j (codes "|") bar) one)
      (λ o. refl) (λ h. refl) (λ h. refl)) rest);
}

pub branches_end : (a b : TextOutput) (i j : code.Context) (m : GroupInfo) (whole : Rest) →
    WritesOn a b i j (barred_left m no_trees) whole → WritesRest a b i j whole
branches_end a b i j m whole w = w.ends b j (nothing_left b j Branch)

pub no_branches : (a : TextOutput) (i : code.Context) (m : GroupInfo) (es : List Expr) → length es < 1 →
    WritesRest a a i i (all_branches m (trees_of (views es)))
no_branches a i m [] h = nothing_left a i Branch
no_branches a i m (e ∷ es) h = absurd (omega arith)
