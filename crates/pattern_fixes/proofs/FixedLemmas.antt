-- Trees with reports fixed, node by node. In each, o is the result of a test, and u says whether patterns are read with
-- Unicode.
use Rattle.std.proofs.Common.{◌≡◌, ℕ, suc, ◌+◌, ◌<◌, ◌≤◌, Bool, List, [], ◌∷◌, ◌++◌, length, take, drop, get_or}
use Rattle.std.proofs.Common.{Result, Ok, Err, IfOk, IsTrue, Vec, Global, Contains, chars}
use Rattle.std.proofs.Common.{sym, ap, ◌∙◌, subst, drop-cons, add-one}
use Rattle.std.proofs.lemmas.List.{drop_all, nil_from_length, map_more}
use Rattle.fancy_lex.specs.declared.flags.Flags.{Flags}
use Rattle.fancy_grammar.specs.GroupInfo.{GroupInfo}
use Rattle.fancy_grammar.specs.Label as label
use Rattle.fancy_grammar.specs.Label.{Wrap, Row}
use Rattle.fancy_grammar.specs.ParseResult.{IsTreeOf}
use Rattle.fancy_grammar.specs.Tree.{Tree, over, row, conditional, alt, expression, Trees, trees_of}
use Rattle.fancy_syntax.proofs.ChildrenLemmas.{view_Alt}
use Rattle.fancy_syntax.proofs.PrintLemmas.{left, left_step, left_end}
use Rattle.fancy_syntax.specs.View.{view, views}
use Rattle.fancy_syntax.specs.declared.expr.Expr as node
use Rattle.fancy_syntax.specs.declared.expr.Expr.{Expr}
use Rattle.pattern_fixes.specs.Fixed as fixed
use Rattle.fancy_grammar.specs.Trivia.{Trivium, IsTriviaOf, comment_texts}
use Rattle.pattern_fixes.specs.Fixed.{IsFixed, AreFixed, AreBranches, IsFixedText}

-- ---- nodes

pub if_true : {E : Type 0} (o : Result Bool E) {P Q : Type 0} → (P → Q) → IfOk o (λ b. IsTrue b → P) →
    IfOk o (λ b. IsTrue b → Q)
if_true (Ok b) f h = λ t. f (h t)
if_true (Err e) f h = h

pub over_case : {E : Type 0} (o : Result Bool E) (u : Bool) (w v : Wrap) (new d e : Tree) → w ≡ v → new ≡ over v e →
    IfOk o (λ b. IsTrue b → IsFixed u d e) → IfOk o (λ b. IsTrue b → IsFixed u (over w d) new)
over_case o u w v new d e same is h = rw (same, is) (if_true o fixed.inside h)

pub once_case : {E : Type 0} (o : Result Bool E) (u greedy : Bool) (w : Wrap) (d new : Tree) → w ≡ label.repeat 1 1 greedy →
    IfOk o (λ b. IsTrue b → IsFixed u d new) → IfOk o (λ b. IsTrue b → IsFixed u (over w d) new)
once_case o u greedy w d new is h = rw is (if_true o fixed.once h)

pub row_case : {E : Type 0} (o : Result Bool E) (u : Bool) (r : Row) (old new : Tree) (ts us : Trees) → old ≡ row r ts →
    new ≡ row r us → IfOk o (λ b. IsTrue b → AreFixed u ts us) → IfOk o (λ b. IsTrue b → IsFixed u old new)
row_case o u r old new ts us is_old is_new h = rw (is_old, is_new) (if_true o fixed.within h)

pub branches_case : {E : Type 0} (o : Result Bool E) (u : Bool) (new : Expr) (v : Vec Expr Global) (xs ys : List Expr) →
    new ≡ node.Alt v → ys ≡ v.items → IfOk o (λ b. IsTrue b → AreBranches u [] (views xs) (views ys)) →
    IfOk o (λ b. IsTrue b → IsFixed u (alt (trees_of (views xs))) (view new))
branches_case o u new v xs ys is ey h = rw (is, view_Alt v, ← ey) (if_true o fixed.branches h)

pub one_branch_case : {E : Type 0} (o : Result Bool E) (u : Bool) (new : Expr) (xs ys : List Expr) → ys ≡ new ∷ [] →
    IfOk o (λ b. IsTrue b → AreBranches u [] (views xs) (views ys)) →
    IfOk o (λ b. IsTrue b → IsFixed u (alt (trees_of (views xs))) (view new))
one_branch_case o u new xs ys is h = if_true o fixed.one_branch (rw is at h)

-- the last of two or of three children
pub last_of_two : {E : Type 0} (o : Result Bool E) (u : Bool) (old new a b c d : Tree) →
    old ≡ expression a b → new ≡ expression c d → IsFixed u a c →
    IfOk o (λ t. IsTrue t → IsFixed u b d) → IfOk o (λ t. IsTrue t → IsFixed u old new)
last_of_two o u old new a b c d is_old is_new one h =
    rw (is_old, is_new) (if_true o (λ two. fixed.within (fixed.more one (fixed.more two fixed.none))) h)

pub last_of_three : {E : Type 0} (o : Result Bool E) (u : Bool) (new a b c d e f : Tree) →
    new ≡ conditional d e f → IsFixed u a d → IsFixed u b e →
    IfOk o (λ t. IsTrue t → IsFixed u c f) → IfOk o (λ t. IsTrue t → IsFixed u (conditional a b c) new)
last_of_three o u new a b c d e f is one two h =
    rw is
    (if_true o (λ three. fixed.within (fixed.more one (fixed.more two (fixed.more three fixed.none)))) h)

-- ---- lists

-- the trees from i on are the one at i and those after it
trees_suc : (es : List Expr) (i : ℕ) (e : Expr) → i < length es → e ≡ get_or es i e →
    views (drop i es) ≡ view e ∷ views (drop (suc i) es)
trees_suc es i e h is = ap views (drop-cons es i e h ∙ ap (λ x. x ∷ drop (suc i) es) (sym is))

trees_step : (es : List Expr) (i : ℕ) (e : Expr) → i < length es → e ≡ get_or es i e →
    views (drop i es) ≡ view e ∷ views (drop (i + 1) es)
trees_step es i e h is = rw add-one (trees_suc es i e h is)

-- the trees before the one after i are those before it, and it
before_step : (es : List Expr) (i : ℕ) (e : Expr) → i < length es → e ≡ get_or es i e →
    views (take (i + 1) es) ≡ views (take i es) ++ view e ∷ []
before_step es i e h is = map_more view es i e h ∙ ap (λ d. views (take i es) ++ view d ∷ []) (sym is)

-- one more is fixed
pub fixed_next : {P : Type 0} (u : Bool) (es : List Expr) (i : ℕ) (e : Expr) (rest : List Expr) (first : Expr)
    (more : List Expr) → i < length es → e ≡ get_or es i e → rest ≡ first ∷ more → IsFixed u (view e) (view first) →
    (AreFixed u (left es i) (trees_of (views rest)) → P) → AreFixed u (left es (i + 1)) (trees_of (views more)) → P
fixed_next u es i e rest first more h is other one before after =
    before (subst (λ ts. AreFixed u ts (trees_of (views rest))) (sym (left_step es i e h is))
    (subst (λ xs. AreFixed u (trees_of (view e ∷ views (drop (i + 1) es))) (trees_of (views xs))) (sym other)
    (fixed.more one after)))

-- nothing is left of both
pub fixed_end : {P : Type 0} (u : Bool) (es : List Expr) (i : ℕ) (rest : List Expr) → length es ≤ i → length rest ≡ 0 →
    (AreFixed u (left es i) (trees_of (views rest)) → P) → P
fixed_end u es i rest h none before =
    before (subst (λ ts. AreFixed u ts (trees_of (views rest))) (sym (left_end es i h))
    (subst (λ xs. AreFixed u (trees_of []) (trees_of (views xs))) (sym (nil_from_length rest none)) fixed.none))

-- the branches from i on, after those before it
abbrev pub BranchesFrom : Bool → List Expr → ℕ → List Expr → Type 0
BranchesFrom u es i rest = AreBranches u (views (take i es)) (views (drop i es)) (views rest)

-- one more is kept
pub kept_next : {P : Type 0} (u : Bool) (es : List Expr) (i : ℕ) (e : Expr) (rest : List Expr) (first : Expr)
    (more : List Expr) → i < length es → e ≡ get_or es i e → rest ≡ first ∷ more → IsFixed u (view e) (view first) →
    (BranchesFrom u es i rest → P) → BranchesFrom u es (i + 1) more → P
kept_next u es i e rest first more h is other one before after =
    before (subst (λ ts. AreBranches u (views (take i es)) ts (views rest)) (sym (trees_step es i e h is))
    (subst (λ xs. AreBranches u (views (take i es)) (view e ∷ views (drop (i + 1) es)) (views xs)) (sym other)
    (fixed.kept one
    (subst (λ ts. AreBranches u ts (views (drop (i + 1) es)) (views more)) (before_step es i e h is) after))))

-- one more is left out
pub left_out_next : {P : Type 0} (u : Bool) (es : List Expr) (i : ℕ) (e : Expr) (rest : List Expr) →
    i < length es → e ≡ get_or es i e → Contains (views (take i es)) (view e) →
    (BranchesFrom u es i rest → P) → BranchesFrom u es (i + 1) rest → P
left_out_next u es i e rest h is there before after =
    before (subst (λ ts. AreBranches u (views (take i es)) ts (views rest)) (sym (trees_step es i e h is))
    (fixed.left_out there
    (subst (λ ts. AreBranches u ts (views (drop (i + 1) es)) (views rest)) (before_step es i e h is) after)))

-- nothing is left of both
pub branches_end : {P : Type 0} (u : Bool) (es : List Expr) (i : ℕ) (rest : List Expr) → length es ≤ i →
    length rest ≡ 0 → (BranchesFrom u es i rest → P) → P
branches_end u es i rest h none before =
    before (subst (λ ts. AreBranches u (views (take i es)) (views ts) (views rest)) (sym (drop_all i es h))
    (subst (λ xs. AreBranches u (views (take i es)) [] (views xs)) (sym (nil_from_length rest none)) fixed.end))

-- ---- a text

pub text_case : {E : Type 0} (o : Result Bool E) (f : Flags) (text : List ℕ) (old new : Tree) (m n : GroupInfo) (u : Bool)
    (l : List Trivium) (cs : List (List ℕ)) → IsTreeOf f (chars text) new n → IsTriviaOf f (chars text) l →
    cs ≡ comment_texts text l → n ≡ m → u ≡ f.unicode → IfOk o (λ b. IsTrue b → IsFixed u old new) →
    IfOk o (λ b. IsTrue b → IsFixedText f text old m cs)
text_case o f text old new m n u l cs tree trivia kept same is h =
    if_true o (λ x. (
      new,
      l,
      subst (IsTreeOf f (chars text) new) same tree,
      trivia,
      subst (λ b. IsFixed b old new) is x,
      kept,
    )) h
