-- What the grammar's rules read under flags that change along the text.
use Rattle.std.proofs.Common.{◌≡◌, ℕ, Bool, true, false, ◌==◌, List, []}
use Rattle.std.proofs.Common.{◌∷◌, ◌++◌, None, is_some, refl, ap, ◌∙◌, if◌then◌else◌, codes, ◌+◌, arith}
use Rattle.std.proofs.Common.{zero, suc, nat_lt}
use Rattle.std.proofs.lemmas.Bool.{cond-true, cond-false, cond_both, or_parts}
use Rattle.std.proofs.lemmas.Bool.Decides.{nat_tests}
use Prim.Native.Char.{code}
use Rattle.fancy_lex.specs.ErrorTable.{quantifier_too_deep}
use Rattle.fancy_lex.specs.Layout.{is_blank}
use Rattle.fancy_lex.specs.LayoutSteps.{layout, after_comment_start, is_layout, layout_from, rest}
use Rattle.fancy_lex.specs.Number.{at_digit}
use Rattle.fancy_lex.specs.Text.{Text, bytes, strip}
use Rattle.fancy_lex.specs.declared.flags.Flags.{Flags}
use Rattle.fancy_lex.proofs.LayoutLemmas.{between_step}
use Rattle.fancy_lex.proofs.LeaveLaws.{ends_twice}
use Rattle.fancy_lex.specs.Quantifier.{counts}
use Rattle.fancy_grammar.specs.Depth.{max_depth}
use Rattle.fancy_grammar.specs.State as states
use Rattle.fancy_grammar.specs.Grammar.{Alternation, alternation, Branches, last, more, Branch, branch, Pieces, stop}
use Rattle.fancy_grammar.specs.Grammar.{next}
use Rattle.fancy_grammar.specs.Grammar.{Piece, Atom}
use Rattle.fancy_grammar.specs.Join.{is_empty, solid, one_or, join, choice}
use Rattle.fancy_grammar.specs.Label as label
use Rattle.fancy_grammar.specs.GroupInfo.{GroupInfo}
use Rattle.fancy_grammar.specs.Pattern.{Context, under, past_groups, group_count, is_in_digits}
use Rattle.fancy_grammar.specs.Quantified as quantified
use Rattle.fancy_grammar.specs.Quantified.{quant, quants, adjacent}
use Rattle.fancy_grammar.specs.State.{done}
use Rattle.fancy_grammar.specs.Tree.{Tree, empty, concat}
use Rattle.fancy_grammar.proofs.OutcomeLemmas.{piece_as, after_rest}
use Rattle.fancy_grammar.proofs.ReadBack.ClearLemmas.{begins_quantifier, no_layout, no_quantifier_is}
use Rattle.fancy_grammar.proofs.ReadBack.RuleLemmas.{st}
use Rattle.fancy_pattern.proofs.PatternLaws.Becomes.{Becomes, EachBecomes, one_becomes, solid_also, each_in_longer}
use Rattle.fancy_pattern.proofs.PatternLaws.Becomes.{stays_solid}
use Rattle.fancy_grammar.proofs.ReadLaws.{piece_read, atom_read, branch_read}
use Rattle.fancy_grammar.proofs.Slices.{to_ends}

-- ---- how a text begins

-- no layout, and no quantifier
pub record Clear (x : Bool) (v : Text) : Type 0 where
  pub no_layout : layout x v ≡ rest v
  pub no_quantifier : begins_quantifier v ≡ false

-- an atom, or what begins with one
pub record Begins (x : Bool) (s : Text) : Type 0 where
  pub clear : Clear x s
  pub goes : states.ends s ≡ false

-- a branch stops here
pub record Stops (x : Bool) (v : Text) : Type 0 where
  pub clear : Clear x v
  pub ends : states.ends v ≡ true

-- an alternation ends here
pub record Ends (x : Bool) (v : Text) : Type 0 where
  pub stops : Stops x v
  pub no_bar : strip (code "|") v ≡ None

pub not_layout : (x : Bool) (c : ℕ) (t : Text) → after_comment_start (c ∷ t) ≡ None → is_layout x c ≡ false →
    layout x (c ∷ t) ≡ rest (c ∷ t)
not_layout false c t o e = no_layout (c ∷ t) o
not_layout true c t o e =
    let (h, b) = or_parts (c == code "#") (is_blank c) e in
    between_step true (c ∷ t) c t refl
    ∙ (cond-false _ _ _ (ap is_some o) ∙ (cond-false _ _ _ h ∙ cond-false _ _ _ b))

pub layout_none : (x : Bool) → layout x [] ≡ rest []
unfolding layout_from
layout_none true = refl
layout_none false = refl

-- an empty comment is layout
pub comment_passed : (x : Bool) (t : Text) → layout x (codes "(?#)" ++ t) ≡ layout x t
unfolding layout_from
comment_passed true t = refl
comment_passed false t = refl

-- decided by the first characters
pub clear_by : (x : Bool) (c : ℕ) (t : Text) → after_comment_start (c ∷ t) ≡ None → is_layout true c ≡ false →
    begins_quantifier (c ∷ t) ≡ false → Clear x (c ∷ t)
clear_by true c t o e m = record { no_layout = not_layout true c t o e; no_quantifier = m }
clear_by false c t o e m = record { no_layout = not_layout false c t o refl; no_quantifier = m }

pub begins_by : (x : Bool) (c : ℕ) (t : Text) → after_comment_start (c ∷ t) ≡ None → is_layout true c ≡ false →
    begins_quantifier (c ∷ t) ≡ false → states.ends (c ∷ t) ≡ false → Begins x (c ∷ t)
begins_by x c t o e m g = record { clear = clear_by x c t o e m; goes = g }

pub stops_bar : (x : Bool) (v : Text) → Stops x (code "|" ∷ v)
stops_bar x v = record { clear = clear_by x (code "|") v refl refl refl; ends = refl }

pub ends_close : (x : Bool) (v : Text) → Ends x (code ")" ∷ v)
ends_close x v = record {
  stops = record { clear = clear_by x (code ")") v refl refl refl; ends = refl };
  no_bar = refl;
}

pub ends_nothing : (x : Bool) → Ends x []
ends_nothing x = record {
  stops = record { clear = record { no_layout = layout_none x; no_quantifier = refl }; ends = refl };
  no_bar = refl;
}

pub ends_no_digit : (v : Text) → states.ends v ≡ true → at_digit v ≡ false
ends_no_digit [] h = refl
ends_no_digit (c ∷ t) h = grind (arith, nat_tests)

-- no digit follows a reference in digits
abbrev pub Follows : GroupInfo → Tree → Text → Type 0
Follows μ t v = is_in_digits μ t ≡ true → at_digit v ≡ false

no_counts : (x : Bool) (s : Text) → begins_quantifier s ≡ false → counts x s ≡ None
unfolding counts
no_counts x [] h = refl
no_counts x (c ∷ s) h = let m = no_quantifier_is c h in rw (m.question, m.star, m.plus, m.brace) refl

pub no_question : (s : Text) → begins_quantifier s ≡ false → strip (code "?") s ≡ None
no_question [] h = refl
no_question (c ∷ s) h = rw ((no_quantifier_is c h).question) refl

pub no_star : (s : Text) → begins_quantifier s ≡ false → strip (code "*") s ≡ None
no_star [] h = refl
no_star (c ∷ s) h = rw ((no_quantifier_is c h).star) refl

pub no_plus : (s : Text) → begins_quantifier s ≡ false → strip (code "+") s ≡ None
no_plus [] h = refl
no_plus (c ∷ s) h = rw ((no_quantifier_is c h).plus) refl

pub no_brace : (s : Text) → begins_quantifier s ≡ false → strip (code "{") s ≡ None
no_brace [] h = refl
no_brace (c ∷ s) h = rw ((no_quantifier_is c h).brace) refl

-- ---- what the text from s to v is read as here: a tree that becomes x, with the flags g after it

pub record AtomAt (μ : GroupInfo) (h : Context) (s v : Text) (x : Tree) : Type 0 where
  pub tree : Tree
  pub derives : Atom h.depth (st h.flags s) (done tree (st h.flags v))
  pub becomes : Becomes μ s h.opened tree x

pub record BranchAt (μ : GroupInfo) (h : Context) (s : Text) (g : Flags) (v : Text) (x : Tree) : Type 0 where
  pub tree : Tree
  pub derives : Branch h.depth (st h.flags s) (done tree (st g v))
  pub becomes : Becomes μ s h.opened tree x

pub record BranchesAt (μ : GroupInfo) (h : Context) (s : Text) (g : Flags) (v : Text) (ys : List Tree) : Type 0 where
  pub trees : List Tree
  pub derives : Branches h.depth (st h.flags s) (done trees (st g v))
  pub become : EachBecomes μ s h.opened trees ys

pub record WholeAt (μ : GroupInfo) (h : Context) (s : Text) (g : Flags) (v : Text) (x : Tree) : Type 0 where
  pub tree : Tree
  pub derives : Alternation h.depth (st h.flags s) (done tree (st g v))
  pub becomes : Becomes μ s h.opened tree x

-- the pieces up to the end of the branch; without the Empties they become these trees
pub record Rest (μ : GroupInfo) (h : Context) (s : Text) (g : Flags) (v : Text) (ys : List Tree) : Type 0 where
  pub trees : List Tree
  pub derives : Pieces h.depth (st h.flags s) (done trees (st g v))
  pub become : EachBecomes μ s h.opened (solid trees) ys

pub no_more : (μ : GroupInfo) (h : Context) (v : Text) → Stops h.flags.ignore_space v → Rest μ h v h.flags v []
no_more μ h v e = record { trees = []; derives = stop e.ends; become = tt }

-- ---- pieces

-- after layout, no quantifier follows
pub quant_past : (left : ℕ) (f : Flags) (a : Tree) (v u : Text) → layout f.ignore_space v ≡ rest u →
    begins_quantifier u ≡ false → quant left a (st f v) ≡ done a (st f u)
unfolding quant
quant_past left f a v u e m =
    after_rest _ _ e ∙ ap (quantified.with_counts left a (st f u)) (no_counts f.ignore_space u m)

pub quant_none : (left : ℕ) (f : Flags) (a : Tree) (v : Text) → Clear f.ignore_space v →
    quant left a (st f v) ≡ done a (st f v)
quant_none left f a v c = quant_past left f a v v c.no_layout c.no_quantifier

unmoved : (n : ℕ) → (n == n) ≡ true
unmoved n = grind (arith, nat_tests)

-- in Oniguruma mode, no quantifier is adjacent to one that no quantifier follows
pub adjacent_none : (k d : ℕ) (f : Flags) (b : Tree) (v : Text) → Clear f.ignore_space v →
    adjacent k d b (st f v) ≡ done b (st f v)
unfolding adjacent
adjacent_none zero d f b v c =
    ap (λ q. states.and_then q (λ b t. if quantified.is_unmoved (st f v) t then done b t
    else states.failed (quantifier_too_deep t.rest))) (quant_none (bytes v) f b v c)
    ∙ cond-true _ _ _ (unmoved (bytes v))
adjacent_none (suc k) d f b v c =
    ap (λ q. states.and_then q (λ b t. if quantified.is_unmoved (st f v) t then done b t
    else if nat_lt (d + 1) max_depth then adjacent k (d + 1) b t
    else states.failed (quantifier_too_deep t.rest))) (quant_none (bytes v) f b v c)
    ∙ cond-true _ _ _ (unmoved (bytes v))

-- before such a text, one quantifier at most is read
pub quants_one : (d left : ℕ) (f : Flags) (a b : Tree) (s v : Text) → Clear f.ignore_space v →
    quant left a (st f s) ≡ done b (st f v) → quants d left a (st f s) ≡ done b (st f v)
quants_one d left f a b s v c e =
    ap (λ q. states.and_then q (λ b t.
    if t.flags.oniguruma_mode then adjacent quantified.max_adjacent d b t else done b t)) e
    ∙ cond_both f.oniguruma_mode _ _ (λ z. z ≡ done b (st f v))
    (λ _. adjacent_none quantified.max_adjacent d f b v c) (λ _. refl)

-- a piece that was read, before the pieces that follow
pub lead_raw : (μ : GroupInfo) (h : Context) (s v w : Text) (g : Flags) (r x : Tree) (ys : List Tree) →
    Begins h.flags.ignore_space s → is_empty r ≡ false → Becomes μ s h.opened r x →
    Piece h.depth (st h.flags s) (done r (st h.flags v)) → Rest μ (past_groups (group_count x) h) v g w ys →
    Rest μ h s g w (x ∷ ys)
lead_raw μ h s v w g r x ys b e k p q = record {
  trees = r ∷ q.trees;
  derives = next b.goes p q.derives;
  become = solid_also μ s h.opened r x q.trees ys k e
      (each_in_longer μ v s (to_ends (piece_read p).span.slice) (solid q.trees) ys (h.opened + group_count x) q.become);
}

pub lead_piece : (μ : GroupInfo) (h : Context) (s v w : Text) (g : Flags) (r x : Tree) (ys : List Tree) →
    Begins h.flags.ignore_space s → is_empty x ≡ false → Becomes μ s h.opened r x →
    Piece h.depth (st h.flags s) (done r (st h.flags v)) → Rest μ (past_groups (group_count x) h) v g w ys →
    Rest μ h s g w (x ∷ ys)
lead_piece μ h s v w g r x ys b e k p q = lead_raw μ h s v w g r x ys b (stays_solid μ s h.opened r x k e) k p q

-- an atom that no quantifier follows
pub lead : (μ : GroupInfo) (h : Context) (s v w : Text) (g : Flags) (x : Tree) (ys : List Tree) →
    Begins h.flags.ignore_space s → Clear h.flags.ignore_space v → is_empty x ≡ false → AtomAt μ h s v x →
    Rest μ (past_groups (group_count x) h) v g w ys → Rest μ h s g w (x ∷ ys)
lead μ h s v w g x ys b c e a q =
    lead_piece μ h s v w g a.tree x ys b e a.becomes
    (piece_as b.clear.no_layout a.derives
    (quants_one h.depth (bytes s) h.flags a.tree a.tree v v c (quant_none (bytes s) h.flags a.tree v c))) q

-- an Empty that is read at once, with other flags after it
pub lead_flags : (μ : GroupInfo) (h : Context) (f g : Flags) (s v w : Text) (ys : List Tree) →
    Begins h.flags.ignore_space s → Clear f.ignore_space v → Atom h.depth (st h.flags s) (done empty (st f v)) →
    Rest μ (under f h) v g w ys → Rest μ h s g w ys
lead_flags μ h f g s v w ys b c a q = record {
  trees = empty ∷ q.trees;
  derives =
      next b.goes
      (piece_as b.clear.no_layout a
      (quants_one h.depth (bytes s) f empty empty v v c (quant_none (bytes s) f empty v c))) q.derives;
  become =
      each_in_longer μ v s (to_ends (atom_read a).span.slice) (solid q.trees) ys h.opened q.become;
}

-- ---- branches

pub reads_branch : (μ : GroupInfo) (h : Context) (s v : Text) (g : Flags) (ys : List Tree) → Rest μ h s g v ys →
    BranchAt μ h s g v (one_or concat ys)
reads_branch μ h s v g ys r = record {
  tree = join r.trees;
  derives = branch r.derives;
  becomes = one_becomes μ s label.concat (solid r.trees) ys h.opened r.become;
}

pub reads_last : (μ : GroupInfo) (h : Context) (s v : Text) (g : Flags) (x : Tree) → BranchAt μ h s g v x →
    strip (code "|") v ≡ None → BranchesAt μ h s g v (x ∷ [])
reads_last μ h s v g x b e = record { trees = b.tree ∷ []; derives = last b.derives e; become = (b.becomes, tt) }

pub reads_more : (μ : GroupInfo) (h : Context) (s t v : Text) (f g : Flags) (x : Tree) (ys : List Tree) →
    BranchAt μ h s f (code "|" ∷ t) x → BranchesAt μ (past_groups (group_count x) (under f h)) t g v ys →
    BranchesAt μ h s g v (x ∷ ys)
reads_more μ h s t v f g x ys b bs = record {
  trees = b.tree ∷ bs.trees;
  derives = more b.derives refl bs.derives;
  become = (
    b.becomes,
    each_in_longer μ t s
        (ends_twice s (code "|" ∷ t) t (to_ends (branch_read b.derives).span.slice)
        (codes "|", refl)) bs.trees ys _ bs.become,
  );
}

pub reads_whole : (μ : GroupInfo) (h : Context) (s v : Text) (g : Flags) (ys : List Tree) → BranchesAt μ h s g v ys →
    WholeAt μ h s g v (choice ys)
reads_whole μ h s v g ys b = record {
  tree = choice b.trees;
  derives = alternation b.derives;
  becomes = one_becomes μ s label.alt b.trees ys h.opened b.become;
}

pub reads_only : (μ : GroupInfo) (h : Context) (s v : Text) (g : Flags) (x : Tree) → BranchAt μ h s g v x →
    strip (code "|") v ≡ None →
    WholeAt μ h s g v x
reads_only μ h s v g x b e = reads_whole μ h s v g (x ∷ []) (reads_last μ h s v g x b e)
