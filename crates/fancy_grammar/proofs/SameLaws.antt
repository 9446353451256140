-- Two trees are the same exactly if they are equal.
use Rattle.std.proofs.Common.{◌≡◌, ℤ, Bool, true, false, ◌&&◌, Option, Some, None, refl}
use Rattle.std.specs.Bool.{Decides}
use Rattle.std.specs.Cmp.{IsEquivalence, decided, booleans_Decides, unsigned_Decides, signed_Decides}
use Rattle.std.specs.Cmp.Lexicographic.{bytes_decides}
use Rattle.std.proofs.lemmas.Bool.{false≢true}
use Rattle.std.proofs.lemmas.Bool.Decides.{Decides-and, Decides-like}
use Rattle.fancy_lex.specs.declared.escape.Assertion.{Assertion}
use Rattle.fancy_lex.specs.declared.escape.Assertion.TheVariants.{EndTextIgnoreTrailingNewlines, StartLine}
use Rattle.fancy_lex.specs.declared.escape.Assertion.TheVariants.{StartLineOniguruma, EndLine}
use Rattle.fancy_lex.specs.Target.{same_target-Decides}
use Rattle.fancy_lex.specs.Text.{Text}
use Rattle.fancy_grammar.specs.declared.kinds.BacktrackingControlVerb.{BacktrackingControlVerb}
use Rattle.fancy_grammar.specs.declared.kinds.BacktrackingControlVerb.TheVariants.{Fail, Accept, Commit, Skip, Prune}
use Rattle.fancy_grammar.specs.declared.kinds.LookAround.{LookAround}
use Rattle.fancy_grammar.specs.declared.kinds.LookAround.TheVariants.{LookAhead, LookAheadNeg, LookBehind}
use Rattle.fancy_grammar.specs.declared.kinds.LookAround.TheVariants.{LookBehindNeg}
use Rattle.fancy_grammar.specs.Same.{same, same_all, same_leaf, same_wrap, same_row, same_reference, same_look}
use Rattle.fancy_grammar.specs.Same.{same_assertion, same_verb, same_level, same_name}
use Rattle.fancy_grammar.specs.Label.{Leaf, Wrap, Row, any, assertion, general_newline, literal, literal_bytes}
use Rattle.fancy_grammar.specs.Label.{delegate, backref, backref_at_level, backref_exists, subroutine_call, verb}
use Rattle.fancy_grammar.specs.Label.{ast_node, look_around, repeat, ast_group, concat, alt, expression, conditional}
use Rattle.fancy_grammar.specs.Label.{AstReference, ast_backref, ast_call, ast_condition}
use Rattle.fancy_grammar.specs.Tree.{Tree, leaf, over, row, Trees, no_trees, more_trees}

-- ---- rows: nodes that are always the same, that never are, with one field, and with two. The row before
-- the last makes the check split the second argument, so that the last row is tried for each pair

always : {A : Type 0} {x : A} → Decides true (x ≡ x)
always = (λ h. refl, λ h. refl)

never : {A : Type 0} → (A → ⊥) → Decides false A
never f = (λ h. absurd (false≢true h), λ h. absurd (f h))

so : {A B : Type 0} {a : Bool} → Decides a A → (A → B) → (B → A) → Decides a B
so d f g = Decides-like _ f g d

pair : {A B : Type 0} {a b : Bool} → Decides a A → Decides b B → Decides (a && b) (A × B)
pair d e = Decides-and _ _ d e

-- ---- fields

look_decides : (a b : LookAround) → Decides (same_look a b) (a ≡ b)
look_decides LookAhead LookAhead = always
look_decides LookAheadNeg LookAheadNeg = always
look_decides LookBehind LookBehind = always
look_decides LookBehindNeg LookBehindNeg = always
look_decides _ _ = never (λ h. cc)

verb_decides : (a b : BacktrackingControlVerb) → Decides (same_verb a b) (a ≡ b)
verb_decides Fail Fail = always
verb_decides Accept Accept = always
verb_decides Commit Commit = always
verb_decides Skip Skip = always
verb_decides Prune Prune = always
verb_decides _ _ = never (λ h. cc)

assertion_decides : (a b : Assertion) → Decides (same_assertion a b) (a ≡ b)
assertion_decides (EndTextIgnoreTrailingNewlines c) (EndTextIgnoreTrailingNewlines d) =
    so (booleans_Decides c d) (λ h. cc) (λ h. cc)
assertion_decides (StartLine c) (StartLine d) = so (booleans_Decides c d) (λ h. cc) (λ h. cc)
assertion_decides (StartLineOniguruma c) (StartLineOniguruma d) = so (booleans_Decides c d) (λ h. cc) (λ h. cc)
assertion_decides (EndLine c) (EndLine d) = so (booleans_Decides c d) (λ h. cc) (λ h. cc)
assertion_decides _ (EndLine d) = never (λ h. cc)
assertion_decides _ _ = (λ h. cc, λ h. cc)

level_decides : (a b : Option ℤ) → Decides (same_level a b) (a ≡ b)
level_decides None None = always
level_decides (Some x) (Some y) = so (signed_Decides x y) (λ h. cc) (λ h. cc)
level_decides _ _ = never (λ h. cc)

name_decides : (a b : Option Text) → Decides (same_name a b) (a ≡ b)
name_decides None None = always
name_decides (Some x) (Some y) = so (bytes_decides x y) (λ h. cc) (λ h. cc)
name_decides _ _ = never (λ h. cc)

reference_decides : (a b : AstReference) → Decides (same_reference a b) (a ≡ b)
reference_decides (ast_backref t c l) (ast_backref u d m) =
    so (pair (pair (same_target-Decides t u) (booleans_Decides c d)) (level_decides l m)) (λ h. cc) (λ h. ((cc, cc), cc))
reference_decides (ast_call t) (ast_call u) = so (same_target-Decides t u) (λ h. cc) (λ h. cc)
reference_decides (ast_condition t l) (ast_condition u m) =
    so (pair (same_target-Decides t u) (level_decides l m)) (λ h. cc) (λ h. (cc, cc))
reference_decides _ _ = never (λ h. cc)

-- ---- nodes

leaf_decides : (l m : Leaf) → Decides (same_leaf l m) (l ≡ m)
leaf_decides (any a b) (any c d) =
    so (pair (booleans_Decides a c) (booleans_Decides b d)) (λ h. cc) (λ h. (cc, cc))
leaf_decides (assertion a) (assertion b) = so (assertion_decides a b) (λ h. cc) (λ h. cc)
leaf_decides (general_newline a) (general_newline b) = so (booleans_Decides a b) (λ h. cc) (λ h. cc)
leaf_decides (literal s a) (literal t b) =
    so (pair (bytes_decides s t) (booleans_Decides a b)) (λ h. cc) (λ h. (cc, cc))
leaf_decides (literal_bytes s) (literal_bytes t) = so (bytes_decides s t) (λ h. cc) (λ h. cc)
leaf_decides (delegate s a) (delegate t b) =
    so (pair (bytes_decides s t) (booleans_Decides a b)) (λ h. cc) (λ h. (cc, cc))
leaf_decides (backref m a) (backref n b) =
    so (pair (unsigned_Decides m n) (booleans_Decides a b)) (λ h. cc) (λ h. (cc, cc))
leaf_decides (backref_at_level m l a) (backref_at_level n k b) =
    so (pair (pair (unsigned_Decides m n) (signed_Decides l k)) (booleans_Decides a b)) (λ h. cc)
    (λ h. ((cc, cc), cc))
leaf_decides (backref_exists m l) (backref_exists n k) =
    so (pair (unsigned_Decides m n) (level_decides l k)) (λ h. cc) (λ h. (cc, cc))
leaf_decides (subroutine_call m) (subroutine_call n) = so (unsigned_Decides m n) (λ h. cc) (λ h. cc)
leaf_decides (verb v) (verb w) = so (verb_decides v w) (λ h. cc) (λ h. cc)
leaf_decides (ast_node r p) (ast_node s q) =
    so (pair (reference_decides r s) (unsigned_Decides p q)) (λ h. cc) (λ h. (cc, cc))
leaf_decides _ (ast_node s q) = never (λ h. cc)
leaf_decides _ _ = (λ h. cc, λ h. cc)

wrap_decides : (w v : Wrap) → Decides (same_wrap w v) (w ≡ v)
wrap_decides (look_around a) (look_around b) = so (look_decides a b) (λ h. cc) (λ h. cc)
wrap_decides (repeat k m a) (repeat l n b) =
    so (pair (pair (unsigned_Decides k l) (unsigned_Decides m n)) (booleans_Decides a b)) (λ h. cc)
    (λ h. ((cc, cc), cc))
wrap_decides (ast_group a p) (ast_group b q) =
    so (pair (name_decides a b) (unsigned_Decides p q)) (λ h. cc) (λ h. (cc, cc))
wrap_decides _ (ast_group b q) = never (λ h. cc)
wrap_decides _ _ = (λ h. cc, λ h. cc)

row_decides : (r q : Row) → Decides (same_row r q) (r ≡ q)
row_decides concat concat = always
row_decides alt alt = always
row_decides expression expression = always
row_decides conditional conditional = always
row_decides _ _ = never (λ h. cc)

-- ---- trees

mutual
  pub same-Decides : (s t : Tree) → Decides (same s t) (s ≡ t)
  same-Decides (leaf l) (leaf m) = so (leaf_decides l m) (λ h. cc) (λ h. cc)
  same-Decides (over w t) (over v u) = so (pair (wrap_decides w v) (same-Decides t u)) (λ h. cc) (λ h. (cc, cc))
  same-Decides (row r ts) (row q us) = so (pair (row_decides r q) (all-Decides ts us)) (λ h. cc) (λ h. (cc, cc))
  same-Decides _ _ = never (λ h. cc)

  pub all-Decides : (s t : Trees) → Decides (same_all s t) (s ≡ t)
  all-Decides no_trees no_trees = always
  all-Decides (more_trees t ts) (more_trees u us) =
      so (pair (same-Decides t u) (all-Decides ts us)) (λ h. cc) (λ h. (cc, cc))
  all-Decides _ _ = never (λ h. cc)

pub same-equiv : IsEquivalence same
same-equiv = decided same same-Decides
