-- Where the text of a tree fits: each group that it opens, opens while fewer than 63 are open. These definitions follow
-- the texts of the same names in `Pattern`, parenthesis by parenthesis.
use Rattle.std.specs.Prelude.{◌≡◌, ◌+◌, ◌<◌, Bool, true, false, not, ◌&&◌, ◌||◌, nat_eq, codes}
use Rattle.std.specs.List.{starts_with}
use Rattle.fancy_lex.specs.declared.flags.Flags.{Flags}
use Rattle.fancy_grammar.specs.Depth.{max_depth}
use Rattle.fancy_grammar.specs.Join.{is_empty}
use Rattle.fancy_grammar.specs.Label.{Leaf, empty, backref_exists, verb, clear, ast_node, group, look_around, repeat}
use Rattle.fancy_grammar.specs.Label.{stopper, ast_group, expression, conditional, concat, alt}
use Rattle.fancy_grammar.specs.Pattern.{Context, under, past_groups, deeper, takes_pieces, takes_branches, is_operand}
use Rattle.fancy_grammar.specs.Pattern.{is_last_operand, allowed, after}
use Rattle.fancy_grammar.specs.PatternNeeds.{settled, turns_on}
use Rattle.fancy_grammar.specs.PatternQuantifier.{is_possessive}
use Rattle.fancy_grammar.specs.PatternReference.{unresolved_text}
use Rattle.fancy_grammar.specs.Quantified.{is_repeatable}
use Rattle.fancy_grammar.specs.Tree.{Tree, leaf, over, row, Trees, no_trees, more_trees, atomic_repeat}
use Rattle.fancy_grammar.specs.declared.precedence.Precedence.{Precedence}
use Rattle.fancy_grammar.specs.declared.precedence.Precedence.TheVariants.{Whole, Branch, Piece, Operand}

-- ---- groups

-- another group may open here
abbrev pub MayOpen : Context → Type 0
MayOpen h = h.depth + 1 < max_depth

-- if the condition holds, another group may open here
abbrev pub MayOpenIf : Bool → Context → Type 0
MayOpenIf b h = b ≡ true → MayOpen h

-- the flags may be set here; that takes a group if they change
abbrev pub MaySet : Flags → Context → Type 0
MaySet g h = MayOpenIf (turns_on h.flags g || turns_on g h.flags) h

-- in the parentheses of a group
abbrev pub FitsInParens : (Context → Type 0) → Context → Type 0
FitsInParens inside h = MayOpen h × inside (deeper h)

abbrev pub FitsInParensIf : Bool → (Precedence → Context → Type 0) → Precedence → Context → Type 0
FitsInParensIf true inside p h = FitsInParens (inside Whole) h
FitsInParensIf false inside p h = inside p h

abbrev pub FitsAfterInlineFlags : Tree → (Context → Type 0) → Context → Type 0
FitsAfterInlineFlags t inside h = MaySet (settled h.flags t) h × inside (under (settled h.flags t) h)

abbrev pub FitsInFlagGroupUnless : Bool → Tree → (Context → Type 0) → Context → Type 0
FitsInFlagGroupUnless true t inside h = inside h
FitsInFlagGroupUnless false t inside h = FitsInParens inside (under (settled h.flags t) h)

abbrev pub FitsAsAtom : Tree → Precedence → (Context → Type 0) → Context → Type 0
FitsAsAtom t p inside h = FitsInParensIf (is_operand p && not (is_repeatable h.flags t)) (λ q. inside) p h

-- ---- leaves, and conditions

-- the leaf's text is in parentheses
abbrev pub is_in_parens : Leaf → Bool
is_in_parens (backref_exists n level) = true
is_in_parens (verb v) = true
is_in_parens clear = true
is_in_parens (ast_node r position) = starts_with nat_eq (unresolved_text r) (codes "(")
is_in_parens _ = false

-- what a condition requires to fit, if `fits` is what its alternation requires; a target and a verb are in the
-- parentheses of the conditional
abbrev pub FitsAsCondition : Tree → Type 0 → Type 0
FitsAsCondition (leaf (backref_exists n level)) fits = Unit {0}
FitsAsCondition (leaf (verb v)) fits = Unit {0}
FitsAsCondition _ fits = fits

-- ---- the tree

abbrev mutual
  pub Fits : Tree → Precedence → Context → Type 0
  Fits (leaf empty) p h = MayOpenIf (not (takes_pieces p)) h
  Fits (leaf l) p h = FitsAfterInlineFlags (leaf l) (FitsAsAtom (leaf l) p (MayOpenIf (is_in_parens l))) h
  Fits (row concat ts) p h = FitsInFlagGroupUnless (takes_pieces p) (row concat ts) (FitAll ts Piece) h
  Fits (row alt ts) p h = FitsInFlagGroupUnless (takes_branches p) (row alt ts) (FitAll ts Branch) h
  Fits (over group t) p h =
      FitsAfterInlineFlags (over group t) (λ i. FitsInParens (Fits t Whole) (past_groups 1 i)) h
  Fits (over (look_around l) t) p h =
      FitsAfterInlineFlags (over (look_around l) t) (FitsAsAtom (over (look_around l) t) p (FitsInParens (Fits t Whole))) h
  Fits (over (repeat lo hi greedy) t) p h =
      FitsAfterInlineFlags t (FitsInParensIf (is_last_operand p) (λ q i. Fits t (Operand (allowed q i)) i) p) h
  Fits (atomic_repeat t lo hi greedy) p h =
      FitsAfterInlineFlags t
      (λ i. FitsInParensIf (is_last_operand p || not (is_possessive i.flags lo hi))
      (λ q j. Fits t (Operand (allowed q j)) j) p i) h
  Fits (over stopper t) p h =
      FitsAfterInlineFlags t (FitsInParens (λ i. MayOpenIf (is_empty t) i × Fits t Branch i)) h
  Fits (over (ast_group name position) t) p h = Unit {0}
  Fits (over w t) p h = FitsAfterInlineFlags t (FitsInParens (Fits t Whole)) h
  Fits (row expression (more_trees a (more_trees e no_trees))) p h =
      FitsAfterInlineFlags (row expression (more_trees a (more_trees e no_trees)))
      (FitsInParens (λ i. Fits a Branch i × Fits e Branch (after a Branch i))) h
  Fits (row conditional (more_trees c (more_trees t (more_trees e no_trees)))) p h =
      FitsAfterInlineFlags (row conditional (more_trees c (more_trees t (more_trees e no_trees))))
      (FitsInParens (λ i. let j = after c Whole i in FitsAsCondition c (Fits c Whole i)
      × MayOpenIf (is_empty t && is_empty e) i × Fits t Branch j × Fits e Whole (after t Branch j))) h
  Fits _ p h = Unit {0}

  -- each at this precedence, one after another
  pub FitAll : Trees → Precedence → Context → Type 0
  FitAll no_trees p h = Unit {0}
  FitAll (more_trees t ts) p h = Fits t p h × FitAll ts p (after t p h)
