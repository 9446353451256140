-- What is true of each node of a raw tree under the flags that its pattern is parsed under, by how trees are built.
use Rattle.std.proofs.Common.{◌≡◌, ℕ, ◌<◌, ◌≤◌, ◌^◌, ◌∷◌, [], List, refl, sym, subst, arith, Bool, true, false}
use Rattle.std.proofs.Common.{length, if◌then◌else◌, IfSome, nat_lt, ap, ◌∙◌}
use Rattle.std.specs.Prelude.{◌&&◌}
use Rattle.std.proofs.lemmas.Bool.{cond_both, and_parts}
use Rattle.std.proofs.lemmas.Bool.Decides.{nat_tests}
use Rattle.std.specs.List.{AllByRecursion}
use Rattle.fancy_lex.specs.Class.{class}
use Rattle.fancy_lex.specs.Escape.{escape}
use Rattle.fancy_lex.specs.Escaped as escaped
use Rattle.fancy_lex.specs.Reading.{gives}
use Rattle.fancy_lex.specs.Text.{Text, bytes, position_at}
use Rattle.fancy_lex.specs.declared.flags.Flags.{Flags}
use Rattle.fancy_grammar.specs.Written.{is_after_backslash}
use Rattle.fancy_lex.specs.declared.counts.Counts.{Counts}
use Rattle.fancy_grammar.specs.Grammar.{branches_of, conditional_of, clear_or_stopper}
use Rattle.fancy_grammar.specs.GroupKind.{GroupKind, capture, flag_group, look, atomic, define, repeater, group_node}
use Rattle.fancy_grammar.specs.Join.{join, choice, solid, is_empty, one_or}
use Rattle.fancy_grammar.specs.Label as label
use Rattle.fancy_grammar.specs.Label.{AstReference, ast_backref, ast_call, ast_condition}
use Rattle.fancy_grammar.specs.Preorder.{preorder, preorder_all}
use Rattle.fancy_grammar.specs.Quantified.{is_swapped, quantified, is_repeatable, Suffix}
use Rattle.fancy_grammar.specs.Tree.{leaf, Tree, Trees, no_trees, more_trees, concat, alt, trees_of, list_of}
use Rattle.fancy_grammar.specs.Tree.{over, row}
use Rattle.fancy_grammar.proofs.Writable.{IsNameWritable, IsLevelWritable}
use Rattle.fancy_grammar.proofs.OutcomeLemmas.{each_append, each_solid}
use Rattle.fancy_grammar.proofs.TreeLaws.{list_back}
use Rattle.fancy_pattern.proofs.Parsed.Lists.{each_split}
use Rattle.fancy_pattern.proofs.PatternLaws.Needed.{IsLineOfMode}
use Rattle.fancy_pattern.proofs.Parsed.Readers.{IsSameMode, AreWords}
use Rattle.fancy_pattern.proofs.Parsed.Targets.{IsTargetRead, IsCallRead}

-- ---- nodes

-- a reader gave the text: for an escape outside a class, or for a class, under flags of the same mode
pub data IsSourceRead (f : Flags) (s : Text) (casei : Bool) : Type 0 where
  by_escape : (g : Flags) (t u : Text) → IsSameMode f g → escape g false t ≡ gives (escaped.delegate s casei) u →
      IsSourceRead f s casei
  by_class : (g : Flags) (t u : Text) → IsSameMode f g → g.casei ≡ casei → class g t ≡ gives s u →
      IsSourceRead f s casei

abbrev pub IsSolid : Tree → Type 0
IsSolid t = is_empty t ≡ false

-- two trees, as in an absent expression
abbrev pub AreTwo : Trees → Type 0
AreTwo (more_trees a (more_trees e no_trees)) = Unit {0}
AreTwo _ = ⊥

-- a condition and two branches, of which one is not Empty
abbrev pub AreBranched : Trees → Type 0
AreBranched (more_trees c (more_trees t (more_trees e no_trees))) = (is_empty t && is_empty e) ≡ false
AreBranched _ = ⊥

-- a reference at a reach of the text: what it names was read there, and if it has a level, it does not follow a
-- backslash
abbrev pub IsAstRead : Text → AstReference → ℕ → Type 0
IsAstRead text (ast_backref t casei level) p =
    IsTargetRead t × IfSome level IsLevelWritable
    × IfSome level (λ z. is_after_backslash text (position_at (bytes text) p) ≡ false)
IsAstRead text (ast_call t) p = IsCallRead t
IsAstRead text (ast_condition t level) p = IsTargetRead t × IfSome level IsLevelWritable

-- Under flags of the same mode: a byte is read without UNICODE, a general new line records UNICODE, the start of a line
-- is that of the mode, and the text of a Delegate was read. The operand of a quantifier is repeatable, its counts fit
-- in a word, and in Oniguruma mode they are in order; a stopper holds no Empty; a name can be written. A Concat has two
-- parts or more, none of them Empty, an absent expression two, and a conditional three, of which a branch is not Empty.
abbrev pub IsParsedNode : Flags → Text → Tree → Type 0
IsParsedNode f text (leaf (label.literal_bytes w)) = f.unicode ≡ false
IsParsedNode f text (leaf (label.general_newline unicode)) = f.unicode ≡ unicode
IsParsedNode f text (leaf (label.assertion a)) = IsLineOfMode f a
IsParsedNode f text (leaf (label.delegate s casei)) = IsSourceRead f s casei
IsParsedNode f text (leaf (label.ast_node r p)) = IsAstRead text r p
IsParsedNode f text (over (label.repeat lo hi greedy) t) =
    (is_repeatable f t ≡ true) × (lo < 2 ^ 64) × (hi < 2 ^ 64) × (f.oniguruma_mode ≡ true → lo ≤ hi)
IsParsedNode f text (over label.stopper t) = IsSolid t
IsParsedNode f text (over (label.ast_group name reach) t) = IfSome name IsNameWritable
IsParsedNode f text (row label.concat ts) = (2 ≤ length (list_of ts)) × AllByRecursion IsSolid (list_of ts)
IsParsedNode f text (row label.expression ts) = AreTwo ts
IsParsedNode f text (row label.conditional ts) = AreBranched ts
IsParsedNode f text _ = Unit {0}

-- ---- trees

module _ (f : Flags) (text : Text) where
  abbrev pub IsParsed : Tree → Type 0
  IsParsed t = AllByRecursion (IsParsedNode f text) (preorder t)

  abbrev pub AreParsed : List Tree → Type 0
  AreParsed ts = AllByRecursion IsParsed ts

  pub all_parsed : (ts : List Tree) → AreParsed ts → AllByRecursion (IsParsedNode f text) (preorder_all (trees_of ts))
  all_parsed [] h = tt
  all_parsed (t ∷ ts) h =
      each_append (IsParsedNode f text) (preorder t) (preorder_all (trees_of ts)) h.0 (all_parsed ts h.1)

  each_parsed : (ts : Trees) → AllByRecursion (IsParsedNode f text) (preorder_all ts) → AreParsed (list_of ts)
  each_parsed no_trees h = tt
  each_parsed (more_trees t ts) h =
      let (a, b) = each_split (IsParsedNode f text) (preorder t) (preorder_all ts) h in (a, each_parsed ts b)

  solid_solid : (ts : List Tree) → AllByRecursion IsSolid (solid ts)
  solid_solid [] = tt
  solid_solid (t ∷ ts) = by_test (is_empty t) refl (solid_solid ts)
    where
      by_test : (b : Bool) → is_empty t ≡ b → AllByRecursion IsSolid (solid ts) →
          AllByRecursion IsSolid (if b then solid ts else t ∷ solid ts)
      by_test true e h = h
      by_test false e h = (e, h)

  pub join_parsed : (ts : List Tree) → AreParsed ts → IsParsed (join ts)
  join_parsed ts h = of_solid (solid ts) (solid_solid ts) (each_solid IsParsed ts h)
    where
      of_solid : (l : List Tree) → AllByRecursion IsSolid l → AreParsed l → IsParsed (one_or concat l)
      of_solid [] e k = (tt, tt)
      of_solid (t ∷ []) e k = k.0
      of_solid (t ∷ u ∷ l) e k = (
        (omega arith, subst (AllByRecursion IsSolid) (sym (list_back (t ∷ u ∷ l))) e),
        all_parsed (t ∷ u ∷ l) k,
      )

  pub choice_parsed : (ts : List Tree) → AreParsed ts → IsParsed (choice ts)
  choice_parsed [] h = (tt, tt)
  choice_parsed (t ∷ []) h = h.0
  choice_parsed (t ∷ u ∷ ts) h = (tt, all_parsed (t ∷ u ∷ ts) h)

  less_ordered : (a b : ℕ) → nat_lt a b ≡ true → a ≤ b
  less_ordered a b h = grind (arith, nat_tests)

  not_less_ordered : (a b : ℕ) → nat_lt a b ≡ false → b ≤ a
  not_less_ordered a b h = grind (arith, nat_tests)

  pub quantified_parsed : (g : Flags) (c : Counts) (m : Suffix) (a : Tree) → g.oniguruma_mode ≡ f.oniguruma_mode →
      is_repeatable f a ≡ true → AreWords c → IsParsed a → IsParsed (quantified g c m a)
  quantified_parsed g c m a same r w h =
      cond_both (is_swapped g c) _ _ IsParsed
      (λ e. (tt, ((r, w.1, w.0, (λ _. less_ordered c.high c.low (and_parts g.oniguruma_mode _ e).1)), h)))
      (λ e. let ordered : f.oniguruma_mode ≡ true → c.low ≤ c.high
      = λ o. not_less_ordered c.high c.low (sym (ap (λ b. b && nat_lt c.high c.low) (same ∙ o)) ∙ e) in
      cond_both m.possessive _ _ IsParsed (λ _. (tt, ((r, w.0, w.1, ordered), h)))
      (λ _. ((r, w.0, w.1, ordered), h)))

  -- the name in the opening of a group can be written
  abbrev pub IsKindParsed : GroupKind → Type 0
  IsKindParsed (capture name) = IfSome name IsNameWritable
  IsKindParsed _ = Unit {0}

  pub node_parsed : (h : GroupKind) (p : ℕ) (r : Tree) → IsKindParsed h → IsParsed r → IsParsed (group_node h p r)
  node_parsed (capture name) p r n i = (n, i)
  node_parsed flag_group p r n i = i
  node_parsed (look l) p r n i = (tt, i)
  node_parsed atomic p r n i = (tt, i)
  node_parsed define p r n i = (tt, i)
  node_parsed repeater p r n i = (tt, i)

  pub conditional_parsed : (c t e : Tree) → IsParsed c → IsParsed t → IsParsed e → IsParsed (conditional_of c t e)
  conditional_parsed c t e h i j =
      cond_both (is_empty t && is_empty e) _ _ IsParsed (λ _. h)
      (λ n. (n, all_parsed (c ∷ t ∷ e ∷ []) (h, (i, (j, tt)))))

  pub branches_parsed : (r : Tree) → IsParsed r → IsParsed (branches_of r).0 × IsParsed (branches_of r).1
  branches_parsed (alt (more_trees t ts)) h =
      let each = each_parsed (more_trees t ts) h.1 in (each.0, choice_parsed (list_of ts) each.1)
  branches_parsed r h = (h, (tt, tt))

  pub expression_parsed : (a e : Tree) → IsParsed a → IsParsed e →
      IsParsed (row label.expression (more_trees a (more_trees e no_trees)))
  expression_parsed a e h i = (tt, all_parsed (a ∷ e ∷ []) (h, (i, tt)))

  pub stopper_parsed : (a : Tree) → IsParsed a → IsParsed (clear_or_stopper a)
  stopper_parsed a h = cond_both (is_empty a) _ _ IsParsed (λ _. (tt, tt)) (λ e. (e, h))
