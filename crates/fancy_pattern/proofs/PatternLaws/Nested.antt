-- A resolved part nests in its text no deeper than it did in the pattern: definitions for each part.
use Rattle.std.proofs.Common.{◌≡◌, ℕ, ◌+◌, ◌<◌, ◌≤◌, Bool, true, false, List, [], ◌∷◌, length}
use Rattle.std.proofs.Common.{Some, None, refl, sym, ◌∙◌, arith, ◌⊎◌, inl, inr, nat_lt, ltb-true}
use Rattle.std.proofs.lemmas.Bool.{cond_both, false≢true, ltb-false}
use Rattle.std.specs.List.{AllByRecursion}
use Rattle.fancy_lex.specs.Flags.{no_flag}
use Rattle.fancy_lex.specs.Text.{Text, position_at}
use Rattle.fancy_lex.specs.declared.flags.Flags.{Flags}
use Rattle.fancy_grammar.specs.Meaning.{Meaning, number, refers_to}
use Rattle.fancy_grammar.specs.Ranks.{numbered_openings_in}
use Rattle.fancy_grammar.specs.Depth.{max_depth}
use Rattle.fancy_grammar.specs.Items.{openings, role_of, target_of}
use Rattle.fancy_grammar.specs.Join.{is_empty, solid, one_or, join, choice}
use Rattle.fancy_grammar.specs.Label as label
use Rattle.fancy_grammar.specs.Label.{Leaf, AstReference, ast_backref, ast_call, ast_condition}
use Rattle.fancy_grammar.specs.Pattern.{is_operand}
use Rattle.fancy_grammar.specs.Quantified.{is_repeatable}
use Rattle.fancy_grammar.specs.Resolved.{resolved_in, resolved_all, reference_node}
use Rattle.fancy_grammar.specs.State.{State}
use Rattle.fancy_grammar.specs.Tree.{Tree, leaf, over, row, Trees, no_trees, more_trees, trees_of, concat}
use Rattle.fancy_grammar.specs.declared.precedence.Precedence.{Precedence}
use Rattle.fancy_grammar.specs.declared.precedence.Precedence.TheVariants.{Whole, Branch, Piece, Operand}
use Rattle.fancy_grammar.proofs.PatternDepth.{is_in_parens}
use Rattle.fancy_grammar.proofs.OutcomeLemmas.{each_solid}
use Rattle.fancy_pattern.proofs.PatternLaws.AtomStart.{IsLast, IsPlain, LeafRead}
use Rattle.fancy_pattern.proofs.PatternLaws.Fitting.{Fit, EachFit, FitAlone, all_fit, leaf_fit, IsUnquantified, alone_fit}
use Rattle.fancy_pattern.proofs.PatternLaws.Fitting.{IsLow}
use Rattle.fancy_pattern.proofs.PatternLaws.Needed.{like_repeatable}
use Rattle.fancy_pattern.proofs.PatternLaws.Suited.{none_met, Suits, SuitAll}

-- ---- where what is read may be written

-- a quantifier may follow it in this mode
abbrev pub Repeats : Bool → Tree → Type 0
Repeats in_mode r = (f : Flags) → f.oniguruma_mode ≡ in_mode → is_repeatable f r ≡ true

pub repeats : (in_mode : Bool) (r : Tree) (f : Flags) → f.oniguruma_mode ≡ in_mode → is_repeatable f r ≡ true →
    Repeats in_mode r
repeats in_mode r f o e g m = like_repeatable r g f (m ∙ sym o) ∙ e

-- the precedences at which a tree may be written if it is read as an alternation (0), a branch (1), a piece (2) or an
-- atom (3)
abbrev pub AllowedAt : Bool → ℕ → Tree → Precedence → Type 0
AllowedAt in_mode k r Whole = Unit {0}
AllowedAt in_mode k r Branch = 1 ≤ k
AllowedAt in_mode k r Piece = (2 ≤ k) × (is_empty r ≡ false)
AllowedAt in_mode k r (Operand n) = (3 ≤ k) × Repeats in_mode r

allowed_more : (in_mode : Bool) (j k : ℕ) (r : Tree) (p : Precedence) → j ≤ k → AllowedAt in_mode j r p →
    AllowedAt in_mode k r p
allowed_more in_mode j k r Whole l u = tt
allowed_more in_mode j k r Branch l u = omega (arith, l, u)
allowed_more in_mode j k r Piece l u = (omega (arith, l, u.0), u.1)
allowed_more in_mode j k r (Operand n) l u = (omega (arith, l, u.0), u.1)

pub low : (in_mode : Bool) (k : ℕ) (r : Tree) (p : Precedence) → k ≤ 2 → AllowedAt in_mode k r p → IsLow p
low in_mode k r Whole l u = tt
low in_mode k r Branch l u = tt
low in_mode k r Piece l u = tt
low in_mode k r (Operand n) l u = absurd (omega (arith, l, u.0))

operand_repeats : (in_mode : Bool) (k : ℕ) (r : Tree) (p : Precedence) → AllowedAt in_mode k r p →
    is_operand p ≡ true → Repeats in_mode r
operand_repeats in_mode k r Whole u e = absurd (false≢true e)
operand_repeats in_mode k r Branch u e = absurd (false≢true e)
operand_repeats in_mode k r Piece u e = absurd (false≢true e)
operand_repeats in_mode k r (Operand n) u e = u.1

-- what cannot be repeated is never an operand there
pub never_operand : (in_mode : Bool) (k : ℕ) (r : Tree) (p : Precedence) (f : Flags) → f.oniguruma_mode ≡ in_mode →
    is_repeatable f r ≡ false → AllowedAt in_mode k r p → IsLow p
never_operand in_mode k r Whole f o e u = tt
never_operand in_mode k r Branch f o e u = tt
never_operand in_mode k r Piece f o e u = tt
never_operand in_mode k r (Operand n) f o e u = absurd (false≢true (sym e ∙ u.1 f o))

-- ---- the parts

-- with at most d groups open, the resolved tree fits wherever it may be written; with fewer open, it fits in place of a
-- group; and it resolves to an Empty only where a group may open
pub record Fitted (in_mode : Bool) (R : ℕ → Tree → Tree) (k d : ℕ) (r : Tree) : Type 0 where
  pub fits : (c : ℕ) (p : Precedence) → AllowedAt in_mode k r p → Fit in_mode d p (R c r)
  pub alone : (c : ℕ) (p : Precedence) → FitAlone in_mode d p (R c r)
  pub hollow : (c : ℕ) → is_empty (R c r) ≡ true → is_empty r ≡ false → d + 1 < max_depth

abbrev pub EachFitted : Bool → (ℕ → Tree → Tree) → ℕ → ℕ → Trees → Type 0
EachFitted in_mode R k d no_trees = Unit {0}
EachFitted in_mode R k d (more_trees t ts) = Fitted in_mode R k d t × EachFitted in_mode R k d ts

-- the same for the branches of a conditional
abbrev pub BranchesFitted : Bool → (ℕ → Tree → Tree) → ℕ → Tree → Type 0
BranchesFitted in_mode R d (row label.alt (more_trees t ts)) = EachFitted in_mode R 1 d (more_trees t ts)
BranchesFitted in_mode R d r = Fitted in_mode R 1 d r

-- a part that is read from s up to t, with d groups open
pub record Part (in_mode : Bool) (R : ℕ → Tree → Tree) (k d : ℕ) (s : State) (r : Tree) (t : State) : Type 0 where
  pub fitted : Fitted in_mode R k d r
  pub branches : BranchesFitted in_mode R d r
  pub suits : IsLast d → (c : ℕ) → Suits s.flags (R c r)
  pub stays : IsLast d → t.flags ≡ s.flags
  pub mode : t.flags.oniguruma_mode ≡ in_mode

-- parts that are read one after another
pub record Parts (in_mode : Bool) (R : ℕ → Tree → Tree) (k d : ℕ) (s : State) (l : List Tree) (t : State) : Type 0 where
  pub each : AllByRecursion (λ r. Fitted in_mode R k d r × BranchesFitted in_mode R d r) l
  pub suits : IsLast d → AllByRecursion (λ r. (c : ℕ) → Suits s.flags (R c r)) l
  pub stays : IsLast d → t.flags ≡ s.flags
  pub mode : t.flags.oniguruma_mode ≡ in_mode

-- what is read for a group at depth d
pub record Grouped (in_mode : Bool) (R : ℕ → Tree → Tree) (d : ℕ) (r : Tree) : Type 0 where
  pub opens : d + 1 < max_depth
  pub fitted : Fitted in_mode R 3 d r
  pub branches : BranchesFitted in_mode R d r

pub fewer : (in_mode : Bool) (R : ℕ → Tree → Tree) (j k d : ℕ) (r : Tree) → j ≤ k → Fitted in_mode R k d r →
    Fitted in_mode R j d r
fewer in_mode R j k d r l h = record {
  fits = λ c p u. h.fits c p (allowed_more in_mode j k r p l u);
  alone = h.alone;
  hollow = h.hollow;
}

or_last : (d : ℕ) → (d + 1 < max_depth) ⊎ IsLast d
or_last d = by_test (nat_lt (d + 1) max_depth) refl
  where
    by_test : (b : Bool) → nat_lt (d + 1) max_depth ≡ b → (d + 1 < max_depth) ⊎ IsLast d
    by_test true e = inl (ltb-true _ _ e)
    by_test false e = inr (ltb-false _ _ e)

-- how many of its groups have a number
abbrev pub counted_in : Bool → Tree → ℕ
counted_in named t = length (numbered_openings_in named (openings t))

module _ (in_mode : Bool) (z : ℕ) (named : Bool) (numbers_of : Text → List ℕ) where
  abbrev R : ℕ → Tree → Tree
  R = resolved_in z named numbers_of

  -- ---- leaves

  -- a leaf is not written as a group if none may open
  bare_here : (d : ℕ) (l : Leaf) → (IsLast d → is_in_parens l ≡ false) → is_in_parens l ≡ true → d + 1 < max_depth
  bare_here d l h e = by_either (or_last d)
    where
      by_either : (d + 1 < max_depth) ⊎ IsLast d → d + 1 < max_depth
      by_either (inl b) = b
      by_either (inr x) = absurd (false≢true (sym (h x) ∙ e))

  reference_fit : (f : Flags) (d : ℕ) (p : Precedence) (m : Meaning) (a : AstReference) (position : ℕ) →
      (IsLast d → IsPlain f (label.ast_node a position)) → Fit in_mode d p (reference_node z m a position)
  reference_fit f d p (number n) (ast_backref t casei None) position h =
      leaf_fit in_mode (label.backref n casei) d p refl (λ _ f o. refl) (λ e. absurd (false≢true e))
  reference_fit f d p (number n) (ast_backref t casei (Some level)) position h =
      leaf_fit in_mode (label.backref_at_level n level casei) d p refl (λ _ f o. refl) (λ e. absurd (false≢true e))
  reference_fit f d p (number n) (ast_call t) position h =
      leaf_fit in_mode (label.subroutine_call n) d p refl (λ _ f o. refl) (λ e. absurd (false≢true e))
  reference_fit f d p (number n) (ast_condition t level) position h =
      leaf_fit in_mode (label.backref_exists n level) d p refl (λ _ f o. refl)
      (bare_here d (label.backref_exists n level) (λ x. absurd (h x)))
  reference_fit f d p m (ast_backref t casei level) position h =
      leaf_fit in_mode (label.ast_node (ast_backref t casei level) (position_at z position)) d p refl (λ _ f o. refl)
      (λ e. absurd (false≢true e))
  reference_fit f d p m (ast_call t) position h =
      leaf_fit in_mode (label.ast_node (ast_call t) (position_at z position)) d p refl (λ _ f o. refl)
      (bare_here d (label.ast_node (ast_call t) (position_at z position)) h)
  reference_fit f d p m (ast_condition t level) position h =
      leaf_fit in_mode (label.ast_node (ast_condition t level) (position_at z position)) d p refl (λ _ f o. refl)
      (λ e. absurd (false≢true e))

  reference_solid : (m : Meaning) (a : AstReference) (position : ℕ) → is_empty (reference_node z m a position) ≡ false
  reference_solid (number n) (ast_backref t casei None) position = refl
  reference_solid (number n) (ast_backref t casei (Some level)) position = refl
  reference_solid (number n) (ast_call t) position = refl
  reference_solid (number n) (ast_condition t level) position = refl
  reference_solid m a position = refl

  reference_suits : (f : Flags) (m : Meaning) (a : AstReference) (position : ℕ) → IsPlain f (label.ast_node a position) →
      Suits f (reference_node z m a position)
  reference_suits f (number n) (ast_backref t casei None) position h =
      record { casei = h; multi = tt; dotnl = tt; crlf = tt }
  reference_suits f (number n) (ast_backref t casei (Some level)) position h =
      record { casei = h; multi = tt; dotnl = tt; crlf = tt }
  reference_suits f (number n) (ast_call t) position h = none_met f
  reference_suits f (number n) (ast_condition t level) position h = none_met f
  reference_suits f m a position h = none_met f

  empty_fit : (k d : ℕ) (p : Precedence) → AllowedAt in_mode k (leaf label.empty) p →
      Fit in_mode d p (leaf label.empty)
  empty_fit k d Whole u h o l r = λ e. absurd (false≢true e)
  empty_fit k d Branch u h o l r = λ e. absurd (false≢true e)
  empty_fit k d Piece u h o l r = absurd (false≢true (sym u.1))
  empty_fit k d (Operand n) u h o l r = absurd (false≢true (u.1 h.flags o))

  leaf_allowed : (f : Flags) (d : ℕ) (l : Leaf) → (IsLast d → IsPlain f l) → (c : ℕ) (p : Precedence) →
      AllowedAt in_mode 3 (leaf l) p → Fit in_mode d p (R c (leaf l))
  leaf_allowed f d label.empty h c p u = empty_fit 3 d p u
  leaf_allowed f d (label.ast_node a position) h c p u =
      reference_fit f d p (refers_to numbers_of c (role_of a) (target_of a)) a position h
  leaf_allowed f d l h c p u =
      leaf_fit in_mode l d p refl (operand_repeats in_mode 3 (leaf l) p u) (bare_here d l (λ x. (h x).0))

  leaf_hollow : (d : ℕ) (l : Leaf) (c : ℕ) → is_empty (R c (leaf l)) ≡ true → is_empty (leaf l) ≡ false →
      d + 1 < max_depth
  leaf_hollow d (label.ast_node a position) c e n =
      absurd (false≢true (sym (reference_solid (refers_to numbers_of c (role_of a) (target_of a)) a position) ∙ e))
  leaf_hollow d l c e n = absurd (false≢true (sym n ∙ e))

  reference_bare : (m : Meaning) (a : AstReference) (position : ℕ) → IsUnquantified (reference_node z m a position)
  reference_bare (number n) (ast_backref t casei None) position = tt
  reference_bare (number n) (ast_backref t casei (Some level)) position = tt
  reference_bare (number n) (ast_call t) position = tt
  reference_bare (number n) (ast_condition t level) position = tt
  reference_bare m a position = tt

  leaf_bare : (c : ℕ) (l : Leaf) → IsUnquantified (R c (leaf l))
  leaf_bare c (label.ast_node a position) = reference_bare (refers_to numbers_of c (role_of a) (target_of a)) a position
  leaf_bare c l = tt

  leaf_fitted : (f : Flags) (d : ℕ) (l : Leaf) → (IsLast d → IsPlain f l) → Fitted in_mode R 3 d (leaf l)
  leaf_fitted f d l h = record {
    fits = leaf_allowed f d l h;
    alone = λ c p. alone_fit in_mode d p (R c (leaf l)) (leaf_bare c l) (leaf_allowed f d l h c Whole tt);
    hollow = leaf_hollow d l;
  }

  leaf_suits : (f : Flags) (l : Leaf) → IsPlain f l → (c : ℕ) → Suits f (R c (leaf l))
  leaf_suits f (label.ast_node a position) h c =
      reference_suits f (refers_to numbers_of c (role_of a) (target_of a)) a position h
  leaf_suits f l h c = h.1

  pub leaf_part : (d : ℕ) (s : State) (r : Tree) (t : State) → LeafRead in_mode d s r t → Part in_mode R 3 d s r t
  leaf_part d s (leaf l) t h =
      let k = leaf_fitted s.flags d l h.plain in record {
        fitted = k;
        branches = fewer in_mode R 1 3 d (leaf l) (omega arith) k;
        suits = λ x. leaf_suits s.flags l (h.plain x);
        stays = h.stays;
        mode = h.mode;
      }
  leaf_part d s (over w r) t h = absurd h.is_leaf
  leaf_part d s (row w rs) t h = absurd h.is_leaf

  pub empty_part : (d : ℕ) (s : State) → s.flags.oniguruma_mode ≡ in_mode → Part in_mode R 3 d s (leaf label.empty) s
  empty_part d s o =
      leaf_part d s (leaf label.empty) s
      (record { is_leaf = tt; plain = λ _. (refl, none_met s.flags); stays = λ _. refl; mode = o })

  -- if a group may open, any leaf fits
  pub open_leaf : (d : ℕ) (l : Leaf) → d + 1 < max_depth → Grouped in_mode R d (leaf l)
  open_leaf d l b =
      let k = leaf_fitted no_flag d l (λ x. absurd (omega (arith, x, b))) in
      record { opens = b; fitted = k; branches = fewer in_mode R 1 3 d (leaf l) (omega arith) k }

  -- ---- pieces, and branches

  abbrev pub IsFitted : ℕ → ℕ → Tree → Type 0
  IsFitted k d r = Fitted in_mode R k d r × BranchesFitted in_mode R d r

  pub empty_fitted : (k d : ℕ) → Fitted in_mode R k d (leaf label.empty)
  empty_fitted k d =
      record {
        fits = λ c p u. empty_fit k d p u;
        alone = λ c p. alone_fit in_mode d p (leaf label.empty) tt (empty_fit k d Whole tt);
        hollow = λ c e n. absurd (false≢true (sym n));
      }

  pieces_each : (d : ℕ) (l : List Tree) →
      AllByRecursion (λ r. IsFitted 2 d r × (is_empty r ≡ false)) l → (c : ℕ) →
      EachFit in_mode d Piece (resolved_all z named numbers_of c (trees_of l))
  pieces_each d [] h c = tt
  pieces_each d (t ∷ ts) h c =
      (((h.0).0).0.fits c Piece (omega arith, (h.0).1), pieces_each d ts h.1 _)

  solid_each : (d : ℕ) (l : List Tree) → AllByRecursion (IsFitted 2 d) l →
      AllByRecursion (λ r. IsFitted 2 d r × (is_empty r ≡ false)) (solid l)
  solid_each d [] h = tt
  solid_each d (t ∷ l) h =
      cond_both (is_empty t) _ _ (AllByRecursion (λ r. IsFitted 2 d r × (is_empty r ≡ false)))
      (λ _. solid_each d l h.1) (λ e. ((h.0, e), solid_each d l h.1))

  concat_fitted : (d : ℕ) (l : List Tree) →
      AllByRecursion (λ r. IsFitted 2 d r × (is_empty r ≡ false)) l → IsFitted 1 d (one_or concat l)
  concat_fitted d [] h = (empty_fitted 1 d, empty_fitted 1 d)
  concat_fitted d (t ∷ []) h = (fewer in_mode R 1 2 d t (omega arith) ((h.0).0).0, ((h.0).0).1)
  concat_fitted d (t ∷ u ∷ ts) h = (both, both)
    where
      inside : (c : ℕ) (p : Precedence) → AllowedAt in_mode 1 (one_or concat (t ∷ u ∷ ts)) p →
          Fit in_mode d p (R c (one_or concat (t ∷ u ∷ ts)))
      inside c Whole k =
          λ i o l r. all_fit in_mode d Piece (resolved_all z named numbers_of c (trees_of (t ∷ u ∷ ts))) i
          (pieces_each d (t ∷ u ∷ ts) h c) o l r
      inside c Branch k =
          λ i o l r. all_fit in_mode d Piece (resolved_all z named numbers_of c (trees_of (t ∷ u ∷ ts))) i
          (pieces_each d (t ∷ u ∷ ts) h c) o l r
      inside c Piece k = absurd (omega (arith, k.0))
      inside c (Operand n) k = absurd (omega (arith, k.0))

      both : Fitted in_mode R 1 d (one_or concat (t ∷ u ∷ ts))
      both = record {
        fits = inside;
        alone = λ c p. alone_fit in_mode d p (R c (one_or concat (t ∷ u ∷ ts))) tt (inside c Whole tt);
        hollow = λ c e n. absurd (false≢true e);
      }

  pub join_fitted : (d : ℕ) (l : List Tree) → AllByRecursion (IsFitted 2 d) l → IsFitted 1 d (join l)
  join_fitted d l h = concat_fitted d (solid l) (solid_each d l h)

  branches_each : (d : ℕ) (l : List Tree) → AllByRecursion (Fitted in_mode R 1 d) l → (c : ℕ) →
      EachFit in_mode d Branch (resolved_all z named numbers_of c (trees_of l))
  branches_each d [] h c = tt
  branches_each d (t ∷ ts) h c = ((h.0).fits c Branch (omega arith), branches_each d ts h.1 _)

  pub choice_fitted : (d : ℕ) (l : List Tree) → AllByRecursion (Fitted in_mode R 1 d) l →
      Fitted in_mode R 0 d (choice l)
  choice_fitted d [] h = empty_fitted 0 d
  choice_fitted d (t ∷ []) h = fewer in_mode R 0 1 d t (omega arith) h.0
  choice_fitted d (t ∷ u ∷ ts) h = record {
    fits = inside;
    alone = λ c p. alone_fit in_mode d p (R c (choice (t ∷ u ∷ ts))) tt (inside c Whole tt);
    hollow = λ c e n. absurd (false≢true e);
  }
    where
      inside : (c : ℕ) (p : Precedence) → AllowedAt in_mode 0 (choice (t ∷ u ∷ ts)) p →
          Fit in_mode d p (R c (choice (t ∷ u ∷ ts)))
      inside c Whole k =
          λ i o l r. all_fit in_mode d Branch (resolved_all z named numbers_of c (trees_of (t ∷ u ∷ ts))) i
          (branches_each d (t ∷ u ∷ ts) h c) o l r
      inside c Branch k = absurd (omega (arith, k))
      inside c Piece k = absurd (omega (arith, k.0))
      inside c (Operand n) k = absurd (omega (arith, k.0))

  each_branch : (d : ℕ) (l : List Tree) → AllByRecursion (IsFitted 1 d) l → EachFitted in_mode R 1 d (trees_of l)
  each_branch d [] h = tt
  each_branch d (t ∷ ts) h = ((h.0).0, each_branch d ts h.1)

  each_fitted : (d : ℕ) (l : List Tree) → AllByRecursion (IsFitted 1 d) l → AllByRecursion (Fitted in_mode R 1 d) l
  each_fitted d [] h = tt
  each_fitted d (t ∷ ts) h = ((h.0).0, each_fitted d ts h.1)

  choice_branches : (d : ℕ) (l : List Tree) → AllByRecursion (IsFitted 1 d) l → BranchesFitted in_mode R d (choice l)
  choice_branches d [] h = empty_fitted 1 d
  choice_branches d (t ∷ []) h = (h.0).1
  choice_branches d (t ∷ u ∷ ts) h = each_branch d (t ∷ u ∷ ts) h

  pub choice_is_fitted : (d : ℕ) (l : List Tree) → AllByRecursion (IsFitted 1 d) l → IsFitted 0 d (choice l)
  choice_is_fitted d l h = (choice_fitted d l (each_fitted d l h), choice_branches d l h)

  suits_each : (f : Flags) (l : List Tree) → AllByRecursion (λ r. (c : ℕ) → Suits f (R c r)) l → (c : ℕ) →
      SuitAll f (resolved_all z named numbers_of c (trees_of l))
  suits_each f [] h c = tt
  suits_each f (t ∷ ts) h c = (h.0 c, suits_each f ts h.1 _)

  suits_one : (f : Flags) (node : label.Row) (l : List Tree) → AllByRecursion (λ r. (c : ℕ) → Suits f (R c r)) l →
      (c : ℕ) → Suits f (R c (one_or (row node) l))
  suits_one f node [] h c = none_met f
  suits_one f node (t ∷ []) h c = h.0 c
  suits_one f node (t ∷ u ∷ ts) h c = suits_each f (t ∷ u ∷ ts) h c

  pub join_suits : (f : Flags) (l : List Tree) → AllByRecursion (λ r. (c : ℕ) → Suits f (R c r)) l → (c : ℕ) →
      Suits f (R c (join l))
  join_suits f l h = suits_one f label.concat (solid l) (each_solid (λ r. (c : ℕ) → Suits f (R c r)) l h)

  pub choice_suits : (f : Flags) (l : List Tree) → AllByRecursion (λ r. (c : ℕ) → Suits f (R c r)) l → (c : ℕ) →
      Suits f (R c (choice l))
  choice_suits f l h = suits_one f label.alt l h
