-- A plain character is a leaf, and so is an escape. Where no quantifier follows, none is recorded.
use Rattle.std.proofs.Common.{◌≡◌, ℕ, Bool, true, false, [], ◌∷◌, None, refl, sym, ap, ◌∙◌, subst, if◌then◌else◌}
use Prim.Native.Char.{code}
use Rattle.fancy_lex.specs.Escape.{escape}
use Rattle.fancy_lex.specs.Escaped.{Escape}
use Rattle.fancy_lex.specs.Escaped as escaped
use Rattle.fancy_lex.specs.LayoutSteps.{is_layout, after_comment_start}
use Rattle.fancy_lex.specs.Reading.{gives}
use Rattle.fancy_lex.specs.Text.{Text, bytes, reach_of}
use Rattle.fancy_lex.specs.TokenComments.{escape_comments}
use Rattle.fancy_lex.specs.declared.flags.Flags.{Flags}
use Rattle.fancy_grammar.specs.Trivia.{comments_in_start}
use Rattle.std.proofs.Common.{arith}
use Rattle.std.proofs.lemmas.Bool.Decides.{nat_tests}
use Rattle.fancy_grammar.specs.AtomStart.{atom_start, leaf_node, read}
use Rattle.fancy_grammar.specs.Join.{is_empty}
use Rattle.fancy_grammar.specs.Plain.{is_special, is_suffix}
use Rattle.fancy_grammar.specs.Quantified.{quant, max_adjacent}
use Rattle.fancy_grammar.specs.Spans.{if_done}
use Rattle.fancy_grammar.specs.State.{ends, State, at, done}
use Rattle.fancy_grammar.specs.Tree.{Tree, literal}
use Rattle.fancy_grammar.proofs.PlainLemmas.{unmoved, not_open, not_paren, no_layout, no_end, is_leaf, no_counts}
use Rattle.fancy_grammar.proofs.PlainLemmas.{no_quant, no_layout_at_end, no_counts_at_end, no_quant_at_end}
use Rattle.fancy_grammar.proofs.PlainLemmas.{backslash_no_layout, is_escape, no_comments, no_comments_at_end}
use Rattle.fancy_grammar.proofs.PlainLemmas.{no_layout_at_paren, no_comments_at_paren, no_counts_at_paren, no_quant_at_paren}
use Rattle.fancy_syntax.specs.Log.{Log}
use Rattle.fancy_syntax.specs.Machine.{IsPlainLeaf}
use Rattle.fancy_syntax.specs.Recording.{quant_recorded, adjacent_recorded, quants_recorded}
use Rattle.fancy_syntax.proofs.PassedLemmas.{nothing_passed}
use Rattle.fancy_syntax.proofs.RecordingLemmas.{recorded_ends}

-- if no quantifier follows, none is recorded
none_recorded : (left : ℕ) (a : Tree) (s : State) (l : Log) → ((k : ℕ) → quant k a s ≡ done a s) →
    quant_recorded a s l ≡ l → quants_recorded left (done a s) l ≡ l
none_recorded left a s l e h =
    ap (λ o. if_done o (λ b t. if t.flags.oniguruma_mode then adjacent_recorded max_adjacent b t m else m) m) (e left)
    ∙ either s.flags.oniguruma_mode (recorded_ends max_adjacent a s m (e (bytes s.rest)) (unmoved s) ∙ ap
    (quant_recorded a s) h ∙ h) h
  where
    m : Log
    m = quant_recorded a s l

    either : (b : Bool) {n k : Log} → n ≡ l → k ≡ l → (if b then n else k) ≡ l
    either true i j = i
    either false i j = j

pub unquantified_recorded_at_end : (s : State) (left : ℕ) (a : Tree) (l : Log) → s.rest ≡ [] →
    quants_recorded left (done a s) l ≡ l
unquantified_recorded_at_end s left a l e =
    subst (λ t. quants_recorded left (done a (at s t)) l ≡ l) (sym e)
    (none_recorded left a (at s []) l (λ k. no_quant_at_end k a s)
    (rw (
      no_layout_at_end s.flags.ignore_space,
      no_counts_at_end s.flags.ignore_space,
      no_comments_at_end s.flags.ignore_space,
    ) (nothing_passed l)))

pub unquantified_recorded_at_paren : (s : State) (t : Text) (left : ℕ) (a : Tree) (l : Log) → s.rest ≡ code "(" ∷ t →
    ◌≡◌ {A = _} (after_comment_start (code "(" ∷ t)) None → quants_recorded left (done a s) l ≡ l
unquantified_recorded_at_paren s t left a l e h =
    subst (λ u. quants_recorded left (done a (at s u)) l ≡ l) (sym e)
    (none_recorded left a (at s (code "(" ∷ t)) l (λ k. no_quant_at_paren k a s t h)
    (rw (
      no_layout_at_paren s.flags.ignore_space t h,
      no_counts_at_paren s.flags.ignore_space t,
      no_comments_at_paren s.flags.ignore_space t h,
    ) (nothing_passed l)))

pub unquantified_recorded : (s : State) (c : ℕ) (t : Text) (left : ℕ) (a : Tree) (l : Log) → s.rest ≡ c ∷ t →
    is_layout s.flags.ignore_space c ≡ false → is_suffix c ≡ false → quants_recorded left (done a s) l ≡ l
unquantified_recorded s c t left a l e x h =
    subst (λ u. quants_recorded left (done a (at s u)) l ≡ l) (sym e)
    (none_recorded left a (at s (c ∷ t)) l (λ k. no_quant k c a s t x h)
    (rw (
      no_layout c s.flags.ignore_space t (not_paren c h) x,
      no_counts c s.flags.ignore_space t h,
      no_comments c s.flags.ignore_space t (not_paren c h) x,
    ) (nothing_passed l)))

-- a character that is not special begins no token with comments in it
no_token : (f : Flags) (c : ℕ) (t : Text) → is_special c ≡ false → comments_in_start f (c ∷ t) (reach_of t) ≡ []
no_token f c t h = grind (arith, nat_tests)

pub is_plain_literal : (s : State) (c : ℕ) (t : Text) → is_layout s.flags.ignore_space c ≡ false →
    s.rest ≡ c ∷ t → is_special c ≡ false → IsPlainLeaf s (literal (c ∷ []) s.flags.casei) (at s t)
is_plain_literal s c t x e h = record {
  more = ap ends e ∙ no_end c t h;
  no_layout = rw e (no_layout c s.flags.ignore_space t (not_open c h) x);
  no_comments = rw e (no_comments c s.flags.ignore_space t (not_open c h) x);
  leaf = λ d. subst (λ u. atom_start d (at s u) ≡ read (done (literal (c ∷ []) s.flags.casei) (at s t))) (sym e)
      (is_leaf d c s t h);
  solid = refl;
  no_inner = rw e (no_token s.flags c t h);
}

leaf_is_solid : (e : Escape) → is_empty (leaf_node e) ≡ false
leaf_is_solid (escaped.literal c casei) = refl
leaf_is_solid e = refl

pub is_plain_escape : (s : State) (t u : Text) (e : Escape) → s.rest ≡ code "\\" ∷ t →
    escape s.flags false t ≡ gives e u → escape_comments t (reach_of u) ≡ [] → IsPlainLeaf s (leaf_node e) (at s u)
is_plain_escape s t u e i h n = record {
  more = ap ends i;
  no_layout = rw i (no_layout (code "\\") s.flags.ignore_space t refl (backslash_no_layout s.flags.ignore_space));
  no_comments = rw i (no_comments (code "\\") s.flags.ignore_space t refl (backslash_no_layout s.flags.ignore_space));
  leaf = λ d. subst (λ v. atom_start d (at s v) ≡ read (done (leaf_node e) (at s u))) (sym i) (is_escape d s t u e h);
  solid = leaf_is_solid e;
  no_inner = rw i n;
}
