-- What leaves require of the flags, where it holds; and which flags stay the same along a text.
use Rattle.std.proofs.Common.{◌≡◌, ℕ, Bool, true, false, not, ◌&&◌, ◌||◌, [], ◌∷◌, refl, sym, ap, ◌∙◌}
use Rattle.std.proofs.Common.{if◌then◌else◌}
use Rattle.std.proofs.lemmas.Bool.{cond-false, and_parts, false≢true}
use Rattle.std.specs.List.{list_all}
use Rattle.fancy_lex.specs.declared.escape.Assertion.{Assertion}
use Rattle.fancy_lex.specs.declared.escape.Assertion.TheVariants.{EndTextIgnoreTrailingNewlines, StartLine}
use Rattle.fancy_lex.specs.declared.escape.Assertion.TheVariants.{StartLineOniguruma, EndLine}
use Rattle.fancy_lex.specs.declared.flags.Flags.{Flags}
use Rattle.fancy_grammar.specs.Label.{concat, alt, literal, any, assertion, look_around}
use Rattle.fancy_grammar.specs.Pattern.{takes_pieces, takes_branches, flags_after, flags_after_all}
use Rattle.fancy_grammar.specs.PatternNeeds.{is_kept_by_backslash, first, needs, fixed_or, with_needs, settled}
use Rattle.fancy_grammar.specs.PatternNeeds.{turns_on}
use Rattle.fancy_grammar.specs.PatternNeeds.{inline_flags, letters_between}
use Rattle.fancy_grammar.specs.Quantified.{is_repeatable}
use Rattle.fancy_grammar.specs.Tree.{Tree, leaf, over, row, Trees, no_trees, more_trees}
use Rattle.fancy_grammar.specs.declared.needs.Need.{Need}
use Rattle.fancy_grammar.specs.declared.needs.Need.TheVariants.{Free, Fixed, Torn}
use Rattle.fancy_grammar.specs.declared.needs.Needs.{Needs}
use Rattle.fancy_grammar.specs.declared.precedence.Precedence.{Precedence}
use Rattle.fancy_grammar.specs.declared.precedence.Precedence.TheVariants.{Piece, Branch}
use Rattle.fancy_grammar.proofs.Writable.{IsLike}
use Rattle.fancy_pattern.proofs.PatternLaws.Characters.{CaseFits}
use Rattle.fancy_pattern.proofs.PatternLaws.Leaves.{AnyFits, AssertionFits}

-- ---- flags that are set are not set again

fixed_again : (b : Bool) (n : Need) → fixed_or (fixed_or b n) n ≡ fixed_or b n
fixed_again b Free = refl
fixed_again b (Fixed c) = refl
fixed_again b Torn = refl

needs_again : (f : Flags) (n : Needs) → with_needs (with_needs f n) n ≡ with_needs f n
needs_again f n = λ i. record f {
  casei = fixed_again f.casei n.casei i;
  multi = fixed_again f.multi n.multi i;
  dotnl = fixed_again f.dotnl n.dotnl i;
  crlf = fixed_again f.crlf n.crlf i;
}

pub settled_again : (f : Flags) (t : Tree) → settled (settled f t) t ≡ settled f t
settled_again f t = needs_again f (needs first f.oniguruma_mode t)

off_and_on : (b : Bool) → b && not b ≡ false
off_and_on true = refl
off_and_on false = refl

pub turns_none : (f : Flags) → turns_on f f ≡ false
turns_none f = rw (off_and_on f.casei, off_and_on f.multi, off_and_on f.dotnl, off_and_on f.crlf) refl

pub no_inline_flags : (f : Flags) → inline_flags f f ≡ []
no_inline_flags f =
    let none : (turns_on f f || turns_on f f) ≡ false = ap (λ b. b || b) (turns_none f) in cond-false _ _ _ none

pub no_letters : (f : Flags) → letters_between f f ≡ []
no_letters f =
    rw (off_and_on f.casei, off_and_on f.multi, off_and_on f.dotnl, off_and_on f.crlf) refl

-- ---- what stays

either_like : (b : Bool) (f g h : Flags) → IsLike f g → IsLike f h → IsLike f (if b then g else h)
either_like true f g h e k = e
either_like false f g h e k = k

mutual
  pub like_after : (t : Tree) (p : Precedence) (f g : Flags) → IsLike f g → IsLike f (flags_after t p g)
  like_after (leaf l) p f g e = e
  like_after (over w t) p f g e = e
  like_after (row concat ts) p f g e =
      either_like (takes_pieces p) f (flags_after_all ts Piece g) g (like_after_all ts Piece f g e) e
  like_after (row alt ts) p f g e =
      either_like (takes_branches p) f (flags_after_all ts Branch g) g (like_after_all ts Branch f g e) e
  like_after (row r ts) p f g e = e

  pub like_after_all : (ts : Trees) (p : Precedence) (f g : Flags) → IsLike f g → IsLike f (flags_after_all ts p g)
  like_after_all no_trees p f g e = e
  like_after_all (more_trees t ts) p f g e = like_after_all ts p f (flags_after t p g) (like_after t p f g e)

-- only the mode decides what may be repeated
pub like_repeatable : (t : Tree) (f g : Flags) → f.oniguruma_mode ≡ g.oniguruma_mode →
    is_repeatable f t ≡ is_repeatable g t
like_repeatable (leaf (assertion a)) f g e = ap not e
like_repeatable (over (look_around l) t) f g e = refl
like_repeatable _ f g e = refl

-- ---- leaves whose requirements hold

pub case_fits : (f : Flags) (casei : Bool) (c : ℕ) →
    settled f (leaf (literal (c ∷ []) casei)) ≡ f → CaseFits f casei c
case_fits f true c e = sym (ap (λ k. k.casei) e)
case_fits f false c e =
    λ on. by_test (list_all (is_kept_by_backslash f.oniguruma_mode) (c ∷ [])) refl on
  where
    by_test : (b : Bool) → list_all (is_kept_by_backslash f.oniguruma_mode) (c ∷ []) ≡ b → f.casei ≡ true →
        is_kept_by_backslash f.oniguruma_mode c ≡ true
    by_test true k on = (and_parts _ true k).0
    by_test false k on =
        let off : f.casei ≡ false
        = sym (ap (λ g. g.casei) e) ∙ ap (λ (n : Needs). fixed_or f.casei n.casei) (cond-false _ _ _ k) in
        absurd (false≢true (sym off ∙ on))

pub any_fits : (f : Flags) (a b : Bool) → settled f (leaf (any a b)) ≡ f → AnyFits f a b
any_fits f true true e = tt
any_fits f false false e = tt
any_fits f true false e = (sym (ap (λ k. k.dotnl) e), sym (ap (λ k. k.crlf) e))
any_fits f false true e = (sym (ap (λ k. k.dotnl) e), sym (ap (λ k. k.crlf) e))

-- the start of a line is that of the mode
abbrev pub IsLineOfMode : Flags → Assertion → Type 0
IsLineOfMode f (StartLine crlf) = f.oniguruma_mode ≡ false
IsLineOfMode f (StartLineOniguruma crlf) = f.oniguruma_mode ≡ true
IsLineOfMode f _ = Unit {0}

pub assertion_fits : (f : Flags) (a : Assertion) → IsLineOfMode f a → settled f (leaf (assertion a)) ≡ f →
    AssertionFits f a
assertion_fits f (StartLine crlf) k e = (sym (ap (λ k. k.multi) e), sym (ap (λ k. k.crlf) e), k)
assertion_fits f (StartLineOniguruma crlf) k e = (sym (ap (λ k. k.multi) e), sym (ap (λ k. k.crlf) e), k)
assertion_fits f (EndLine crlf) k e = (sym (ap (λ k. k.multi) e), sym (ap (λ k. k.crlf) e))
assertion_fits f (EndTextIgnoreTrailingNewlines crlf) k e = sym (ap (λ k. k.crlf) e)
assertion_fits f _ k e = tt
