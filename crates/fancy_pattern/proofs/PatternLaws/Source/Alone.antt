-- A Delegate has a source if a class or an escape is read as it.
use Rattle.std.proofs.Common.{◌≡◌, Bool, true, false, not, ◌&&◌, [], ◌∷◌, ◌++◌, sym, ap, ◌∙◌, subst}
use Rattle.std.proofs.Math.Bool.{and-false}
use Rattle.std.proofs.lemmas.Bool.{cond-false, or_parts}
use Rattle.std.specs.Str.{bytes_eq}
use Prim.Native.Char.{code}
use Rattle.fancy_lex.specs.Class.{class, OuterClass}
use Rattle.fancy_lex.specs.Escape.{escape}
use Rattle.fancy_lex.specs.Escaped as leaves
use Rattle.fancy_lex.specs.Escaped.{Escape, hex_class, negated_hex_class}
use Rattle.fancy_lex.specs.Reading.{gives}
use Rattle.fancy_lex.specs.Text.{Text}
use Rattle.fancy_lex.specs.declared.flags.Flags.{Flags}
use Rattle.fancy_lex.proofs.ClassLaws.{class_complete, class_reads, class_frame}
use Rattle.fancy_grammar.specs.Label.{delegate}
use Rattle.fancy_grammar.specs.PatternNeeds.{is_hex_class, settled, fixed_or}
use Rattle.fancy_grammar.specs.PatternSource.{source, delegate_text}
use Rattle.fancy_grammar.specs.Tree.{leaf}
use Rattle.fancy_grammar.specs.declared.needs.Needs.{Needs}
use Rattle.fancy_grammar.proofs.Writable.{IsLike, IsSource, an_escape, a_class, HasSource}

-- ---- a class reads the same whatever follows it

class_follows : (f : Flags) (t s v : Text) → class f t ≡ gives s [] → class f (t ++ v) ≡ gives s v
class_follows f t s v e =
    let (a, h) = subst (OuterClass f t) e (class_reads f t) in class_complete f (t ++ v) _ (class_frame h v)

-- ---- what a Delegate requires

not_hex : (x y : Bool) (s : Text) → bytes_eq s hex_class ≡ false → (x && not y && bytes_eq s hex_class) ≡ false
not_hex x y s e = ap (λ z. x && not y && z) e ∙ and-false (x && not y)

not_negated : (x y : Bool) (s : Text) → bytes_eq s negated_hex_class ≡ false →
    (x && not y && bytes_eq s negated_hex_class) ≡ false
not_negated x y s e = ap (λ z. x && not y && z) e ∙ and-false (x && not y)

module _ (s : Text) (h : is_hex_class s ≡ false) where
  -- the text is the source, and no hex class
  source_is : (f : Flags) (casei : Bool) → delegate_text f casei s ≡ source f.unicode s
  source_is f casei =
      let (a, b) = or_parts (bytes_eq s hex_class) _ h in
      cond-false _ _ _ (not_hex f.casei casei s a) ∙ cond-false _ _ _ (not_negated f.casei casei s b)

  same_case : (f : Flags) (casei : Bool) → settled f (leaf (delegate s casei)) ≡ f → f.casei ≡ casei
  same_case f true e = sym (ap (λ g. g.casei) e)
  same_case f false e =
      sym (ap (λ g. g.casei) e) ∙ ap (λ (n : Needs). fixed_or f.casei n.casei) (cond-false _ _ _ h)

  -- a class whose source, by itself, is read as the class
  pub class_source : (f : Flags) (t : Text) (casei : Bool) → source f.unicode s ≡ code "[" ∷ t →
      ((g : Flags) → IsLike f g → class g t ≡ gives s []) → HasSource f s casei
  class_source f t casei e c g like none =
      let text = source_is g casei ∙ (ap (λ u. source u s) (ap (λ k. k.unicode) like) ∙ e) in
      subst (IsSource g s casei) (sym text)
      (a_class (same_case g casei none) (λ v. class_follows g t s v (c g like)))

  -- an escape that is read as the Delegate, and is its own source
  pub escape_source : (f : Flags) (t : Text) (casei : Bool) → source f.unicode s ≡ code "\\" ∷ t →
      ((g : Flags) → IsLike f g → (v : Text) → escape g false (t ++ v) ≡ gives (leaves.delegate s g.casei) v) →
      HasSource f s casei
  escape_source f t casei e q g like none =
      let text = source_is g casei ∙ (ap (λ u. source u s) (ap (λ k. k.unicode) like) ∙ e) in
      subst (IsSource g s casei) (sym text)
      (an_escape (λ v. q g like v ∙ ap (λ b. gives (leaves.delegate s b) v) (same_case g casei none)))
