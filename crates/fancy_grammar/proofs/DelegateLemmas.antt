-- A Delegate's text, read as a class or an escape.
use Rattle.std.proofs.Common.{◌≡◌, ℕ, Bool, true, false, not, List, [], ◌∷◌, Option, Some, None, MatchOption}
use Rattle.std.proofs.Common.{is_some, Result, Ok, Err, IfOk, chars, refl, sym, ap, ◌∙◌}
use Rattle.std.proofs.lemmas.Bool.{or_parts, false≢true}
use Rattle.std.specs.Borrow.{Bor}
use Rattle.std.specs.declared.alloc.AllocError.{AllocError}
use Rattle.std.specs.Str.{all_scalars}
use Prim.Native.Char.{code}
use Rattle.fancy_lex.specs.Characters.{◌∈◌}
use Rattle.fancy_lex.specs.Class.{class}
use Rattle.fancy_lex.specs.Escape.{escape}
use Rattle.fancy_lex.specs.Escaped.{Escape}
use Rattle.fancy_lex.specs.Located.{Located}
use Rattle.fancy_lex.specs.ErrorViews.{kind_of, IfFailed}
use Rattle.fancy_lex.specs.Flags.{flags_of}
use Rattle.fancy_lex.specs.Reading.{Reading, gives, fails, error_at}
use Rattle.fancy_lex.specs.Text.{Text}
use Rattle.fancy_lex.specs.declared.error.ReadError.{ReadError}
use Rattle.fancy_lex.specs.declared.error.ReadError.TheVariants.{At, OutOfMemory}
use Rattle.fancy_lex.specs.declared.escape.Assertion.TheVariants.{StartLineOniguruma}
use Rattle.fancy_lex.specs.declared.flags.Flags.{Flags}
use Rattle.fancy_grammar.specs.AtomStart.{leaf_node, leaf_outcome}
use Rattle.fancy_grammar.specs.Grammar.{start}
use Rattle.fancy_grammar.specs.Normal.{unicode_flags, class_of, whole_of, whole_leaf, normal}
use Rattle.fancy_grammar.specs.Join.{is_empty}
use Rattle.fancy_grammar.specs.Printable.{printable}
use Rattle.fancy_grammar.specs.Tree.{Tree, empty, assertion, literal, concat, alt, delegate, define_group}
use Rattle.fancy_grammar.proofs.ReadBack.DelegateTexts.{other_left, no_other}
use Rattle.fancy_grammar.proofs.ReadBack.PrintableLaws.{normal_empty}

-- whether text is left after a Delegate, as the code tests it
whole_left : (o : Option (ℕ × Bor (List ℕ))) (b : Bool) (r : Tree) (v : Text) → true ≡ is_some (whole_of [] r) →
    is_some o ≡ not b →
    MatchOption o (v ≡ []) (λ p. v ≡ p.0 ∷ chars p.1.now) → b ≡ is_some (whole_of v r)
whole_left None true r v class none is = class ∙ ap (λ w. is_some (whole_of w r)) (sym is)
whole_left (Some p) false r v class none is = ap (λ w. is_some (whole_of w r)) (sym is)
whole_left None false r v class none is = absurd (false≢true none)
whole_left (Some p) true r v class none is = absurd (false≢true (sym none))

module _ (bs : List ℕ) (f : Flags) (is : f ≡ flags_of 0) where
  -- a class under no flags, as a leaf
  class_leaf : class_of (unicode_flags false) (code "[" ∷ chars bs) ≡
      whole_leaf (leaf_outcome (λ w. delegate w false) (start (unicode_flags false) (code "[" ∷ chars bs))
      (class f (chars bs)))
  unfolding class_of
  class_leaf = rw is refl

  pub class_read : (w v : Text) (o : Option (ℕ × Bor (List ℕ))) (b : Bool) → class f (chars bs) ≡ gives w v →
      is_some o ≡ not b → MatchOption o (v ≡ []) (λ p. v ≡ p.0 ∷ chars p.1.now) →
      b ≡ is_some (class_of (unicode_flags false) (code "[" ∷ chars bs))
  class_read w v o b e none left = whole_left o b (delegate w false) v refl none left ∙ sym (ap is_some (class_leaf ∙
      ap (λ q. whole_leaf (leaf_outcome (λ w. delegate w false)
      (start (unicode_flags false) (code "[" ∷ chars bs)) q)) e))

  pub class_fails : (e : Located) → class f (chars bs) ≡ fails e →
      false ≡ is_some (class_of (unicode_flags false) (code "[" ∷ chars bs))
  class_fails e h = sym (ap is_some (class_leaf ∙
      ap (λ q. whole_leaf (leaf_outcome (λ w. delegate w false)
      (start (unicode_flags false) (code "[" ∷ chars bs)) q)) h))

  -- an escape under no flags, as a leaf
  escape_leaf : class_of (unicode_flags false) (code "\\" ∷ chars bs) ≡
      whole_leaf (leaf_outcome leaf_node (start (unicode_flags false) (code "\\" ∷ chars bs))
      (escape f false (chars bs)))
  unfolding class_of
  escape_leaf = rw is refl

  escape_is : (q : Reading Escape) → escape f false (chars bs) ≡ q →
      is_some (class_of (unicode_flags false) (code "\\" ∷ chars bs)) ≡
      is_some (whole_leaf (leaf_outcome leaf_node (start (unicode_flags false) (code "\\" ∷ chars bs)) q))
  escape_is q e = ap is_some (escape_leaf ∙
      ap (λ q. whole_leaf (leaf_outcome leaf_node (start (unicode_flags false) (code "\\" ∷ chars bs)) q)) e)

  pub escape_read : (x : Escape) (v : Text) (o : Option (ℕ × Bor (List ℕ))) (a b : Bool) →
      escape f false (chars bs) ≡ gives x v →
      a ≡ is_some (whole_of [] (leaf_node x)) → a ≡ true → is_some o ≡ not b →
      MatchOption o (v ≡ []) (λ p. v ≡ p.0 ∷ chars p.1.now) →
      b ≡ is_some (class_of (unicode_flags false) (code "\\" ∷ chars bs))
  escape_read x v o a b e class is_class none left = whole_left o b (leaf_node x) v (sym is_class ∙ class) none left
      ∙ sym (escape_is _ e)

  pub escape_other : (x : Escape) (v : Text) (a : Bool) → escape f false (chars bs) ≡ gives x v →
      a ≡ is_some (whole_of [] (leaf_node x)) → a ≡ false →
      a ≡ is_some (class_of (unicode_flags false) (code "\\" ∷ chars bs))
  escape_other x v a e class is_other = is_other ∙ other_left (leaf_node x) v (sym is_other ∙ class)
      ∙ sym (escape_is _ e)

  pub escape_fails : (e : Located) → escape f false (chars bs) ≡ fails e →
      false ≡ is_some (class_of (unicode_flags false) (code "\\" ∷ chars bs))
  escape_fails e h = sym (escape_is _ h)

-- the result if a reading failed, unless memory ran out
pub failed : {A : Type 0} (r : Result Bool AllocError) (error : ReadError) (o : Reading A) (x : Bool) →
    IfOk r (λ b. b ≡ false) →
    IfOk r (λ _. error ≡ OutOfMemory → ⊥) → IfFailed error (λ k p. o ≡ error_at p k) →
    ((e : Located) → o ≡ fails e → false ≡ x) →
    IfOk r (λ b. b ≡ x)
failed (Ok b) (At p k) o x is in_memory f on_error = is ∙ on_error (record { reach = p; kind = kind_of k }) f
failed (Ok b) OutOfMemory o x is in_memory f on_error = absurd (in_memory refl)
failed (Err m) error o x is in_memory f on_error = tt

-- a text that begins with neither a bracket nor a backslash is no class
pub none_of_nothing : (bs : List ℕ) → chars bs ≡ [] → false ≡ is_some (class_of (unicode_flags false) (chars bs))
unfolding class_of
none_of_nothing bs is = rw is refl

pub none_of_others : (bs r : List ℕ) (c : ℕ) → chars bs ≡ c ∷ chars r → c ∈ "[\\" ≡ false →
    false ≡ is_some (class_of (unicode_flags false) (chars bs))
none_of_others bs r c is other =
    let (a, b) = or_parts _ _ other in
    no_other c (chars r) a b ∙ sym (ap (λ t. is_some (class_of (unicode_flags false) t)) is)

-- ---- what the code returns for a variant

-- the printable Delegates, as the code determines them
pub delegate_determined : (r : Result Bool AllocError) (s : Text) (casei : Bool) (e : Tree) → all_scalars s ≡ true →
    IfOk r (λ b. b ≡ is_some (class_of (unicode_flags false) s)) → e ≡ delegate s casei → IfOk r (λ b. b ≡ printable e)
delegate_determined (Ok b) s casei e scalars is seen = is ∙ rw (seen, scalars) refl
delegate_determined (Err m) s casei e scalars is seen = tt

-- the variants whose normal form may be Empty
abbrev pub may_be_blank : Tree → Bool
may_be_blank empty = true
may_be_blank (literal s casei) = true
may_be_blank (concat ts) = true
may_be_blank (alt ts) = true
may_be_blank (define_group t) = true
may_be_blank _ = false

pub solid_variant : (t : Tree) → may_be_blank t ≡ false → false ≡ is_empty (normal false t)
solid_variant empty h = absurd (false≢true (sym h))
solid_variant (literal s casei) h = absurd (false≢true (sym h))
solid_variant (concat ts) h = absurd (false≢true (sym h))
solid_variant (alt ts) h = absurd (false≢true (sym h))
solid_variant (define_group t) h = absurd (false≢true (sym h))
solid_variant (delegate s casei) h = sym (normal_empty false (delegate s casei))
solid_variant (assertion (StartLineOniguruma crlf)) h = refl
solid_variant (assertion a) h = refl
solid_variant _ h = refl
