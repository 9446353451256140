-- One step of a class, with k steps left.
use Rattle.std.proofs.Common.{◌≡◌, ◌≢◌, ℕ, zero, suc, pred, ◌+◌, ◌-◌, ◌<◌, Bool, true, false, ◌||◌, ◌==◌, [], ◌∷◌, ◌++◌}
use Rattle.std.proofs.Common.{refl, ap, sym, ◌∙◌, arith}
use Rattle.std.proofs.lemmas.Bool.Decides.{nat_tests}
use Prim.Native.Char.{code}
use Rattle.fancy_lex.specs.Class.{class_start, class_from, class, escape_in_class, is_negated}
use Rattle.fancy_lex.specs.Escape.{escape}
use Rattle.fancy_lex.specs.Escaped.{Escape}
use Rattle.fancy_lex.specs.Located.{invalid_class}
use Rattle.fancy_lex.specs.ErrorViews.{IfFailed}
use Rattle.fancy_lex.specs.Reading.{gives, error_at, Reports}
use Rattle.fancy_lex.specs.Text.{Text, bytes, at_end}
use Rattle.fancy_lex.specs.declared.error.ReadError.{ReadError}
use Rattle.fancy_lex.specs.declared.flags.Flags.{Flags}
use Rattle.fancy_lex.proofs.ReadingLemmas.{reports_first, report_fails}

pub pred_lt : (a b k : ℕ) → a < b → b < k → a < pred k
pred_lt a b zero l m = absurd (omega arith)
pred_lt a b (suc k) l m = omega arith

module _ (f : Flags) where
  pub items_end : (k depth : ℕ) (seen : Bool) (out t : Text) → t ≡ [] →
      class_from f k depth seen out t ≡ error_at at_end invalid_class
  unfolding class_from
  items_end zero depth seen out t e = refl
  items_end (suc k) depth seen out t e = rw e refl

  module _ (depth : ℕ) (seen : Bool) (out t : Text) (c : ℕ) (r : Text) (e : t ≡ c ∷ r) where
    pub items_plain : (k : ℕ) → 0 < k → c ≢ code "\\" → c ≢ code "[" → c ≢ code "]" →
        class_from f k depth seen out t ≡ class_from f (pred k) depth seen (out ++ c ∷ []) r
    unfolding class_from
    items_plain zero m g h i = absurd (omega arith)
    items_plain (suc k) m g h i = rw (e, class_from) (grind (arith, nat_tests))

    pub items_open : (k : ℕ) → 0 < k → c ≡ code "[" →
        class_from f k depth seen out t ≡ class_from f (pred k) (depth + 1) seen (class_start out r).0
        (class_start out r).1
    unfolding class_from
    items_open zero m g = absurd (omega arith)
    items_open (suc k) m g = rw (e, class_from, g) refl

    pub items_last : (k : ℕ) → 0 < k → c ≡ code "]" → depth ≡ 0 →
        class_from f k depth seen out t ≡ gives (out ++ c ∷ []) r
    unfolding class_from
    items_last zero m g d = absurd (omega arith)
    items_last (suc k) m g d = rw (e, class_from, g, d) refl

    pub items_close : (k : ℕ) → 0 < k → c ≡ code "]" → depth ≢ 0 →
        class_from f k depth seen out t ≡ class_from f (pred k) (depth - 1) seen (out ++ c ∷ []) r
    unfolding class_from
    items_close zero m g d = absurd (omega arith)
    items_close (suc k) m g d = let test : (depth == 0) ≡ false = grind (arith, nat_tests) in
        rw (e, class_from, g, test) refl

    pub items_escape : (k : ℕ) (v : Escape) (u : Text) → 0 < k → c ≡ code "\\" →
        escape f true r ≡ gives v u →
        class_from f k depth seen out t ≡ class_from f (pred k) depth (seen || is_negated v)
        (out ++ escape_in_class seen v) u
    unfolding class_from
    items_escape zero v u m g q = absurd (omega arith)
    items_escape (suc k) v u m g q = rw (e, g, class_from, q) refl

    pub items_error : (k : ℕ) (b : ReadError) → 0 < k → c ≡ code "\\" → Reports b (escape f true r) →
        IfFailed b (λ d p. class_from f k depth seen out t ≡ error_at p d)
    unfolding class_from
    items_error zero b m g q = absurd (omega arith)
    items_error (suc k) b m g q = rw (e, g, class_from) (report_fails b _ (reports_first _ _ b q))

  pub class_init : (t o out rest : Text) → o ≡ [] → ◌≡◌ {A = Text × Text} (class_start o t) (out, rest) →
      class f t ≡ class_from f (suc (bytes t)) 0 false out rest
  unfolding class
  class_init t o out rest z e = ap (λ (p : Text × Text). class_from f (suc (bytes t)) 0 false p.0 p.1)
      (ap (λ u. class_start u t) (sym z) ∙ e)

-- the same for the parts that the code has
module _ (f : Flags) (depth : ℕ) (seen : Bool) (out t : Text) (c : ℕ) (r : Text) (e : t ≡ c ∷ r) (k : ℕ)
    (some : 0 < k) where
  pub open_step : (o u : Text) → c ≡ code "[" → ◌≡◌ {A = Text × Text} (class_start out r) (o, u) →
      class_from f k depth seen out t ≡ class_from f (pred k) (depth + 1) seen o u
  open_step o u g q =
      items_open f depth seen out t c r e k some g
      ∙ ap (λ (p : Text × Text). class_from f (pred k) (depth + 1) seen p.0 p.1) q

  module _ (o : Text) (q : o ≡ out ++ c ∷ []) where
    pub plain_step : c ≢ code "\\" → c ≢ code "[" → c ≢ code "]" →
        class_from f k depth seen out t ≡ class_from f (pred k) depth seen o r
    plain_step g h i = rw q (items_plain f depth seen out t c r e k some g h i)

    pub close_step : c ≡ code "]" → depth ≢ 0 →
        class_from f k depth seen out t ≡ class_from f (pred k) (depth - 1) seen o r
    close_step g d = rw q (items_close f depth seen out t c r e k some g d)

    pub last_step : c ≡ code "]" → depth ≡ 0 → class_from f k depth seen out t ≡ gives o r
    last_step g d = rw q (items_last f depth seen out t c r e k some g d)

  pub escape_step : (o : Text) (s : Bool) (v : Escape) (u : Text) → c ≡ code "\\" → escape f true r ≡ gives v u →
      o ≡ out ++ escape_in_class seen v → s ≡ (seen || is_negated v) →
      class_from f k depth seen out t ≡ class_from f (pred k) depth s o u
  escape_step o s v u g h z y = rw (z, y) (items_escape f depth seen out t c r e k v u some g h)
