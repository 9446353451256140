-- One step of the layout's definition, for a text that an equation describes.
use Rattle.std.proofs.Common.{◌≡◌, ◌≢◌, ℕ, Bool, true, [], ◌∷◌, Some, None, false, arith, ◌==◌, ◌&&◌}
use Rattle.std.proofs.Common.{if◌then◌else◌, is_some, ap, refl, ◌∙◌}
use Rattle.std.proofs.lemmas.Bool.Decides.{nat_tests}
use Prim.Native.Char.{code}
use Rattle.fancy_lex.specs.Text.{Text, at_end, past_end}
use Rattle.fancy_lex.specs.Layout.{is_blank}
use Rattle.fancy_lex.specs.LayoutSteps.{rest, failed, layout_from, between}
use Rattle.fancy_lex.specs.LayoutSteps.{comment, escaped, line, is_layout, after_comment_start}

module _ (x : Bool) (t : Text) where
  pub comment_end : t ≡ [] → layout_from x comment t ≡ failed at_end
  unfolding layout_from
  comment_end e = ap (layout_from x comment) e

  pub escaped_end : t ≡ [] → layout_from x escaped t ≡ failed past_end
  unfolding layout_from
  escaped_end e = ap (layout_from x escaped) e

  pub line_end : t ≡ [] → layout_from x line t ≡ rest t
  unfolding layout_from
  line_end e = rw e refl

  pub between_end : t ≡ [] → layout_from x between t ≡ rest t
  unfolding layout_from
  between_end e = rw e refl

  module _ (c : ℕ) (r : Text) where
    pub comment_step : t ≡ c ∷ r → layout_from x comment
        t ≡ (if c == code ")" then layout_from x between r else if c == code "\\" then layout_from x escaped r
        else layout_from x comment r)
    unfolding layout_from
    comment_step e = ap (layout_from x comment) e

    pub escaped_step : t ≡ c ∷ r → layout_from x escaped t ≡ layout_from x comment r
    unfolding layout_from
    escaped_step e = ap (layout_from x escaped) e

    pub line_step : t ≡ c ∷ r → layout_from x line
        t ≡ (if c == code "\n" then layout_from x between r else layout_from x line r)
    unfolding layout_from
    line_step e = ap (layout_from x line) e

    pub between_step : t ≡ c ∷ r → layout_from x between
        t ≡ (if is_some (after_comment_start t) then layout_from x comment r
        else if x && c == code "#" then layout_from x line r
        else if x && is_blank c then layout_from x between r else rest t)
    unfolding layout_from
    between_step e = rw e refl

-- `(?#` opens a comment
pub between_opened : (x : Bool) (t i : Text) → after_comment_start t ≡ Some i →
    layout_from x between t ≡ layout_from x comment i
unfolding layout_from
between_opened x [] i e = cc
between_opened x (c ∷ []) i e = grind (arith, nat_tests)
between_opened x (c ∷ d ∷ []) i e = grind (arith, nat_tests)
between_opened x (c ∷ d ∷ f ∷ r) i e = grind (arith, nat_tests)

-- ---- the tests of the code

-- without the flag, only comments are layout
pub between_plain : (t : Text) → after_comment_start t ≡ None → layout_from false between t ≡ rest t
unfolding layout_from
between_plain [] e = refl
between_plain (c ∷ r) e = grind (arith, nat_tests)

-- the cases of a step, by the tests of the code
module _ (x : Bool) (t : Text) (c : ℕ) (r : Text) (e : t ≡ c ∷ r) (none : after_comment_start t ≡ None)
    (ignore_space : x ≡ true) where
  pub between_line : c ≡ code "#" → layout_from x between t ≡ layout_from x line r
  between_line h = let step = between_step x t c r e in grind (arith, nat_tests)

  pub between_blank : c ≢ code "#" → is_blank c ≡ true → layout_from x between t ≡ layout_from x between r
  between_blank h b = let step = between_step x t c r e in grind (arith, nat_tests)

  pub between_other : c ≢ code "#" → is_blank c ≡ false → layout_from x between t ≡ rest t
  between_other h b = let step = between_step x t c r e in grind (arith, nat_tests)

-- no layout, by the first character
module _ (x : Bool) (t : Text) (c : ℕ) (r : Text) (e : t ≡ c ∷ r) (paren : c ≢ code "(") where
  no_comment_start : is_some (after_comment_start (c ∷ r)) ≡ false
  no_comment_start = grind (arith, nat_tests)

  by_flag : (y : Bool) → is_layout y c ≡ false →
      (if y && c == code "#" then layout_from x line r else if y && is_blank c then layout_from x between r else rest t)
      ≡ rest t
  by_flag y h = grind (arith, nat_tests)

  pub between_no_layout : is_layout x c ≡ false → layout_from x between t ≡ rest t
  between_no_layout h = between_step x t c r e ∙ rw (e, no_comment_start) (rw e at by_flag x h)

-- the same inside a comment and a line comment
module _ (x : Bool) (t : Text) (c : ℕ) (r : Text) (e : t ≡ c ∷ r) where
  pub comment_close : c ≡ code ")" → layout_from x comment t ≡ layout_from x between r
  comment_close h = let step = comment_step x t c r e in grind (arith, nat_tests)

  pub comment_escape : c ≡ code "\\" → layout_from x comment t ≡ layout_from x escaped r
  comment_escape k = let step = comment_step x t c r e in grind (arith, nat_tests)

  pub comment_plain : c ≢ code ")" → c ≢ code "\\" → layout_from x comment t ≡ layout_from x comment r
  comment_plain h k = let step = comment_step x t c r e in grind (arith, nat_tests)

  pub line_close : c ≡ code "\n" → layout_from x line t ≡ layout_from x between r
  line_close h = let step = line_step x t c r e in grind (arith, nat_tests)

  pub line_plain : c ≢ code "\n" → layout_from x line t ≡ layout_from x line r
  line_plain h = let step = line_step x t c r e in grind (arith, nat_tests)

pub ruleset layout_steps = (
  comment_end,
  escaped_end,
  line_end,
  between_end,
  comment_close,
  comment_escape,
  comment_plain,
  escaped_step,
  line_close,
  line_plain,
  between_opened,
  between_plain,
  between_line,
  between_blank,
  between_other,
)
