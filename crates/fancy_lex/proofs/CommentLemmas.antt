-- One step of the definition of comments in layout, for a text that an equation describes.
use Rattle.std.proofs.Common.{◌≡◌, ◌≢◌, ℕ, Bool, true, [], ◌∷◌, Some, None, false, arith, ◌==◌, ◌&&◌}
use Rattle.std.proofs.Common.{if◌then◌else◌, is_some, ap, refl}
use Rattle.std.proofs.lemmas.Bool.Decides.{nat_tests}
use Prim.Native.Char.{code}
use Rattle.fancy_lex.specs.Comments.{comments, comments_from, closed_before, line_before}
use Rattle.fancy_lex.specs.Layout.{is_blank}
use Rattle.fancy_lex.specs.LayoutSteps.{comment, escaped, line, after_comment_start}
use Rattle.fancy_lex.specs.Text.{Text, reach_of}

module _ (x : Bool) (p : ℕ) (t : Text) where
  pub comment_none : t ≡ [] → comments_from x comment p t ≡ []
  unfolding comments_from
  comment_none e = ap (comments_from x comment p) e

  pub escaped_none : t ≡ [] → comments_from x escaped p t ≡ []
  unfolding comments_from
  escaped_none e = ap (comments_from x escaped p) e

  pub line_ends : t ≡ [] → comments_from x line p t ≡ line_before p t ∷ comments x t
  unfolding comments_from
  line_ends e = rw e refl

  module _ (c : ℕ) (r : Text) (e : t ≡ c ∷ r) where
    comment_next : comments_from x comment p t
        ≡ (if c == code ")" then closed_before p r ∷ comments x r
        else if c == code "\\" then comments_from x escaped p r else comments_from x comment p r)
    unfolding comments_from
    comment_next = ap (comments_from x comment p) e

    line_next : comments_from x line p t
        ≡ (if c == code "\n" then line_before p r ∷ comments x r else comments_from x line p r)
    unfolding comments_from
    line_next = ap (comments_from x line p) e

    pub escaped_next : comments_from x escaped p t ≡ comments_from x comment p r
    unfolding comments_from
    escaped_next = ap (comments_from x escaped p) e

    pub comment_closed : c ≡ code ")" → comments_from x comment p t ≡ closed_before p r ∷ comments x r
    comment_closed h = let step = comment_next in grind (arith, nat_tests)

    pub comment_pair : c ≡ code "\\" → comments_from x comment p t ≡ comments_from x escaped p r
    comment_pair h = let step = comment_next in grind (arith, nat_tests)

    pub comment_on : c ≢ code ")" → c ≢ code "\\" → comments_from x comment p t ≡ comments_from x comment p r
    comment_on h k = let step = comment_next in grind (arith, nat_tests)

    pub line_closed : c ≡ code "\n" → comments_from x line p t ≡ line_before p r ∷ comments x r
    line_closed h = let step = line_next in grind (arith, nat_tests)

    pub line_on : c ≢ code "\n" → comments_from x line p t ≡ comments_from x line p r
    line_on h = let step = line_next in grind (arith, nat_tests)

-- `(?#` opens a comment
pub opens : (x : Bool) (t i : Text) → after_comment_start t ≡ Some i →
    comments x t ≡ comments_from x comment (reach_of t) i
unfolding comments_from
opens x [] i e = cc
opens x (c ∷ []) i e = grind (arith, nat_tests)
opens x (c ∷ d ∷ []) i e = grind (arith, nat_tests)
opens x (c ∷ d ∷ f ∷ r) i e = grind (arith, nat_tests)

-- without the flag, only comments are layout
pub none_plain : (t : Text) → after_comment_start t ≡ None → comments false t ≡ []
unfolding comments_from
none_plain [] e = refl
none_plain (c ∷ r) e = grind (arith, nat_tests)

pub none_at_end : (x : Bool) (t : Text) → t ≡ [] → comments x t ≡ []
unfolding comments_from
none_at_end x t e = rw e refl

-- the cases of a step, by the tests of the code
module _ (x : Bool) (t : Text) (c : ℕ) (r : Text) (e : t ≡ c ∷ r) (none : after_comment_start t ≡ None)
    (ignore_space : x ≡ true) where
  next_is : comments x t ≡ (if is_some (after_comment_start t) then comments_from x comment (reach_of t) r
      else if x && c == code "#" then comments_from x line (reach_of t) r
      else if x && is_blank c then comments x r else [])
  unfolding comments_from
  next_is = rw e refl

  pub opens_line : c ≡ code "#" → comments x t ≡ comments_from x line (reach_of t) r
  opens_line h = let step = next_is in grind (arith, nat_tests)

  pub after_blank : c ≢ code "#" → is_blank c ≡ true → comments x t ≡ comments x r
  after_blank h b = let step = next_is in grind (arith, nat_tests)

  pub none_other : c ≢ code "#" → is_blank c ≡ false → comments x t ≡ []
  none_other h b = let step = next_is in grind (arith, nat_tests)

pub ruleset comment_steps = (
  comment_none,
  escaped_none,
  line_ends,
  comment_closed,
  comment_pair,
  comment_on,
  escaped_next,
  line_closed,
  line_on,
  opens,
  none_plain,
  none_at_end,
  opens_line,
  after_blank,
  none_other,
)
