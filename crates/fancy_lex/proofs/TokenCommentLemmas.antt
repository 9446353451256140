-- One step of the definition of comments in a token, for a text that an equation describes.
use Rattle.std.proofs.Common.{◌≡◌, ◌≢◌, ℕ, ◌≤◌, ◌<◌, Bool, true, false, [], ◌∷◌, Some, arith, ◌==◌, ap, refl}
use Rattle.std.proofs.Common.{if◌then◌else◌, nat_le}
use Rattle.std.proofs.lemmas.Bool.Decides.{nat_tests}
use Prim.Native.Char.{code}
use Rattle.fancy_lex.specs.Comments.{closed_before, line_before}
use Rattle.fancy_lex.specs.LayoutSteps.{comment, escaped, line, between, after_comment_start}
use Rattle.fancy_lex.specs.Text.{Text, reach_of}
use Rattle.fancy_lex.specs.TokenComments.{begins_comment, begins_name, if_inside, token_comments, token_comments_from}

module _ (e p : ℕ) (t : Text) where
  pub comment_none : t ≡ [] → token_comments_from e comment p t ≡ []
  unfolding token_comments_from
  comment_none i = ap (token_comments_from e comment p) i

  pub escaped_none : t ≡ [] → token_comments_from e escaped p t ≡ []
  unfolding token_comments_from
  escaped_none i = ap (token_comments_from e escaped p) i

  pub line_ends : t ≡ [] → token_comments_from e line p t ≡ if_inside e (line_before p t) []
  unfolding token_comments_from
  line_ends i = rw i refl

  module _ (c : ℕ) (r : Text) (i : t ≡ c ∷ r) where
    comment_next : token_comments_from e comment p t
        ≡ (if c == code ")" then if_inside e (closed_before p r) (token_comments_from e between (reach_of r) r)
        else if c == code "\\" then token_comments_from e escaped p r else token_comments_from e comment p r)
    unfolding token_comments_from
    comment_next = ap (token_comments_from e comment p) i

    line_next : token_comments_from e line p t
        ≡ (if c == code "\n" then if_inside e (line_before p r) (token_comments_from e between (reach_of r) r)
        else token_comments_from e line p r)
    unfolding token_comments_from
    line_next = ap (token_comments_from e line p) i

    pub escaped_next : token_comments_from e escaped p t ≡ token_comments_from e comment p r
    unfolding token_comments_from
    escaped_next = ap (token_comments_from e escaped p) i

    pub comment_closed : c ≡ code ")" →
        token_comments_from e comment p t ≡ if_inside e (closed_before p r) (token_comments_from e between (reach_of r) r)
    comment_closed h = let step = comment_next in grind (arith, nat_tests)

    pub comment_pair : c ≡ code "\\" → token_comments_from e comment p t ≡ token_comments_from e escaped p r
    comment_pair h = let step = comment_next in grind (arith, nat_tests)

    pub comment_on : c ≢ code ")" → c ≢ code "\\" →
        token_comments_from e comment p t ≡ token_comments_from e comment p r
    comment_on h k = let step = comment_next in grind (arith, nat_tests)

    pub line_closed : c ≡ code "\n" →
        token_comments_from e line p t ≡ if_inside e (line_before p r) (token_comments_from e between (reach_of r) r)
    line_closed h = let step = line_next in grind (arith, nat_tests)

    pub line_on : c ≢ code "\n" → token_comments_from e line p t ≡ token_comments_from e line p r
    line_on h = let step = line_next in grind (arith, nat_tests)

module _ (e : ℕ) where
  -- at the end of the token, or after it
  pub at_end : (t : Text) → reach_of t ≤ e → token_comments t e ≡ []
  unfolding token_comments_from
  at_end [] h = refl
  at_end (c ∷ r) h = by_test (nat_le (reach_of (c ∷ r)) e) (grind (arith, nat_tests))
    where
      by_test : (b : Bool) → b ≡ true →
          (if b then [] else if begins_comment e (c ∷ r) then token_comments_from e comment (reach_of (c ∷ r)) r
          else if c == code "#" then token_comments_from e line (reach_of (c ∷ r)) r
          else if begins_name c then [] else token_comments r e) ≡ []
      by_test true i = refl
      by_test false i = absurd cc

  pub at_text_end : (t : Text) → t ≡ [] → token_comments t e ≡ []
  unfolding token_comments_from
  at_text_end t i = rw i refl

  -- `(?#` opens a comment; right after the parenthesis, since `?#` neither closes a comment nor begins a pair
  pub opens : (t i : Text) → e < reach_of t → begins_comment e t ≡ true → after_comment_start t ≡ Some i →
      token_comments t e ≡ token_comments_from e comment (reach_of t) i
  unfolding token_comments_from
  opens [] i h b j = cc
  opens (c ∷ []) i h b j = grind (arith, nat_tests)
  opens (c ∷ d ∷ []) i h b j = grind (arith, nat_tests)
  opens (c ∷ d ∷ f ∷ r) i h b j = grind (arith, nat_tests)

  module _ (t : Text) (c : ℕ) (r : Text) (i : t ≡ c ∷ r) (h : e < reach_of t) (none : begins_comment e t ≡ false) where
    next_is : token_comments t e ≡ (if nat_le (reach_of t) e then []
        else if begins_comment e t then token_comments_from e comment (reach_of t) r
        else if c == code "#" then token_comments_from e line (reach_of t) r
        else if begins_name c then [] else token_comments r e)
    unfolding token_comments_from
    next_is = rw i refl

    pub opens_line : c ≡ code "#" → token_comments t e ≡ token_comments_from e line (reach_of t) r
    opens_line j = let step = next_is in grind (arith, nat_tests)

    pub at_name : c ≢ code "#" → begins_name c ≡ true → token_comments t e ≡ []
    at_name j k = let step = next_is in grind (arith, nat_tests)

    pub after_other : c ≢ code "#" → begins_name c ≡ false → token_comments t e ≡ token_comments r e
    after_other j k = let step = next_is in grind (arith, nat_tests)

pub ruleset token_steps = (
  comment_none,
  escaped_none,
  line_ends,
  comment_closed,
  comment_pair,
  comment_on,
  escaped_next,
  line_closed,
  line_on,
  at_end,
  at_text_end,
  opens,
  opens_line,
  at_name,
  after_other,
)
