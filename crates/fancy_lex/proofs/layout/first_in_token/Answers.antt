use Rattle.std.proofs.Common.{◌≡◌, ◌<◌, ℕ, List, [], ◌∷◌, Option, Some, None, MatchOption, IfSome, length, chars, sym, subst, arith, ◌∙◌, rules}
use Rattle.fancy_lex.specs.Comments.{Comment}
use Rattle.fancy_lex.specs.CommentViews.{comment_of}
use Rattle.fancy_lex.specs.TokenComments.{if_inside, token_comments}
use Rattle.fancy_lex.specs.declared.layout.LayoutComment.{LayoutComment}
use Rattle.fancy_lex.proofs.TokenCommentLemmas.{after_other, at_end, at_name, at_text_end, opens, opens_line}
use Rattle.fancy_lex.proofs.layout.first_in_token.Goals as goal

-- a comment that is there if it ends in the token, and what follows it
found : (end : ℕ) (l : List Comment) (x : LayoutComment) (o : Option LayoutComment) →
    ((m : List Comment) → MatchOption o (if_inside end (comment_of x) m ≡ [])
    (λ c. if_inside end (comment_of x) m ≡ comment_of c ∷ m)) → IfSome o (λ c. c ≡ x) →
    l ≡ if_inside end (comment_of x) (token_comments (chars x.rest.now) end) →
    MatchOption o (l ≡ []) (λ c. l ≡ comment_of c ∷ token_comments (chars c.rest.now) end)
found end l x None h s e = e ∙ h (token_comments (chars x.rest.now) end)
found end l x (Some c) h s e =
    subst (λ y. l ≡ comment_of c ∷ token_comments (chars y.rest.now) end) (sym s)
    (e ∙ h (token_comments (chars x.rest.now) end))

found_shorter : (n : ℕ) (x : LayoutComment) (o : Option LayoutComment) → IfSome o (λ c. c ≡ x) →
    length x.rest.now < n → IfSome o (λ c. length c.rest.now < n)
found_shorter n x None s h = tt
found_shorter n x (Some c) s h = subst (λ y. length y.rest.now < n) (sym s) h

pub returns-in_default-comment-clause-value : goal.returns-in_default-comment-clause-value
returns-in_default-comment-clause-value c =
    c.loop-rest.invariant.same
    ∙ opens _ _ _ (omega (arith, c.loop-rest-test.true, c.reach.ensures))
    c.in-Some.ensures.value.1 c.in-Some.ensures.value.0
    ∙ c.in_default-comment.ensures.in_token _ _

pub returns-in-Some-clause-value : goal.returns-in-Some-clause-value
returns-in-Some-clause-value c =
    found _ _ _ c.in_token.result c.in_token.ensures.value c.in_token.ensures.same
    (c.loop-rest.invariant.same
    ∙ opens _ _ _ (omega (arith, c.loop-rest-test.true, c.reach.ensures))
    c.in-Some.ensures.value.1 c.in-Some.ensures.value.0
    ∙ c.in-Ok.ensures.in_token _ _)

pub returns-in-Some-clause-shorter : goal.returns-in-Some-clause-shorter
returns-in-Some-clause-shorter c =
    found_shorter _ _ c.in_token.result c.in_token.ensures.same
    (omega (arith, c.in-Ok.ensures.shorter, c.in-Some.ensures.shorter, c.loop-rest.invariant.within))

pub returns-in_default-next-clause-value : goal.returns-in_default-next-clause-value
returns-in_default-next-clause-value c =
    c.loop-rest.invariant.same ∙ at_text_end _ _ c.in_default-next.ensures.value

pub returns-then-c-eq35-clause-value : goal.returns-then-c-eq35-clause-value
returns-then-c-eq35-clause-value c =
    found _ _ _ c.in_token-then-c-eq35.result c.in_token-then-c-eq35.ensures.value c.in_token-then-c-eq35.ensures.same
    (c.loop-rest.invariant.same
    ∙ opens_line _ _ _ _ c.in-Some-next.ensures.value (omega (arith, c.loop-rest-test.true, c.reach.ensures))
    c.in_default.ensures.value c.if-c-eq35.true
    ∙ c.line.ensures.in_token _ _)

pub returns-then-c-eq35-clause-shorter : goal.returns-then-c-eq35-clause-shorter
returns-then-c-eq35-clause-shorter c =
    found_shorter _ _ c.in_token-then-c-eq35.result c.in_token-then-c-eq35.ensures.same
    (omega (arith, c.line.ensures.within, c.in-Some-next.ensures.shorter, c.loop-rest.invariant.within))

pub returns-then-begins_name-clause-value : goal.returns-then-begins_name-clause-value
returns-then-begins_name-clause-value c =
    c.loop-rest.invariant.same
    ∙ at_name _ _ _ _ c.in-Some-next.ensures.value (omega (arith, c.loop-rest-test.true, c.reach.ensures))
    c.in_default.ensures.value c.if-c-eq35.false (sym c.begins_name.ensures ∙ c.if-begins_name.true)

pub loop-rest-preserved : goal.loop-rest-preserved
loop-rest-preserved c = record {
  text = search rules;
  same = c.loop-rest.invariant.same
      ∙ after_other _ _ _ _ c.in-Some-next.ensures.value (omega (arith, c.loop-rest-test.true, c.reach.ensures))
      c.in_default.ensures.value c.if-c-eq35.false (sym c.begins_name.ensures ∙ c.if-begins_name.false);
  within = omega (arith, c.loop-rest.invariant.within, c.in-Some-next.ensures.shorter);
}

pub returns-clause-value : goal.returns-clause-value
returns-clause-value c =
    c.loop-rest.invariant.same ∙ at_end _ _ (omega (arith, c.loop-rest-test.false, c.reach.ensures))
