use Rattle.fancy_lex.proofs.TokenCommentLaws.{none_in_digits}
use Rattle.fancy_lex.proofs.escape.fast_path.short_hex.Goals as goal

pub returns-clause-no_comments : goal.returns-clause-no_comments
returns-clause-no_comments c = none_in_digits _ _ _ _ _ c.in_ok-value.ensures.value
