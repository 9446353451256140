use Rattle.std.proofs.Common.{ap, ◌∙◌}
use Rattle.std.specs.Str.{chars}
use Rattle.fancy_lex.specs.Class.{joint}
use Rattle.fancy_lex.specs.Text.{strip_word}
use Rattle.fancy_pattern.proofs.source.after_joint.Goals as goal

pub returns-then-seen : goal.returns-then-seen
unfolding chars
returns-then-seen c =
    ap (λ b. strip_word (joint b) (chars c.args.text.now)) c.if-seen.true ∙ c.after_word.ensures.value
