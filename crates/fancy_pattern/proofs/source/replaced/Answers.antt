use Rattle.std.proofs.Common.{ap, sym, ◌∙◌}
use Rattle.std.specs.Str.{chars}
use Rattle.fancy_grammar.specs.PatternSource.{replaced, replaced_part}
use Rattle.fancy_pattern.proofs.source.replaced.Goals as goal

pub returns-else-unicode : goal.returns-else-unicode
unfolding chars
returns-else-unicode c =
    c.items.ensures c.args.seen
    ∙ ap (λ b. replaced_part c.args.seen (replaced b) (chars c.args.text.now)) (sym c.if-unicode.false)
