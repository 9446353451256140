use Rattle.std.proofs.Common.{chars}
use Rattle.fancy_lex.specs.EscapeViews.{escape_of}
use Rattle.fancy_lex.proofs.TextLemmas.{strip_is}
use Rattle.fancy_syntax.proofs.PlainLaws.{is_plain_escape}
use Rattle.fancy_syntax.specs.Parsed.{state}
use Rattle.fancy_syntax.proofs.grammar.fast_path.plain_escape.Goals as goal

pub returns-clause-plain : goal.returns-clause-plain
returns-clause-plain g c =
    is_plain_escape (state c.args.current) (chars c.in_ok-text.text.now) (chars c.in_ok-leaf.rest.now)
    (escape_of c.in_ok-leaf.leaf) (strip_is _ _ _ c.in_ok-text.ensures.value) c.in_ok-leaf.ensures.value
    c.in_ok-leaf.ensures.no_comments
