use Rattle.std.proofs.Common.{string_bytes}
use Rattle.fancy_lex.specs.Flags.{flags_of}
use Rattle.fancy_syntax.specs.InfoViews.{info_of}
use Rattle.fancy_syntax.specs.TriviaViews.{trivia_of}
use Rattle.fancy_syntax.specs.View.{view}
use Rattle.pattern_format.proofs.ReadBackLemmas.{formatted, unchanged}
use Rattle.pattern_format.proofs.format.format_pattern.Goals as goal

pub returns-in-Some-clause-formatted : goal.returns-in-Some-clause-formatted
returns-in-Some-clause-formatted c = rw c.in-Some.is at c.in_ok-formatted.ensures.formatted

pub returns-in-Some-2-clause-formatted : goal.returns-in-Some-2-clause-formatted
returns-in-Some-2-clause-formatted c =
    let parsed = c.in_ok-parsed.parsed in
    formatted c.args.style (flags_of c.args.flags) c.args.pattern.now (string_bytes c.in-Some-2.formatted.text) (view parsed.tree.expr)
    (info_of parsed.tree) (trivia_of parsed.trivia) c.in_ok-parsed.ensures.tree.found c.in_ok-parsed.ensures.trivia.found
    (rw c.in-Some-2.is at c.in_ok-formatted-2.ensures)

pub returns-clause-formatted : goal.returns-clause-formatted
returns-clause-formatted c =
    let parsed = c.in_ok-parsed.parsed in
    unchanged c.args.style (flags_of c.args.flags) c.args.pattern.now (string_bytes c.in_ok-from_str.field-0) (view parsed.tree.expr)
    (info_of parsed.tree) (trivia_of parsed.trivia) c.in_ok-from_str.ensures.ok c.in_ok-parsed.ensures.tree.found
    c.in_ok-parsed.ensures.trivia.found
