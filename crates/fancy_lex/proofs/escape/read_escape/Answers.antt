use Rattle.std.proofs.Common.{◌≡◌, false, option_map, sym, subst, arith, chars, ◌∙◌, ap}
use Rattle.std.proofs.lemmas.Bool.Decides.{nat_tests}
use Rattle.fancy_lex.proofs.LoneLemmas.{reads_on, alone}
use Rattle.fancy_lex.specs.Escape.{escape_at}
use Rattle.fancy_lex.specs.EscapeViews.{escape_of}
use Rattle.fancy_lex.specs.Reading.{Reports}
use Rattle.fancy_lex.proofs.escape.read_escape.Goals as goal
use Rattle.fancy_lex.proofs.escape.read_escape.Goals.{in_default-c-via-in-b+else-not-inside}
use Rattle.fancy_lex.proofs.escape.read_escape.Goals.{in_default-c-via-in-k+else-not-inside-2}
use Rattle.fancy_lex.proofs.escape.read_escape.Goals.{in_default-c-via-in-g+else-not-inside-3}
use Rattle.fancy_lex.proofs.escape.read_escape.Goals.{in_default-c-via-in_default+then-c-lt48}
use Rattle.fancy_lex.proofs.escape.read_escape.Goals.{in_default-c-via-in_default+else-c-lt48+else-c-lt58}

pub returns-in-None-clause-value : goal.returns-in-None-clause-value
returns-in-None-clause-value c =
    let a = c.args in
    let whole : reads_on a.inside c.in-Some.c ≡ false =
    elim c.in_default-c.branch [
      | in_default-c-via-in-b+else-not-inside w ↦ grind (arith, nat_tests)
      | in_default-c-via-in-k+else-not-inside-2 w ↦ grind (arith, nat_tests)
      | in_default-c-via-in-g+else-not-inside-3 w ↦ grind (arith, nat_tests)
      | in_default-c-via-in_default+then-c-lt48 w ↦ grind (arith, nat_tests)
      | in_default-c-via-in_default+else-c-lt48+else-c-lt58 w ↦ grind (arith, nat_tests)
    ] in
    let none = c.lone_escape.ensures ∙ ap (option_map escape_of) c.in-None.is in
    let unknown = rw none at (alone a.flags a.reach c.in-Some.c (chars c.in-Some.rest.now) a.inside whole) in
    let is = ap (escape_at a.flags a.inside a.reach) c.in-Some.ensures.value ∙ unknown in
    subst (Reports c.unknown_escape.result) (sym is) c.unknown_escape.ensures
