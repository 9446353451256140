use Rattle.std.proofs.Common.{◌≡◌, ◌∙◌, chars, length, arith, rules}
use Rattle.std.proofs.lemmas.Bool.Decides.{nat_tests}
use Rattle.fancy_lex.proofs.LayoutLaws.{layout_cut}
use Rattle.fancy_lex.proofs.TextLemmas.{cut_nothing}
use Rattle.fancy_syntax.specs.Parsed.{state}
use Rattle.fancy_syntax.proofs.PassedLemmas.{no_layout_passed}
use Rattle.fancy_syntax.proofs.grammar.spans.SpansSpanning.pass_layout.Goals as goal

pub returns-then-after-current : goal.returns-then-after-current
returns-then-after-current c l e =
    let s = state c.args.current in
    let (front, cut) = layout_cut s.flags.ignore_space s.rest (chars c.args.after.now) c.requires in
    let long : length c.args.after.now ≡ length c.args.current.rest.now = grind (arith, nat_tests) in
    e ∙ no_layout_passed s (chars c.args.after.now) l c.requires
    (cut_nothing c.args.current.rest.now c.args.after.now front (search rules) (search rules) cut long)
