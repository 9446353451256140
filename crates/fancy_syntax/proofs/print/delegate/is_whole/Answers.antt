use Rattle.std.proofs.Common.{◌≡◌, false, rules}
use Rattle.fancy_lex.specs.Characters.{◌∈◌}
use Rattle.fancy_grammar.proofs.DelegateLemmas.{none_of_nothing, none_of_others}
use Rattle.fancy_syntax.proofs.print.delegate.is_whole.Goals as goal

pub returns-in_default : goal.returns-in_default
returns-in_default c = none_of_nothing c.args.text.now c.in_default.ensures.value

pub returns-in_default-c : goal.returns-in_default-c
returns-in_default-c c =
    let other : (c.in-Some.c ∈ "[\\") ≡ false = search rules in
    none_of_others c.args.text.now c.in-Some.rest.now c.in-Some.c c.in-Some.ensures.value other
