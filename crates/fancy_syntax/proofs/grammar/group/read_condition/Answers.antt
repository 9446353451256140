use Rattle.std.proofs.Common.{sym, subst, ◌∙◌}
use Rattle.std.specs.Str.{chars}
use Rattle.fancy_syntax.specs.Parsed.{state, Sees}
use Rattle.fancy_grammar.proofs.AtomStartLemmas.{defines, target_is, no_condition_start}
use Rattle.fancy_syntax.proofs.grammar.group.read_condition.Goals as goal

pub returns-in-Some-after_word-clause-value : goal.returns-in-Some-after_word-clause-value
unfolding chars
returns-in-Some-after_word-clause-value c =
    defines (state c.args.current.now) (state c.args.current.now).rest _ c.in-Some-after_word.ensures.value

pub returns-then-begins_target-clause-value : goal.returns-then-begins_target-clause-value
unfolding chars
returns-then-begins_target-clause-value c =
    let starts = target_is (state c.args.current.now) _ _ c.in-Some.ensures.value
    c.in_default-after_word.ensures.value
    (sym c.begins_target.ensures ∙ c.if-begins_target.true) in
    subst (Sees c.read_target.result (state c.read_target.new.current)) (sym starts) c.read_target.ensures.value

pub returns-clause-value : goal.returns-clause-value
unfolding chars
returns-clause-value c =
    no_condition_start (state c.args.current.now) _ _ c.in-Some.ensures.value
    c.in_default-after_word.ensures.value
    (sym c.begins_target.ensures ∙ c.if-begins_target.false) c.if-c-eq42.false
