use Rattle.std.proofs.Common.{◌≡◌, Some, None, codes, refl, ◌∙◌, arith}
use Rattle.std.specs.Str.{chars}
use Rattle.fancy_lex.specs.Text.{strip_word}
use Rattle.fancy_grammar.specs.Verb.{verb_at}
use Rattle.fancy_grammar.specs.declared.kinds.BacktrackingControlVerb.TheVariants.{Fail}
use Rattle.fancy_syntax.proofs.VerbLemmas.{verb_later}
use Rattle.fancy_syntax.proofs.grammar.group.verb_at.Goals as goal

pub returns-in-Some-clause-value : goal.returns-in-Some-clause-value
unfolding verb_at chars
returns-in-Some-clause-value c =
    let e : strip_word (codes "F)") (chars c.args.text.now) ≡ Some (chars c.in-Some.rest.now) = c.in-Some.ensures.value in
    rw e refl

pub loop-verb-init : goal.loop-verb-init
unfolding verb_at chars
loop-verb-init c =
    let e : strip_word (codes "F)") (chars c.args.text.now) ≡ None = c.in_default.ensures.value in rw e refl

pub loop-verb-preserved : goal.loop-verb-preserved
loop-verb-preserved c =
    c.loop-verb.invariant ∙ verb_later _ c.loop-verb.verb-index Fail _ (omega arith) c.in_default-after_verb.ensures.value
