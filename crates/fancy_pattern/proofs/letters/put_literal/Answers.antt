use Rattle.std.proofs.Common.{chars, rules}
use Rattle.fancy_grammar.specs.PatternLetters.{character}
use Rattle.fancy_pattern.proofs.OutputLemmas.{adding_starts, adding_later, adding_ends, mapped_next, mapped_end}
use Rattle.fancy_pattern.proofs.letters.put_literal.Goals as goal

pub loop-c-init : goal.loop-c-init
loop-c-init c = record { text = search rules; writing = adding_starts c.args.out.now _ }

pub loop-c-preserved : goal.loop-c-preserved
loop-c-preserved c = record {
  text = search rules;
  writing = adding_later _ _ _ (character c.args.flags c.args.casei c.in-Some.c) _ _ _
      (mapped_next (character c.args.flags c.args.casei) (chars c.loop-c.rest.now) _ c.in-Some.c c.in-Some.ensures.value)
      c.loop-c.invariant.writing c.in_ok-put_character.ensures;
}

pub returns : goal.returns
returns c =
    adding_ends _ _ _ _ (mapped_end (character c.args.flags c.args.casei) (chars c.loop-c.rest.now)
    c.in_default.ensures.value) c.loop-c.invariant.writing
