use Rattle.std.proofs.Common.{codes, refl}
use Rattle.std.specs.Str.{chars}
use Rattle.pattern_facts.proofs.EscapeLemmas.{class_as, digit_long, no_digit_long, no_space_long, no_word_long, space_long, word_long}
use Rattle.pattern_facts.proofs.plain.bytes_of_escape.Goals as goal

pub returns-in-text : goal.returns-in-text
unfolding chars
returns-in-text c = λ casei. class_as casei 1 3 (codes "\\s") c.args.class.now c.in-text.is refl (space_long casei)

pub returns-in-text-2 : goal.returns-in-text-2
unfolding chars
returns-in-text-2 c = λ casei. class_as casei 1 4 (codes "\\d") c.args.class.now c.in-text-2.is-text-2 refl (digit_long casei)

pub returns-in-text-2-2 : goal.returns-in-text-2-2
unfolding chars
returns-in-text-2-2 c =
    λ casei. class_as casei 1 4 (codes "\\D") c.args.class.now c.in-text-2.is-text-3 refl (no_digit_long casei)

pub returns-in-text-2-3 : goal.returns-in-text-2-3
unfolding chars
returns-in-text-2-3 c =
    λ casei. class_as casei 1 4 (codes "\\S") c.args.class.now c.in-text-2.is-text-4 refl (no_space_long casei)

pub returns-in-text-2-4 : goal.returns-in-text-2-4
unfolding chars
returns-in-text-2-4 c = λ casei. class_as casei 1 4 (codes "\\w") c.args.class.now c.in-text-2.is-text-5 refl (word_long casei)

pub returns-in-text-2-5 : goal.returns-in-text-2-5
unfolding chars
returns-in-text-2-5 c =
    λ casei. class_as casei 1 4 (codes "\\W") c.args.class.now c.in-text-2.is-text-6 refl (no_word_long casei)
