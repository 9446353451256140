use Rattle.std.proofs.Common.{◌≢◌, ◌⊎◌, ◌≡◌, [], ◌∷◌, inl, inr, chars, refl, rules}
use Prim.Native.Char.{code}
use Rattle.fancy_grammar.specs.PatternSource.{part}
use Rattle.fancy_grammar.specs.PatternLetters.{by_letter_or, plain}
use Rattle.fancy_pattern.proofs.OutputLemmas.{then_added}
use Rattle.fancy_pattern.proofs.SourceWalk.{added_part, single_plain, single_escape}
use Rattle.fancy_pattern.proofs.source.put_unit.Goals as goal
use Rattle.fancy_pattern.proofs.source.put_unit.Goals.{else-c-eq92-via-else-c-eq92, else-c-eq92-via-then-c-eq92+in-None-1}

pub returns : goal.returns
returns c =
    added_part c.args.out.now c.put-2.new.self
    (part (c.args.c ∷ c.in-Some.letter ∷ []) (chars c.in-Some.tail.now)) _ (chars c.in-Some.tail.now)
    (single_escape c.args.c c.in-Some.letter (chars c.args.rest.now) (chars c.in-Some.tail.now) c.if-c-eq92.true
    c.if-letter-eq112.false c.if-letter-eq80.false c.in-Some.ensures.value)
    (then_added c.args.out.now c.put.new.self c.put-2.new.self (c.args.c ∷ []) (c.in-Some.letter ∷ [])
    c.in_ok-put.ensures c.in_ok-put-2.ensures) refl

pub returns-2 : goal.returns-2
returns-2 c =
    let why : (c.args.c ≢ code "\\") ⊎ (chars c.args.rest.now ≡ []) =
    elim c.else-c-eq92.branch [
      | else-c-eq92-via-else-c-eq92 w ↦ inl w.if-c-eq92.false
      | else-c-eq92-via-then-c-eq92+in-None-1 w ↦ inr (search rules)
    ] in
    added_part c.args.out.now c.put_class_character.new.out
    (part (by_letter_or c.args.c (plain c.args.c)) (chars c.args.rest.now)) _ (chars c.args.rest.now)
    (single_plain c.args.c (chars c.args.rest.now) why)
    c.in_ok-put_class_character.ensures refl
