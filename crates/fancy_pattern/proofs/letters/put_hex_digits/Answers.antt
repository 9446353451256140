use Rattle.std.proofs.Common.{◌∷◌, [], ◌/◌, ◌%◌, refl}
use Rattle.fancy_lex.specs.Class.{upper_hex_digit}
use Rattle.fancy_pattern.proofs.OutputLemmas.{last_four}
use Rattle.fancy_pattern.proofs.letters.put_hex_digits.Goals as goal

pub returns : goal.returns
returns c =
    last_four c.put_hex_digit-4.result c.args.out.now c.put_hex_digit.new.out
    c.put_hex_digit-2.new.out c.put_hex_digit-3.new.out c.put_hex_digit-4.new.out
    (upper_hex_digit (c.args.code / 4096) ∷ []) (upper_hex_digit (c.args.code / 256 % 16) ∷ [])
    (upper_hex_digit (c.args.code / 16 % 16) ∷ []) (upper_hex_digit (c.args.code % 16) ∷ []) _
    c.in_ok-put_hex_digit.ensures c.in_ok-put_hex_digit-2.ensures c.in_ok-put_hex_digit-3.ensures
    c.put_hex_digit-4.ensures refl
