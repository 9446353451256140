use Rattle.std.proofs.Common.{◌≡◌, ◌+◌, ap, map, length, sym, arith, ◌∙◌}
use Rattle.std.specs.Prelude.{encode_utf8_all}
use Rattle.fancy_lex.specs.Text.{text_of}
use Rattle.fancy_grammar.specs.Groups.{entry_of}
use Rattle.fancy_c.specs.Buffer.{put_at}
use Rattle.fancy_c.specs.InfoRows.{rows_of_name}
use Rattle.fancy_c.proofs.NameRowLemmas.{names_start, name_capacity, names_next}
use Rattle.fancy_c.proofs.NodeLemmas.{string_text}
use Rattle.fancy_c.proofs.info_rows.put_names.Goals as goal

pub loop-name-init : goal.loop-name-init
loop-name-init c =
    names_start _ _ _ _ _ _
    (ap (map entry_of) (c.into_iter-name-iterator.ensures.into_iter_gives ∙ c.iter-name-items.ensures.rest))
    c.requires.names_capacity c.requires.bytes_capacity

pub put_text-text-requires : goal.put_text-text-requires
put_text-text-requires c =
    let capacity = name_capacity _ _ _ (ap (map entry_of) c.in-Some.ensures.steps) c.loop-name.invariant in
    omega (arith, capacity.1, ap length c.as_bytes.ensures.value, ap length (string_text c.in-Some.name.now))

pub put_numbers-rows-requires : goal.put_numbers-rows-requires
put_numbers-rows-requires c =
    let capacity = name_capacity _ _ _ (ap (map entry_of) c.in-Some.ensures.steps) c.loop-name.invariant in
    omega (arith, capacity.0, ap length c.deref.ensures.value)

pub loop-name-preserved : goal.loop-name-preserved
loop-name-preserved c =
    let name = string_text c.in-Some.name.now in
    let at = c.loop-name.after in
    let size : c.len.result ≡ length (encode_utf8_all (text_of c.in-Some.name.now)) =
    omega (arith, c.len.ensures, ap length name) in
    let w = encode_utf8_all (text_of c.in-Some.name.now) in
    let at_n : c.put_numbers-rows.result ≡ at.rows + length c.in-Some.numbers.now.items =
    omega (arith, c.put_numbers-rows.ensures.after, ap length c.deref.ensures.value) in
    let at_o : c.put_text-text.result ≡ at.text + length w =
    omega (arith, c.put_text-text.ensures.after, ap length c.as_bytes.ensures.value, ap length name) in
    names_next _ c.loop-name.names c.put_numbers-rows.new.names _ c.loop-name.bytes c.put_text-text.new.bytes _ _
    at.rows at.text _ _ _ _ (text_of c.in-Some.name.now) c.in-Some.numbers.now.items _
    c.loop-name.invariant (ap (map entry_of) c.in-Some.ensures.steps) at_n at_o
    (c.put_numbers-rows.ensures.put
    ∙ ap (λ m. put_at c.loop-name.names at.rows (rows_of_name at.text m c.deref.result.now)) size
    ∙ ap (λ ks. put_at c.loop-name.names at.rows (rows_of_name at.text (length w) ks)) c.deref.ensures.value)
    (c.put_text-text.ensures.put ∙ ap (put_at c.loop-name.bytes at.text) (c.as_bytes.ensures.value ∙ sym name))
