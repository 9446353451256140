use Rattle.fancy_lex.proofs.IdLemmas.{id_nothing, id_read, read_cut}
use Rattle.fancy_lex.proofs.name.id.id.Goals as goal

pub front-requires : goal.front-requires
front-requires c =
    let rest = c.after_id-rest in
    (_, read_cut c.args.text.now rest.result.now c.utf8.text rest.utf8 rest.ensures.value)

pub returns-then-rest-text-clause-value : goal.returns-then-rest-text-clause-value
returns-then-rest-text-clause-value c =
    let rest = c.after_id-rest in
    id_nothing c.args.text.now rest.result.now c.utf8.text rest.utf8 rest.ensures.value c.if-rest-text.true

pub returns-clause-value : goal.returns-clause-value
returns-clause-value c =
    let rest = c.after_id-rest in
    id_read c.args.text.now rest.result.now c.utf8.text rest.utf8 rest.ensures.value c.front.result.now
    c.if-rest-text.false c.front.ensures
