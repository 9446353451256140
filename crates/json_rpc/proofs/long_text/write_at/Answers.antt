use Rattle.std.proofs.Common.{◌≡◌, ◌+◌, ◌-◌, ◌≤◌, ◌∙◌, length, drop, drop-drop, ap, arith, rules}
use Rattle.json_rpc.proofs.PartLemmas.{kept_after}
use Rattle.json_rpc.proofs.long_text.write_at.Goals as goal

pub returns-clause-rest : goal.returns-clause-rest
returns-clause-rest c =
    let offset = c.args.offset in
    let end = c.in_ok-end.end in
    let text = c.deref_mut.result.now in
    let whole : c.args.offset + (c.in_ok-end.end - c.args.offset) ≡ c.in_ok-end.end = omega arith in
    kept_after c.args.message.now.items text c.copy_from_slice.new.self _ offset end c.args.limit c.args.message.now.len
    c.deref_mut.ensures.value (drop-drop (end - offset) offset text ∙ ap (λ k. drop k text) whole)
    (omega (arith, ap length c.copy_from_slice.ensures.after)) (omega arith) (omega arith) (search rules)
