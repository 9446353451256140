use Rattle.std.proofs.Common.{◌≡◌, ◌++◌, chars, string_bytes, ap, ◌∙◌}
use Rattle.editor_documents.proofs.TextLemmas.{chars-joined}
use Rattle.editor_documents.proofs.change.joined.Goals as goal

pub returns : goal.returns
returns c =
    let bytes : string_bytes c.push_str-2.new.self ≡ (c.args.first.now ++ c.args.second.now) ++ c.args.third.now =
    cc (c.in_ok-push_str-2.ensures.bytes, c.in_ok-push_str.ensures.bytes, c.in_ok-joined.ensures.ok) in
    ap chars bytes ∙ chars-joined c.args.first.now c.args.second.now c.args.third.now c.utf8.first c.utf8.second
