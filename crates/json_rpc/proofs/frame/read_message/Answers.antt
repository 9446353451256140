use Rattle.std.proofs.Common.{rules, ◌≡◌, ◌++◌, Some, length, sym, ap, ◌∙◌, append_assoc}
use Rattle.json_rpc.specs.Header.{header}
use Rattle.json_rpc.proofs.LineLemmas.{exactly, taken}
use Rattle.json_rpc.proofs.frame.read_message.Goals as goal

pub returns : goal.returns
returns g c message rest small e =
    let found = rw c.in-Some.is at c.in_ok-length.ensures in
    let header_read = found (length message) (message ++ rest) small
    (e ∙ ap Some (append_assoc (header (length message)) message rest)) in
    let long : length c.read_exact.new.buf ≡ c.in-Some.length = search rules in
    let both = exactly _ _ message rest (long ∙ header_read.0) (rw header_read.1 at c.in_ok-read_exact.ensures.bytes) in
    let whole : c.in_ok-message.message.len ≡ length c.read_exact.new.buf = c.in_ok-message.ensures.len ∙ sym long in
    (taken c.read_exact.new.buf _ _ whole ∙ both.0, both.1)
