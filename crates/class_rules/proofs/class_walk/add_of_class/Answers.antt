use Rattle.std.proofs.Common.{refl}
use Rattle.std.specs.List.{slice_get}
use Rattle.fancy_lex.specs.Flags.{flags_of}
use Rattle.fancy_syntax.specs.Spanned.{spanned_of}
use Rattle.class_rules.proofs.FindingLemmas.{keeps_then, suspicious_of}
use Rattle.class_rules.proofs.KnownLemmas.{findings_of}
use Rattle.class_rules.proofs.class_walk.add_of_class.Goals as goal

pub returns-in_default-2-clause-problems : goal.returns-in_default-2-clause-problems
returns-in_default-2-clause-problems c =
    let flags = c.args.known.now.flags in
    c.in_ok-add_findings.ensures flags c.args.pattern.now c.in-Some.class c.in-Some.ensures
    (findings_of (slice_get c.index_of.new.self.classes.items c.in_ok-index.index) c.in-Some.class flags
    c.findings_at-findings.result.now c.in_ok-index.ensures.class c.findings_at-findings.ensures)

pub returns-clause-problems : goal.returns-clause-problems
returns-clause-problems c =
    let flags = c.args.known.now.flags in
    let pattern = c.args.pattern.now in
    let class = c.in-Some.class in
    let all = findings_of (slice_get c.index_of.new.self.classes.items c.in_ok-index.index) class flags
    c.findings_at-findings.result.now c.in_ok-index.ensures.class c.findings_at-findings.ensures in
    let shown = suspicious_of flags class c.findings_at-findings.result.now c.source_of-source.result.source.now
    c.in_ok-span.field-0 c.in-Some-2.field-0 c.in-Some-2.field-0.span c.in-Some-2.field-0.look c.in-Some-2.is refl refl
    c.source_of-source.ensures.source all c.in_ok-span.ensures.needless c.in_ok-span.ensures.shows in
    keeps_then (flags_of flags) pattern (spanned_of c.args.node) _ _ _
    (c.in_ok-add_finding.ensures flags pattern class c.in-Some.ensures shown)
    (c.in_ok-add_findings-2.ensures flags pattern class c.in-Some.ensures all)
