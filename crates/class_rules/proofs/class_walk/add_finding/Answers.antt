use Rattle.std.proofs.Math.Logic.{∥∥₁_map}
use Rattle.fancy_lex.specs.Flags.{flags_of}
use Rattle.fancy_syntax.specs.Spanned.{spanned_of}
use Rattle.class_rules.proofs.FindingLemmas.{keeps_none, keeps_of_class, moved_problem}
use Rattle.class_rules.proofs.class_walk.add_finding.Goals as goal

pub returns : goal.returns
returns c flags pattern class is h =
    let node = spanned_of c.args.node in
    keeps_of_class (flags_of flags) pattern node _ _ _ _ c.in_ok-push.ensures.items (keeps_none (flags_of flags) pattern node _)
    (∥∥₁_map h (λ p. moved_problem flags pattern node class c.args.finding _ _ is c.span.ensures p c.moved.ensures.problem
    c.moved.ensures.span))
