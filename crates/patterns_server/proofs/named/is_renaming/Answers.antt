use Rattle.std.proofs.Common.{◌≡◌, ap, chars, subst}
use Rattle.fancy_lex.specs.Flags.{flags_of}
use Rattle.fancy_syntax.specs.InfoViews.{IsTreeOf, info_of}
use Rattle.fancy_syntax.specs.View.{view}
use Rattle.patterns_server.proofs.named.is_renaming.Goals as goal

pub returns-in-Ok : goal.returns-in-Ok
returns-in-Ok c same =
    let new = c.in-Ok.parsed.tree in
    let subject = c.of_argument.result in
    let flags = c.args.pattern.subject.flags in
    let text = chars c.args.text.now in
    let tree : IsTreeOf (flags_of subject.flags) (chars subject.pattern.now) (view new.expr) (info_of new) =
    rw c.in-Ok.is at c.in_ok-parsed.ensures.tree in
    let under : IsTreeOf (flags_of flags) (chars subject.pattern.now) (view new.expr) (info_of new) =
    subst (λ n. IsTreeOf (flags_of n) (chars subject.pattern.now) (view new.expr) (info_of new)) c.of_argument.ensures.flags tree in
    let of_text : IsTreeOf (flags_of flags) text (view new.expr) (info_of new) =
    subst (λ t. IsTreeOf (flags_of flags) (chars t.now) (view new.expr) (info_of new)) c.of_argument.ensures.pattern under in (
      info_of new,
      subst (λ t. IsTreeOf (flags_of flags) text t (info_of new)) (rw same at c.is_renamed.ensures.tree) of_text,
      rw same at c.is_renamed.ensures.groups,
    )
