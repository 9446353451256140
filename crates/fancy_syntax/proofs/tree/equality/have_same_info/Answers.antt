use Rattle.std.proofs.Common.{ap, sym, ◌∙◌}
use Rattle.fancy_grammar.specs.GroupInfo.{GroupInfo}
use Rattle.fancy_syntax.proofs.InfoLemmas.{differs, contrary, info_same, flags_equal, numbers_equal}
use Rattle.fancy_syntax.proofs.tree.equality.have_same_info.Goals as goal

pub returns-then-not-have_same_names : goal.returns-then-not-have_same_names
returns-then-not-have_same_names c =
    differs _ c.have_same_names.ensures c.if-not-have_same_names.true (ap (λ (m : GroupInfo). m.named_groups))

pub returns-then-not-have_same_backrefs : goal.returns-then-not-have_same_backrefs
returns-then-not-have_same_backrefs c =
    differs _ c.have_same_backrefs.ensures c.if-not-have_same_backrefs.true (ap (λ (m : GroupInfo). m.backrefs))

pub returns-then-not-have_same_flags : goal.returns-then-not-have_same_flags
returns-then-not-have_same_flags c =
    contrary (λ e. sym c.if-not-have_same_flags.true ∙ c.have_same_flags.ensures
    ∙ flags_equal c.args.a.now c.args.b.now e)

pub returns : goal.returns
returns c =
    let a = c.args.a.now in
    let b = c.args.b.now in
    let names = c.have_same_names.ensures.0 c.if-not-have_same_names.false in
    let keys = c.have_same_backrefs.ensures.0 c.if-not-have_same_backrefs.false in
    let flags = sym c.if-not-have_same_flags.false ∙ c.have_same_flags.ensures in (
      λ e. info_same a b names keys flags (sym e ∙ c.have_same_numbers.ensures),
      λ e. c.have_same_numbers.ensures ∙ numbers_equal a b e,
    )
