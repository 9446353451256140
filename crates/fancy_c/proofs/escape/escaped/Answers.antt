use Rattle.std.proofs.Common.{chars, ap, ◌∙◌}
use Rattle.fancy_lex.specs.Flags.{flags_of}
use Rattle.fancy_syntax.specs.InfoViews.{info_of}
use Rattle.fancy_syntax.specs.View.{view}
use Rattle.fancy_c.proofs.EscapeLemmas.{never_none, always_escape}
use Rattle.fancy_c.proofs.escape.escaped.Goals as goal

pub unreachable-requires : goal.unreachable-requires
unreachable-requires c =
    never_none (flags_of c.args.flags) c.from_bits.result (view c.without_groups-tree.result.expr)
    (info_of c.without_groups-tree.result) (chars c.args.text.now) c.in_ok-pattern.field-0 c.from_bits.ensures
    (ap view c.without_groups-tree.ensures.tree ∙ c.in_ok-tree_of_text.ensures) c.without_groups-tree.ensures.group_info
    c.in-None.is c.in_ok-pattern.ensures.none

pub returns : goal.returns
returns c =
    always_escape (flags_of c.args.flags) c.from_bits.result (view c.without_groups-tree.result.expr)
    (info_of c.without_groups-tree.result) (chars c.args.text.now) c.in_ok-pattern.field-0 c.in-Some.pattern
    c.from_bits.ensures (ap view c.without_groups-tree.ensures.tree ∙ c.in_ok-tree_of_text.ensures)
    c.without_groups-tree.ensures.group_info c.in-Some.is c.in_ok-pattern.ensures.text c.in_ok-pattern.ensures.reads_back
