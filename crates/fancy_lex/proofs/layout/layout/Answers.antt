use Rattle.std.proofs.Common.{sym, ◌∙◌}
use Rattle.fancy_lex.proofs.LayoutLaws.{derives_from, layout_complete, unclosed_complete}
use Rattle.fancy_lex.proofs.layout.layout.Goals as goal

pub returns-clause-derives : goal.returns-clause-derives
returns-clause-derives c = derives_from _ _ _ c.read_layout.ensures.value

pub returns-clause-only : goal.returns-clause-only
returns-clause-only c v b = sym c.read_layout.ensures.value ∙ layout_complete _ _ v b

pub returns-clause-only_error : goal.returns-clause-only_error
returns-clause-only_error c p b = sym c.read_layout.ensures.value ∙ unclosed_complete _ _ p b
