use Rattle.std.proofs.Common.{sym, ◌∙◌}
use Rattle.fancy_syntax.specs.View.{view}
use Rattle.pattern_facts.proofs.NodeLemmas.{empty_leaf_known, set_known}
use Rattle.pattern_facts.proofs.rows.leaf_facts.Goals as goal

pub returns-then-is_empty_leaf : goal.returns-then-is_empty_leaf
returns-then-is_empty_leaf c =
    empty_leaf_known c.args.unicode (view c.args.node.now) c.empty.result
    (sym c.is_empty_leaf.ensures ∙ c.if-is_empty_leaf.true) c.empty.ensures.characters c.empty.ensures.bytes
    (c.empty.ensures.start ∙ c.is_text_start.ensures) (c.empty.ensures.end ∙ c.is_text_end.ensures)

pub returns-in-Characters : goal.returns-in-Characters
returns-in-Characters c =
    set_known c.args.unicode (view c.args.node.now) c.in-Characters.set c.one_of.result
    (record {
      characters = c.one_of.ensures.characters;
      bytes = c.one_of.ensures.bytes;
      start = c.one_of.ensures.start;
      end = c.one_of.ensures.end;
    })
    (rw c.in-Characters.is at c.in_ok-set.ensures)
