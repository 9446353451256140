use Rattle.std.proofs.Common.{ℕ, List}
use Rattle.fancy_syntax.specs.View.{views}
use Rattle.fancy_c.specs.RowTree.{AreBuiltFrom, AreTreesOf}
use Rattle.fancy_c.specs.declared.node.Node.{Node}
use Rattle.fancy_c.proofs.built.take_children.Given as goal

abbrev pub invariant-loop : goal.invariant-loop
invariant-loop l =
    (texts : List ℕ) (nodes : List Node) → AreBuiltFrom texts nodes l.first l.initial.built.items →
    AreTreesOf texts nodes l.first l.next (views l.children.trees.items) × AreBuiltFrom texts nodes l.next l.built.items
