use Rattle.std.proofs.Common.{◌≡◌, ◌+◌, ◌≤◌, length, take, drop}
use Rattle.fancy_grammar.specs.Items.{openings_in}
use Rattle.fancy_syntax.specs.WalkViews.{scope_of, progress_of}
use Rattle.fancy_syntax.specs.View.{views}
use Rattle.fancy_grammar.specs.Walk.{progress_after}
use Rattle.fancy_syntax.proofs.WalkLemmas.{rest, resolved_list}
use Rattle.fancy_syntax.proofs.resolve.rewrite.+rewrite.Given as goal

abbrev pub invariant-rewrite_all-loop-i : goal.invariant-rewrite_all-loop-i
invariant-rewrite_all-loop-i l =
    let before = l.fn.trees.items in
    goal.unvisited-rewrite_all-loop-i l
    × (progress_after (scope_of l.scope) (progress_of l.progress) (rest before l.i)
    ≡ progress_after (scope_of l.scope) (progress_of l.fn.progress) (rest before 0))
    × (l.progress.passed + length (openings_in (rest before l.i)) ≤ l.fn.progress.passed + length
    (openings_in (rest before 0)))
    × (views (take l.i l.trees.items)
    ≡ take l.i (resolved_list (scope_of l.scope) l.fn.progress.passed (views before)))
    × (resolved_list (scope_of l.scope) l.progress.passed (views (drop l.i before))
    ≡ drop l.i (resolved_list (scope_of l.scope) l.fn.progress.passed (views before)))
