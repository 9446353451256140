use Rattle.std.proofs.Common.{[], ◌++◌, ap, sym, subst, ◌∙◌}
use Rattle.std.proofs.lemmas.List.{length-map}
use Rattle.std.proofs.lemmas.Result.{err_from_is_err_and}
use Rattle.fancy_grammar.specs.Grammar.{Alternation}
use Rattle.fancy_syntax.specs.Decided.{decided, all_decided}
use Rattle.fancy_syntax.specs.Machine.{IsErrorOfBar, IsOpenedByBar, HoldsTrees, branches_at_bar, part_of}
use Rattle.fancy_syntax.specs.Log.{branch_begun, branch_ended}
use Rattle.fancy_syntax.specs.Parsed.{state}
use Rattle.fancy_syntax.specs.View.{views}
use Rattle.fancy_syntax.proofs.DecidedLemmas.{decided_concat}
use Rattle.fancy_syntax.proofs.DecidedParts.{holds_decided, holds_raw, opened_part, same_branches, same_error_of_bar}
use Rattle.fancy_syntax.proofs.DecidedParts.{same_second}
use Rattle.fancy_syntax.proofs.MachineLemmas.{joined, running_bar, running_bar_error}
use Rattle.fancy_grammar.proofs.OutcomeLemmas.{IsErrorAmong-map}
use Rattle.fancy_syntax.proofs.grammar.parser.Parser.bar.Goals as goal

pub returns-in_err-bar-clause-reading : goal.returns-in_err-bar-clause-reading
returns-in_err-bar-clause-reading g c start none l h =
    let e = err_from_is_err_and c.from_residual.result c.from_residual.ensures.1 in
    let rest = (state c.args.self.now.current).rest in
    let opened = c.args.self.now.frame.open_part in
    rw (e.1, e.2) (IsErrorAmong-map (IsErrorOfBar (part_of opened) rest)
    (Alternation 0 start) c.in_err-bar.field-0.0
    (λ f a. running_bar_error _ h.running c.requires.last c.requires.bar
    (same_error_of_bar start.flags.ignore_numbered_groups opened h.running.part rest _ h.running.is_part a))
    (c.in_err-bar.ensures.error rest c.reach-bar.ensures))

pub returns-clause-reading : goal.returns-clause-reading
returns-clause-reading g c start none l h =
    let i = start.flags.ignore_numbered_groups in
    let f = c.in_ok-bar.ensures in
    let r = h.running in
    let old = c.args.self.now.frame.open_part in
    let new = c.bar.new.self in
    let all = all_decided i in
    let held = subst (λ x. HoldsTrees c.args.self.now.frame x (all r.below) (all r.branches) (all r.pieces)) (sym h.same)
    (holds_decided i c.args.self.now.frame h.trees r.below r.branches r.pieces r.holds) in
    let branch = decided_concat i r.pieces in
    let opened = opened_part i old new.open_part r.part (joined r.pieces) r.is_part
    (subst (IsOpenedByBar old new.open_part) branch (f.open_part (all r.below) (all r.branches) (all r.pieces) held)) in
    let branches = branches_at_bar r.part r.branches (joined r.pieces) in
    let (same, holds) = holds_raw i new (views c.bar.new.trees.items) r.below branches
    (subst (λ x. HoldsTrees new (views c.bar.new.trees.items) (all r.below) x [])
    (ap (branches_at_bar (part_of old) (all r.branches)) branch
    ∙ same_branches i old r.part r.branches (joined r.pieces) r.is_part)
    (f.trees (all r.below) (all r.branches) (all r.pieces) held)) in (
      _,
      record {
        is = h.is;
        trees = r.below ++ branches;
        same = same;
        running = running_bar _ new r c.requires.last c.requires.bar
            (sym (same_second i old r.part r.is_part) ∙ f.allowed) opened holds;
        found = h.found;
      },
      λ n. subst (g.S.Spanning.records c.next_branch.new.self)
          (λ j. branch_begun (c.reach.ensures j)
          (branch_ended (length-map r.pieces (decided i) j) (c.reach-bar.ensures j) l))
          (c.next_branch.ensures _ (f.spans (all r.below) (all r.branches) (all r.pieces) l held n)),
    )
