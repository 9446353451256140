use Rattle.std.proofs.Common.{sym, ap, ◌∙◌}
use Rattle.fancy_grammar.specs.Items.{items}
use Rattle.fancy_grammar.specs.Walk.{Progress, nothing_recorded, progress_after, resolved_by}
use Rattle.fancy_syntax.specs.WalkViews.{info_found, progress_of, scope_of}
use Rattle.fancy_syntax.specs.Regrouped.{raw}
use Rattle.fancy_syntax.specs.View.{view}
use Rattle.fancy_syntax.proofs.RegroupedLemmas.{settled_passes, settled_same}
use Rattle.fancy_syntax.proofs.resolve.walk.Goals as goal
use Rattle.fancy_syntax.proofs.resolve.walk.Goals.{then-unresolved+in-Ok, else-unresolved}

pub returns-clause-tree : goal.returns-clause-tree
returns-clause-tree c =
    let t = c.args.tree.now in let k = scope_of c.args.scope.now in
    elim c.if-unresolved.branch [
      | then-unresolved+in-Ok w ↦
          let walked = rw w.in-Ok.is at w.rewrite.ensures in
          ap view w.tree-is ∙ walked.0 ∙ ap (λ (s : Progress). resolved_by k s.passed (raw t)) c.new-progress.ensures
      | else-unresolved w ↦
          ap view w.tree-is ∙ sym (settled_same k (view t) (c.requires.settled w.if-unresolved.false) 0)
    ]

pub returns-clause-group_info : goal.returns-clause-group_info
returns-clause-group_info c =
    let t = c.args.tree.now in let k = scope_of c.args.scope.now in
    let info = info_found k.named k.groups in
    elim c.if-unresolved.branch [
      | then-unresolved+in-Ok w ↦
          let walked = rw w.in-Ok.is at w.rewrite.ensures in
          ap (λ p. info (progress_of p)) w.progress-is
          ∙ ap info (walked.1 ∙ ap (λ s. progress_after k s (items (raw t))) c.new-progress.ensures)
      | else-unresolved w ↦
          let (n, same) = settled_passes k nothing_recorded (view t) (c.requires.settled w.if-unresolved.false) in
          ap (λ p. info (progress_of p)) w.progress-is ∙ ap info c.new-progress.ensures ∙ sym (ap info same)
    ]

pub returns-clause-no_error : goal.returns-clause-no_error
returns-clause-no_error c =
    let t = c.args.tree.now in let k = scope_of c.args.scope.now in
    let error = λ (p : Progress). p.error in
    elim c.if-unresolved.branch [
      | then-unresolved+in-Ok w ↦
          let walked = rw w.in-Ok.is at w.rewrite.ensures in
          sym (ap error (walked.1 ∙ ap (λ s. progress_after k s (items (raw t))) c.new-progress.ensures))
      | else-unresolved w ↦
          let (n, same) = settled_passes k nothing_recorded (view t) (c.requires.settled w.if-unresolved.false) in
          ap error same
    ]
