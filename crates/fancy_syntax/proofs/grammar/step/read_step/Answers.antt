use Rattle.std.proofs.Common.{◌≡◌, Bool, List, ◌∷◌, [], ◌++◌, chars, refl, ap, subst, sym, ◌∙◌}
use Rattle.std.proofs.lemmas.List.{map-append}
use Rattle.std.proofs.lemmas.Result.{err_from_is_err_and}
use Rattle.fancy_grammar.specs.AtomStart.{atom_start, read}
use Rattle.fancy_grammar.specs.Grammar.{Piece, piece, atom, a_nothing, a_read}
use Rattle.fancy_grammar.specs.Join.{solid}
use Rattle.fancy_grammar.specs.State.{at, done}
use Rattle.fancy_syntax.specs.Decided.{decided, all_decided, IsDecidedKind}
use Rattle.fancy_syntax.specs.Found.{FindsMore}
use Rattle.fancy_syntax.specs.Log.{layout_passed, leaf_recorded, started}
use Rattle.fancy_syntax.specs.Machine.{a_group, a_condition, a_body, a_branch, condition, first}
use Rattle.fancy_syntax.specs.Parsed.{state}
use Rattle.fancy_syntax.specs.View.{views}
use Rattle.fancy_syntax.specs.declared.grammar.state.State.{State}
use Rattle.fancy_lex.specs.Text.{reach_of}
use Rattle.fancy_grammar.specs.Tree.{Tree, empty}
use Rattle.fancy_grammar.specs.Quantified.{quants}
use Rattle.fancy_syntax.proofs.DecidedLemmas.{decided_alone, decided_solid, quants_kept}
use Rattle.fancy_syntax.proofs.FoundLemmas.{condition_alone, leaf_alone, nothing_more}
use Rattle.fancy_syntax.proofs.ItemsReadLemmas.{items_solid, items_under}
use Rattle.fancy_syntax.proofs.StepLemmas.{condition_begins, nothing_shorter}
use Rattle.fancy_syntax.proofs.MachineLemmas.{AtomTo, steps_piece, steps_error, steps_layout}
use Rattle.fancy_grammar.proofs.OutcomeLemmas.{IsErrorAmong-map}
use Rattle.fancy_syntax.proofs.TreeLemmas.{view_Empty}
use Rattle.fancy_syntax.proofs.grammar.step.read_step.Goals as goal

pub returns-in_err-rest-clause-value : goal.returns-in_err-rest-clause-value
returns-in_err-rest-clause-value g c i l ts e w =
    let x = err_from_is_err_and c.from_residual.result c.from_residual.ensures.1 in
    let (p, is, layout) = c.in_err-rest.ensures.value in rw (x.1, x.2) (steps_layout _ _ _ is layout)

pub returns-in_err-atom-clause-value : goal.returns-in_err-atom-clause-value
returns-in_err-atom-clause-value g c i l ts e w =
    let x = err_from_is_err_and c.from_residual-in_err-atom.result
    c.from_residual-in_err-atom.ensures.1 in
    rw (x.1, x.2)
    (IsErrorAmong-map (λ o. atom_start c.args.depth (at (state c.args.current.now) (chars c.in_ok-rest.rest.now))
    ≡ read o)
    (Piece c.args.depth (state c.args.current.now))
    c.in_err-atom.field-0.0 (λ f h. piece c.in_ok-rest.ensures.value (atom h a_read))
    c.in_err-atom.ensures.value)

pub returns-in_err-end_piece-in-Nothing-clause-value : goal.returns-in_err-end_piece-in-Nothing-clause-value
returns-in_err-end_piece-in-Nothing-clause-value g c i l ts e w =
    let x = err_from_is_err_and c.from_residual-in_err-end_piece-in-Nothing.result
    c.from_residual-in_err-end_piece-in-Nothing.ensures.1 in
    let stays = rw c.in-Nothing.is at c.in_ok-atom.ensures.stays in
    let put = rw view_Empty at c.in_ok-push-in-Nothing.ensures in
    rw (x.1, x.2) (steps_error (state c.args.current.now) c.in_err-end_piece-in-Nothing.field-0.0
    c.byte_len-left.ensures c.in_ok-rest.ensures.value
    (atom (rw c.in-Nothing.is at c.in_ok-atom.ensures.value) a_nothing)
    (rw stays at (c.in_err-end_piece-in-Nothing.ensures.value _ _ l put)))

pub returns-in_err-end_piece-in-Read-clause-value : goal.returns-in_err-end_piece-in-Read-clause-value
returns-in_err-end_piece-in-Read-clause-value g c i l ts e w =
    let x = err_from_is_err_and c.from_residual-in_err-end_piece-in-Read.result
    c.from_residual-in_err-end_piece-in-Read.ensures.1 in
    rw (x.1, x.2) (steps_error (state c.args.current.now) c.in_err-end_piece-in-Read.field-0.0
    c.byte_len-left.ensures c.in_ok-rest.ensures.value
    (atom (rw c.in-Read.is at c.in_ok-atom.ensures.value) a_read)
    (c.in_err-end_piece-in-Read.ensures.value _ _ l c.in_ok-push-in-Read.ensures))

-- the trees, with one more that stays as it is
one_more : (i : Bool) (all old : List Tree) (ts : List Tree) (r : Tree) → decided i r ≡ r → old ≡ all_decided i ts →
    all ≡ old ++ solid (r ∷ []) → all ≡ all_decided i (ts ++ solid (r ∷ []))
one_more i all old ts r kept w pushed =
    pushed ∙ (λ j. w j ++ solid (sym kept j ∷ [])) ∙ ap (λ l. all_decided i ts ++ l) (sym (decided_solid i r))
    ∙ sym (map-append (decided i) ts (solid (r ∷ [])))

pub returns-in_ok-end_piece-in-Nothing-clause-value : goal.returns-in_ok-end_piece-in-Nothing-clause-value
returns-in_ok-end_piece-in-Nothing-clause-value g c i l ts e w =
    let s = state c.args.current.now in
    let u = chars c.in_ok-rest.rest.now in
    let stays = rw c.in-Nothing.is at c.in_ok-atom.ensures.stays in
    let m = leaf_recorded (reach_of u) (reach_of u) (layout_passed s l) in
    let (r, is, pushed, recorded) = c.in_ok-end_piece-in-Nothing.ensures.value _ empty m
    (c.in_ok-push-in-Nothing.ensures ∙ ap (λ t. views c.args.trees.now.items ++ t ∷ []) view_Empty) in (
      _,
      _,
      _,
      one_more i _ _ ts r (quants_kept i _ _ empty _ refl is) w pushed,
      steps_piece i s ts c.byte_len-left.ensures c.in_ok-rest.ensures.value
          (subst (λ (w : State). AtomTo c.args.depth (at s u) (done empty (state w)) (layout_passed s l) m) (sym stays)
          (atom (rw c.in-Nothing.is at c.in_ok-atom.ensures.value) a_nothing, refl)) is,
      (
        λ x. recorded (rw c.in-Nothing.is at (c.in_ok-begin_atom.ensures _ (c.in_ok-pass_layout.ensures l x))),
        subst (FindsMore c.args.found.now c.args.found.now) (sym (items_solid r ∙ items_under _ _ _ _ is))
            (nothing_more c.args.found.now),
      ),
    )

pub returns-in_ok-end_piece-in-Nothing-clause-shorter : goal.returns-in_ok-end_piece-in-Nothing-clause-shorter
returns-in_ok-end_piece-in-Nothing-clause-shorter g c =
    let stays = rw c.in-Nothing.is at c.in_ok-atom.ensures.stays in
    let (r, is, all, recorded) = c.in_ok-end_piece-in-Nothing.ensures.value _ empty (started 0)
    (c.in_ok-push-in-Nothing.ensures ∙ ap (λ t. views c.args.trees.now.items ++ t ∷ []) view_Empty) in
    nothing_shorter c.args.depth _ _ _ _ (state c.args.current.now) _ r (state c.end_piece.new.current)
    (rw c.in-Nothing.is at c.in_ok-atom.ensures.value) c.requires.more c.byte_len-left.ensures
    (subst (λ (w : State). quants c.args.depth c.byte_len-left.result empty (state w)
    ≡ done r (state c.end_piece.new.current)) stays is)
    c.in_ok-rest.ensures.within c.in_ok-rest.ensures.unmoved
    (rw stays at c.in_ok-end_piece-in-Nothing.ensures.within)

pub returns-in_ok-end_piece-in-Read-clause-value : goal.returns-in_ok-end_piece-in-Read-clause-value
returns-in_ok-end_piece-in-Read-clause-value g c i l ts e w =
    let seen = rw c.in-Read.is at c.in_ok-atom.ensures.value in
    let (r, is, pushed, recorded) = c.in_ok-end_piece-in-Read.ensures.value _ _ _ c.in_ok-push-in-Read.ensures in (
      _,
      _,
      _,
      one_more i _ _ ts r (quants_kept i _ _ _ _ (decided_alone i _ (leaf_alone _ _ seen)) is) w pushed,
      steps_piece i (state c.args.current.now) ts c.byte_len-left.ensures c.in_ok-rest.ensures.value
          (atom seen a_read, refl) is,
      (
        λ x. recorded (rw c.in-Read.is at (c.in_ok-begin_atom.ensures _ (c.in_ok-pass_layout.ensures l x))),
        subst (FindsMore c.args.found.now c.record.new.self) (sym (items_solid r ∙ items_under _ _ _ _ is))
            c.record.ensures.found,
      ),
    )

pub returns-in_ok-kind-in-Group-clause-value : goal.returns-in_ok-kind-in-Group-clause-value
returns-in_ok-kind-in-Group-clause-value g c i l ts e w =
    let seen = rw c.in-Group.is at c.in_ok-atom.ensures.value in
    let f = c.in_ok-kind-in-Group.ensures in (
      _,
      ts,
      _,
      w,
      (
        _,
        (sym f.same, sym c.reach-paren.ensures, subst (λ x. IsDecidedKind x c.in_ok-kind-in-Group.kind) e f.decided),
        a_group c.in_ok-rest.ensures.value seen,
        refl,
        refl,
      ),
      (λ x. rw c.in-Group.is at (c.in_ok-begin_atom.ensures _ (c.in_ok-pass_layout.ensures l x)), f.found _),
    )

pub returns-in-Condition-clause-value : goal.returns-in-Condition-clause-value
returns-in-Condition-clause-value g c i l ts e w =
    let seen = rw c.in-Condition.is at c.in_ok-atom.ensures.value in (
      _,
      ts,
      _,
      w,
      (condition, tt, a_condition c.in_ok-rest.ensures.value seen, refl, refl),
      (
        λ x. rw c.in-Condition.is at (c.in_ok-begin_atom.ensures _ (c.in_ok-pass_layout.ensures l x)),
        nothing_more c.args.found.now,
      ),
    )

pub returns-in-Body-clause-value : goal.returns-in-Body-clause-value
returns-in-Body-clause-value g c i l ts e w =
    let seen = rw c.in-Body.is at c.in_ok-atom.ensures.value in (
      _,
      ts,
      _,
      w,
      (
        _,
        (sym (decided_alone i _ (condition_alone _ _ seen)), c.byte_len.ensures),
        a_body c.in_ok-rest.ensures.value seen,
        refl,
        refl,
      ),
      (
        λ x. rw c.in-Body.is at (c.in_ok-begin_atom.ensures _ (c.in_ok-pass_layout.ensures l x)),
        rw c.deref.ensures at c.record-in-Body.ensures.found,
      ),
    )

pub returns-in-AbsentBranch-clause-value : goal.returns-in-AbsentBranch-clause-value
returns-in-AbsentBranch-clause-value g c i l ts e w =
    let seen = rw c.in-AbsentBranch.is at c.in_ok-atom.ensures.value in (
      _,
      ts,
      _,
      w,
      (first, tt, a_branch c.in_ok-rest.ensures.value seen, refl, refl),
      (
        λ x. rw c.in-AbsentBranch.is at (c.in_ok-begin_atom.ensures _ (c.in_ok-pass_layout.ensures l x)),
        nothing_more c.args.found.now,
      ),
    )

pub record-requires : goal.record-requires
record-requires g c = leaf_alone _ _ (rw c.in-Read.is at c.in_ok-atom.ensures.value)

pub record-requires-in-Body : goal.record-requires-in-Body
record-requires-in-Body g c =
    rw c.deref.ensures (condition_alone _ _ (rw c.in-Body.is at c.in_ok-atom.ensures.value))

pub begin_atom-requires : goal.begin_atom-requires
begin_atom-requires g c =
    condition_begins _ _ _ _ c.in_ok-atom.ensures.value c.in_ok-atom.ensures.start
