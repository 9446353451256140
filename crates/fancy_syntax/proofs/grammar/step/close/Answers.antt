use Rattle.std.proofs.Common.{◌≡◌, ◌+◌, ◌-◌, ◌∷◌, [], ◌++◌, length, arith, ap, sym, ◌∙◌, refl, subst}
use Rattle.std.proofs.lemmas.List.{map-append}
use Rattle.std.proofs.lemmas.Result.{err_from_is_err_and}
use Rattle.fancy_lex.specs.Text.{reach_of}
use Rattle.fancy_grammar.specs.Errors.{IsErrorAmong}
use Rattle.fancy_grammar.specs.Grammar.{Piece}
use Rattle.fancy_grammar.specs.Join.{solid}
use Rattle.fancy_grammar.specs.Quantified.{quants}
use Rattle.fancy_grammar.specs.State.{State, done}
use Rattle.fancy_syntax.specs.Decided.{decided, all_decided}
use Rattle.fancy_syntax.specs.Machine.{part_of, ended_with, part_recorded}
use Rattle.fancy_syntax.specs.Parsed.{state}
use Rattle.fancy_syntax.specs.Recording.{added, quants_recorded}
use Rattle.fancy_syntax.specs.View.{view}
use Rattle.fancy_syntax.proofs.DecidedLemmas.{decided_solid, quants_done, quants_fails}
use Rattle.fancy_syntax.proofs.DecidedParts.{added_decided, ended_done, ended_fails, part_decided, quants_decided}
use Rattle.fancy_syntax.proofs.DecidedParts.{same_body_next}
use Rattle.fancy_syntax.proofs.ItemsReadLemmas.{ended_items, items_solid, items_under}
use Rattle.fancy_syntax.proofs.MachineLemmas.{ended_error, closes, closes_error, closes_condition}
use Rattle.fancy_syntax.proofs.TreesLemmas.{last_is, last_set, last_taken}
use Rattle.fancy_grammar.proofs.OutcomeLemmas.{IsErrorAmong-map}
use Rattle.fancy_syntax.proofs.grammar.step.close.Goals as goal

pub returns-in_err-end_part-clause-value : goal.returns-in_err-end_part-clause-value
returns-in_err-end_part-clause-value g c =
    λ d below inner p u v l m n w is_p i j x y.
    let es = c.args.trees.now.items in
    let size : c.len-last.result - 1 + 1 ≡ length es =
    omega (arith, c.len-last.ensures, c.args.trees.now.ok.0, c.requires.some) in
    let here = last_is es (c.len-last.result - 1) c.index_mut.result.now (all_decided d below) (decided d inner) w size
    c.index_mut.ensures.value in
    let o = c.args.open_part in
    let s = state c.args.current.now in
    let e = err_from_is_err_and c.from_residual.result c.from_residual.ensures.1 in
    rw (e.1, e.2) (IsErrorAmong-map (λ q. ended_with o (decided d inner) s ≡ q) (Piece c.args.depth u)
    c.in_err-end_part.field-0.0
    (λ f h. ended_error n inner s x y (λ _ _. c.requires.no_bar) (ended_fails d o p inner s f is_p h))
    (subst (λ z. IsErrorAmong c.in_err-end_part.field-0.0 (λ q. ended_with o z s ≡ q)) here
    c.in_err-end_part.ensures.value))

pub returns-in_err-end_piece-clause-value : goal.returns-in_err-end_piece-clause-value
returns-in_err-end_piece-clause-value g c =
    λ d below inner p u v l m n w is_p i j x y.
    let es = c.args.trees.now.items in
    let size : c.len-last.result - 1 + 1 ≡ length es =
    omega (arith, c.len-last.ensures, c.args.trees.now.ok.0, c.requires.some) in
    let here = last_is es (c.len-last.result - 1) c.index_mut.result.now (all_decided d below) (decided d inner) w size
    c.index_mut.ensures.value in
    let o = c.args.open_part in
    let s = state c.args.current.now in
    let t = state c.end_part.new.current in
    let z : State = record t { flags = c.args.start.flags } in
    let put = last_set es (c.len-last.result - 1) c.end_part.new.tree (all_decided d below) (decided d inner) w size in
    let (a, is_a, ended) = ended_done d o p inner s is_p
    (subst (λ x. ended_with o x s ≡ done (view c.end_part.new.tree) t) here c.in_ok-end_part.ensures.value) in
    let e = err_from_is_err_and c.from_residual-in_err-end_piece.result c.from_residual-in_err-end_piece.ensures.1 in
    rw (e.1, e.2) (closes_error n c.args.start.flags inner s c.in_err-end_piece.field-0.0 x y
    (sym (same_body_next d o p is_p) ∙ sym c.has_body_next-has_body.ensures ∙ c.if-not-has_body.true) c.requires.no_bar
    ended i j
    (IsErrorAmong-map (λ q. quants c.args.depth c.args.start.left (view c.end_part.new.tree) z ≡ q)
    (λ q. quants c.args.depth c.args.start.left a z ≡ q) c.in_err-end_piece.field-0.0
    (λ f h. quants_fails d c.args.depth c.args.start.left a z f
    (ap (λ b. quants c.args.depth c.args.start.left b z) (sym is_a) ∙ h))
    (c.in_err-end_piece.ensures.value _ _ n put)))

pub returns-then-not-has_body-clause-value : goal.returns-then-not-has_body-clause-value
returns-then-not-has_body-clause-value g c =
    λ d below inner p u v l m n w is_p i j x y.
    let es = c.args.trees.now.items in
    let size : c.len-last.result - 1 + 1 ≡ length es =
    omega (arith, c.len-last.ensures, c.args.trees.now.ok.0, c.requires.some) in
    let here = last_is es (c.len-last.result - 1) c.index_mut.result.now (all_decided d below) (decided d inner) w size
    c.index_mut.ensures.value in
    let o = c.args.open_part in
    let s = state c.args.current.now in
    let t = state c.end_part.new.current in
    let z : State = record t { flags = c.args.start.flags } in
    let left = c.args.start.left in
    let put = last_set es (c.len-last.result - 1) c.end_part.new.tree (all_decided d below) (decided d inner) w size in
    let (a, is_a, ended) = ended_done d o p inner s is_p
    (subst (λ x. ended_with o x s ≡ done (view c.end_part.new.tree) t) here c.in_ok-end_part.ensures.value) in
    let (q, is, all, recorded) = c.in_ok-end_piece.ensures.value (all_decided d below) (view c.end_part.new.tree) _ put in
    let (b, is_b, read) = quants_done d c.args.depth left a z
    (ap (λ b. quants c.args.depth left b z) (sym is_a) ∙ is) in
    let before = part_recorded (part_of o) (decided d inner) (reach_of s.rest) (reach_of t.rest) n in (
      _,
      _,
      _,
      all ∙ ap (λ l. all_decided d below ++ l) (ap (λ b. solid (b ∷ [])) is_b ∙ sym (decided_solid d b))
          ∙ sym (map-append (decided d) below (solid (b ∷ []))),
      closes d below n c.args.start.flags inner s x y
          (sym (same_body_next d o p is_p) ∙ sym c.has_body_next-has_body.ensures ∙ c.if-not-has_body.true)
          c.requires.no_bar ended i j read,
      (
        λ h. subst (g.S.Spanning.records c.end_piece.new.spans)
            ((λ k. added (is_b k) (quants_recorded left (done (is_a k) z)
            (part_recorded (part_of o) (here k) (reach_of s.rest) (reach_of t.rest) n)))
            ∙ added_decided d b (quants_recorded left (done (decided d a) z) before)
            ∙ ap (added b) (quants_decided d left a z before
            ∙ ap (quants_recorded left (done a z))
            (part_decided d o p inner (reach_of s.rest) (reach_of t.rest) n is_p)))
            (recorded (c.in_ok-end_part.ensures.spans n h)),
        items_solid b ∙ items_under _ _ _ _ read ∙ ended_items p inner s ended,
      ),
    )

pub returns-clause-value : goal.returns-clause-value
returns-clause-value g c =
    λ d below inner p u v l m n w is_p i j x y.
    let es = c.args.trees.now.items in
    let size : c.len-last.result - 1 + 1 ≡ length es =
    omega (arith, c.len-last.ensures, c.args.trees.now.ok.0, c.requires.some) in
    let here = last_is es (c.len-last.result - 1) c.index_mut.result.now (all_decided d below) (decided d inner) w size
    c.index_mut.ensures.value in
    let o = c.args.open_part in
    let s = state c.args.current.now in
    let t = state c.end_part.new.current in
    let put = last_set es (c.len-last.result - 1) c.end_part.new.tree (all_decided d below) (decided d inner) w size in
    let (a, is_a, ended) = ended_done d o p inner s is_p
    (subst (λ x. ended_with o x s ≡ done (view c.end_part.new.tree) t) here c.in_ok-end_part.ensures.value) in
    let taken = last_taken _ c.take_last.new.self.items c.take_last.result (all_decided d below)
    (view c.end_part.new.tree) put c.take_last.ensures.items in (
      _,
      below,
      _,
      taken.0,
      (
        _,
        (ap view c.in_ok-condition.ensures.ok ∙ taken.1 ∙ is_a, c.byte_len-left.ensures),
        closes_condition n inner s x y
            (sym (same_body_next d o p is_p) ∙ sym c.has_body_next-has_body.ensures ∙ c.if-not-has_body.false) ended,
        refl,
        refl,
      ),
      (
        λ h. subst (g.S.Spanning.records c.end_part.new.spans)
            ((λ k. part_recorded (part_of o) (here k) (reach_of s.rest) (reach_of t.rest) n)
            ∙ part_decided d o p inner _ _ n is_p) (c.in_ok-end_part.ensures.spans n h),
        ended_items p inner s ended,
      ),
    )
