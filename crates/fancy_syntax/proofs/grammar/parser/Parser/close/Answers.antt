use Rattle.std.proofs.Common.{◌≡◌, ℕ, Bool, refl, List, [], ◌∷◌, ◌++◌, ◌∙◌, length, ap, sym, arith, subst}
use Rattle.std.specs.Prelude.{vec_len}
use Rattle.std.proofs.lemmas.List.{length-map, nil_from_length}
use Rattle.std.proofs.lemmas.Result.{err_from_is_err_and}
use Rattle.fancy_grammar.specs.Grammar.{Alternation, Piece}
use Rattle.fancy_grammar.specs.Join.{choice, one_or}
use Rattle.fancy_grammar.specs.State.{State, failed}
use Rattle.fancy_grammar.specs.Tree.{Tree, concat}
use Rattle.fancy_syntax.specs.Decided.{decided, all_decided}
use Rattle.fancy_syntax.specs.Found.{IsFound}
use Rattle.fancy_lex.specs.Text.{reach_of}
use Rattle.fancy_syntax.specs.Machine.{HoldsTrees, IsPart, IsStep}
use Rattle.fancy_syntax.specs.declared.grammar.frame.Frame.{Frame}
use Rattle.fancy_syntax.specs.Log.{Log, branch_ended}
use Rattle.fancy_syntax.specs.Recording.{choice_recorded}
use Rattle.fancy_syntax.specs.Parsed.{state}
use Rattle.fancy_syntax.proofs.DecidedLemmas.{decided_branches_pieces, decided_choice}
use Rattle.fancy_syntax.proofs.DecidedParts.{choice_decided, holds_decided}
use Rattle.fancy_syntax.proofs.MachineLemmas.{running_error, running_read, running_opened, running_end, running_end_items}
use Rattle.fancy_syntax.proofs.MachineLemmas.{running_closing, choice_closed, joined}
use Rattle.fancy_syntax.proofs.TreesLemmas.{views_length}
use Rattle.fancy_grammar.proofs.OutcomeLemmas.{IsErrorAmong-map}
use Rattle.fancy_syntax.proofs.grammar.parser.Parser.close.Goals as goal

-- the tree of all branches, and what is recorded of them

all_branches : (i : Bool) (bs ps : List Tree) →
    choice (all_decided i bs ++ one_or concat (all_decided i ps) ∷ []) ≡ decided i (choice (bs ++ joined ps ∷ []))
all_branches i bs ps = ap choice (decided_branches_pieces i bs ps) ∙ decided_choice i (bs ++ joined ps ∷ [])

all_recorded : (i : Bool) (bs ps : List Tree) (t : State) (reach : ℕ) (l : Log) → reach ≡ reach_of t.rest →
    choice_recorded (all_decided i bs ++ one_or concat (all_decided i ps) ∷ []) reach
    (branch_ended (length (all_decided i ps)) reach l) ≡ choice_closed bs ps t l
all_recorded i bs ps t reach l e =
    (λ j. choice_recorded (decided_branches_pieces i bs ps j) (e j) (branch_ended (length-map ps (decided i) j) (e j) l))
    ∙ choice_decided i (bs ++ joined ps ∷ []) _ _

pub returns-in_default-clause-reading : goal.returns-in_default-clause-reading
returns-in_default-clause-reading g c start none l h =
    let i = start.flags.ignore_numbered_groups in
    let all = all_decided i in
    let t = state c.args.self.now.current in
    let empty : c.args.self.now.stack.items ≡ [] =
    nil_from_length _ (omega (arith, c.args.self.now.stack.ok.0, c.in_default.ensures.cases.0)) in
    let f = c.in_ok-finish.ensures in
    let r = h.running in
    let held = subst (λ x. HoldsTrees c.args.self.now.frame x (all r.below) (all r.branches) (all r.pieces)) (sym h.same)
    (holds_decided i c.args.self.now.frame h.trees r.below r.branches r.pieces r.holds) in (
      choice (r.branches ++ joined r.pieces ∷ []),
      _,
      running_end _ r c.requires.last c.requires.no_bar refl empty,
      λ n. subst (g.S.Spanning.records c.finish.new.spans) (all_recorded i r.branches r.pieces t _ l c.reach-end.ensures)
          (f.spans (all r.below) (all r.branches) (all r.pieces) l held n),
      f.tree (all r.below) (all r.branches) (all r.pieces) held ∙ all_branches i r.branches r.pieces,
      subst (IsFound i c.args.self.now.found) (running_end_items _ r refl empty) h.found,
    )

pub returns-in_err-opened-clause-reading : goal.returns-in_err-opened-clause-reading
returns-in_err-opened-clause-reading g c start none l k =
    let i = start.flags.ignore_numbered_groups in
    let all = all_decided i in
    let h = k.running in
    let f = c.in_ok-join.ensures in
    let r = c.replace-open_part.ensures in
    let held = subst (λ x. HoldsTrees c.args.self.now.frame x (all h.below) (all h.branches) (all h.pieces)) (sym k.same)
    (holds_decided i c.args.self.now.frame k.trees h.below h.branches h.pieces h.holds) in
    let w = running_closing c.pop.new.self.items c.in-Some.field-0 h c.requires.last c.requires.no_bar
    c.in-Some.ensures.items in
    let n : c.len-depth.result ≡ length c.pop.new.self.items = omega (arith, c.len-depth.ensures, c.pop.new.self.ok.0) in
    let inner = choice (h.branches ++ joined h.pieces ∷ []) in
    let m = choice_closed h.branches h.pieces (state c.args.self.now.current) l in
    let put = f.trees (all h.below) (all h.branches) (all h.pieces) held
    ∙ ap (λ t. all h.below ++ t ∷ []) (all_branches i h.branches h.pieces) in
    let e = err_from_is_err_and c.from_residual-in_err-opened.result c.from_residual-in_err-opened.ensures.1 in
    rw (e.1, e.2) (IsErrorAmong-map (Piece c.len-depth.result w.current)
    (Alternation 0 start) c.in_err-opened.field-0.0
    (λ f a. running_error w.outer w.more (subst (λ d. Piece d w.current (failed f)) n a))
    (c.in_err-opened.ensures.value i h.below inner h.part w.current w.inside w.recorded w.before m put
    (subst (λ (f : Frame). IsPart i f.open_part h.part) (sym r.value) h.is_part)
    w.began.0 w.began.1 (rw n w.opens) (rw n w.whole)))

pub returns-in_default-opened-clause-reading : goal.returns-in_default-opened-clause-reading
returns-in_default-opened-clause-reading g c start none l k =
    let i = start.flags.ignore_numbered_groups in
    let all = all_decided i in
    let h = k.running in
    let f = c.in_ok-join.ensures in
    let r = c.replace-open_part.ensures in
    let held = subst (λ x. HoldsTrees c.args.self.now.frame x (all h.below) (all h.branches) (all h.pieces)) (sym k.same)
    (holds_decided i c.args.self.now.frame k.trees h.below h.branches h.pieces h.holds) in
    let w = running_closing c.pop.new.self.items c.in-Some.field-0 h c.requires.last c.requires.no_bar
    c.in-Some.ensures.items in
    let n : c.len-depth.result ≡ length c.pop.new.self.items = omega (arith, c.len-depth.ensures, c.pop.new.self.ok.0) in
    let inner = choice (h.branches ++ joined h.pieces ∷ []) in
    let m = choice_closed h.branches h.pieces (state c.args.self.now.current) l in
    let t = state c.close.new.current in
    let put = f.trees (all h.below) (all h.branches) (all h.pieces) held
    ∙ ap (λ t. all h.below ++ t ∷ []) (all_branches i h.branches h.pieces) in
    let (o, us, js, same, steps, (recorded, items_are)) =
    c.in_ok-opened.ensures.value i h.below inner h.part w.current w.inside w.recorded w.before m put
    (subst (λ (f : Frame). IsPart i f.open_part h.part) (sym r.value) h.is_part)
    w.began.0 w.began.1 (rw n w.opens) (rw n w.whole) in (
      o,
      record {
        is = w.items_before ++ js;
        trees = us;
        same = same;
        running = rw r.after (running_read i o w.outer w.more
            (subst (λ p. IsStep i (length c.pop.new.self.items) w.current w.recorded h.below p us t o js)
            c.in_default-opened.is
            (subst (λ d. IsStep i d w.current w.recorded h.below c.in_ok-opened.opened us t o js) n steps)));
        found = subst (IsFound i c.args.self.now.found)
            (w.same_items ∙ ap (λ l. w.items_before ++ l) (sym items_are)) k.found;
      },
      λ x. recorded (subst (g.S.Spanning.records c.join.new.spans)
          (all_recorded i h.branches h.pieces (state c.args.self.now.current) _ l c.reach-end.ensures)
          (f.spans (all h.below) (all h.branches) (all h.pieces) l held x)),
    )

pub returns-clause-reading : goal.returns-clause-reading
returns-clause-reading g c start none l k =
    let i = start.flags.ignore_numbered_groups in
    let all = all_decided i in
    let h = k.running in
    let f = c.in_ok-join.ensures in
    let r = c.replace-open_part.ensures in
    let held = subst (λ x. HoldsTrees c.args.self.now.frame x (all h.below) (all h.branches) (all h.pieces)) (sym k.same)
    (holds_decided i c.args.self.now.frame k.trees h.below h.branches h.pieces h.holds) in
    let w = running_closing c.pop.new.self.items c.in-Some.field-0 h c.requires.last c.requires.no_bar
    c.in-Some.ensures.items in
    let n : c.len-depth.result ≡ length c.pop.new.self.items = omega (arith, c.len-depth.ensures, c.pop.new.self.ok.0) in
    let inner = choice (h.branches ++ joined h.pieces ∷ []) in
    let m = choice_closed h.branches h.pieces (state c.args.self.now.current) l in
    let t = state c.close.new.current in
    let trees = c.close.new.trees in
    let put = f.trees (all h.below) (all h.branches) (all h.pieces) held
    ∙ ap (λ t. all h.below ++ t ∷ []) (all_branches i h.branches h.pieces) in
    let (o, us, js, same, steps, (recorded, items_are)) =
    c.in_ok-opened.ensures.value i h.below inner h.part w.current w.inside w.recorded w.before m put
    (subst (λ (f : Frame). IsPart i f.open_part h.part) (sym r.value) h.is_part)
    w.began.0 w.began.1 (rw n w.opens) (rw n w.whole) in
    let height : vec_len trees ≡ length us =
    omega (arith, trees.ok.0, views_length trees.items, ap length same, length-map us (decided i)) in
    let z = c.open.ensures in (
      o,
      record {
        is = w.items_before ++ js;
        trees = us;
        same = rw z.trees same;
        running = rw z.current (running_opened o c.in-Some-opened.open_part c.in-Some.field-0.piece w.outer
            w.began w.more
            (subst (λ p. IsStep i (length c.pop.new.self.items) w.current w.recorded h.below p us t o js)
            c.in-Some-opened.is
            (subst (λ d. IsStep i d w.current w.recorded h.below c.in_ok-opened.opened us t o js) n steps))
            (rw r.after at z.stack) z.open_part (z.branches ∙ height) (z.pieces ∙ height));
        found = rw z.found (subst (IsFound i c.args.self.now.found)
            (w.same_items ∙ ap (λ l. w.items_before ++ l) (sym items_are)) k.found);
      },
      λ x. recorded (subst (g.S.Spanning.records c.join.new.spans)
          (all_recorded i h.branches h.pieces (state c.args.self.now.current) _ l c.reach-end.ensures)
          (f.spans (all h.below) (all h.branches) (all h.pieces) l held x)),
    )
