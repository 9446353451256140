use Rattle.std.proofs.Common.{◌≡◌, ◌∷◌, [], ◌++◌, refl, length, arith, ap, ◌∙◌, sym, subst, if◌then◌else◌}
use Rattle.std.proofs.lemmas.List.{map-append}
use Rattle.std.proofs.lemmas.Result.{err_from_is_err_and}
use Rattle.fancy_lex.specs.Text.{bytes, reach_of}
use Rattle.fancy_grammar.specs.Grammar.{Alternation}
use Rattle.fancy_grammar.specs.Quantified.{quants}
use Rattle.fancy_grammar.specs.State.{done}
use Rattle.fancy_syntax.specs.Decided.{decided}
use Rattle.fancy_syntax.specs.Found.{items_in}
use Rattle.fancy_syntax.specs.Log.{leaf_recorded}
use Rattle.fancy_syntax.specs.Recording.{quants_recorded}
use Rattle.fancy_syntax.specs.Parsed.{state}
use Rattle.fancy_syntax.proofs.DecidedLemmas.{decided_alone, quants_kept}
use Rattle.fancy_syntax.proofs.FoundLemmas.{plain_alone}
use Rattle.fancy_syntax.proofs.MachineLemmas.{running_leaf, running_leaf_error}
use Rattle.fancy_grammar.proofs.OutcomeLemmas.{IsErrorAmong-map}
use Rattle.fancy_syntax.proofs.grammar.parser.Parser.add_leaf.Goals as goal

pub returns-in_err-quantify_last-clause-reading : goal.returns-in_err-quantify_last-clause-reading
returns-in_err-quantify_last-clause-reading g c start none l h =
    let s = state c.args.self.now.current in
    let u = state c.read_leaf.new.current in
    let n : c.len-depth.result ≡ length c.args.self.now.stack.items =
    omega (arith, c.len-depth.ensures, c.args.self.now.stack.ok.0) in
    let (r, p, put) = c.in_ok-read_leaf.ensures.leaf c.if-not-branch.false in
    let e = err_from_is_err_and c.from_residual-in_err-quantify_last.result
    c.from_residual-in_err-quantify_last.ensures.1 in
    rw (e.1, e.2) (IsErrorAmong-map (λ o. quants c.len-depth.result c.byte_len-left.result r u ≡ o)
    (Alternation 0 start) c.in_err-quantify_last.field-0.0
    (λ f x. running_leaf_error h.running p (ap (λ d. quants d (bytes s.rest) r u) (sym n)
    ∙ ap (λ left. quants c.len-depth.result left r u) (sym c.byte_len-left.ensures) ∙ x))
    (c.in_err-quantify_last.ensures.value _ r put))

pub returns-then-not-branch-clause-reading : goal.returns-then-not-branch-clause-reading
returns-then-not-branch-clause-reading g c start none l h =
    let none_read = c.if-not-branch.true in
    let (same, trees, found) = c.in_ok-read_leaf.ensures.stays none_read in
    let u = state c.read_leaf.new.current in
    let m = leaf_recorded (reach_of (state c.args.self.now.current).rest) (reach_of u.rest) l in (
      l,
      record {
        is = h.is;
        trees = h.trees;
        same = trees ∙ h.same;
        running = rw same h.running;
        found = rw found h.found;
      },
      λ x. subst (λ b. g.S.Spanning.records c.read_leaf.new.spans (if b then m else l)) none_read
          (c.in_ok-read_leaf.ensures.spans l x),
    )

pub returns-clause-reading : goal.returns-clause-reading
returns-clause-reading g c start none l h =
    let s = state c.args.self.now.current in
    let u = state c.read_leaf.new.current in
    let i = start.flags.ignore_numbered_groups in
    let n : c.len-depth.result ≡ length c.args.self.now.stack.items =
    omega (arith, c.len-depth.ensures, c.args.self.now.stack.ok.0) in
    let found = c.if-not-branch.false in
    let (r, p, put) = c.in_ok-read_leaf.ensures.leaf found in
    let (q, all, is) = c.in_ok-quantify_last.ensures.value _ r put in
    let kept : decided i q ≡ q = quants_kept i _ _ r u (decided_alone i r (plain_alone p)) is in
    let m = leaf_recorded (reach_of s.rest) (reach_of u.rest) l in (
      _,
      record {
        is = h.is ++ items_in (r ∷ []);
        trees = h.trees ++ q ∷ [];
        same = all ∙ (λ j. h.same j ++ sym kept j ∷ []) ∙ sym (map-append (decided i) h.trees (q ∷ []));
        running = running_leaf _ _ h.running p (ap (λ d. quants d (bytes s.rest) r u) (sym n)
            ∙ ap (λ left. quants c.len-depth.result left r u) (sym c.byte_len-left.ensures) ∙ is) refl refl;
        found = c.in_ok-read_leaf.ensures.found (r ∷ []) put _ h.is h.found;
      },
      λ x. subst (λ left. g.S.Spanning.records c.quantify_last.new.spans (quants_recorded left (done r u) m))
          c.byte_len-left.ensures
          (c.in_ok-quantify_last.ensures.spans _ r _ put
          (subst (λ b. g.S.Spanning.records c.read_leaf.new.spans (if b then m else l)) found
          (c.in_ok-read_leaf.ensures.spans l x))),
    )
