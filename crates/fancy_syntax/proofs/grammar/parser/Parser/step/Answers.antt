use Rattle.std.proofs.Common.{◌≡◌, ◌+◌, ◌<◌, ◌∙◌, ◌++◌, Some, length, ap, arith, refl, subst}
use Rattle.std.specs.Prelude.{IfSome, vec_len, vec_capacity}
use Rattle.std.proofs.lemmas.List.{length-map}
use Rattle.std.proofs.lemmas.Result.{err_from_is_err_and}
use Rattle.fancy_grammar.specs.Grammar.{Alternation, Piece}
use Rattle.fancy_grammar.specs.State.{failed}
use Rattle.fancy_grammar.specs.Depth.{max_depth}
use Rattle.fancy_syntax.specs.Decided.{decided}
use Rattle.fancy_syntax.specs.Machine.{IsStep}
use Rattle.fancy_syntax.specs.Parsed.{state}
use Rattle.fancy_syntax.proofs.MachineLemmas.{running_error, running_read, running_opened}
use Rattle.fancy_syntax.proofs.StackLemmas.{capacity_for_one}
use Rattle.fancy_syntax.proofs.TreesLemmas.{views_length}
use Rattle.fancy_grammar.proofs.OutcomeLemmas.{IsErrorAmong-map}
use Rattle.fancy_syntax.proofs.grammar.parser.Parser.step.Goals as goal

pub returns-in_err-opened-clause-reading : goal.returns-in_err-opened-clause-reading
returns-in_err-opened-clause-reading g c start none l h =
    let n : c.len-depth.result ≡ length c.args.self.now.stack.items =
    omega (arith, c.len-depth.ensures, c.args.self.now.stack.ok.0) in
    let e = err_from_is_err_and c.from_residual.result c.from_residual.ensures.1 in
    rw (e.1, e.2) (IsErrorAmong-map (Piece c.len-depth.result (state c.args.self.now.current)) (Alternation 0 start)
    c.in_err-opened.field-0.0
    (λ f a. running_error h.running c.requires.more
    (subst (λ d. Piece d (state c.args.self.now.current) (failed f)) n a))
    (c.in_err-opened.ensures.value start.flags.ignore_numbered_groups l h.trees h.found.0 h.same))

pub returns-in_default-clause-reading : goal.returns-in_default-clause-reading
returns-in_default-clause-reading g c start none l h =
    let i = start.flags.ignore_numbered_groups in
    let s = state c.args.self.now.current in
    let t = state c.read_step.new.current in
    let stack = c.args.self.now.stack in
    let n : c.len-depth.result ≡ length stack.items = omega (arith, c.len-depth.ensures, stack.ok.0) in
    let (m, us, js, all, steps, (recorded, more)) = c.in_ok-opened.ensures.value i l h.trees h.found.0 h.same in (
      m,
      record {
        is = h.is ++ js;
        trees = us;
        same = all;
        running = running_read i m h.running c.requires.more
            (subst (λ o. IsStep i (length stack.items) s l h.trees o us t m js) c.in_default.is
            (subst (λ d. IsStep i d s l h.trees c.in_ok-opened.opened us t m js) n steps));
        found = more _ h.is h.found;
      },
      recorded,
    )

pub open-requires : goal.open-requires
open-requires g c =
    let s = state c.args.self.now.current in
    let t = state c.read_step.new.current in
    let stack = c.args.self.now.stack in
    let n : c.len-depth.result ≡ length stack.items = omega (arith, c.len-depth.ensures, stack.ok.0) in
    let (start, none, l, h, reserved) = c.requires.reserved in
    let i = start.flags.ignore_numbered_groups in
    let (m, us, js, all, steps, recorded) = c.in_ok-opened.ensures.value i l h.trees h.found.0 h.same in
    let opens : IsStep i (length stack.items) s l h.trees (Some c.in-Some.open_part) us t m js =
    subst (λ o. IsStep i (length stack.items) s l h.trees o us t m js) c.in-Some.is
    (subst (λ d. IsStep i d s l h.trees c.in_ok-opened.opened us t m js) n steps) in
    let below : length stack.items + 1 < max_depth =
    omega (
      arith,
      n,
      subst (λ o. IfSome o (λ _. c.len-depth.result + 1 < max_depth)) c.in-Some.is
          c.in_ok-opened.ensures.below,
    ) in
    record {
      reserved = omega (arith, stack.ok.0, capacity_for_one (vec_capacity stack) h.running opens.2 below reserved);
    }

pub returns-clause-reading : goal.returns-clause-reading
returns-clause-reading g c start none l h =
    let i = start.flags.ignore_numbered_groups in
    let s = state c.args.self.now.current in
    let t = state c.read_step.new.current in
    let stack = c.args.self.now.stack in
    let trees = c.read_step.new.trees in
    let n : c.len-depth.result ≡ length stack.items = omega (arith, c.len-depth.ensures, stack.ok.0) in
    let (m, us, js, all, steps, (recorded, more)) = c.in_ok-opened.ensures.value i l h.trees h.found.0 h.same in
    let opens : IsStep i (length stack.items) s l h.trees (Some c.in-Some.open_part) us t m js =
    subst (λ o. IsStep i (length stack.items) s l h.trees o us t m js) c.in-Some.is
    (subst (λ d. IsStep i d s l h.trees c.in_ok-opened.opened us t m js) n steps) in
    let height : vec_len trees ≡ length us =
    omega (arith, trees.ok.0, views_length trees.items, ap length all, length-map us (decided i)) in
    let f = c.open.ensures in (
      m,
      record {
        is = h.is ++ js;
        trees = us;
        same = rw f.trees all;
        running = rw f.current (running_opened m c.in-Some.open_part
            (record { left = c.byte_len.result; flags = c.args.self.now.current.flags }) h.running
            (c.byte_len.ensures, refl) c.requires.more opens
            f.stack f.open_part (f.branches ∙ height) (f.pieces ∙ height));
        found = rw f.found (more _ h.is h.found);
      },
      recorded,
    )
