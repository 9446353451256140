use Rattle.std.proofs.Common.{sym, subst, ◌∙◌}
use Rattle.fancy_syntax.specs.Spanned.{spanned_of}
use Rattle.fancy_syntax.specs.View.{view}
use Rattle.backtracking.specs.Witnessed.{IsWitnessed, IsExponential}
use Rattle.backtracking.proofs.RepeatLemmas.{repeats}
use Rattle.backtracking.proofs.repeats.look_for_word.Goals as goal

pub returns-in-Some : goal.returns-in-Some
returns-in-Some c =
    let part = view c.deref.result.now in
    let unicode = c.args.options.unicode in
    record {
      part = part;
      lo = c.in-Repeat.lo;
      hi = c.in-Repeat.hi;
      greedy = c.in-Repeat.greedy;
      is_repeat = repeats (spanned_of c.args.node).expr c.deref.result.now c.in-Repeat.child c.in-Repeat.lo c.in-Repeat.hi
          c.in-Repeat.greedy (sym c.expr.ensures ∙ c.in-Repeat.is) c.deref.ensures;
      limit = c.if-hi-le-SMALL_LIMIT.false;
      span = c.span-in-Some.ensures;
      two = subst (IsWitnessed unicode part) c.in-Exponential.is c.in_ok-witness.ensures.witnessed;
      many = subst (IsExponential unicode part) c.in-Exponential.is c.in_ok-witness.ensures.exponential;
    }

pub returns-in-NoneFound : goal.returns-in-NoneFound
returns-in-NoneFound c = c.looked_at_fast.ensures c.args.options.unicode (spanned_of c.args.node)
