use Rattle.std.proofs.Common.{arith, rules}
use Rattle.fancy_lex.proofs.TextLemmas.{cut_le}
use Rattle.fancy_syntax.proofs.QuoteLemmas.{run_capacity, run_later, first_capacity, first_later}
use Rattle.fancy_syntax.proofs.print.quote.put_runs.Goals as goal

pub put_text-requires : goal.put_text-requires
put_text-requires c =
    run_capacity _ c.loop-c.buf _ _ _ _ c.after_run-escaped.ensures.run c.front.ensures c.loop-c.invariant.writing

pub put_quote-requires : goal.put_quote-requires
put_quote-requires c =
    let so_far = c.loop-c.invariant.writing in
    let run = run_later _ _ _ _ _ _ _ c.after_run-escaped.ensures.run c.front.ensures so_far c.put_text.ensures in
    first_capacity _ _ _ _ _ _ c.in-Some.ensures.value run

pub loop-c-smaller : goal.loop-c-smaller
loop-c-smaller c =
    let (w, cut, plain) = c.after_run-escaped.ensures.run in
    let fits = cut_le _ _ w c.loop-c.invariant.text c.after_run-escaped.utf8 cut in
    omega (arith, fits, c.in-Some.ensures.shorter)

pub loop-c-preserved : goal.loop-c-preserved
loop-c-preserved c =
    let so_far = c.loop-c.invariant.writing in
    let run = run_later _ _ _ _ _ _ _ c.after_run-escaped.ensures.run c.front.ensures so_far c.put_text.ensures in
    record {
      text = search rules;
      writing = first_later _ _ _ _ _ _ _ c.in-Some.ensures.value run c.put_quote.ensures;
    }
