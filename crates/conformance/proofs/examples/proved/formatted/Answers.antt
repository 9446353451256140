use Rattle.conformance.proofs.FormLemmas.{form_of}
use Rattle.conformance.proofs.examples.proved.formatted.Goals as goal

pub returns : goal.returns
returns c = record {
  form = form_of _ _ _ _ _ c.in_ok-tree.ensures.tree.found c.in_ok-print.ensures.exact
      c.in_ok-print.ensures.text c.in_ok-print.ensures.reads_back;
}
