use Rattle.std.proofs.Common.{arith}
use Rattle.fancy_c.proofs.FactLemmas.{facts_of_bytes, enough_for_nodes}
use Rattle.fancy_c.proofs.facts.fancy_facts_nonnull.Goals as goal

pub returns-in-Ok-facts_of_tree-clause-enough : goal.returns-in-Ok-facts_of_tree-clause-enough
returns-in-Ok-facts_of_tree-clause-enough c = λ enough is.
    enough_for_nodes (facts_of_bytes c.from_bits.ensures c.in-Ok.ensures.tree c.in-Ok-facts_of_tree.ensures) enough
    (c.write_known.ensures.short is)

pub returns-in-Ok-facts_of_tree-clause-refusal : goal.returns-in-Ok-facts_of_tree-clause-refusal
returns-in-Ok-facts_of_tree-clause-refusal c =
    let written = c.write_known.ensures in
    record {
      refused = λ is. absurd (omega (arith, written.status, is));
      no_utf8 = λ is. absurd (omega (arith, written.status, is));
      no_kind = λ _. written.no_kind;
      no_position = λ _ _. written.no_position;
    }
