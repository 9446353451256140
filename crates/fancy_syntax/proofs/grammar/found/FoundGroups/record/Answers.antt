use Rattle.std.proofs.Common.{refl, true, sym, ◌∙◌}
use Rattle.fancy_grammar.specs.Items.{items}
use Rattle.fancy_syntax.specs.View.{view}
use Rattle.fancy_syntax.proofs.FoundLemmas.{alone_reference, kept_unresolved, no_group_more, set_unresolved}
use Rattle.fancy_syntax.proofs.grammar.found.FoundGroups.record.Goals as goal

pub returns-then-is_reference-clause-found : goal.returns-then-is_reference-clause-found
returns-then-is_reference-clause-found c =
    let f = c.args.self.now in
    let atom = view c.args.atom.now in
    let alone = alone_reference f.ignore atom c.requires in
    no_group_more f (record f { unresolved = true }) (items atom) alone.openings refl refl refl
    (λ i. set_unresolved f.unresolved _ ((alone_reference i atom c.requires).same ∙ sym c.is_reference.ensures
    ∙ c.if-is_reference.true))

pub returns-else-is_reference-clause-found : goal.returns-else-is_reference-clause-found
returns-else-is_reference-clause-found c =
    let f = c.args.self.now in
    let atom = view c.args.atom.now in
    let alone = alone_reference f.ignore atom c.requires in
    no_group_more f f (items atom) alone.openings refl refl refl
    (λ i. kept_unresolved f.unresolved _ ((alone_reference i atom c.requires).same ∙ sym c.is_reference.ensures
    ∙ c.if-is_reference.false))
