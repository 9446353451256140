use Rattle.std.proofs.Common.{◌≡◌, ◌+◌, true, Option, arith, chars, length, ap, sym, subst, ◌∙◌}
use Rattle.std.specs.List.{list_any}
use Rattle.fancy_lex.specs.Text.{Text}
use Rattle.fancy_lex.specs.declared.flags.Flags.{Flags}
use Rattle.fancy_grammar.specs.Groups.{Groups, groups_in, groups_of}
use Rattle.fancy_grammar.specs.Ranks.{is_counted, is_named, numbered_openings_in}
use Rattle.fancy_grammar.specs.Errors.{IsErrorIn}
use Rattle.fancy_grammar.specs.Grammar.{DerivesTree}
use Rattle.fancy_grammar.specs.Items.{items, openings, openings_in}
use Rattle.fancy_grammar.specs.Tree.{Tree}
use Rattle.fancy_grammar.specs.Walk.{Scope, Progress, nothing_recorded, progress_after, resolved_by}
use Rattle.fancy_grammar.proofs.OrderLaws.{openings_fit}
use Rattle.fancy_grammar.proofs.ReadLaws.{derived_read}
use Rattle.fancy_grammar.proofs.Verdict.{text_order}
use Rattle.fancy_grammar.proofs.WalkLaws.{Suits, scope_suits, info_recorded, law_tree, law_error, law_info}
use Rattle.fancy_syntax.specs.Reads.{IsRawTree}
use Rattle.fancy_syntax.specs.Regrouped.{raw, regrouped, is_settled}
use Rattle.fancy_syntax.specs.View.{view}
use Rattle.fancy_syntax.specs.declared.raw_tree.RawTree.{RawTree}
use Rattle.fancy_syntax.proofs.RegroupedLemmas.{same_openings, same_progress, same_resolved, still_counted, unresolved_none}
use Rattle.fancy_syntax.proofs.resolve.resolve.Goals as goal

-- what is known of the groups
abbrev scope : Text → RawTree → Scope
scope text raw = record { text = text; named = raw.named; groups = groups_of raw.groups }

suits : (f : Flags) (text : Text) (raw : RawTree) (r : Tree) → IsRawTree f raw r → Suits f r (scope text raw)
suits f text raw r h =
    let l = openings r in
    let same = h.groups ∙ ap (λ b. groups_in (numbered_openings_in b l)) (sym h.named) in
    scope_suits f r (scope text raw) h.named (ap (λ (g : Groups). g.total) same)
    (ap (λ (g : Groups). g.names) same)

still : (f : Flags) (raw : RawTree) (r : Tree) → IsRawTree f raw r → (name : Option Text) →
    is_counted f.ignore_numbered_groups name ≡ true → is_counted raw.named name ≡ true
still f raw r h name = still_counted f.ignore_numbered_groups (list_any is_named (openings r)) raw.named name h.named

-- what the walk computes is the same for the raw tree of the grammar

tree_same : (f : Flags) (text : Text) (x : RawTree) (r : Tree) → DerivesTree f text r → IsRawTree f x r →
    resolved_by (scope text x) 0 (raw x.expr) ≡ resolved_by (scope text x) 0 r
tree_same f text x r d h =
    let i = f.ignore_numbered_groups in
    ap (λ t. resolved_by (scope text x) 0 (regrouped t)) h.same
    ∙ same_resolved i (scope text x) (still f x r h) 0 r (derived_read d.1)

progress_same : (f : Flags) (text : Text) (x : RawTree) (r : Tree) → DerivesTree f text r → IsRawTree f x r →
    progress_after (scope text x) nothing_recorded (items (raw x.expr))
    ≡ progress_after (scope text x) nothing_recorded (items r)
progress_same f text x r d h =
    let i = f.ignore_numbered_groups in
    ap (λ t. progress_after (scope text x) nothing_recorded (items (regrouped t))) h.same
    ∙ same_progress i (scope text x) (still f x r h) nothing_recorded r (derived_read d.1)

pub walk-requires-clause-bound : goal.walk-requires-clause-bound
walk-requires-clause-bound c =
    let (f, r, d, h) = c.requires in
    omega (
      arith,
      openings_fit (length c.args.pattern.now + 2) 2 (items r) (text_order f c.args.pattern.now r c.utf8.pattern d),
      ap (λ t. length (openings_in (items (regrouped t)))) h.same,
      same_openings f.ignore_numbered_groups r (derived_read d.1),
    )

pub walk-requires-clause-settled : goal.walk-requires-clause-settled
walk-requires-clause-settled c none =
    let (f, r, d, h) = c.requires in
    ap is_settled h.same ∙ unresolved_none f.ignore_numbered_groups r (sym h.unresolved ∙ none)

pub returns-clause-tree : goal.returns-clause-tree
returns-clause-tree c f r d h =
    let text = chars c.args.pattern.now in
    let walked = rw c.in-Ok.is at c.walk.ensures in
    ap view c.tree_with_info.ensures.tree ∙ walked.tree ∙ tree_same f text c.args.raw r d h
    ∙ law_tree f r (scope text c.args.raw) (suits f text c.args.raw r h)

pub returns-clause-group_info : goal.returns-clause-group_info
returns-clause-group_info c f r d h =
    let text = chars c.args.pattern.now in
    let k = scope text c.args.raw in
    let walked = rw c.in-Ok.is at c.walk.ensures in
    c.tree_with_info.ensures.group_info ∙ walked.group_info
    ∙ ap (info_recorded k) (progress_same f text c.args.raw r d h) ∙ law_info f r k (suits f text c.args.raw r h)

pub returns-clause-no_error : goal.returns-clause-no_error
returns-clause-no_error c f r d h =
    let text = chars c.args.pattern.now in
    let walked = rw c.in-Ok.is at c.walk.ensures in
    sym (law_error f r (scope text c.args.raw) (suits f text c.args.raw r h))
    ∙ sym (ap (λ (p : Progress). p.error) (progress_same f text c.args.raw r d h)) ∙ walked.no_error

pub returns-in-Err-clause-error : goal.returns-in-Err-clause-error
returns-in-Err-clause-error c f r d h =
    let text = chars c.args.pattern.now in
    let walked = rw c.in-Err.is at c.walk.ensures in
    subst (IsErrorIn c.in-Err.error)
    (ap (λ (p : Progress). p.error) (progress_same f text c.args.raw r d h)
    ∙ law_error f r (scope text c.args.raw) (suits f text c.args.raw r h)) walked.error
