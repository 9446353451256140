use Rattle.std.proofs.Common.{◌≡◌, true, false, chars, sym, ap, ◌∙◌, subst}
use Rattle.fancy_lex.specs.Flags.{flags_of}
use Rattle.fancy_pattern.proofs.Parsed.Join.{none_of_pattern}
use Rattle.fancy_grammar.specs.Pattern.{pattern_text}
use Rattle.fancy_grammar.specs.ReadAs.{IsReadAs}
use Rattle.fancy_syntax.specs.InfoViews.{info_of}
use Rattle.fancy_syntax.specs.View.{view}
use Rattle.fancy_pattern.proofs.to_pattern.Goals as goal

-- the text of each tree that is parsed in this way is read back as the tree
pub returns-else-branch-clause-parsed : goal.returns-else-branch-clause-parsed
returns-else-branch-clause-parsed c =
    let f = flags_of c.args.flags in
    let t = view c.args.tree.now.expr in
    let m = info_of c.args.tree.now in
    let same : chars c.as_str.result.now ≡ pattern_text f t m
    = ap chars c.as_str.ensures.value ∙ (c.in_ok-text.ensures ∙ ap (λ g. pattern_text g t m) c.from_bits.ensures) in
    none_of_pattern f t m (λ r.
    let is : c.in_ok-is_read_as.field-0 ≡ true
    = c.in_ok-is_read_as.ensures.1 (subst (λ s. IsReadAs f s t m) (sym same) r) in
    let both : false ≡ true = sym c.if-branch.false ∙ is in
    absurd cc)
