use Rattle.std.proofs.Common.{◌≡◌, ℕ, ℤ, Bool, ap, sym, ◌∙◌, rules}
use mir.Syntax.{w64}
use mir.Val.{SFits}
use Rattle.std.proofs.lemmas.Int.{to_z-of_z}
use Rattle.fancy_grammar.specs.PatternReference.{call_text, backref_at_level_text}
use Rattle.fancy_grammar.specs.Tree.{subroutine_call, backref_at_level}
use Rattle.fancy_syntax.specs.View.{view}
use Rattle.fancy_pattern.specs.ContextViews.{leaf_text_of}
use Rattle.fancy_syntax.specs.declared.expr.Expr.{SubroutineCall, BackrefWithRelativeRecursionLevel, the_lemmas}
use Rattle.fancy_pattern.proofs.OutputLemmas.{last_as}
use Rattle.fancy_pattern.proofs.leaf.put_leaf.Goals as goal

view_call : (n : ℕ) → view (SubroutineCall n) ≡ subroutine_call n
view_call n = search (rules, the_lemmas)

view_at_level : (n : ℕ) (level : ℤ) (casei : Bool) →
    view (BackrefWithRelativeRecursionLevel n level casei) ≡ backref_at_level n level casei
view_at_level n level casei = search (rules, the_lemmas)

pub returns-in-BackrefWithRelativeRecursionLevel : goal.returns-in-BackrefWithRelativeRecursionLevel
returns-in-BackrefWithRelativeRecursionLevel c m k h l names is =
    let b = c.in-BackrefWithRelativeRecursionLevel in
    let fits : SFits w64 b.relative_level = search rules in
    last_as _ _ _ (backref_at_level_text m c.args.context.now.opened b.group b.relative_level) _
    (simp to_z-of_z at (c.put_backref_at_level.ensures m names))
    (ap (λ n. backref_at_level_text m n b.group b.relative_level) is.opened
    ∙ ap (λ t. leaf_text_of m t h) (sym (ap view b.is ∙ view_at_level b.group b.relative_level b.casei)))

pub returns-in-SubroutineCall : goal.returns-in-SubroutineCall
returns-in-SubroutineCall c m k h l names is =
    let b = c.in-SubroutineCall in
    last_as _ _ _ (call_text m c.args.context.now.opened b.group) _ (c.put_call.ensures m names)
    (ap (λ n. call_text m n b.group) is.opened
    ∙ ap (λ t. leaf_text_of m t h) (sym (ap view b.is ∙ view_call b.group)))
