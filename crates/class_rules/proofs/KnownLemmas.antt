-- What is wrong with a class that is kept.
use Rattle.std.proofs.Common.{◌≡◌, ℕ, Bool, List, Option, Some, None, String, Global, chars, string_bytes, rules, sym, ap, ◌∙◌}
use Rattle.std.specs.Prelude.{IsSomeAnd, MatchOption, ⊤}
use Rattle.fancy_lex.specs.Flags.{flags_of}
use Rattle.fancy_lex.specs.Text.{text_of}
use Rattle.fancy_grammar.specs.Tree.{delegate}
use Rattle.fancy_syntax.specs.View.{view}
use Rattle.fancy_syntax.specs.declared.expr.Expr.{Expr, Delegate, the_lemmas}
use Rattle.class_rules.specs.ClassProblems.{AreProblems}
use Rattle.class_rules.specs.KnownClasses.{IsOf}
use Rattle.class_rules.specs.declared.class_problem.ClassFinding.{ClassFinding}
use Rattle.class_rules.specs.declared.known_classes.ClassText.{ClassText}
use Rattle.class_rules.specs.declared.known_classes.KnownClass.{KnownClass}

pub findings_of : (o : Option KnownClass) (class : ClassText) (flags : ℕ) (found : List ClassFinding) →
    IsSomeAnd o (IsOf class flags) → MatchOption o ⊤ (λ known. found ≡ known.findings.items) →
    ∥ AreProblems (flags_of flags) class.casei class.source.now class.text.now found ∥₁
findings_of None class flags found h is = absurd h
findings_of (Some known) class flags found (source, text, casei, f) is =
    rw (is, ← source, ← text, ← casei, ← f) known.right

-- the tree of a class
view_Delegate : (s : String Global) (casei : Bool) → view (Delegate s casei) ≡ delegate (text_of s) casei
view_Delegate s casei = search (rules, the_lemmas)

pub delegates : (e : Expr) (s : String Global) (text : List ℕ) (casei : Bool) → e ≡ Delegate s casei →
    text ≡ string_bytes s → view e ≡ delegate (chars text) casei
delegates e s text casei h is = ap view h ∙ view_Delegate s casei ∙ ap (λ t. delegate (chars t) casei) (sym is)
