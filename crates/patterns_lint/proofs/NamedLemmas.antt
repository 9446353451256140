-- Parts that are named by a report among others.
use Rattle.std.proofs.Common.{refl, ℕ, ◌<◌, List, [], ◌∷◌, ◌++◌, Some, length, set, inl, inr, arith}
use Rattle.std.proofs.lemmas.List.{get_or-set_same, length-set}
use Rattle.std.proofs.lemmas.List.Elements.{Contains-push}
use Rattle.std.specs.Prelude.{Contains}
use Rattle.fancy_syntax.specs.declared.span.Span.{Span}
use Rattle.lint_rules.specs.declared.problem.Found.{Found}
use Rattle.patterns_lint.specs.Named.{IsNamed}

-- a report in the place of another one names what it has among the others
pub named_in_place : (found : List Found) (i : ℕ) (f : Found) (span : Span) → i < length found →
    Contains f.others.named (Some span) → IsNamed (set found i f) span
named_in_place found i f span within has =
    (f, (i, omega (arith, within, length-set found i f), get_or-set_same found i f f within), inr has)

-- a report that is added names what it is on
pub named_last : (found : List Found) (f : Found) → IsNamed (found ++ f ∷ []) f.span
named_last found f = (f, Contains-push found f, inl refl)
