-- Classes of patterns, and those that are kept.
use Rattle.std.specs.Prelude.{◌≡◌, ℕ, List, string_bytes, chars}
use Rattle.fancy_grammar.specs.Tree.{delegate}
use Rattle.fancy_lex.specs.Flags.{flags_of}
use Rattle.fancy_syntax.specs.Spanned.{Spanned, first_span}
use Rattle.fancy_syntax.specs.View.{view}
use Rattle.class_rules.specs.ClassFindings.{KeepsFound}
use Rattle.class_rules.specs.ClassProblems.{IsProblemAt, AreProblems}
use Rattle.class_rules.specs.ClassSource.{IsTextAt}
use Rattle.class_rules.specs.declared.class_problem.ClassFinding.{ClassFinding}
use Rattle.class_rules.specs.declared.known_classes.ClassText.{ClassText}
use Rattle.class_rules.specs.declared.known_classes.KnownClass.{KnownClass}

-- what is kept is of the class, in a pattern that is parsed under these flags
abbrev pub IsOf : ClassText → ℕ → KnownClass → Type 0
IsOf class flags known =
    (string_bytes known.source ≡ class.source.now) × (string_bytes known.text ≡ class.text.now)
    × (known.casei ≡ class.casei) × (known.flags ≡ flags)

-- the node is the class, in this pattern
abbrev pub IsClassOf : List ℕ → Spanned → ClassText → Type 0
IsClassOf pattern node class =
    (view node.expr ≡ delegate (chars class.text.now) class.casei) × IsTextAt pattern (first_span node.spans) class.source.now

-- the finding is a problem of the class, in a pattern that is parsed under these flags
abbrev pub IsProblemOf : ℕ → ClassText → ClassFinding → Type 0
IsProblemOf flags class finding =
    IsProblemAt (flags_of flags) class.casei class.source.now class.text.now finding.span finding.problem

-- each finding is a problem of the class, in a pattern that is parsed under these flags
abbrev pub AreProblemsOf : ℕ → ClassText → List ClassFinding → Type 0
AreProblemsOf flags class = AreProblems (flags_of flags) class.casei class.source.now class.text.now

-- if the finding is a problem of the class that the node is, the later list has it for the node
abbrev pub AddsProblem : Spanned → ClassFinding → List ClassFinding → List ClassFinding → Type 0
AddsProblem node finding old new =
    (flags : ℕ) (pattern : List ℕ) (class : ClassText) → IsClassOf pattern node class →
    ∥ IsProblemOf flags class finding ∥₁ → KeepsFound (flags_of flags) pattern node old new

-- the same of each finding
abbrev pub AddsProblems : Spanned → List ClassFinding → List ClassFinding → List ClassFinding → Type 0
AddsProblems node findings old new =
    (flags : ℕ) (pattern : List ℕ) (class : ClassText) → IsClassOf pattern node class →
    ∥ AreProblemsOf flags class findings ∥₁ → KeepsFound (flags_of flags) pattern node old new
