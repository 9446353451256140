-- Findings that are added one by one.
use Rattle.std.proofs.Common.{◌≡◌, ℕ, Bool, List, [], ◌∷◌, ◌++◌}
use Rattle.std.proofs.lemmas.List.Elements.{All-nil, All-cons, All-push}
use Rattle.fancy_lex.specs.declared.flags.Flags.{Flags}
use Rattle.class_rules.specs.ClassProblems.{IsProblemAt, AreProblems, KeepsProblems}
use Rattle.class_rules.specs.declared.class_problem.ClassFinding.{ClassFinding}

-- after a problem of the class is added, each is one
pub keeps_push : (f : Flags) (casei : Bool) (source : List ℕ) (start old new : List ClassFinding) (x : ClassFinding) →
    new ≡ old ++ x ∷ [] → KeepsProblems f casei source start old →
    ((text : List ℕ) → IsProblemAt f casei source text x.span x.problem) → KeepsProblems f casei source start new
keeps_push f casei source start old new x is keeps problem text before =
    rw is (All-push (λ y. IsProblemAt f casei source text y.span y.problem) old x (keeps text before) (problem text))

-- a problem of the class as the only one
pub only_problem : (f : Flags) (casei : Bool) (source text : List ℕ) (x : ClassFinding) (xs : List ClassFinding) →
    xs ≡ x ∷ [] → IsProblemAt f casei source text x.span x.problem → AreProblems f casei source text xs
only_problem f casei source text x xs is problem =
    let P = λ (y : ClassFinding). IsProblemAt f casei source text y.span y.problem in
    rw is (All-cons P x [] problem (All-nil P))
