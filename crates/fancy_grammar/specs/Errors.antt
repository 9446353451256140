-- How an `Error` of the code relates to an error in the definitions and to an outcome.
use Rattle.std.specs.Prelude.{◌≡◌, ℕ, Option, Some}
use Rattle.fancy_lex.specs.Located.{Kind, Located}
use Rattle.fancy_lex.specs.ErrorViews.{kind_of, IfFailed}
use Rattle.fancy_lex.specs.declared.error.Error.{Error}
use Rattle.fancy_lex.specs.declared.error.Error.TheVariants.{ParseError, OutOfMemory}
use Rattle.fancy_lex.specs.declared.error.ReadError.{ReadError}
use Rattle.fancy_grammar.specs.State.{Outcome, failed}

-- memory ran out, or P holds for the error's kind and position
abbrev pub IfParseError : Error → (Kind → ℕ → Type 0) → Type 0
IfParseError (ParseError p k) P = P (kind_of k) p
IfParseError OutOfMemory P = Unit {0}

-- memory ran out, or P holds for the error's reach and kind
abbrev pub IfLocated : ReadError → (Located → Type 0) → Type 0
IfLocated e P = IfFailed e (λ k q. P (record { reach = q; kind = k }))

-- memory ran out, or it is this error
abbrev pub IsThisError : ReadError → Located → Type 0
IsThisError e f = IfLocated e (λ g. g ≡ f)

-- memory ran out, or P holds for the error as an outcome
abbrev pub IsErrorAmong : {A : Type 0} → ReadError → (Outcome A → Type 0) → Type 0
IsErrorAmong e P = IfLocated e (λ g. P (failed g))

-- memory ran out, or it is the error in the option
abbrev pub IsErrorIn : ReadError → Option Located → Type 0
IsErrorIn e o = IfLocated e (λ g. o ≡ Some g)
