-- What the parser returns for a text: its tree and group information, or its error.
use Rattle.std.specs.Prelude.{◌≡◌, ℕ, ◌+◌, ◌⊎◌, List, length, Some, None}
use Rattle.std.specs.Str.{IsCharBoundary}
use Rattle.fancy_lex.specs.Located.{Kind}
use Rattle.fancy_lex.specs.Text.{Text, bytes, IsPositionOf}
use Rattle.fancy_lex.specs.declared.error.Error.{Error}
use Rattle.fancy_lex.specs.declared.flags.Flags.{Flags}
use Rattle.fancy_grammar.specs.Errors.{IfParseError}
use Rattle.fancy_grammar.specs.Grammar.{DerivesTree, FailsWith}
use Rattle.fancy_grammar.specs.GroupInfo.{GroupInfo, group_info}
use Rattle.fancy_grammar.specs.Resolved.{resolved, error_of}
use Rattle.fancy_grammar.specs.Tree.{Tree}

-- the grammar derives the whole text with some raw tree; no reference of the raw tree is an error, it resolves to t,
-- and its group information is m
abbrev pub IsTreeOf : Flags → Text → Tree → GroupInfo → Type 0
IsTreeOf f text t m =
    (r : Tree) × DerivesTree f text r × (error_of f r ≡ None) × (t ≡ resolved f (bytes text) r) × (m ≡ group_info f text r)

-- the error of the text: the one at which reading ends, or, if the text derives, the first error of its references
pub data IsErrorOf : Flags → Text → Kind → ℕ → Type 0 where
  of_reading : {f text k p : _} → FailsWith f text k p → IsErrorOf f text k p
  of_resolving : {f text k p q r : _} → DerivesTree f text r → error_of f r ≡ Some (record { reach = q; kind = k }) →
      IsPositionOf (bytes text) q p → IsErrorOf f text k p

-- the text has a tree
abbrev pub HasTree : Flags → Text → Type 0
HasTree f text = (t : Tree) × (m : GroupInfo) × IsTreeOf f text t m

-- the text has an error
abbrev pub HasError : Flags → Text → Type 0
HasError f text = (k : Kind) × (position : ℕ) × IsErrorOf f text k position

-- memory ran out, or the text has this error and no other, and it has no tree
abbrev pub IsOnlyError : Error → Flags → Text → Type 0
IsOnlyError e f text = IfParseError e (λ k p.
    IsErrorOf f text k p
    × ((j : Kind) (q : ℕ) → IsErrorOf f text j q → (j ≡ k) × (q ≡ p))
    × ((t : Tree) (m : GroupInfo) → IsTreeOf f text t m → ⊥))

-- memory ran out, or the error's position is one past the end of the pattern or a character boundary of the pattern
abbrev pub IsPositionedIn : Error → List ℕ → Type 0
IsPositionedIn e pattern = IfParseError e (λ k p. (p ≡ length pattern + 1) ⊎ IsCharBoundary pattern p)
