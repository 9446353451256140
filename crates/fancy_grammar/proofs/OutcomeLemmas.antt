-- How facts about the outcome of a part carry over to the whole.
use Rattle.std.proofs.Common.{◌≡◌, ℕ, Bool, true, false, if◌then◌else◌, List, [], ◌∷◌, ◌++◌, refl, ap, subst}
use Rattle.std.proofs.Common.{append_assoc}
use Rattle.std.specs.List.{AllByRecursion}
use Rattle.fancy_lex.specs.Located.{Located}
use Rattle.fancy_lex.specs.ErrorTable.{comment_not_closed}
use Rattle.fancy_lex.specs.LayoutSteps.{Skipped, rest, failed as open_comment}
use Rattle.fancy_lex.specs.Text.{Text, bytes}
use Rattle.fancy_lex.specs.declared.error.ReadError.{ReadError}
use Rattle.fancy_lex.specs.declared.error.ReadError.TheVariants.{At, OutOfMemory}
use Rattle.fancy_lex.specs.declared.flags.Flags.{Flags}
use Rattle.fancy_grammar.specs.AtomStart.{AtomStart, nothing, read, of_kind, condition, body, absent_branch}
use Rattle.fancy_grammar.specs.Grammar.{restored, after_atom, Piece, Atom, piece}
use Rattle.fancy_grammar.specs.Quantified.{quants}
use Rattle.fancy_grammar.specs.Join.{is_empty, solid}
use Rattle.fancy_grammar.specs.Errors.{IsErrorAmong, IsThisError}
use Rattle.fancy_grammar.specs.State.{skipped, after_skipped, State, at, Outcome, done, failed, and_then, mapped}
use Rattle.fancy_grammar.specs.Tree.{Tree}

-- what holds in both cases holds after layout
pub skipped_both : {B : Type 0} (P : B → Type 0) (k : Skipped) (f : Text → B) (g : Located → B) →
    ((t : Text) → k ≡ rest t → P (f t)) → ((p : ℕ) → k ≡ open_comment p → P (g (comment_not_closed p))) →
    P (after_skipped k f g)
skipped_both P (rest t) f g h i = h t refl
skipped_both P (open_comment p) f g h i = i p refl

-- after layout that is closed
pub after_rest : {B : Type 0} {k : Skipped} {t : Text} (f : Text → B) (g : Located → B) → k ≡ rest t →
    after_skipped k f g ≡ f t
after_rest f g e = ap (λ k. after_skipped k f g) e

-- the same tree with other flags
then_keeps : (P : Outcome Tree → Type 0) →
    ((r : Tree) (t : State) (f : Flags) → P (done r t) → P (done r (record t { flags = f }))) →
    (f : Flags) (q : Outcome Tree) → P q → P (restored f q)
then_keeps P g f (done r t) h = g r t f h
then_keeps P g f (failed e) h = h

-- P holds of what was read and of the state after it
abbrev pub Holds : {A : Type 0} → (A → State → Type 0) → Outcome A → Type 0
Holds P (done a s) = P a s
Holds P (failed e) = Unit {0}

-- one part after another
pub then_holds : {A B : Type 0} (P : A → State → Type 0) (Q : B → State → Type 0) (q : Outcome A)
    (f : A → State → Outcome B) → Holds P q → ((a : A) (s : State) → P a s → Holds Q (f a s)) → Holds Q (and_then q f)
then_holds P Q (done a s) f h g = g a s h
then_holds P Q (failed e) f h g = tt

-- what does not depend on the flags after an atom holds whatever they are
pub after_keeps : (P : Outcome Tree → Type 0) →
    ((r : Tree) (t : State) (f : Flags) → P (done r t) → P (done r (record t { flags = f }))) →
    (k : AtomStart) (f : Flags) (q : Outcome Tree) → P q → P (after_atom k f q)
after_keeps P g nothing f q h = h
after_keeps P g (read o) f q h = h
after_keeps P g (of_kind a s) f q h = then_keeps P g f q h
after_keeps P g (condition s) f q h = then_keeps P g f q h
after_keeps P g (body c s) f q h = then_keeps P g f q h
after_keeps P g (absent_branch s) f q h = then_keeps P g f q h

pub IsErrorAmong-map : {A B : Type 0} (P : Outcome A → Type 0) (Q : Outcome B → Type 0) (e : ReadError) →
    ((f : Located) → P (failed f) → Q (failed f)) → IsErrorAmong e P → IsErrorAmong e Q
IsErrorAmong-map P Q (At p k) f h = f _ h
IsErrorAmong-map P Q OutOfMemory f h = tt

pub IsErrorAmong-is : {A : Type 0} (P : Outcome A → Type 0) (e : ReadError) (f : Located) → IsThisError e f →
    P (failed f) → IsErrorAmong e P
IsErrorAmong-is P (At q j) f h d = rw h d
IsErrorAmong-is P OutOfMemory f h d = tt

-- the trees so far, before the ones that follow
abbrev pub trees_before : List Tree → Outcome (List Tree) → Outcome (List Tree)
trees_before l = mapped (l ++◌)

pub before-nil : (o : Outcome (List Tree)) → trees_before [] o ≡ o
before-nil (done l s) = refl
before-nil (failed e) = refl

pub before-push : (l : List Tree) (r : Tree) (o : Outcome (List Tree)) →
    trees_before (l ++ r ∷ []) o ≡ trees_before l (trees_before (r ∷ []) o)
before-push l r (done m s) = ap (λ n. done n s) (append_assoc l (r ∷ []) m)
before-push l r (failed e) = refl

pub solid-append : (l m : List Tree) → solid (l ++ m) ≡ solid l ++ solid m
solid-append [] m = refl
solid-append (r ∷ l) m = by_test (is_empty r) (solid-append l m)
  where
    by_test : (b : Bool) → solid (l ++ m) ≡ solid l ++ solid m →
        (if b then solid (l ++ m) else r ∷ solid (l ++ m)) ≡ (if b then solid l else r ∷ solid l) ++ solid m
    by_test true h = h
    by_test false h = ap (λ x. r ∷ x) h

-- what holds of each element of two lists holds of each element of both together
pub each_append : {A : Type 0} (P : A → Type 0) (l m : List A) → AllByRecursion P l → AllByRecursion P m →
    AllByRecursion P (l ++ m)
each_append P [] m h k = k
each_append P (t ∷ l) m h k = (h.0, each_append P l m h.1 k)

-- what holds of each of some trees holds of each of those that are not Empty
module _ (P : Tree → Type 0) where
  each_if : (b : Bool) (t : Tree) (l : List Tree) → P t → AllByRecursion P l →
      AllByRecursion P (if b then l else t ∷ l)
  each_if true t l h k = k
  each_if false t l h k = (h, k)

  pub each_solid : (l : List Tree) → AllByRecursion P l → AllByRecursion P (solid l)
  each_solid [] h = tt
  each_solid (t ∷ l) h = each_if (is_empty t) t (solid l) h.0 (each_solid l h.1)

-- a piece with this outcome under its quantifiers
pub piece_as : {d : ℕ} {s : State} {u : Text} {q o : Outcome Tree} → skipped s ≡ rest u → Atom d (at s u) q →
    and_then q (quants d (bytes s.rest)) ≡ o → Piece d s o
piece_as {d} {s} l a e = subst (Piece d s) e (piece l a)
