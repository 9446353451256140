-- What one reading of a whole text implies for every other.
use Rattle.std.proofs.Common.{◌≡◌, ℕ, ◌+◌, ◌-◌, inl, inr, List, ◌++◌, Option, Some, None, refl, sym, ap, ap₂, ◌∙◌}
use Rattle.std.proofs.Common.{subst, chars, length, arith}
use Rattle.std.specs.Str.{IsUtf8, IsCharBoundary, all_scalars}
use Rattle.std.proofs.Math.Utf8.{encodes}
use Rattle.std.proofs.lemmas.Str.{scalars-chars, chars-encodes}
use Rattle.fancy_lex.proofs.LeaveLaws.{lies_within}
use Rattle.fancy_lex.proofs.TextLemmas.{bytes_chars, cut_boundary}
use Rattle.fancy_lex.specs.Located.{Kind, Located}
use Rattle.fancy_lex.specs.ErrorViews.{kind_of, error_in}
use Rattle.fancy_lex.specs.Text.{Text, EndsWith, as_given, begins, beyond, bytes, past_end, position_at, IsPositionOf}
use Rattle.fancy_lex.specs.declared.error.ParseError.{ParseError as ErrorKind}
use Rattle.fancy_lex.specs.declared.error.Error.TheVariants.{ParseError}
use Rattle.fancy_lex.specs.declared.error.ReadError.{ReadError}
use Rattle.fancy_lex.specs.declared.error.ReadError.TheVariants.{At, OutOfMemory}
use Rattle.fancy_lex.specs.declared.flags.Flags.{Flags}
use Rattle.fancy_grammar.specs.Ranks.{only_named}
use Rattle.fancy_grammar.specs.ParseResult.{IsTreeOf, IsErrorOf, of_reading, of_resolving, IsOnlyError, IsPositionedIn}
use Rattle.fancy_grammar.specs.Grammar.{DerivesTree, FailsWith, Whole}
use Rattle.fancy_grammar.specs.Items.{items, openings, numbers_in}
use Rattle.fancy_grammar.specs.GroupInfo.{GroupInfo, group_info}
use Rattle.fancy_grammar.specs.Errors.{IsErrorAmong, IsErrorIn}
use Rattle.fancy_grammar.proofs.ReadBack.ScalarLemmas.{scalars_after}
use Rattle.fancy_grammar.specs.ReadBack.{ParseResult, read, refused, IsResultOf, IsOnlyResult}
use Rattle.fancy_grammar.specs.Resolved.{resolved, error_of}
use Rattle.fancy_grammar.specs.State.{Outcome, failed}
use Rattle.fancy_grammar.specs.Tree.{Tree}
use Rattle.fancy_grammar.proofs.Ordered.{DescendingReaches}
use Rattle.fancy_grammar.proofs.OrderLaws.{error_reach}
use Rattle.fancy_grammar.proofs.ReadLaws.{error_lies, items_lie, ordered_within}
use Rattle.fancy_grammar.proofs.Slices.{MayLie}
use Rattle.fancy_grammar.proofs.Unique.{whole_unique}

pub same_tree : {f : Flags} {text : Text} {r q : Tree} → DerivesTree f text r → DerivesTree f text q → q ≡ r
same_tree a b = let e = whole_unique a.1 b.1 in cc

same_error : {A : Type 0} {f g : Located} → ◌≡◌ {A = Outcome A} (failed f) (failed g) → f ≡ g
same_error e = cc

apart : {f : Flags} {text : Text} {r : Tree} {k : Kind} (p : ℕ) → DerivesTree f text r → FailsWith f text k p → ⊥
apart p a (q, b, i) = let e = whole_unique a.1 b in cc

same_first : {f g : Located} → ◌≡◌ {A = Option Located} (Some f) (Some g) → f ≡ g
same_first e = cc

-- the same error has the same kind and the same reach
same_parts : {f g : Located} → f ≡ g → (g.kind ≡ f.kind) × (g.reach ≡ f.reach)
same_parts e = (sym (ap (λ (h : Located). h.kind) e), sym (ap (λ (h : Located). h.reach) e))

pub only_tree : (f : Flags) (text : Text) (t u : Tree) (m k : GroupInfo) → IsTreeOf f text t m → IsTreeOf f text u k →
    (u ≡ t) × (k ≡ m)
only_tree f text t u m k (r, a, none, e, d) (q, b, none2, e2, d2) =
    let same = same_tree a b in (e2 ∙ ap (resolved f (bytes text)) same ∙ sym e, d2 ∙ ap (group_info f text) same ∙ sym d)

pub no_error : (f : Flags) (text : Text) (t : Tree) (m : GroupInfo) (k : Kind) (p : ℕ) → IsTreeOf f text t m →
    IsErrorOf f text k p → ⊥
no_error f text t m k p (r, a, none, e, d) (of_reading b) = apart p a b
no_error f text t m k p (r, a, none, e, d) (of_resolving {q} b some i) =
    let same = ap (error_of f) (same_tree a b) in
    let both : ◌≡◌ {A = Option Located} None (Some (record { reach = q; kind = k })) = sym none ∙ sym same ∙ some in
    absurd cc

-- a tree of the text is its only result
pub only_read : (f : Flags) (text : Text) (t : Tree) (m : GroupInfo) → IsTreeOf f text t m → IsOnlyResult f text (read t m)
only_read f text t m a = record { is = a; only = λ b h. other b h }
  where
    other : (b : ParseResult) → IsResultOf f text b → b ≡ read t m
    other (read s k) h = let (e, d) = only_tree f text t s m k a h in ap₂ read e d
    other (refused k p) h = absurd (no_error f text t m k p a h)

-- the reach of a character boundary of the pattern, or of one past its end, is that of a position
at_position : (text : Text) (q : ℕ) → MayLie text q → IsPositionOf (bytes text) q (position_at (bytes text) q)
at_position text q h = let small = lies_within {m = bytes text + 1} (omega arith) (omega arith) h in omega arith

-- the one error of a text that cannot be read
pub only_reading : (e : ReadError) (f : Flags) (text : Text) → IsErrorAmong e (Whole f text) →
    IsOnlyError (error_in text e) f text
only_reading (At p k) f text a =
    (of_reading here, λ j q b. other j q b, λ t m b. no_error f text t m (kind_of k) _ b (of_reading here))
  where
    here : FailsWith f text (kind_of k) (position_at (bytes text) p)
    here = (p, a, at_position text p (error_lies a))

    other : (j : Kind) (q : ℕ) → IsErrorOf f text j q → (j ≡ kind_of k) × (q ≡ position_at (bytes text) p)
    other j q (of_reading (r, b, i)) =
        let same = same_parts (same_error (whole_unique a b)) in (same.0, omega (arith, i, same.1))
    other j q (of_resolving b some i) = absurd (apart _ b here)
only_reading OutOfMemory f text a = tt

-- where the error of a reference may be
resolving_lies : (f : Flags) (text : Text) (r : Tree) (k : Kind) (p : ℕ) → DerivesTree f text r →
    error_of f r ≡ Some (record { reach = p; kind = k }) → MayLie text p
resolving_lies f text r k p a h =
    error_reach (MayLie text) (only_named f (openings r)) (numbers_in f r) 0 (items r) (record { reach = p; kind = k })
    (items_lie a.1) h

-- the one error of a text that is read and cannot be resolved
pub only_resolving : (e : ReadError) (f : Flags) (text : Text) (r : Tree) → DerivesTree f text r →
    IsErrorIn e (error_of f r) → IsOnlyError (error_in text e) f text
only_resolving (At p k) f text r a h =
    (here, λ j q b. other j q b, λ t m b. no_error f text t m (kind_of k) _ b here)
  where
    here : IsErrorOf f text (kind_of k) (position_at (bytes text) p)
    here = of_resolving a h (at_position text p (resolving_lies f text r (kind_of k) p a h))

    other : (j : Kind) (q : ℕ) → IsErrorOf f text j q → (j ≡ kind_of k) × (q ≡ position_at (bytes text) p)
    other j q (of_reading b) = absurd (apart q a b)
    other j q (of_resolving b some i) =
        let same = same_parts (same_first (sym h ∙ sym (ap (error_of f) (same_tree a b)) ∙ some)) in
        (same.0, omega (arith, i, same.1))
only_resolving OutOfMemory f text r a h = tt

-- ---- positions

-- a character boundary of the pattern
pub cut_at : (re : List ℕ) (u : Text) → IsUtf8 re → EndsWith (chars re) u →
    IsCharBoundary re (bytes (chars re) - bytes u)
cut_at re u valid (w, cut) =
    let scalars = scalars_after w u (ap all_scalars (sym cut) ∙ scalars-chars re valid) in
    let ends : IsUtf8 (encodes u) = (u, (scalars, refl)) in
    let same : chars (encodes u) ≡ u = chars-encodes u scalars in
    let left : length (encodes u) ≡ bytes u = sym (bytes_chars (encodes u) ends) ∙ ap bytes same in
    subst (IsCharBoundary re) (ap₂ (λ a b. a - b) (sym (bytes_chars re valid)) left)
    (cut_boundary re (encodes u) w valid ends (cut ∙ ap (λ s. w ++ s) (sym same)))

past_end_is : (re : List ℕ) (q : ℕ) → IsUtf8 re → q ≡ past_end → position_at (bytes (chars re)) q ≡ length re + 1
past_end_is re q valid h = omega (arith, bytes_chars re valid)

positioned : (e : ErrorKind) (re : List ℕ) (q : ℕ) → IsUtf8 re → MayLie (chars re) q →
    IsPositionedIn (ParseError (position_at (bytes (chars re)) q) e) re
positioned e re q valid (as_given h) = inl (past_end_is re q valid h)
positioned e re q valid (begins u ends h) =
    let at : bytes (chars re) - bytes u ≡ position_at (bytes (chars re)) q = omega arith in
    inr (subst (IsCharBoundary re) at (cut_at re u valid ends))
positioned e re q valid (beyond h) = inl (past_end_is re q valid h)

pub reading_positioned : (e : ReadError) (f : Flags) (re : List ℕ) → IsUtf8 re → IsErrorAmong e (Whole f (chars re)) →
    IsPositionedIn (error_in (chars re) e) re
reading_positioned (At p k) f re u a = positioned k re p u (error_lies a)
reading_positioned OutOfMemory f re u a = tt

-- the groups and references of a text that is read are in text order
pub text_order : (f : Flags) (re : List ℕ) (r : Tree) → IsUtf8 re → DerivesTree f (chars re) r →
    DescendingReaches (length re + 2) 2 (items r)
text_order f re r u a = subst (λ n. DescendingReaches (n + 2) 2 (items r)) (bytes_chars re u) (ordered_within a.1)

pub resolving_positioned : (e : ReadError) (f : Flags) (re : List ℕ) (r : Tree) → IsUtf8 re → DerivesTree f (chars re) r →
    IsErrorIn e (error_of f r) → IsPositionedIn (error_in (chars re) e) re
resolving_positioned (At p k) f re r u a h =
    positioned k re p u (resolving_lies f (chars re) r (kind_of k) p a h)
resolving_positioned OutOfMemory f re r u a h = tt
