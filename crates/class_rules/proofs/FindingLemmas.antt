-- Findings of the nodes of a tree, one by one.
use Rattle.std.proofs.Common.{◌≡◌, ℕ, ◌+◌, ◌≤◌, Bool, List, [], ◌∷◌, ◌++◌, length, inl, inr, sym, ap, subst, arith}
use Rattle.std.proofs.Common.{length-append, Option, Some, None}
use Rattle.std.specs.Prelude.{IfSome}
use Rattle.std.proofs.Math.Logic.{∥∥₁_map, ∥∥₁_map₂}
use Rattle.std.proofs.lemmas.List.Elements.{All-push}
use Rattle.fancy_lex.specs.declared.flags.Flags.{Flags}
use Rattle.fancy_lex.specs.Flags.{flags_of}
use Rattle.fancy_syntax.specs.Spanned.{Spanned, first_span}
use Rattle.fancy_syntax.specs.declared.span.Span.{Span}
use Rattle.class_rules.specs.ClassProblems.{IsProblemAt, ShowsLook, HasNeedless}
use Rattle.class_rules.specs.ClassSource.{IsTextAt, IsCutAt, IsAll, LeavesOut, IsInBrackets}
use Rattle.class_rules.specs.ClassFindings.{moved, IsOfClass, IsOfBranch, IsFoundIn, AreFoundIn, KeepsFound}
use Rattle.class_rules.specs.KnownClasses.{IsClassOf, IsProblemOf, AreProblemsOf}
use Rattle.class_rules.specs.declared.class_look.LookAt.{LookAt}
use Rattle.class_rules.specs.declared.class_problem.ClassFinding.{ClassFinding}
use Rattle.class_rules.specs.declared.class_problem.ClassLook.{ClassLook}
use Rattle.class_rules.specs.declared.class_problem.ClassLook.TheVariants.{Alternatives, PosixClass, DoubledBackslashes, WideRange, Word}
use Rattle.class_rules.specs.declared.class_problem.ClassProblem.{ClassProblem}
use Rattle.class_rules.specs.declared.class_problem.ClassProblem.TheVariants as problem
use Rattle.class_rules.specs.declared.known_classes.ClassText.{ClassText}

-- ---- problems of a class are in it

-- the span is one of a part of the text
pub record IsInside (text : List ℕ) (span : Span) : Type 0 where
  pub ordered : span.start ≤ span.end
  pub within : span.end ≤ length text

all_inside : (text : List ℕ) (span : Span) → IsAll text span → IsInside text span
all_inside text span (starts, ends) = record { ordered = omega (arith, starts); within = omega (arith, ends) }

cut_inside : (text before part after : List ℕ) (span : Span) → IsCutAt span text before part after → IsInside text span
cut_inside text before part after span (is, starts, ends) = record {
  ordered = omega (arith, starts, ends);
  within = omega (arith, starts, ends, ap length is, length-append before (part ++ after), length-append part after);
}

pub text_inside : (text part : List ℕ) (span : Span) → IsTextAt text span part → IsInside text span
text_inside text part span (before, after, cut) = cut_inside text before part after span cut

leaves_inside : (text kept : List ℕ) (span : Span) → LeavesOut text span kept → IsInside text span
leaves_inside text kept span (before, part, after, cut, _) = cut_inside text before part after span cut

brackets_inside : (text alone : List ℕ) (span : Span) → IsInBrackets text span alone → IsInside text span
brackets_inside text alone span (before, part, after, cut, _) = cut_inside text before part after span cut

look_inside : (source : List ℕ) (span : Span) (look : ClassLook) → ShowsLook source span look → IsInside source span
look_inside source span Alternatives h = all_inside source span h.0
look_inside source span PosixClass h = all_inside source span h.0
look_inside source span DoubledBackslashes h = all_inside source span h.0
look_inside source span WideRange h = text_inside source h.0 span h.1
look_inside source span Word all = all_inside source span all

pub problem_inside : (f : Flags) (casei : Bool) (source text : List ℕ) (span : Span) (p : ClassProblem) →
    IsProblemAt f casei source text span p → IsInside source span
problem_inside f casei source text span (problem.Invalid kind) h = all_inside source span h.0
problem_inside f casei source text span problem.Empty h = all_inside source span h.0
problem_inside f casei source text span problem.DuplicateCharacters h = leaves_inside source h.0 span h.1
problem_inside f casei source text span (problem.SuspiciousClass look) h = look_inside source span look h.1
problem_inside f casei source text span (problem.SuspiciousRange first last) h =
    brackets_inside source h.2.0 span h.2.1
problem_inside f casei source text span problem.BarBetweenEscapes h = text_inside source h.0.0 span h.0.1
problem_inside f casei source text span problem.HyphenRange h = text_inside source h.0 span h.1
problem_inside f casei source text span (problem.SubsumedBranch other branch) h = absurd h

-- what is in a part of a pattern ends in the part
pub moved_within : (pattern source : List ℕ) (at span : Span) → IsTextAt pattern at source → IsInside source span →
    at.start + span.end ≤ at.end
moved_within pattern source at span (before, after, (is, starts, ends)) inside = omega (arith, starts, ends, inside.within)

-- ---- findings of a node

-- a problem of the class that the node is, at its span in the pattern
pub class_problem : (f : Flags) (pattern : List ℕ) (node : Spanned) (class : ClassText) (x y : ClassFinding) →
    IsClassOf pattern node class → IsProblemAt f class.casei class.source.now class.text.now x.span x.problem →
    y.problem ≡ x.problem → y.span ≡ moved (first_span node.spans).start x.span → IsOfClass f pattern node y
class_problem f pattern node class x y (is_class, is_source) h same at = record {
  source = class.source.now;
  text = class.text.now;
  casei = class.casei;
  inside = x.span;
  is_class = is_class;
  is_source = is_source;
  is_at = at;
  is_problem = subst (IsProblemAt f class.casei class.source.now class.text.now x.span) (sym same) h;
}

-- the same, of a finding whose span is moved by that of the node
pub moved_problem : (flags : ℕ) (pattern : List ℕ) (node : Spanned) (class : ClassText) (x y : ClassFinding) (at : Span) →
    IsClassOf pattern node class → at ≡ first_span node.spans → IsProblemOf flags class x → y.problem ≡ x.problem →
    (x.span.start ≤ x.span.end → at.start + x.span.end ≤ at.end → y.span ≡ moved at.start x.span) →
    IsOfClass (flags_of flags) pattern node y
moved_problem flags pattern node class x y at is this h same spanned =
    let inside = problem_inside (flags_of flags) class.casei class.source.now class.text.now x.span x.problem h in
    let source : IsTextAt pattern at class.source.now = subst (λ s. IsTextAt pattern s class.source.now) (sym this) is.1 in
    class_problem (flags_of flags) pattern node class x y is h same
    (subst (λ s. y.span ≡ moved s.start x.span) this
    (spanned inside.ordered (moved_within pattern class.source.now at x.span source inside)))

-- ---- findings that are added

pub keeps_none : (f : Flags) (pattern : List ℕ) (node : Spanned) (xs : List ClassFinding) → KeepsFound f pattern node xs xs
keeps_none f pattern node xs tree k all = all

pub keeps_then : (f : Flags) (pattern : List ℕ) (node : Spanned) (xs ys zs : List ClassFinding) →
    KeepsFound f pattern node xs ys → KeepsFound f pattern node ys zs → KeepsFound f pattern node xs zs
keeps_then f pattern node xs ys zs h g tree k all = g tree k (h tree k all)

push_found : (f : Flags) (pattern : List ℕ) (tree : Spanned) (xs : List ClassFinding) (y : ClassFinding) →
    AreFoundIn f pattern tree xs → IsFoundIn f pattern tree y → AreFoundIn f pattern tree (xs ++ y ∷ [])
push_found f pattern tree xs y all one = All-push (IsFoundIn f pattern tree) xs y all one

-- one more of the class that the node is
pub keeps_of_class : (f : Flags) (pattern : List ℕ) (node : Spanned) (start xs ys : List ClassFinding) (y : ClassFinding) →
    ys ≡ xs ++ y ∷ [] → KeepsFound f pattern node start xs → ∥ IsOfClass f pattern node y ∥₁ →
    KeepsFound f pattern node start ys
keeps_of_class f pattern node start xs ys y is keeps one tree k all =
    rw is (∥∥₁_map₂ (keeps tree k all) one
    (λ before this. push_found f pattern tree xs y before (record { node = node; inside = k; of_node = inl this })))

-- one more of a branch of the alternation that the node is
pub keeps_of_branch : (f : Flags) (pattern : List ℕ) (node : Spanned) (start xs ys : List ClassFinding) (y : ClassFinding) →
    ys ≡ xs ++ y ∷ [] → KeepsFound f pattern node start xs → IsOfBranch f node y → KeepsFound f pattern node start ys
keeps_of_branch f pattern node start xs ys y is keeps this tree k all =
    rw is (∥∥₁_map (keeps tree k all)
    (λ before. push_found f pattern tree xs y before (record { node = node; inside = k; of_node = inr this })))

-- a class that looks like something else
pub suspicious : (flags : ℕ) (class : ClassText) (xs : List ClassFinding) (span : Span) (look : ClassLook) →
    ∥ AreProblemsOf flags class xs ∥₁ → HasNeedless look class.source.now xs → ShowsLook class.source.now span look →
    ∥ IsProblemOf flags class (record { span = span; problem = problem.SuspiciousClass look }) ∥₁
suspicious flags class xs span look all (k, x, inside, is, (needless, speaks)) shows =
    ∥∥₁_map all (λ ps.
    let this : IsProblemOf flags class x = subst (IsProblemOf flags class) is (ps k x inside) in
    let left_out = subst (IsProblemAt (flags_of flags) class.casei class.source.now class.text.now x.span) needless this in
    ((x.span, left_out, speaks), shows))

-- the same, of what a class looks like, if anything
pub suspicious_of : (flags : ℕ) (class : ClassText) (xs : List ClassFinding) (source : List ℕ) (o : Option LookAt)
    (found : LookAt) (span : Span) (look : ClassLook) → o ≡ Some found → span ≡ found.span → look ≡ found.look →
    source ≡ class.source.now → ∥ AreProblemsOf flags class xs ∥₁ → IfSome o (λ f. HasNeedless f.look source xs) →
    IfSome o (λ f. ShowsLook source f.span f.look) →
    ∥ IsProblemOf flags class (record { span = span; problem = problem.SuspiciousClass look }) ∥₁
suspicious_of flags class xs source None found span look is at like same all needless shows = absurd (cc)
suspicious_of flags class xs source (Some f) found span look is at like same all needless shows =
    let this : f ≡ found = cc in
    let there : ShowsLook class.source.now found.span found.look =
    subst (λ g. ShowsLook class.source.now g.span g.look) this (subst (λ s. ShowsLook s f.span f.look) same shows) in
    let spoken : HasNeedless found.look class.source.now xs =
    subst (λ g. HasNeedless g.look class.source.now xs) this (subst (λ s. HasNeedless f.look s xs) same needless) in
    suspicious flags class xs span look all (subst (λ l. HasNeedless l class.source.now xs) (sym like) spoken)
    (subst (λ s. ShowsLook class.source.now s look) (sym at) (subst (λ l. ShowsLook class.source.now found.span l) (sym like) there))
