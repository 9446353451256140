-- What is printed for a printable tree is read as its normal form, or is an error if it nests too deep; the text has no
-- other result.
use Rattle.std.proofs.Common.{◌≡◌, ℕ, Bool, true, false, nat_lt, List, [], ◌∷◌, length}
use Rattle.std.proofs.Common.{filter_map, map, Option, Some, None, refl, sym, ap, ap₂, ◌∙◌, subst, arith}
use Rattle.std.specs.Prelude.{fold, chars, encode_utf8_all}
use Rattle.std.specs.BTreeSet.{insert_key}
use borrow.Author.Tests.{ltb-true, ltb-false}
use Rattle.fancy_lex.specs.Located.{recursion_exceeded}
use Rattle.fancy_lex.specs.Text.{Text, bytes}
use Rattle.fancy_lex.specs.declared.error.ReadError.TheVariants.{At}
use Rattle.fancy_lex.specs.declared.error.ParseError.TheVariants.{RecursionExceeded}
use Rattle.fancy_lex.specs.declared.flags.Flags.{Flags}
use Rattle.fancy_grammar.specs.Ranks.{numbered_openings_in, named_groups, numbers, name_cmp}
use Rattle.fancy_grammar.specs.Depth.{max_depth}
use Rattle.fancy_grammar.specs.ParseResult.{IsTreeOf, of_reading}
use Rattle.fancy_grammar.specs.ParsedTree.{groups}
use Rattle.fancy_grammar.specs.Grammar.{DerivesTree, FailsWith}
use Rattle.fancy_grammar.specs.Items.{Item, opening, reference, items, openings, openings_in, meanings_in, numbers_in}
use Rattle.fancy_grammar.specs.GroupInfo.{GroupInfo, group_info}
use Rattle.fancy_grammar.specs.Printed.{printed}
use Rattle.fancy_grammar.specs.Resolved.{first_error, error_of}
use Rattle.fancy_grammar.specs.Tree.{Tree, empty}
use Rattle.fancy_grammar.proofs.WalkLaws.{info_from}
use Rattle.fancy_grammar.proofs.ParsedTreeLaws.{groups_total}
use Rattle.fancy_grammar.proofs.Verdict.{no_error, only_reading, only_read}
use Rattle.fancy_grammar.specs.Normal.{unicode_flags, normal}
use Rattle.fancy_grammar.specs.Over.{Paren, too_deep}
use Rattle.fancy_grammar.specs.Printable.{printable}
use Rattle.fancy_grammar.specs.ReadBack.{info_of_groups, ParseResult, read, refused, IsResultOf, IsOnlyResult, read_back}
use Rattle.fancy_grammar.specs.ReadBack.{read_or_refused}
use Rattle.fancy_grammar.specs.ReadBack.{IsReadBack}
use Rattle.fancy_grammar.proofs.ReadBack.PrintableLaws.{is_printable}
use Rattle.fancy_grammar.proofs.ReadBack.PrintedScalars.{printed_spelled}
use Rattle.fancy_grammar.proofs.ReadBack.Nest.{nest}
use Rattle.fancy_grammar.proofs.ReadBack.Induction.{reads_back}
use Rattle.fancy_grammar.proofs.ReadBack.RuleLemmas.{OnlyGroups, Becomes}
use Rattle.fancy_grammar.proofs.ReadBack.TooDeep.{deep_fails}
use Rattle.fancy_grammar.proofs.ReadBack.OverLemmas.{position, over_position, none_too_deep}

-- ---- the group information

no_meanings : (l : List Item) → OnlyGroups l → (named : Bool) (numbers_of : Text → List ℕ) (c : ℕ) →
    meanings_in named numbers_of c l ≡ []
no_meanings [] h named u c = refl
no_meanings (opening o ∷ l) h named u c = no_meanings l h.1 named u _
no_meanings (reference r p ∷ l) h named u c = absurd h

no_names : (l : List Item) → OnlyGroups l → filter_map (λ o. o.name) (numbered_openings_in false (openings_in l)) ≡ []
no_names [] h = refl
no_names (opening o ∷ l) h = rw h.0 (no_names l h.1)
no_names (reference r p ∷ l) h = absurd h

info_is : (u : Bool) (text : Text) (r : Tree) → OnlyGroups (items r) →
    group_info (unicode_flags u) text r ≡ info_of_groups (length (numbered_openings_in false (openings r)))
info_is u text r h =
    let n = length (numbered_openings_in false (openings r)) in
    let numbered = numbered_openings_in false (openings r) in
    let unnamed : named_groups numbered ≡ [] =
    ap (λ l. map (λ t. (t, numbers t numbered)) (fold (insert_key name_cmp) [] l)) (no_names (items r) h) in
    let none = no_meanings (items r) h false (numbers_in (unicode_flags u) r) 0 in
    λ i. info_from text false n (unnamed i) (none i)

-- ---- the result

-- a text that derives a tree whose only items are groups
tree_of : (u : Bool) (text : Text) (r x : Tree) → DerivesTree (unicode_flags u) text r → Becomes r x →
    IsTreeOf (unicode_flags u) text x (info_of_groups (length (groups x)))
tree_of u text r x d b =
    let numbered = numbered_openings_in false (openings r) in
    let numbers_of = numbers_in (unicode_flags u) r in
    let none : error_of (unicode_flags u) r ≡ None
    = ap first_error (no_meanings (items r) b.groups false numbers_of 0) in
    let found : IsTreeOf (unicode_flags u) text x (info_of_groups (length numbered)) =
    (r, d, none, sym (b.is (bytes text) numbers_of 0), sym (info_is u text r b.groups)) in
    subst (λ n. IsTreeOf (unicode_flags u) text x (info_of_groups n)) (sym (groups_total found)) found

only_refused : (f : Flags) (text : Text) (p : ℕ) → FailsWith f text recursion_exceeded p →
    IsOnlyResult f text (refused recursion_exceeded p)
only_refused f text p a = record { is = of_reading a; only = λ b h. other b h }
  where
    other : (b : ParseResult) → IsResultOf f text b → b ≡ refused recursion_exceeded p
    other (read s k) h = absurd (no_error f text s k recursion_exceeded p h (of_reading a))
    other (refused k q) h =
        let (e, d) = (only_reading (At a.0 RecursionExceeded) f text a.1).1 k q h in ap₂ refused e (omega (arith, d, a.2))

only_result : (t : Tree) (p : ℕ) (u : Bool) → printable t ≡ true →
    IsOnlyResult (unicode_flags u) (printed t p) (read_back u t p)
only_result t p u h = by_nest (nat_lt (nest t p) max_depth) refl
  where
    Is : Option Paren → Type 0
    Is o = IsOnlyResult (unicode_flags u) (printed t p) (read_or_refused (normal u t) o)

    by_nest : (b : Bool) → nat_lt (nest t p) max_depth ≡ b → Is (too_deep t p)
    by_nest true e =
        let l = ltb-true (nest t p) max_depth e in let (r, d, b) = reads_back t p u (is_printable t h) l in
        subst Is (sym (none_too_deep t p l))
        (only_read (unicode_flags u) (printed t p) (normal u t) _ (tree_of u (printed t p) r (normal u t) d b))
    by_nest false e =
        let l = ltb-false (nest t p) max_depth e in
        subst Is (sym (over_position t p l))
        (only_refused (unicode_flags u) (printed t p) (position t p 0) (deep_fails t p u (is_printable t h) l))

pub read_back_only : (t : Tree) (p : ℕ) → printable t ≡ true → IsReadBack t p (printed t p)
read_back_only t p h = λ u. only_result t p u h

-- the same for the bytes
pub bytes_read_back : (t : Tree) (p : ℕ) → printable t ≡ true → IsReadBack t p (chars (encode_utf8_all (printed t p)))
bytes_read_back t p h = subst (IsReadBack t p) (sym (printed_spelled t p h)) (read_back_only t p h)

-- ---- equal texts

tree_read : ParseResult → Tree
tree_read (read t m) = t
tree_read (refused k p) = empty

from_read : (o : Option Paren) (x y : Tree) (m : GroupInfo) → read_or_refused x o ≡ read y m → y ≡ x
unfolding tree_read
from_read None x y m e = sym (ap tree_read e)
from_read (Some q) x y m e = absurd cc

-- trees that are printed as the same text have the same normal form
pub same_texts : (t s : Tree) (p q : ℕ) (u : Bool) → printable t ≡ true → printable s ≡ true →
    too_deep t p ≡ None → printed t p ≡ printed s q → normal u t ≡ normal u s
same_texts t s p q u h k l e =
    let here = only_result t p u h in
    let there = only_result s q u k in
    let same : read_back u s q ≡ read_back u t p =
    here.only (read_back u s q) (subst (λ w. IsResultOf (unicode_flags u) w (read_back u s q)) (sym e) there.is) in
    from_read (too_deep s q) (normal u s) (normal u t) _ (same ∙ ap (read_or_refused (normal u t)) l)
