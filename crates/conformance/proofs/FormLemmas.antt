-- What follows of a pattern from what the library promises.
use Rattle.std.proofs.Common.{◌≡◌, ℕ, chars, string_bytes, String, length, Option, Some, None, is_some, IfSome}
use Rattle.std.proofs.Common.{MatchOption, ap, sym, ◌∙◌}
use Rattle.std.specs.Prelude.{encode_utf8_all}
use Rattle.std.specs.declared.alloc.Global.{Global}
use Rattle.fancy_lex.specs.Text.{Text}
use Rattle.fancy_lex.specs.declared.flags.Flags.{Flags}
use Rattle.fancy_grammar.proofs.ParsedTreeLaws.{groups_total}
use Rattle.fancy_grammar.specs.ReadAs.{IsReadAs}
use Rattle.fancy_syntax.specs.InfoViews.{IsTreeOf}
use Rattle.fancy_syntax.specs.ParsedTree.{groups}
use Rattle.fancy_syntax.specs.GroupInfo.{GroupInfo}
use Rattle.fancy_syntax.specs.Printable.{printable}
use Rattle.fancy_syntax.specs.Printed.{printed}
use Rattle.fancy_syntax.specs.ReadBack.{IsReadBack}
use Rattle.fancy_syntax.specs.Tree.{Tree}
use Rattle.conformance.specs.Forms.{IsFormOf, HasNoForm, HasInfoOf}

-- what a tree of the pattern prints as is a form of it, and without a text it has none
pub form_of : (f : Flags) (pattern : Text) (t : Tree) (m : GroupInfo) (text : Option (String Global)) →
    IsTreeOf f pattern t m → is_some text ≡ printable t →
    IfSome text (λ s. string_bytes s ≡ encode_utf8_all (printed t 0)) →
    IfSome text (λ s. IsReadBack t 0 (chars (string_bytes s))) →
    MatchOption text (HasNoForm f pattern) (λ s. IsFormOf f pattern (string_bytes s))
form_of f pattern t m None found exact is back = (t, m, found, sym exact)
form_of f pattern t m (Some s) found exact is back = (t, m, found, is, back)

-- where a pattern has one tree, its Groups are as many as the group information says
pub count_of : (f : Flags) (pattern : Text) (t : Tree) (m : GroupInfo) →
    ((e : Tree) (k : GroupInfo) → IsTreeOf f pattern e k → (e ≡ t) × (k ≡ m)) →
    (e : Tree) (k : GroupInfo) → IsTreeOf f pattern e k → length (groups e) ≡ m.total_groups
count_of f pattern t m only e k h = groups_total h ∙ ap (λ k. k.total_groups) (only e k h).1

-- a text that is read as a tree with the group information of the pattern's tree has that information
pub info_kept : (f : Flags) (pattern : Text) (t u : Tree) (m : GroupInfo) (text : Option (String Global)) →
    IsTreeOf f pattern t m → IfSome text (λ s. IsReadAs f (chars (string_bytes s)) u m) →
    IfSome text (λ s. HasInfoOf f pattern (chars (string_bytes s)))
info_kept f pattern t u m None found reads = tt
info_kept f pattern t u m (Some s) found (v, only, same) = (t, v, m, found, only.is)
