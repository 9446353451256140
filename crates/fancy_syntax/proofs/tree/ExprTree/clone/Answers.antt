use Rattle.std.proofs.Common.{◌≡◌, ℕ, List, [], ◌∷◌, String, string_bytes, Vec, Global, chars, refl, ap, map}
use Rattle.std.specs.List.{AllZip, each_same}
use Rattle.std.specs.Vec.{vec_len}
use Rattle.fancy_grammar.specs.Groups.{entry_of}
use Rattle.fancy_syntax.proofs.tree.ExprTree.clone.Goals as goal

named_same : (es fs : List (String Global × Vec ℕ Global)) →
    AllZip (λ p q. (string_bytes q.0 ≡ string_bytes p.0)
    × (AllZip (λ x y. y ≡ x) p.1.items q.1.items × (vec_len q.1 ≡ vec_len p.1))) es fs →
    map entry_of fs ≡ map entry_of es
named_same [] [] h = refl
named_same (e ∷ es) (f ∷ fs) ((name, (numbers, long)), more) =
    let first : chars (string_bytes f.0) ≡ chars (string_bytes e.0) = ap chars name in
    let second : f.1.items ≡ e.1.items = each_same _ _ numbers in
    let rest = named_same es fs more in cc
named_same _ _ h = absurd h

pub returns-clause-group_info : goal.returns-clause-group_info
returns-clause-group_info c =
    let numbers = each_same _ _ c.in_ok-clone.ensures.cases in
    let names = named_same c.args.self.now.named_groups.entries c.in_ok-clone-2.field-0.entries
    c.in_ok-clone-2.ensures.cases in
    cc
