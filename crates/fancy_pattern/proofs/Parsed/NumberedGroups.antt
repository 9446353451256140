-- The groups in the group information are those that have a number, each with its name.
use Rattle.std.proofs.Common.{◌≡◌, ℕ, zero, suc, ◌+◌, ◌==◌, Bool, true, false, if◌then◌else◌, List}
use Rattle.std.proofs.Common.{[], ◌∷◌, length, map, Option, Some, None, option_map, unwrap_or, refl, ap}
use Rattle.std.proofs.Common.{ap₂, ◌∙◌, subst, arith}
use Rattle.std.proofs.lemmas.Slice.Eq.{bytes_eq-Decides}
use Rattle.std.specs.Cmp.Lexicographic.{nat_list_eq_equiv}
use Rattle.std.specs.List.{list_any}
use Rattle.std.specs.Map.{lookup}
use Rattle.std.specs.Prelude.{bytes_eq, find, slice_get}
use Rattle.fancy_lex.specs.Text.{Text}
use Rattle.fancy_grammar.proofs.NamedLaws.{under_named}
use Rattle.fancy_grammar.specs.Groups.{numbers_under}
use Rattle.fancy_grammar.specs.Ranks.{Opening, numbers, names}
use Rattle.fancy_grammar.specs.Ranks.{named_groups, is_name}
use Rattle.fancy_grammar.specs.GroupInfo.{GroupInfo}
use Rattle.fancy_grammar.specs.PatternReference.{Named}
use Rattle.fancy_grammar.proofs.Writable.{name_at, info_openings}
use Rattle.fancy_grammar.proofs.NamedNumbers.{carries, number_carried}
use Rattle.fancy_pattern.proofs.PatternLaws.Theorem.{unreached}

-- ---- the name of a number

-- the first entry with the number has the name of the group
named_by : (k : ℕ) (l : List Opening) (ws : List Text) →
    option_map (λ e. e.0) (find (λ (e : Named). list_any (λ j. j == suc k) e.1) (map (λ w. (w, numbers w l)) ws))
    ≡ find (λ w. carries w (slice_get l k)) ws
named_by k l [] = refl
named_by k l (w ∷ ws) = by_test (list_any (λ j. j == suc k) (numbers w l)) (carries w (slice_get l k))
    (number_carried w k l) (named_by k l ws)
  where
    by_test : (a b : Bool) → a ≡ b →
        option_map (λ e. e.0) (find (λ (e : Named). list_any (λ j. j == suc k) e.1) (map (λ w. (w, numbers w l)) ws))
        ≡ find (λ w. carries w (slice_get l k)) ws →
        option_map (λ e. e.0) (if a then Some (w, numbers w l)
        else find (λ (e : Named). list_any (λ j. j == suc k) e.1) (map (λ w. (w, numbers w l)) ws))
        ≡ (if b then Some w else find (λ w. carries w (slice_get l k)) ws)
    by_test true true e h = refl
    by_test false false e h = h
    by_test true false e h = absurd cc
    by_test false true e h = absurd cc

-- a name that has the number is found
name_found : (u : Text) (k : ℕ) (l : List Opening) (ws : List Text) →
    list_any (λ j. j == suc k) (numbers_under (map (λ w. (w, numbers w l)) ws) u) ≡ true →
    find (λ w. bytes_eq w u) ws ≡ Some u
name_found u k l [] e = absurd cc
name_found u k l (w ∷ ws) e =
    by_test (bytes_eq u w) refl (name_found u k l ws) e
  where
    by_test : (b : Bool) → bytes_eq u w ≡ b →
        (list_any (λ j. j == suc k) (numbers_under (map (λ w. (w, numbers w l)) ws) u) ≡ true →
        find (λ w. bytes_eq w u) ws ≡ Some u) →
        list_any (λ j. j == suc k) (unwrap_or (if b then Some (numbers w l)
        else lookup (λ v. bytes_eq u v) (map (λ w. (w, numbers w l)) ws)) []) ≡ true →
        find (λ w. bytes_eq w u) (w ∷ ws) ≡ Some u
    by_test true is i e =
        let same : bytes_eq w u ≡ true = nat_list_eq_equiv.symm w u ∙ is in
        rw same (ap Some ((bytes_eq-Decides w u).0 same))
    by_test false is i e =
        let other : bytes_eq w u ≡ false = nat_list_eq_equiv.symm w u ∙ is in rw other (i e)

none_named : (ws : List Text) → find (λ w. is_name w None) ws ≡ None
none_named [] = refl
none_named (w ∷ ws) = none_named ws

name_of_opening : Option Opening → Option Text
name_of_opening None = None
name_of_opening (Some o) = o.name

-- the name of the group after the first k
name_there : (m : GroupInfo) (l : List Opening) (k : ℕ) (o : Opening) → m.named_groups ≡ named_groups l →
    slice_get l k ≡ Some o → name_at m (suc k) ≡ o.name
name_there m l k o e s =
    ap (λ es. option_map (λ e. e.0) (find (λ (e : Named). list_any (λ j. j == suc k) e.1) es)) e
    ∙ (named_by k l (names l) ∙ (ap (λ q. find (λ w. carries w q) (names l)) s ∙ by_name o.name refl))
  where
    by_name : (n : Option Text) → o.name ≡ n → find (λ w. is_name w o.name) (names l) ≡ o.name
    by_name None is = rw is (none_named (names l))
    by_name (Some u) is =
        let has : carries u (slice_get l k) ≡ true
        = ap (carries u) s ∙ (ap (is_name u) is ∙ (bytes_eq-Decides u u).1 refl) in
        let some = ap (list_any (λ j. j == suc k)) (under_named l u) ∙ (number_carried u k l ∙ has) in
        rw is (name_found u k l (names l) some)

-- ---- the openings

-- the openings in the group information, after c others
info_from : (m : GroupInfo) (l : List Opening) → m.named_groups ≡ named_groups l → (c : ℕ) (n : List Opening) →
    ((k : ℕ) → slice_get l (c + k) ≡ slice_get n k) → info_openings m c (length n) ≡ map unreached n
info_from m l e c [] h = refl
info_from m l e c (o ∷ n) h =
    let here : slice_get l c ≡ Some o = subst (λ k. slice_get l k ≡ Some o) (omega arith) (h zero) in
    let name : name_at m (c + 1) ≡ o.name
    = subst (λ k. name_at m k ≡ o.name) (omega arith) (name_there m l c o e here) in
    let more = info_from m l e (c + 1) n
    (λ k. subst (λ j. slice_get l j ≡ slice_get n k) (omega arith) (h (suc k))) in
    ap₂ (λ (x : Option Text) (y : List Opening). record { reach = 0; name = x } ∷ y) name more

pub info_openings_are : (m : GroupInfo) (l : List Opening) → m.named_groups ≡ named_groups l →
    info_openings m 0 (length l) ≡ map unreached l
info_openings_are m l e = info_from m l e 0 l (λ k. ap (slice_get l) (omega arith))
