-- What the walk records is the group information of the references.
use Rattle.std.proofs.Common.{◌≡◌, ℕ, Bool, true, false, ◌||◌, nat_le, nat_lt, List, [], ◌∷◌, Option, Some, None, refl}
use Rattle.std.proofs.Common.{sym, ap, ◌∙◌, arith, if◌then◌else◌}
use Rattle.std.specs.Prelude.{fold, find, filter}
use Rattle.std.specs.BTreeSet.{insert_key}
use Rattle.std.specs.List.{list_any}
use Rattle.std.specs.Ordering.{nat_cmp}
use Rattle.fancy_lex.specs.Located.{Located}
use Rattle.fancy_lex.specs.Text.{Text, bytes, position_at}
use Rattle.fancy_grammar.specs.Groups.{numbers_under}
use Rattle.fancy_grammar.specs.Items.{Item, opening, reference, MeantReference, meanings_in, role_of, target_of}
use Rattle.fancy_grammar.specs.Label.{AstReference}
use Rattle.fancy_grammar.specs.Resolved.{first_error}
use Rattle.fancy_grammar.specs.GroupInfo.{back_number, back_numbers, is_call, is_call_of_all}
use Rattle.fancy_grammar.specs.Meaning.{Meaning, number, unresolved, invalid, refers_to, error_or}
use Rattle.fancy_grammar.specs.Written.{is_numeric}
use Rattle.fancy_grammar.specs.Walk.{Scope, Progress, progress_after, record_item, or_else, number_above, with_backref}

abbrev numbers_of : Scope → Text → List ℕ
numbers_of k = numbers_under k.groups.names

-- a reference with its meaning to the walk
abbrev meant_by : Scope → Progress → AstReference → ℕ → MeantReference
meant_by k s r p = record {
  reference = r;
  reach = p;
  meaning = refers_to (numbers_of k) s.passed (role_of r) (target_of r);
}

-- the references among the items, each with its meaning to the walk
abbrev meant : Scope → Progress → List Item → List MeantReference
meant k s l = meanings_in k.named (numbers_of k) s.passed l

or_assoc : (a b c : Bool) → ((a || b) || c) ≡ (a || (b || c))
or_assoc true b c = refl
or_assoc false b c = refl

or_false : (a : Bool) → (a || false) ≡ a
or_false true = refl
or_false false = refl

else_assoc : {A : Type 0} (a b c : Option A) → or_else (or_else a b) c ≡ or_else a (or_else b c)
else_assoc None b c = refl
else_assoc (Some x) b c = refl

else_none : {A : Type 0} (a : Option A) → or_else a None ≡ a
else_none None = refl
else_none (Some x) = refl

error_first : (m : Meaning) (p : ℕ) (o : Option Located) → or_else (error_or m p None) o ≡ error_or m p o
error_first (number n) p o = refl
error_first unresolved p o = refl
error_first (invalid k) p o = refl

pub recorded_numeric : (k : Scope) (s : Progress) (l : List Item) →
    (progress_after k s l).numeric
    ≡ (s.numeric
    || list_any
    (λ (x : MeantReference).
    is_numeric k.text (position_at (bytes k.text) x.reach) (role_of x.reference) (target_of x.reference)) (meant k s l))
recorded_numeric k s [] = sym (or_false s.numeric)
recorded_numeric k s (opening o ∷ l) = recorded_numeric k (record_item k s (opening o)) l
recorded_numeric k s (reference r p ∷ l) = recorded_numeric k (record_item k s (reference r p)) l ∙ or_assoc s.numeric _ _

pub recorded_calls : (k : Scope) (s : Progress) (l : List Item) →
    (progress_after k s l).calls
    ≡ (s.calls || list_any (λ (x : MeantReference). is_call (role_of x.reference)) (meant k s l))
recorded_calls k s [] = sym (or_false s.calls)
recorded_calls k s (opening o ∷ l) = recorded_calls k (record_item k s (opening o)) l
recorded_calls k s (reference r p ∷ l) = recorded_calls k (record_item k s (reference r p)) l ∙ or_assoc s.calls _ _

pub recorded_self : (k : Scope) (s : Progress) (l : List Item) →
    (progress_after k s l).self_recursive
    ≡ (s.self_recursive
    || list_any (λ (x : MeantReference). is_call_of_all (role_of x.reference) (target_of x.reference)) (meant k s l))
recorded_self k s [] = sym (or_false s.self_recursive)
recorded_self k s (opening o ∷ l) = recorded_self k (record_item k s (opening o)) l
recorded_self k s (reference r p ∷ l) = recorded_self k (record_item k s (reference r p)) l ∙ or_assoc s.self_recursive _ _

pub recorded_error : (k : Scope) (s : Progress) (l : List Item) →
    (progress_after k s l).error ≡ or_else s.error (first_error (meant k s l))
recorded_error k s [] = sym (else_none s.error)
recorded_error k s (opening o ∷ l) = recorded_error k (record_item k s (opening o)) l
recorded_error k s (reference r p ∷ l) =
    recorded_error k (record_item k s (reference r p)) l ∙ else_assoc s.error _ _
    ∙ ap (or_else s.error)
    (error_first (refers_to (numbers_of k) s.passed (role_of r) (target_of r)) p (first_error (meant k s l)))

-- the numbers that are in range, and the first that is not
in_range : (total n : ℕ) (l ns : List ℕ) (b : Bool) → nat_le n total ≡ b →
    fold (insert_key nat_cmp) (if nat_le n total then insert_key nat_cmp l n else l) (filter (λ m. nat_le m total) ns)
    ≡ fold (insert_key nat_cmp) l (filter (λ m. nat_le m total) (n ∷ ns))
in_range total n l ns true h = rw h refl
in_range total n l ns false h = rw h refl

inside : (total : ℕ) (l : List ℕ) (x : MeantReference) (xs : List MeantReference)
    (o : Option ℕ) → back_number (role_of x.reference) x.meaning ≡ o →
    fold (insert_key nat_cmp) (with_backref total l o) (filter (λ n. nat_le n total) (back_numbers xs))
    ≡ fold (insert_key nat_cmp) l (filter (λ n. nat_le n total) (back_numbers (x ∷ xs)))
inside total l x xs None e = rw e refl
inside total l x xs (Some n) e = rw e (in_range total n l (back_numbers xs) (nat_le n total) refl)

pub recorded_backrefs : (k : Scope) (s : Progress) (l : List Item) →
    (progress_after k s l).backrefs
    ≡ fold (insert_key nat_cmp) s.backrefs (filter (λ n. nat_le n k.groups.total) (back_numbers (meant k s l)))
recorded_backrefs k s [] = refl
recorded_backrefs k s (opening o ∷ l) = recorded_backrefs k (record_item k s (opening o)) l
recorded_backrefs k s (reference r p ∷ l) =
    recorded_backrefs k (record_item k s (reference r p)) l
    ∙ inside k.groups.total s.backrefs (meant_by k s r p) (meant k s l) _ refl

outside : (total : ℕ) (x : MeantReference) (xs : List MeantReference) (o : Option ℕ) →
    back_number (role_of x.reference) x.meaning ≡ o →
    or_else (number_above total o) (find (λ n. nat_lt total n) (back_numbers xs))
    ≡ find (λ n. nat_lt total n) (back_numbers (x ∷ xs))
outside total x xs None e = rw e refl
outside total x xs (Some n) e = rw e (grind arith)

pub recorded_outside : (k : Scope) (s : Progress) (l : List Item) →
    (progress_after k s l).out_of_range
    ≡ or_else s.out_of_range (find (λ n. nat_lt k.groups.total n) (back_numbers (meant k s l)))
recorded_outside k s [] = sym (else_none s.out_of_range)
recorded_outside k s (opening o ∷ l) = recorded_outside k (record_item k s (opening o)) l
recorded_outside k s (reference r p ∷ l) =
    recorded_outside k (record_item k s (reference r p)) l ∙ else_assoc s.out_of_range _ _
    ∙ ap (or_else s.out_of_range)
    (outside k.groups.total (meant_by k s r p) (meant k s l) _ refl)
