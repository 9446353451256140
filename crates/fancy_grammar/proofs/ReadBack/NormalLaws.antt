-- Normal forms are printable, and those without a Delegate are their own normal forms.
use Rattle.std.proofs.Common.{◌≡◌, ℕ, Bool, true, false, true≢false, not, ◌&&◌, if◌then◌else◌, List, [], ◌∷◌, ◌++◌, map}
use Rattle.std.proofs.Common.{is_none, Result, Ok, Err, IfOk, refl, sym, ap, ap₂, ◌∙◌}
use Rattle.std.specs.declared.alloc.AllocError.{AllocError}
use Rattle.std.specs.Cmp.{first_so, second_so}
use Rattle.std.proofs.lemmas.Bool.{and_from, or_parts, false≢true}
use Rattle.std.specs.List.{AllByRecursion}
use Rattle.std.specs.Str.{all_scalars}
use Rattle.fancy_lex.specs.Text.{Text}
use Rattle.fancy_lex.specs.declared.escape.Assertion.TheVariants.{StartLineOniguruma, EndTextIgnoreTrailingNewlines}
use Rattle.fancy_grammar.specs.Quote.{after_backslash}
use Rattle.fancy_grammar.specs.Join.{is_empty, solid, one_or, join, choice}
use Rattle.fancy_grammar.specs.Normal.{normal_character, pieces_of, normal, normal_pieces, normals}
use Rattle.fancy_grammar.specs.Printable.{is_count, printable, all_printable}
use Rattle.fancy_grammar.specs.Tree.{Tree, Trees, no_trees, more_trees, empty, any, assertion, literal, concat, alt}
use Rattle.fancy_grammar.specs.Tree.{group, repeat, delegate, define_group, trees_of}
use Rattle.fancy_grammar.specs.HasDelegate.{has_delegate, any_has_delegate}
use Rattle.fancy_grammar.proofs.ReadBack.DelegateLaws.{delegates_stay}
use Rattle.fancy_grammar.proofs.OutcomeLemmas.{solid-append, each_append, each_solid}
use Rattle.fancy_grammar.proofs.ReadBack.RuleLemmas.{solid_solid}
use Rattle.fancy_grammar.proofs.ReadBack.PrintableLaws.{blank, blanks, normal_empty, delegate_class}
use Rattle.fancy_grammar.proofs.ReadBack.DelegateTexts.{IsDelegate}

-- ---- a normal form is its own normal form

record Fixed (u : Bool) (n : Tree) : Type 0 where
  same : normal u n ≡ n
  single : pieces_of n n ≡ solid (n ∷ [])

abbrev AllFixed : Bool → List Tree → Type 0
AllFixed u l = AllByRecursion (Fixed u) l

items_same : (u : Bool) (l : List Tree) → AllFixed u l → normal_pieces u (trees_of l) ≡ solid l
items_same u [] h = refl
items_same u (x ∷ l) h =
    ap₂ (λ a b. a ++ b) (ap (pieces_of x) h.0.same ∙ h.0.single) (items_same u l h.1) ∙ sym (solid-append (x ∷ []) l)

normals_same : (u : Bool) (l : List Tree) → AllFixed u l → normals u (trees_of l) ≡ l
normals_same u [] h = refl
normals_same u (x ∷ l) h = ap₂ (λ a b. a ∷ b) h.0.same (normals_same u l h.1)

empty_fixed : (u : Bool) → Fixed u empty
empty_fixed u = record { same = refl; single = refl }

one_fixed : (u : Bool) (l : List Tree) → AllFixed u l → solid l ≡ l → Fixed u (one_or concat l)
one_fixed u [] h e = empty_fixed u
one_fixed u (x ∷ []) h e = h.0
one_fixed u (x ∷ y ∷ l) h e =
    record {
      same = ap join (items_same u (x ∷ y ∷ l) h) ∙ ap (one_or concat) (solid_solid (x ∷ y ∷ l)) ∙ ap (one_or concat) e;
      single = refl;
    }

join_fixed : (u : Bool) (l : List Tree) → AllFixed u l → Fixed u (join l)
join_fixed u l h = one_fixed u (solid l) (each_solid (Fixed u) l h) (solid_solid l)

choice_fixed : (u : Bool) (l : List Tree) → AllFixed u l → Fixed u (choice l)
choice_fixed u [] h = empty_fixed u
choice_fixed u (x ∷ []) h = h.0
choice_fixed u (x ∷ y ∷ l) h = record { same = ap choice (normals_same u (x ∷ y ∷ l) h); single = refl }

and_twice : (b k : Bool) → ((b && k) && k) ≡ (b && k)
and_twice true true = refl
and_twice true false = refl
and_twice false k = refl

single_char : (c : ℕ) (m : Bool) → pieces_of (literal (c ∷ []) m) (literal (c ∷ []) m) ≡ solid (literal (c ∷ []) m ∷ [])
single_char c true = refl
single_char c false = refl

characters_fixed : (u b : Bool) (cs : Text) → AllFixed u (map (normal_character b) cs)
characters_fixed u b [] = tt
characters_fixed u b (c ∷ cs) = (
  record {
    same = ap (literal (c ∷ [])) (and_twice b (is_none (after_backslash c)));
    single = single_char c
        (b && is_none (after_backslash c));
  },
  characters_fixed u b cs,
)

parts_fixed : (u : Bool) (t n : Tree) → Fixed u n → AllFixed u (pieces_of t n)
parts_fixed u (literal s false) n h = characters_fixed u false s
parts_fixed u t n h = each_solid (Fixed u) (n ∷ []) (h, tt)

any_fixed : (u a b : Bool) → Fixed u (any a (not a && b))
any_fixed u true b = record { same = refl; single = refl }
any_fixed u false b = record { same = refl; single = refl }

mutual
  fixed : (v u : Bool) (t : Tree) → has_delegate t ≡ false → Fixed v (normal u t)
  fixed v u (any a b) h = any_fixed v a b
  fixed v u (assertion (StartLineOniguruma crlf)) h = record { same = refl; single = refl }
  fixed v u (literal s i) h = join_fixed v (map (normal_character i) s) (characters_fixed v i s)
  fixed v u (delegate s i) h = absurd (true≢false h)
  fixed v u (concat ts) h = join_fixed v (normal_pieces u ts) (all_items v u ts h)
  fixed v u (alt ts) h = choice_fixed v (normals u ts) (all_normals v u ts h)
  fixed v u (group t) h = let r = fixed v u t h in record { same = ap group r.same; single = refl }
  fixed v u (repeat t lo hi greedy) h =
      let r = fixed v u t h in record { same = ap (λ x. repeat x lo hi greedy) r.same; single = refl }
  fixed v u (define_group t) h = empty_fixed v
  fixed v u _ h = record { same = refl; single = refl }

  all_items : (v u : Bool) (ts : Trees) → any_has_delegate ts ≡ false → AllFixed v (normal_pieces u ts)
  all_items v u no_trees h = tt
  all_items v u (more_trees t ts) h =
      let (a, b) = or_parts (has_delegate t) (any_has_delegate ts) h in
      each_append (Fixed v) (pieces_of t (normal u t)) (normal_pieces u ts)
      (parts_fixed v t (normal u t) (fixed v u t a))
      (all_items v u ts b)

  all_normals : (v u : Bool) (ts : Trees) → any_has_delegate ts ≡ false → AllFixed v (normals u ts)
  all_normals v u no_trees h = tt
  all_normals v u (more_trees t ts) h =
      let (a, b) = or_parts (has_delegate t) (any_has_delegate ts) h in (fixed v u t a, all_normals v u ts b)

pub normal_normal : (t : Tree) (v u : Bool) → has_delegate t ≡ false → normal v (normal u t) ≡ normal u t
normal_normal t v u h = (fixed v u t h).same

-- ---- a normal form is printable

record Kept (n : Tree) : Type 0 where
  is : printable n ≡ true
  stays : blank n ≡ is_empty n

abbrev AllKept : List Tree → Type 0
AllKept l = AllByRecursion Kept l

abbrev AllSolid : List Tree → Type 0
AllSolid [] = Unit {0}
AllSolid (x ∷ l) = (is_empty x ≡ false) × AllSolid l

cond_solid : (b : Bool) (x : Tree) (l : List Tree) → is_empty x ≡ b → AllSolid l → AllSolid (if b then l else x ∷ l)
cond_solid true x l e h = h
cond_solid false x l e h = (e, h)

all_solid : (l : List Tree) → AllSolid (solid l)
all_solid [] = tt
all_solid (x ∷ l) = cond_solid (is_empty x) x (solid l) refl (all_solid l)

all_are : (l : List Tree) → AllKept l → all_printable (trees_of l) ≡ true
all_are [] h = refl
all_are (x ∷ l) h = and_from (printable x) (all_printable (trees_of l)) h.0.is (all_are l h.1)

first_blank : (a b : Bool) → a ≡ false → (a && b) ≡ false
first_blank a b e = rw e refl

empty_kept : Kept empty
empty_kept = record { is = refl; stays = refl }

one_kept : (l : List Tree) → AllKept l → AllSolid l → Kept (one_or concat l)
one_kept [] h s = empty_kept
one_kept (x ∷ []) h s = h.0
one_kept (x ∷ y ∷ l) h s =
    record {
      is = all_are (x ∷ y ∷ l) h;
      stays = first_blank (blank x) (blanks (trees_of (y ∷ l))) (h.0.stays ∙ s.0);
    }

join_kept : (l : List Tree) → AllKept l → Kept (join l)
join_kept l h = one_kept (solid l) (each_solid Kept l h) (all_solid l)

choice_kept : (l : List Tree) → AllKept l → Kept (choice l)
choice_kept [] h = empty_kept
choice_kept (x ∷ []) h = h.0
choice_kept (x ∷ y ∷ l) h = record { is = all_are (x ∷ y ∷ l) h; stays = refl }

characters_kept : (b : Bool) (cs : Text) → all_scalars cs ≡ true → AllKept (map (normal_character b) cs)
characters_kept b [] h = tt
characters_kept b (c ∷ cs) h = (
  record {
    is = and_from _ true (first_so _ (all_scalars cs) h) refl;
    stays = refl;
  },
  characters_kept b cs (second_so _ (all_scalars cs) h),
)

parts_kept : (t n : Tree) → printable t ≡ true → Kept n → AllKept (pieces_of t n)
parts_kept (literal s false) n p h = characters_kept false s p
parts_kept t n p h = each_solid Kept (n ∷ []) (h, tt)

delegate_kept : (t : Tree) → IsDelegate t → printable t ≡ true → Kept t
delegate_kept (delegate w i) d h = record { is = h; stays = refl }
delegate_kept _ d h = absurd d

repeat_kept : (u : Bool) (t : Tree) (lo hi : ℕ) (greedy : Bool) → printable (repeat t lo hi greedy) ≡ true →
    Kept (normal u t) → Kept (repeat (normal u t) lo hi greedy)
repeat_kept u t lo hi greedy h r =
    let k = second_so (printable t) _ h in
    let full = first_so _ (is_count lo && is_count hi) k in
    let counts = second_so (not (is_empty (normal false t))) _ k in
    let again : is_empty (normal false (normal u t)) ≡ is_empty (normal false t) =
    normal_empty false (normal u t) ∙ r.stays ∙ normal_empty u t ∙ sym (normal_empty false t) in
    record {
      is = and_from (printable (normal u t)) _ r.is
          (and_from (not (is_empty (normal false (normal u t)))) (is_count lo && is_count hi) (ap not again ∙ full)
          counts);
      stays = refl;
    }

mutual
  kept : (u : Bool) (t : Tree) → printable t ≡ true → Kept (normal u t)
  kept u empty h = empty_kept
  kept u (any a b) h = record { is = refl; stays = refl }
  kept u (assertion (EndTextIgnoreTrailingNewlines crlf)) h = absurd (false≢true h)
  kept u (assertion (StartLineOniguruma crlf)) h = record { is = refl; stays = refl }
  kept u (assertion a) h = record { is = refl; stays = refl }
  kept u (literal s i) h = join_kept (map (normal_character i) s) (characters_kept i s h)
  kept u (delegate s i) h = delegate_kept _ (delegate_class _ s (delegate s i) tt) (delegates_stay u i s h)
  kept u (concat ts) h = join_kept (normal_pieces u ts) (kept_items u ts h)
  kept u (alt ts) h = choice_kept (normals u ts) (kept_normals u ts h)
  kept u (group t) h = let r = kept u t h in record { is = r.is; stays = refl }
  kept u (repeat t lo hi greedy) h = repeat_kept u t lo hi greedy h (kept u t (first_so (printable t) _ h))
  kept u (define_group t) h = empty_kept
  kept u _ h = absurd (false≢true h)

  kept_items : (u : Bool) (ts : Trees) → all_printable ts ≡ true → AllKept (normal_pieces u ts)
  kept_items u no_trees h = tt
  kept_items u (more_trees t ts) h =
      let p = first_so (printable t) _ h in
      each_append Kept (pieces_of t (normal u t)) (normal_pieces u ts) (parts_kept t (normal u t) p (kept u t p))
      (kept_items u ts (second_so (printable t) _ h))

  kept_normals : (u : Bool) (ts : Trees) → all_printable ts ≡ true → AllKept (normals u ts)
  kept_normals u no_trees h = tt
  kept_normals u (more_trees t ts) h =
      (kept u t (first_so (printable t) _ h), kept_normals u ts (second_so (printable t) _ h))

pub normal_printable : (t : Tree) (u : Bool) → printable t ≡ true → printable (normal u t) ≡ true
normal_printable t u h = (kept u t h).is

-- ---- what is known of a tree

pub normal_if : (r : Result Bool AllocError) (t : Tree) → IfOk r (λ b. b ≡ printable t) →
    IfOk r (λ b. b ≡ true → (u : Bool) → printable (normal u t) ≡ true)
normal_if (Ok b) t is = λ h u. normal_printable t u (sym is ∙ h)
normal_if (Err e) t is = tt

pub fixed_if : (r : Result Bool AllocError) (t : Tree) →
    IfOk r (λ b. b ≡ true → has_delegate t ≡ false → (u v : Bool) → normal v (normal u t) ≡ normal u t)
fixed_if (Ok b) t = λ _ none u v. normal_normal t v u none
fixed_if (Err e) t = tt
