-- What is known to be printable is printable; most of all, a quantifier may follow a normal form that is not Empty.
use Rattle.std.proofs.Common.{◌≡◌, ℕ, ◌^◌, ◌<◌, Bool, true, false, not, ◌&&◌, List, [], ◌∷◌, map}
use Rattle.std.proofs.Common.{unwrap_or, refl, sym, ap, ap₂, ◌∙◌, arith}
use Rattle.std.proofs.lemmas.Bool.{false≢true}
use Rattle.std.specs.Cmp.{first_so, second_so}
use Rattle.std.specs.List.{AllByRecursion, list_all}
use Rattle.std.specs.Str.{all_scalars}
use Rattle.std.proofs.lemmas.Bool.Decides.{nat_tests}
use Rattle.std.proofs.lemmas.List.Folds.{list_all-append}
use Rattle.fancy_lex.specs.Text.{Text}
use Rattle.fancy_lex.specs.declared.escape.Assertion.TheVariants.{EndTextIgnoreTrailingNewlines, StartLineOniguruma}
use Rattle.fancy_lex.specs.declared.flags.Flags.{Flags}
use Rattle.fancy_grammar.specs.Join.{is_empty, solid, one_or, join, choice}
use Rattle.fancy_grammar.specs.Normal.{normal_character, pieces_of, unicode_flags, class_of, whole_leaf, whole_of}
use Rattle.fancy_grammar.specs.Normal.{normal}
use Rattle.fancy_grammar.specs.Normal.{normal_pieces, normals}
use Rattle.fancy_grammar.specs.Printable.{is_count, printable, all_printable}
use Rattle.fancy_grammar.specs.Quantified.{is_repeatable}
use Rattle.fancy_grammar.specs.State.{Outcome, done, failed}
use Rattle.fancy_grammar.specs.Tree.{Tree, Trees, no_trees, more_trees, empty, any, assertion, literal, concat, alt}
use Rattle.fancy_grammar.specs.Tree.{group, repeat, delegate, define_group}
use Rattle.fancy_grammar.proofs.OutcomeLemmas.{each_append, each_solid}
use Rattle.fancy_grammar.proofs.PrintableLemmas.{join_empty, pieces_empty}
use Rattle.fancy_grammar.proofs.ReadBack.ShapeLemmas.{Printable, ArePrintable}
use Rattle.fancy_grammar.proofs.ReadBack.DelegateTexts.{IsDelegate, delegate_text}

pub count_below : (n : ℕ) → is_count n ≡ true → n < 2 ^ 64
count_below n h = grind (arith, nat_tests)

-- ---- a normal form is Empty, or a quantifier may follow it

abbrev Good : Tree → Type 0
Good t = (u : Bool) → is_repeatable (unicode_flags u) t ≡ not (is_empty t)

abbrev AllGood : List Tree → Type 0
AllGood l = AllByRecursion Good l

good_one : (l : List Tree) → AllGood l → Good (one_or concat l)
good_one [] h = λ _. refl
good_one (t ∷ []) h = h.0
good_one (t ∷ u ∷ l) h = λ _. refl

good_choice : (l : List Tree) → AllGood l → Good (choice l)
good_choice [] h = λ _. refl
good_choice (t ∷ []) h = h.0
good_choice (t ∷ u ∷ l) h = λ _. refl

good_characters : (i : Bool) (s : Text) → AllGood (map (normal_character i) s)
good_characters i [] = tt
good_characters i (c ∷ s) = (λ _. refl, good_characters i s)

-- what a Delegate's text is read as is a Delegate

delegate_whole : (s : Text) (t d : Tree) → IsDelegate d → IsDelegate (unwrap_or (whole_of s t) d)
delegate_whole [] (delegate w i) d h = tt
delegate_whole [] _ d h = h
delegate_whole (c ∷ s) t d h = h

delegate_leaf : (o : Outcome Tree) (d : Tree) → IsDelegate d → IsDelegate (unwrap_or (whole_leaf o) d)
delegate_leaf (done t s) d h = delegate_whole s.rest t d h
delegate_leaf (failed e) d h = h

pub delegate_class : (f : Flags) (s : Text) (d : Tree) → IsDelegate d → IsDelegate (unwrap_or (class_of f s) d)
unfolding class_of
delegate_class f [] d h = h
delegate_class f (c ∷ t) d h = delegate_leaf _ d h

good_delegate : (t : Tree) → IsDelegate t → Good t × (is_empty t ≡ false)
good_delegate (delegate w i) h = (λ _. refl, refl)
good_delegate _ h = absurd h

mutual
  good_normal : (u : Bool) (t : Tree) → Printable t → Good (normal u t)
  good_normal u empty h = λ _. refl
  good_normal u (any a b) h = λ _. refl
  good_normal u (assertion (StartLineOniguruma crlf)) h = λ _. refl
  good_normal u (assertion a) h = λ _. refl
  good_normal u (literal s i) h = good_one (solid (map (normal_character i) s))
      (each_solid Good _ (good_characters i s))
  good_normal u (delegate s i) h = (good_delegate _ (delegate_class _ s (delegate s i) tt)).0
  good_normal u (concat ts) h = good_one (solid (normal_pieces u ts)) (each_solid Good _ (good_items u ts h))
  good_normal u (alt ts) h = good_choice (normals u ts) (good_normals u ts h)
  good_normal u (group t) h = λ _. refl
  good_normal u (repeat t lo hi greedy) h = λ _. refl
  good_normal u (define_group t) h = λ _. refl
  good_normal u _ h = absurd h

  good_items : (u : Bool) (ts : Trees) → ArePrintable ts → AllGood (normal_pieces u ts)
  good_items u no_trees h = tt
  good_items u (more_trees t ts) h =
      each_append Good (pieces_of t (normal u t)) (normal_pieces u ts) (good_parts t (normal u t) (good_normal u t h.0))
      (good_items u ts h.1)

  good_normals : (u : Bool) (ts : Trees) → ArePrintable ts → AllGood (normals u ts)
  good_normals u no_trees h = tt
  good_normals u (more_trees t ts) h = (good_normal u t h.0, good_normals u ts h.1)

  good_parts : (t n : Tree) → Good n → AllGood (pieces_of t n)
  good_parts (literal s false) n h = good_characters false s
  good_parts t n h = each_solid Good (n ∷ []) (h, tt)

-- ---- whether a normal form is Empty does not depend on UNICODE

abbrev mutual
  pub blank : Tree → Bool
  blank empty = true
  blank (literal [] i) = true
  blank (literal (c ∷ s) i) = false
  blank (concat ts) = blanks ts
  blank (alt ts) = blank_choice ts
  blank (define_group t) = true
  blank _ = false

  pub blanks : Trees → Bool
  blanks no_trees = true
  blanks (more_trees t ts) = blank t && blanks ts

  pub blank_choice : Trees → Bool
  blank_choice no_trees = true
  blank_choice (more_trees t no_trees) = blank t
  blank_choice (more_trees t (more_trees u ts)) = false

characters_empty : (i : Bool) (s : Text) → is_empty (join (map (normal_character i) s)) ≡ blank (literal s i)
characters_empty i [] = refl
characters_empty i (c ∷ s) = join_empty (map (normal_character i) (c ∷ s))

mutual
  pub normal_empty : (u : Bool) (t : Tree) → is_empty (normal u t) ≡ blank t
  normal_empty u (assertion (StartLineOniguruma crlf)) = refl
  normal_empty u (literal s i) = characters_empty i s
  normal_empty u (delegate s i) = (good_delegate _ (delegate_class _ s (delegate s i) tt)).1
  normal_empty u (concat ts) = join_empty (normal_pieces u ts) ∙ items_empty u ts
  normal_empty u (alt ts) = choice_empty u ts
  normal_empty u (group t) = refl
  normal_empty u _ = refl

  items_empty : (u : Bool) (ts : Trees) → list_all is_empty (normal_pieces u ts) ≡ blanks ts
  items_empty u no_trees = refl
  items_empty u (more_trees t ts) =
      list_all-append is_empty (pieces_of t (normal u t)) (normal_pieces u ts)
      ∙ ap₂ (λ a b. a && b) (pieces_empty u t ∙ normal_empty u t) (items_empty u ts)

  choice_empty : (u : Bool) (ts : Trees) → is_empty (choice (normals u ts)) ≡ blank_choice ts
  choice_empty u no_trees = refl
  choice_empty u (more_trees t no_trees) = normal_empty u t
  choice_empty u (more_trees t (more_trees v ts)) = refl

takes : (t : Tree) → Printable t → not (is_empty (normal false t)) ≡ true → (u : Bool) →
    is_repeatable (unicode_flags u) (normal u t) ≡ true
takes t h e u = good_normal u t h u ∙ ap not (normal_empty u t ∙ sym (normal_empty false t)) ∙ e

mutual
  pub is_printable : (t : Tree) → printable t ≡ true → Printable t
  is_printable empty h = tt
  is_printable (any a b) h = tt
  is_printable (assertion (EndTextIgnoreTrailingNewlines crlf)) h = absurd (false≢true h)
  is_printable (assertion a) h = tt
  is_printable (literal s i) h = tt
  is_printable (delegate s i) h = delegate_text s (second_so (all_scalars s) _ h)
  is_printable (concat ts) h = are_printable ts h
  is_printable (alt ts) h = are_printable ts h
  is_printable (group t) h = is_printable t h
  is_printable (repeat t lo hi greedy) h =
      let child = is_printable t (first_so (printable t) _ h) in
      let k = second_so (printable t) _ h in
      let counts = second_so (not (is_empty (normal false t))) _ k in (
        child,
        takes t child (first_so _ (is_count lo && is_count hi) k),
        count_below lo (first_so _ (is_count hi) counts),
        count_below hi (second_so (is_count lo) _ counts),
      )
  is_printable (define_group t) h = tt
  is_printable _ h = absurd (false≢true h)

  are_printable : (ts : Trees) → all_printable ts ≡ true → ArePrintable ts
  are_printable no_trees h = tt
  are_printable (more_trees t ts) h = (
    is_printable t (first_so (printable t) _ h),
    are_printable ts
        (second_so (printable t) _ h),
  )
