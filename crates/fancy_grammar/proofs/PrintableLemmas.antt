-- What a printable tree is, and when a normal form is Empty.
use Rattle.std.proofs.Common.{◌≡◌, Bool, true, false, ◌&&◌, if◌then◌else◌, List, [], ◌∷◌, map, Result, Ok, Err, IfOk}
use Rattle.std.proofs.Common.{refl, sym, ap₂, ◌∙◌}
use Rattle.std.proofs.lemmas.Bool.{false≢true}
use Rattle.std.specs.List.{list_all}
use Rattle.std.specs.declared.alloc.AllocError.{AllocError}
use Rattle.std.specs.Cmp.{first_so, second_so}
use Rattle.std.proofs.lemmas.List.Folds.{list_all-append}
use Rattle.fancy_lex.specs.declared.escape.Assertion.{Assertion}
use Rattle.fancy_lex.specs.declared.escape.Assertion.TheVariants.{EndTextIgnoreTrailingNewlines}
use Rattle.fancy_grammar.specs.Join.{is_empty, solid, one_or, join}
use Rattle.fancy_grammar.specs.Normal.{normal_character, pieces_of, normal, normal_pieces}
use Rattle.fancy_grammar.specs.Printable.{printable, all_printable}
use Rattle.fancy_grammar.specs.Printed.{has_text, all_have_text}
use Rattle.fancy_grammar.specs.Tree.{Tree, Trees, no_trees, more_trees, empty, any, assertion, literal, concat, alt}
use Rattle.fancy_grammar.specs.Tree.{group, repeat, delegate, define_group}

both_so : (a b : Bool) → a ≡ true → b ≡ true → (a && b) ≡ true
both_so a b p q = rw p q

assertion_printed : (a : Assertion) → printable (assertion a) ≡ true → has_text (assertion a) ≡ true
assertion_printed (EndTextIgnoreTrailingNewlines crlf) h = h
assertion_printed _ h = refl

mutual
  -- a printable tree has a text
  pub printable_text : (t : Tree) → printable t ≡ true → has_text t ≡ true
  printable_text empty h = refl
  printable_text (any newline crlf) h = refl
  printable_text (assertion a) h = assertion_printed a h
  printable_text (literal s casei) h = refl
  printable_text (delegate s casei) h = refl
  printable_text (concat ts) h = printable_texts ts h
  printable_text (alt ts) h = printable_texts ts h
  printable_text (group t) h = printable_text t h
  printable_text (repeat t lo hi greedy) h = printable_text t (first_so (printable t) _ h)
  printable_text (define_group t) h = refl
  printable_text _ h = absurd (false≢true h)

  printable_texts : (ts : Trees) → all_printable ts ≡ true → all_have_text ts ≡ true
  printable_texts no_trees h = refl
  printable_texts (more_trees t ts) h = both_so (has_text t) (all_have_text ts) (printable_text t (first_so _ _ h))
      (printable_texts ts (second_so (printable t) _ h))

pub has_text_if : (r : Result Bool AllocError) (t : Tree) → IfOk r (λ b. b ≡ printable t) →
    IfOk r (λ b. b ≡ true → has_text t ≡ true)
has_text_if (Ok b) t is = λ h. printable_text t (sym is ∙ h)
has_text_if (Err e) t is = tt

-- ---- when a normal form is Empty

-- each of these trees is Empty in normal form
abbrev pub empties : Trees → Bool
empties no_trees = true
empties (more_trees t ts) = is_empty (normal false t) && empties ts

one_front : (t : Tree) (ts : List Tree) → is_empty t ≡ false → is_empty (one_or concat (t ∷ ts)) ≡ false
one_front t [] e = e
one_front t (u ∷ ts) e = refl

solid_front : (b : Bool) (t : Tree) (ts : List Tree) → is_empty t ≡ b →
    is_empty (one_or concat (solid ts)) ≡ list_all is_empty ts
    → is_empty (one_or concat (if b then solid ts else t ∷ solid ts)) ≡ (b && list_all is_empty ts)
solid_front true t ts e rest = rest
solid_front false t ts e rest = one_front t (solid ts) e

pub join_empty : (ts : List Tree) → is_empty (join ts) ≡ list_all is_empty ts
join_empty [] = refl
join_empty (t ∷ ts) = solid_front (is_empty t) t ts refl (join_empty ts)

one_solid : (b : Bool) (n : Tree) → is_empty n ≡ b → list_all is_empty (if b then [] else n ∷ []) ≡ b
one_solid true n e = refl
one_solid false n e = rw e refl

-- the pieces that come from a tree in a sequence are all Empty exactly if its normal form is
pub pieces_empty : (u : Bool) (t : Tree) → list_all is_empty (pieces_of t (normal u t)) ≡ is_empty (normal u t)
pieces_empty u (literal s false) = sym (join_empty (map (normal_character false) s))
pieces_empty u t = one_solid (is_empty (normal u t)) (normal u t) refl

all_items_empty : (ts : Trees) → list_all is_empty (normal_pieces false ts) ≡ empties ts
all_items_empty no_trees = refl
all_items_empty (more_trees t ts) = list_all-append is_empty (pieces_of t (normal false t)) (normal_pieces false ts)
    ∙ ap₂ (λ a b. a && b) (pieces_empty false t) (all_items_empty ts)

pub items_join_empty : (ts : Trees) → is_empty (join (normal_pieces false ts)) ≡ empties ts
items_join_empty ts = join_empty (normal_pieces false ts) ∙ all_items_empty ts
