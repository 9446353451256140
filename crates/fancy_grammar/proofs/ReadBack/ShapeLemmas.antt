-- What is printable, as a type; and how printed texts begin.
use Rattle.std.proofs.Common.{◌≡◌, ℕ, ◌^◌, ◌<◌, ◌==◌, Bool, true, false, nat_lt, [], ◌∷◌, ◌++◌, refl, sym}
use Rattle.std.proofs.lemmas.Bool.{false≢true}
use Prim.Native.Char.{code}
use Rattle.fancy_lex.specs.Text.{Text}
use Rattle.fancy_grammar.specs.Quote.{after_backslash, quantifier}
use Rattle.fancy_grammar.specs.Printed.{is_long}
use Rattle.fancy_grammar.specs.Printed.{WHOLE, BRANCH, PIECE, OPERAND}
use Rattle.fancy_grammar.specs.Quantified.{is_repeatable}
use Rattle.fancy_grammar.specs.Tree.{Tree, Trees, no_trees, more_trees, empty, any, assertion, literal, concat, alt}
use Rattle.fancy_grammar.specs.Tree.{group, repeat, delegate, define_group}
use Rattle.fancy_grammar.specs.Normal.{case_flags, unicode_flags, normal}
use Rattle.fancy_grammar.proofs.ReadBack.InFront.{put, puts, put_branches, put_barred, put_repeated, open_if, close_if}
use Rattle.fancy_grammar.proofs.ReadBack.ClearLemmas.{Clear, not_asking, clear_lazy, clear_close, stops_bar}
use Rattle.fancy_grammar.proofs.ReadBack.RuleLemmas.{AtomAs}
use Rattle.fancy_grammar.proofs.ReadBack.LeafLemmas.{Begins, begins_char, begins_any, begins_assertion, quotes_clear}
use Rattle.fancy_grammar.proofs.ReadBack.LeafLemmas.{HasText}

-- a Delegate's text is read before any text as its normal form
pub record DelegateText (s : Text) : Type 0 where
  pub reads : (d : ℕ) (u i : Bool) (v : Text) →
      AtomAs d (case_flags u i) (s ++ v) v (normal u (delegate s i))
  pub begins : (v : Text) → Begins (s ++ v)

abbrev mutual
  pub Printable : Tree → Type 0
  Printable empty = Unit {0}
  Printable (any a b) = Unit {0}
  Printable (assertion a) = HasText a
  Printable (literal s casei) = Unit {0}
  Printable (delegate s casei) = DelegateText s
  Printable (concat ts) = ArePrintable ts
  Printable (alt ts) = ArePrintable ts
  Printable (group t) = Printable t
  Printable (repeat t lo hi greedy) =
      Printable t × ((u : Bool) → is_repeatable (unicode_flags u) (normal u t) ≡ true) × (lo < 2 ^ 64) × (hi < 2 ^ 64)
  Printable (define_group t) = Unit {0}
  Printable _ = ⊥

  pub ArePrintable : Trees → Type 0
  ArePrintable no_trees = Unit {0}
  ArePrintable (more_trees t ts) = Printable t × ArePrintable ts

-- what is read as one atom
abbrev pub IsAtom : Tree → Type 0
IsAtom (literal s true) = Unit {0}
IsAtom (literal [] false) = ⊥
IsAtom (literal (c ∷ []) false) = Unit {0}
IsAtom (literal (c ∷ d ∷ cs) false) = ⊥
IsAtom empty = ⊥
IsAtom (define_group t) = ⊥
IsAtom _ = Unit {0}

pub atom_of : (t : Tree) → is_repeatable (unicode_flags false) (normal false t) ≡ true → is_long t ≡ false → IsAtom t
atom_of (literal s true) n l = tt
atom_of (literal [] false) n l = absurd (false≢true n)
atom_of (literal (c ∷ []) false) n l = tt
atom_of (literal (c ∷ d ∷ cs) false) n l = absurd (false≢true (sym l))
atom_of empty n l = absurd (false≢true n)
atom_of (define_group t) n l = absurd (false≢true n)
atom_of _ n l = tt

-- a question mark and a character that open no comment
pub begins_opening : (x : ℕ) (s : Text) → (x == code "#") ≡ false → Begins (code "(" ∷ code "?" ∷ x ∷ s)
begins_opening x s e = record { clear = record { no_comment = rw e refl; no_quantifier = refl }; goes = refl }

pub begins_group : (s : Text) → Clear s → Begins (code "(" ∷ s)
begins_group s c = record {
  clear = record { no_comment = not_asking s (clear_lazy s c); no_quantifier = refl };
  goes =
      refl;
}

-- the operand of a quantifier begins an atom
pub begins_repeated : (t : Tree) → is_repeatable (unicode_flags false) (normal false t) ≡ true →
    (IsAtom t → (w : Text) → Begins (put t OPERAND w)) → (v : Text) → Begins (put_repeated t v)
begins_repeated t n h v = by_length (is_long t) refl where
  by_length : (b : Bool) → is_long t ≡ b → Begins (open_if b (put t OPERAND (close_if b v)))
  by_length true e = begins_opening (code ":") _ refl
  by_length false e = h (atom_of t n e) v

clear_if : (b : Bool) (k : Text → Text) (v : Text) → ((w : Text) → Clear w → Clear (k w)) → Clear v →
    Clear (open_if b (k (close_if b v)))
clear_if true k v h c = (begins_opening (code ":") _ refl).clear
clear_if false k v h c = h v c

mutual
  pub begins_atom : (t : Tree) → Printable t → IsAtom t → (v : Text) → Begins (put t OPERAND v)
  begins_atom empty h i v = absurd i
  begins_atom (any a b) h i v = begins_any a b v
  begins_atom (assertion a) h i v = begins_assertion a v h
  begins_atom (literal s true) h i v = begins_opening (code "i") _ refl
  begins_atom (literal [] false) h i v = absurd i
  begins_atom (literal (c ∷ []) false) h i v = begins_char c v (after_backslash c) refl
  begins_atom (literal (c ∷ d ∷ cs) false) h i v = absurd i
  begins_atom (delegate s true) h i v = begins_opening (code "i") _ refl
  begins_atom (delegate s false) h i v = h.begins v
  begins_atom (concat ts) h i v = begins_opening (code ":") _ refl
  begins_atom (alt ts) h i v = begins_opening (code ":") _ refl
  begins_atom (group t) h i v = begins_group _ (clear_put t h WHOLE (code ")" ∷ v) (clear_close v))
  begins_atom (repeat t lo hi greedy) h i v = begins_opening (code ":") _ refl
  begins_atom (define_group t) h i v = absurd i
  begins_atom _ h i v = absurd h

  pub clear_put : (t : Tree) → Printable t → (p : ℕ) (v : Text) → Clear v → Clear (put t p v)
  clear_put empty h p v c = c
  clear_put (any a b) h p v c = (begins_any a b v).clear
  clear_put (assertion a) h p v c = (begins_assertion a v h).clear
  clear_put (literal s false) h p v c = quotes_clear s v c
  clear_put (literal s true) h p v c = (begins_opening (code "i") _ refl).clear
  clear_put (delegate s true) h p v c = (begins_opening (code "i") _ refl).clear
  clear_put (delegate s false) h p v c = (h.begins v).clear
  clear_put (concat ts) h p v c = clear_if (nat_lt BRANCH p) (puts ts) v (λ w e. clear_puts ts h w e) c
  clear_put (alt ts) h p v c = clear_if (nat_lt WHOLE p) (put_branches ts) v (λ w e. clear_branches ts h w e) c
  clear_put (group t) h p v c = (begins_group _ (clear_put t h WHOLE (code ")" ∷ v) (clear_close v))).clear
  clear_put (repeat t lo hi greedy) h p v c =
      clear_if (nat_lt PIECE p) (λ w. put_repeated t (quantifier lo hi greedy ++ w)) v
      (λ w e. (begins_repeated t (h.1 false) (λ i s. begins_atom t h.0 i s) (quantifier lo hi greedy ++ w)).clear) c
  clear_put (define_group t) h p v c = c
  clear_put _ h p v c = absurd h

  pub clear_puts : (ts : Trees) → ArePrintable ts → (v : Text) → Clear v → Clear (puts ts v)
  clear_puts no_trees h v c = c
  clear_puts (more_trees t ts) h v c = clear_put t h.0 2 (puts ts v) (clear_puts ts h.1 v c)

  pub clear_branches : (ts : Trees) → ArePrintable ts → (v : Text) → Clear v → Clear (put_branches ts v)
  clear_branches no_trees h v c = c
  clear_branches (more_trees t ts) h v c = clear_put t h.0 1 (put_barred ts v) (clear_barred ts v c)

  pub clear_barred : (ts : Trees) (v : Text) → Clear v → Clear (put_barred ts v)
  clear_barred no_trees v c = c
  clear_barred (more_trees t ts) v c = (stops_bar _).clear
