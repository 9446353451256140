-- The relation of a class holds exactly of the function's result.
use Rattle.std.proofs.Common.{◌≡◌, ◌≢◌, Result, Ok, Err, String, IfOk, chars, ℕ, zero, suc, pred, ◌+◌, ◌-◌}
use Rattle.std.proofs.Common.{◌<◌, ◌≤◌, Bool, true, false, ◌==◌, ◌||◌, if◌then◌else◌, List, [], ◌∷◌, ◌++◌, Option, Some}
use Rattle.std.proofs.Common.{None, refl, ap, sym, ◌∙◌, arith, append_assoc, subst, ◌⊎◌, inl, inr}
use Rattle.std.proofs.lemmas.Bool.{cases_eq}
use Rattle.std.proofs.lemmas.Bool.Decides.{nat_tests}
use Rattle.std.proofs.lemmas.Str.{len_utf8_bounds}
use Rattle.std.specs.Borrow.{Bor}
use Rattle.std.specs.declared.alloc.Global.{Global}
use Prim.Native.Char.{code}
use Rattle.fancy_lex.specs.Class.{class_start, with_symbol, class_from, class, escape_in_class, is_negated}
use Rattle.fancy_lex.specs.Class.{is_plain_in_class, Written}
use Rattle.fancy_lex.specs.Class.{written, failed, prefixed, Class, class_items, ClassItems, close, end, plain}
use Rattle.fancy_lex.specs.Class.{escaped, escape_error, nested, class_error}
use Rattle.fancy_lex.specs.Class.{OuterClass}
use Rattle.fancy_lex.specs.Escape.{escape}
use Rattle.fancy_lex.specs.Escaped.{Escape}
use Rattle.fancy_lex.specs.Located.{Located}
use Rattle.fancy_lex.specs.ErrorTable.{class_not_closed}
use Rattle.fancy_lex.specs.Reading.{Reading, gives, fails, choose, Derives}
use Rattle.fancy_lex.specs.Text.{Text, bytes, strip, text_of}
use Rattle.fancy_lex.specs.declared.error.ReadError.{ReadError}
use Rattle.fancy_lex.specs.declared.flags.Flags.{Flags}
use Rattle.fancy_lex.proofs.ClassLemmas.{items_end, items_plain, items_open, items_escape, pred_lt}
use Rattle.fancy_lex.proofs.EscapeFrame.{escape_frame}
use Rattle.fancy_lex.proofs.EscapeLaws.{escape_within}
use Rattle.fancy_lex.proofs.ReadingLemmas.{derives_given}

bytes_cons : (c : ℕ) (t : Text) → bytes t < bytes (c ∷ t)
unfolding bytes
bytes_cons c t = omega (arith, len_utf8_bounds c)

-- The opening of a class.

strip_bytes : (m : ℕ) (t u : Text) → strip m t ≡ Some u → bytes u < bytes t
strip_bytes m [] u e = cc
strip_bytes m (c ∷ t) u e = let same : t ≡ u = grind (arith, nat_tests) in
    subst (λ s. bytes s < bytes (c ∷ t)) same (bytes_cons c t)

abbrev prepend : Text → Text × Text → Text × Text
prepend out p = (out ++ p.0, p.1)

metacharacter_prepended : (m : ℕ) (out : Text) (p : Text × Text) →
    ◌≡◌ {A = Text × Text} (with_symbol m (prepend out p)) (prepend out (with_symbol m p))
metacharacter_prepended m out p = by_strip (strip m p.1) where
  by_strip : (o : Option Text) → ◌≡◌ {A = Text × Text}
      (choose {B = Text × Text} o (λ u. ((out ++ p.0) ++ m ∷ [], u)) (prepend out p))
      (prepend out (choose {B = Text × Text} o (λ u. (p.0 ++ m ∷ [], u)) p))
  by_strip None = refl
  by_strip (Some u) = ap (λ (a : Text). let z : Text × Text = (a, u) in z) (append_assoc out p.0 (m ∷ []))

symbol_bytes : (m : ℕ) (p : Text × Text) → bytes (with_symbol m p).1 ≤ bytes p.1
symbol_bytes m p = by_strip (strip m p.1) refl where
  by_strip : (o : Option Text) → strip m p.1 ≡ o →
      bytes (choose {B = Text × Text} o (λ u. (p.0 ++ m ∷ [], u)) p).1 ≤ bytes p.1
  by_strip None e = omega arith
  by_strip (Some u) e = omega (arith, strip_bytes m p.1 u e)

class_start_after : (out t : Text) → ◌≡◌ {A = Text × Text} (class_start out t) (prepend out (class_start [] t))
unfolding class_start
class_start_after out t =
    let start : Text × Text = (code "[" ∷ [], t) in
    ap (with_symbol (code "]")) (metacharacter_prepended (code "^") out start) ∙ metacharacter_prepended (code "]") out
    (with_symbol (code "^") start)

class_start_bytes : (t : Text) → bytes (class_start [] t).1 ≤ bytes t
unfolding class_start
class_start_bytes t =
    let start : Text × Text = (code "[" ∷ [], t) in
    omega (arith, symbol_bytes (code "]") (with_symbol (code "^") start), symbol_bytes (code "^") start)

-- Each result in the relation is the function's: by induction on the derivation.

module _ (f : Flags) where
  abbrev ended : ℕ → ℕ → Bool → Text → Text → Reading Text
  ended j depth a out v = if depth == 0 then gives out v else class_from f j (depth - 1) a out v

  ended_inside : (j depth : ℕ) (a : Bool) (out v : Text) → ended j (depth + 1) a out v ≡ class_from f j depth a out v
  ended_inside j depth a out v =
      let test : (depth + 1 == 0) ≡ false = grind (arith, nat_tests) in
      let back : depth + 1 - 1 ≡ depth = omega arith in
      rw (test, back) refl

  items_closing : (k depth : ℕ) (b : Bool) (out v : Text) → 0 < k →
      class_from f k depth b out (code "]" ∷ v) ≡ ended (pred k) depth b (out ++ code "]" ∷ []) v
  unfolding class_from
  items_closing zero depth b out v m = absurd (omega arith)
  items_closing (suc k) depth b out v m = refl

-- what the function returns with k steps left, if the relation has the result o
abbrev Runs : Flags → Reading Text → Text → ℕ → Text → Written → Type 0
Runs f here t depth out (written w a v) =
    (j : ℕ) × (bytes v < j) × (bytes v < bytes t) × (here ≡ ended f j depth a (out ++ w) v)
Runs f here t depth out (failed e) = here ≡ fails e

abbrev at_class : Flags → ℕ → ℕ → Bool → Text → Text → Reading Text
at_class f k depth b out t = class_from f k depth b (class_start out t).0 (class_start out t).1

-- one step, for which x is written, and the result of the rest
after : (f : Flags) (here there : Reading Text) (t s : Text) (depth : ℕ) (out x : Text) → here ≡ there →
    bytes s ≤ bytes t → (o : Written) → Runs f there s depth (out ++ x) o → Runs f here t depth out (prefixed x o)
after f here there t s depth out x e l (written w a v) (j, m, less, q) =
    (j, m, omega (arith, l, less), e ∙ q ∙ ap (λ (o : Text). ended f j depth a o v) (append_assoc out x w))
after f here there t s depth out x e l (failed p) q = e ∙ q

not_special : (c : ℕ) → is_plain_in_class c ≡ true → (c ≢ code "\\") × (c ≢ code "[") × (c ≢ code "]")
not_special c p = (grind (arith, nat_tests), grind (arith, nat_tests), grind (arith, nat_tests))

items_fails : (f : Flags) (k depth : ℕ) (b : Bool) (out t : Text) (e : Located) →
    escape f true t ≡ fails e → 0 < k → class_from f k depth b out (code "\\" ∷ t) ≡ fails e
unfolding class_from
items_fails f zero depth b out t e q m = absurd (omega arith)
items_fails f (suc k) depth b out t e q m = rw q refl

module _ (f : Flags) (k depth : ℕ) (b : Bool) (out t : Text) where
  at_opening : (opening u : Text) → ◌≡◌ {A = Text × Text} (class_start [] t) (opening, u) →
      at_class f k depth b out t ≡ class_from f k depth b (out ++ opening) u
  at_opening opening u e = ap (λ (p : Text × Text). class_from f k depth b p.0 p.1)
      (class_start_after out t ∙ ap (prepend out) e)

  plain_item : (c : ℕ) → is_plain_in_class c ≡ true → 0 < k →
      class_from f k depth b out (c ∷ t) ≡ class_from f (pred k) depth b (out ++ c ∷ []) t
  plain_item c p m = let (x, y, z) = not_special c p in items_plain f depth b out (c ∷ t) c t refl k m x y z

  -- the number of steps left is greater than the length of the rest in bytes
  step_left : (c : ℕ) → bytes (c ∷ t) < k → bytes t < pred k
  step_left c l = pred_lt (bytes t) (bytes (c ∷ t)) k (bytes_cons c t) l

opening_bytes : (t opening u : Text) → ◌≡◌ {A = Text × Text} (class_start [] t) (opening, u) → bytes u ≤ bytes t
opening_bytes t opening u e = subst (λ (p : Text × Text). bytes p.1 ≤ bytes t) e (class_start_bytes t)

positive : (a k : ℕ) → a < k → 0 < k
positive a k l = omega arith

mutual
  run_class : {f : Flags} {b : Bool} {t : Text} {o : Written} → Class f b t o → (k depth : ℕ) (out : Text) →
      bytes t < k → Runs f (at_class f k depth b out t) t depth out o
  run_class {f} {b} {t} (class_items {u} {opening} {o} e h) k depth out l =
      let less = opening_bytes t opening u e in
      after f _ _ t u depth out opening (at_opening f k depth b out t opening u e) less o
      (run_items h k depth (out ++ opening) (omega (arith, less, l)))

  run_items : {f : Flags} {b : Bool} {t : Text} {o : Written} → ClassItems f b t o →
      (k depth : ℕ) (out : Text) → bytes t < k → Runs f (class_from f k depth b out t) t depth out o
  run_items {f} {b} (close {t}) k depth out l = (
    pred k,
    step_left f k depth b out t (code "]") l,
    bytes_cons (code "]") t,
    items_closing f k depth b out t (positive _ k l),
  )
  run_items {f} {b} end k depth out l = items_end f k depth b out [] refl
  run_items {f} {b} (plain {c} {t} {o} p h) k depth out l =
      after f _ _ (c ∷ t) t depth out (c ∷ []) (plain_item f k depth b out t c p (positive _ k l))
      (omega (arith, bytes_cons c t)) o
      (run_items h (pred k) depth (out ++ c ∷ []) (step_left f k depth b out t c l))
  run_items {f} {b} (escaped {t} {u} {e} {o} q h) k depth out l =
      let less = escape_within f true t u e q in
      after f _ _ (code "\\" ∷ t) u depth out (escape_in_class b e)
      (items_escape f depth b out (code "\\" ∷ t) (code "\\") t refl k e u (positive _ k l) refl q)
      (omega (arith, less, bytes_cons (code "\\") t)) o
      (run_items h (pred k) depth (out ++ escape_in_class b e)
      (omega (arith, less, step_left f k depth b out t (code "\\") l)))
  run_items {f} {b} (escape_error {t} {e} q) k depth out l = items_fails f k depth b out t e q (positive _ k l)
  run_items {f} {b} (nested {m} {t} {u} {w} {o} g h) k depth out l =
      let (j, more, less, q) = run_class g (pred k) (depth + 1) out (step_left f k depth b out t (code "[") l) in
      after f _ _ (code "[" ∷ t) u depth out w
      (items_open f depth b out (code "[" ∷ t) (code "[") t refl k (positive _ k l) refl ∙ q
      ∙ ended_inside f j depth m (out ++ w) u)
      (omega (arith, less, bytes_cons (code "[") t)) o (run_items h j depth (out ++ w) more)
  run_items {f} {b} (class_error {t} {e} h) k depth out l =
      items_open f depth b out (code "[" ∷ t) (code "[") t refl k (positive _ k l) refl
      ∙ run_class h (pred k) (depth + 1) out (step_left f k depth b out t (code "[") l)

-- the function's result for a result of the relation
abbrev reading_of : Written → Reading Text
reading_of (written w a v) = gives w v
reading_of (failed e) = fails e

pub class_complete : (f : Flags) (t : Text) (o : Written) → Class f false t o → class f t ≡ reading_of o
unfolding class
class_complete f t (written w a v) h = let (j, m, less, q) = run_class h (suc (bytes t)) 0 [] (omega arith) in q
class_complete f t (failed e) h = run_class h (suc (bytes t)) 0 [] (omega arith)

pub class_is : (f : Flags) (t : Text) (o : Reading Text) → OuterClass f t o → class f t ≡ o
class_is f t (gives out v) (a, h) = class_complete f t _ h
class_is f t (fails e) h = class_complete f t _ h

-- Each text has a result in the relation: a class or an error.

abbrev Less : Text → Written → Type 0
Less t (written w a v) = bytes v < bytes t
Less t (failed e) = Unit {0}

abbrev ReadsClass : Flags → Bool → Text → Type 0
ReadsClass f b t = (o : Written) × ClassItems f b t o × Less t o

abbrev ReadsShort : Flags → ℕ → Type 0
ReadsShort f k = (b : Bool) (t : Text) → bytes t < k → ReadsClass f b t

-- what is read from a later text is read within this one, with text before it
less_prefixed : (t u w : Text) (o : Written) → bytes u ≤ bytes t → Less u o → Less t (prefixed w o)
less_prefixed t u w (written x a v) l less = omega (arith, less, l)
less_prefixed t u w (failed e) l less = tt

class_within : (f : Flags) (b : Bool) (t opening u : Text) → ◌≡◌ {A = Text × Text} (class_start [] t) (opening, u) →
    ReadsClass f b u → (o : Written) × Class f b t o × Less t o
class_within f b t opening u e (o, h, less) =
    (prefixed opening o, class_items e h, less_prefixed t u opening o (opening_bytes t opening u e) less)

module _ (f : Flags) (k : ℕ) (reads : ReadsShort f k) (b : Bool) (t : Text) (l : bytes t < k) where
  plain_reads : (c : ℕ) → is_plain_in_class c ≡ true → ReadsClass f b t → ReadsClass f b (c ∷ t)
  plain_reads c p (o, h, less) = (
    prefixed (c ∷ []) o,
    plain p h,
    less_prefixed (c ∷ t) t (c ∷ []) o (omega (arith, bytes_cons c t)) less,
  )

  escaped_reads : (e : Escape) (u : Text) → escape f true t ≡ gives e u →
      ReadsClass f (b || is_negated e) u → ReadsClass f b (code "\\" ∷ t)
  escaped_reads e u q (o, h, less) = (
    prefixed (escape_in_class b e) o,
    escaped q h,
    less_prefixed (code "\\" ∷ t) u (escape_in_class b e) o
        (omega (arith, escape_within f true t u e q, bytes_cons (code "\\") t)) less,
  )

  escape_reads : (r : Reading Escape) → escape f true t ≡ r → ReadsClass f b (code "\\" ∷ t)
  escape_reads (gives e u) q = escaped_reads e u q
      (reads (b || is_negated e) u (omega (arith, escape_within f true t u e q, l)))
  escape_reads (fails e) q = (failed e, escape_error q, tt)

  after_class : (w : Text) (m : Bool) (u : Text) → Class f b t (written w m u) → bytes u < bytes t →
      ReadsClass f m u → ReadsClass f b (code "[" ∷ t)
  after_class w m u g shorter (o, h, less) = (
    prefixed w o,
    nested g h,
    less_prefixed (code "[" ∷ t) u w o (omega (arith, shorter, bytes_cons (code "[") t)) less,
  )

  class_item : (o : Written) × Class f b t o × Less t o → ReadsClass f b (code "[" ∷ t)
  class_item (written x m u, g, less) = after_class x m u g less (reads m u (omega (arith, less, l)))
  class_item (failed e, g, less) = (failed e, class_error g, tt)

  nested_reads : ReadsClass f b (code "[" ∷ t)
  nested_reads =
      let p = class_start [] t in
      class_item (class_within f b t p.0 p.1 refl (reads b p.1 (omega (arith, class_start_bytes t, l))))

  one_more : (c : ℕ) → ReadsClass f b (c ∷ t)
  one_more c = by_backslash (cases_eq c (code "\\")) where
    plain_left : (c ≢ code "\\") → (c ≢ code "[") → (c ≢ code "]") → is_plain_in_class c ≡ true
    plain_left x y z = grind (arith, nat_tests)

    by_close : (c ≢ code "\\") → (c ≢ code "[") → (c ≡ code "]") ⊎ (c ≢ code "]") →
        ReadsClass f b (c ∷ t)
    by_close x y (inl e) = rw e (written (code "]" ∷ []) b t, close, bytes_cons (code "]") t)
    by_close x y (inr z) = plain_reads c (plain_left x y z) (reads b t l)

    by_open : (c ≢ code "\\") → (c ≡ code "[") ⊎ (c ≢ code "[") → ReadsClass f b (c ∷ t)
    by_open x (inl e) = rw e nested_reads
    by_open x (inr y) = by_close x y (cases_eq c (code "]"))

    by_backslash : (c ≡ code "\\") ⊎ (c ≢ code "\\") → ReadsClass f b (c ∷ t)
    by_backslash (inl e) = rw e (escape_reads _ refl)
    by_backslash (inr x) = by_open x (cases_eq c (code "["))

items_read : (f : Flags) (k : ℕ) → ReadsShort f k
items_read f zero b t l = absurd (omega arith)
items_read f (suc k) b [] l = (failed class_not_closed, end, tt)
items_read f (suc k) b (c ∷ t) l = one_more f k (items_read f k) b t (omega (arith, l, bytes_cons c t)) c

outer : (f : Flags) (t : Text) (o : Written) → Class f false t o → OuterClass f t (reading_of o)
outer f t (written w a v) h = (a, h)
outer f t (failed e) h = h

pub class_reads : (f : Flags) (t : Text) → OuterClass f t (class f t)
class_reads f t =
    let p = class_start [] t in
    let (o, h, less) = class_within f false t p.0 p.1 refl
    (items_read f (suc (bytes p.1)) false p.1 (omega arith)) in
    subst (OuterClass f t) (sym (class_complete f t o h)) (outer f t o h)

-- A class that is read, without the rules of its errors: by induction on the derivation.

mutual
  pub data ReadClass : Flags → Bool → Text → Text → Bool → Text → Type 0 where
    from_items : {f : Flags} {b a : Bool} {t u v opening w : Text} →
        ◌≡◌ {A = Text × Text} (class_start [] t) (opening, u) →
        ReadItems f b u w a v → ReadClass f b t (opening ++ w) a v

  pub data ReadItems : Flags → Bool → Text → Text → Bool → Text → Type 0 where
    at_close : {f : Flags} {b : Bool} {v : Text} → ReadItems f b (code "]" ∷ v) (code "]" ∷ []) b v
    at_plain : {c : ℕ} {f : Flags} {b a : Bool} {t v w : Text} → is_plain_in_class c ≡ true →
        ReadItems f b t w a v → ReadItems f b (c ∷ t) (c ∷ w) a v
    at_escape : {f : Flags} {b a : Bool} {t u v w : Text} {e : Escape} → escape f true t ≡ gives e u →
        ReadItems f (b || is_negated e) u w a v → ReadItems f b (code "\\" ∷ t) (escape_in_class b e ++ w) a v
    at_nested : {f : Flags} {b m a : Bool} {t u v x w : Text} → ReadClass f b t x m u →
        ReadItems f m u w a v → ReadItems f b (code "[" ∷ t) (x ++ w) a v

abbrev IsReadClass : Flags → Bool → Text → Written → Type 0
IsReadClass f b t (written w a v) = ReadClass f b t w a v
IsReadClass f b t (failed e) = Unit {0}

abbrev AreReadItems : Flags → Bool → Text → Written → Type 0
AreReadItems f b t (written w a v) = ReadItems f b t w a v
AreReadItems f b t (failed e) = Unit {0}

module _ (f : Flags) (b : Bool) (t : Text) where
  opened_class : (u opening : Text) → ◌≡◌ {A = Text × Text} (class_start [] t) (opening, u) → (o : Written) →
      AreReadItems f b u o → IsReadClass f b t (prefixed opening o)
  opened_class u opening e (written w a v) i = from_items e i
  opened_class u opening e (failed x) i = tt

  plain_first : (c : ℕ) → is_plain_in_class c ≡ true → (o : Written) → AreReadItems f b t o →
      AreReadItems f b (c ∷ t) (prefixed (c ∷ []) o)
  plain_first c p (written w a v) i = at_plain p i
  plain_first c p (failed x) i = tt

  escape_first : (u : Text) (e : Escape) → escape f true t ≡ gives e u → (o : Written) →
      AreReadItems f (b || is_negated e) u o → AreReadItems f b (code "\\" ∷ t) (prefixed (escape_in_class b e) o)
  escape_first u e q (written w a v) i = at_escape q i
  escape_first u e q (failed x) i = tt

  class_first : (m : Bool) (u x : Text) → ReadClass f b t x m u → (o : Written) → AreReadItems f m u o →
      AreReadItems f b (code "[" ∷ t) (prefixed x o)
  class_first m u x g (written w a v) i = at_nested g i
  class_first m u x g (failed e) i = tt

mutual
  class_is_read : {f : Flags} {b : Bool} {t : Text} {o : Written} → Class f b t o → IsReadClass f b t o
  class_is_read {f} {b} {t} (class_items {u} {opening} {o} e h) = opened_class f b t u opening e o (items_are_read h)

  items_are_read : {f : Flags} {b : Bool} {t : Text} {o : Written} → ClassItems f b t o → AreReadItems f b t o
  items_are_read close = at_close
  items_are_read end = tt
  items_are_read {f} {b} (plain {c} {t} {o} p h) = plain_first f b t c p o (items_are_read h)
  items_are_read {f} {b} (escaped {t} {u} {e} {o} q h) = escape_first f b t u e q o (items_are_read h)
  items_are_read (escape_error q) = tt
  items_are_read {f} {b} (nested {m} {t} {u} {w} {o} g h) =
      class_first f b t m u w (class_is_read g) o (items_are_read h)
  items_are_read (class_error h) = tt

pub read_class : {f : Flags} {b a : Bool} {t w v : Text} → Class f b t (written w a v) → ReadClass f b t w a v
read_class h = class_is_read h

-- The result does not depend on the text after the class: by induction on what is read.

items_some : {f : Flags} {b a : Bool} {t w v : Text} → ReadItems f b t w a v → (c : ℕ) × (u : Text) × (t ≡ c ∷ u)
items_some (at_close {v}) = (code "]", v, refl)
items_some (at_plain {c} {t} p h) = (c, t, refl)
items_some (at_escape {t} q h) = (code "\\", t, refl)
items_some (at_nested {t} g h) = (code "[", t, refl)

-- the same with s after the rest of the text
abbrev pub before : Text → Text × Text → Text × Text
before s p = (p.0, p.1 ++ s)

symbol_some : (m : ℕ) (out t : Text) (c : ℕ) (u : Text) → (with_symbol m (out, t)).1 ≡ c ∷ u →
    (d : ℕ) × (r : Text) × (t ≡ d ∷ r)
symbol_some m out [] c u e = absurd cc
symbol_some m out (d ∷ r) c u e = (d, r, refl)

symbol_frame : (m : ℕ) (out t s : Text) (d : ℕ) (r : Text) → t ≡ d ∷ r →
    ◌≡◌ {A = Text × Text} (with_symbol m (out, t ++ s)) (before s (with_symbol m (out, t)))
symbol_frame m out t s d r e = rw e (by_test (d == m)) where
  by_test : (x : Bool) → ◌≡◌ {A = Text × Text}
      (choose {B = Text × Text} (if x then Some (r ++ s) else None) (λ u. (out ++ m ∷ [], u)) (out, d ∷ (r ++ s)))
      (before s (choose {B = Text × Text} (if x then Some r else None) (λ u. (out ++ m ∷ [], u)) (out, d ∷ r)))
  by_test true = refl
  by_test false = refl

pub class_start_frame : (out t s : Text) (c : ℕ) (u : Text) → (class_start out t).1 ≡ c ∷ u →
    ◌≡◌ {A = Text × Text} (class_start out (t ++ s)) (before s (class_start out t))
unfolding class_start
class_start_frame out t s c u e =
    let p = with_symbol (code "^") (out ++ code "[" ∷ [], t) in
    let (d, r, q) = symbol_some (code "]") p.0 p.1 c u e in
    let (d', r', q') = symbol_some (code "^") (out ++ code "[" ∷ []) t d r q in
    ap (with_symbol (code "]")) (symbol_frame (code "^") (out ++ code "[" ∷ []) t s d' r' q')
    ∙ symbol_frame (code "]") p.0 p.1 s d r q

mutual
  framed_class : {f : Flags} {b a : Bool} {t w v : Text} → ReadClass f b t w a v → (s : Text) →
      Class f b (t ++ s) (written w a (v ++ s))
  framed_class {t} (from_items e h) s =
      let (c, u, q) = items_some h in
      class_items (class_start_frame [] t s c u (ap (λ (p : Text × Text). p.1) e ∙ q) ∙ ap (before s) e)
      (framed_items h s)

  framed_items : {f : Flags} {b a : Bool} {t w v : Text} → ReadItems f b t w a v → (s : Text) →
      ClassItems f b (t ++ s) (written w a (v ++ s))
  framed_items at_close s = close
  framed_items (at_plain p h) s = plain p (framed_items h s)
  framed_items {f} (at_escape {t} {u} {e} q h) s = escaped (escape_frame f t u s e q) (framed_items h s)
  framed_items (at_nested g h) s = nested (framed_class g s) (framed_items h s)

pub class_frame : {f : Flags} {b a : Bool} {t w v : Text} → Class f b t (written w a v) → (s : Text) →
    Class f b (t ++ s) (written w a (v ++ s))
class_frame h s = framed_class (read_class h) s

-- The clauses of the reader.

module _ (f : Flags) (t : Text) (r : Result (String Global × Bor (List ℕ)) ReadError)
    (g : Derives text_of r (λ q. class f t ≡ q)) where
  pub class_derives : Derives text_of r (OuterClass f t)
  class_derives = derives_given text_of r (OuterClass f t) (class f t) (class_reads f t) g

  pub class_only : (o : Reading Text) → OuterClass f t o → Derives text_of r (λ q. o ≡ q)
  class_only o h = subst (λ p. Derives text_of r (λ q. p ≡ q)) (class_is f t o h) g

pub class_follows : (f : Flags) (t s : Text) (r : Result (String Global × Bor (List ℕ)) ReadError) →
    Derives text_of r (λ q. class f t ≡ q) →
    IfOk r (λ p. class f (t ++ s) ≡ gives (text_of p.0) (chars p.1.now ++ s))
class_follows f t s (Ok p) g =
    let (a, h) = subst (OuterClass f t) g (class_reads f t) in
    class_complete f (t ++ s) _ (class_frame h s)
class_follows f t s (Err e) g = tt
