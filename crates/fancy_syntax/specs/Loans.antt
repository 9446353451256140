-- The final value of a parent after a borrowed part of it was written. `show` and `see` view a parent and a child, and
-- `with_child t i u` is t with its child i set to u.
use Rattle.std.specs.Prelude.{◌≡◌, ⊤, ℕ, Vec, Option, Some, None}
use Rattle.std.specs.Borrow.{LendsSo, MutBor, Fml}
use Rattle.std.specs.Option.{OnSome}
use Rattle.std.specs.Vec.{with_item}
use Rattle.std.specs.contracts.alloc.Global as global
use Rattle.std.specs.contracts.boxed.Box as box
use Rattle.std.specs.contracts.impls.GlobalAllocator.TheImpl.{ghosts}
use Rattle.std.specs.contracts.vec.Vec as vec
use Rattle.std.specs.declared.alloc.Global.{Global}
use Rattle.std.specs.declared.boxed.Box.{Box}
use denote.RattleType.{RattleType}

module _ (R C : RattleType) (Seen : Type 0) (show : R.Denot → Seen) (see : C.Denot → Seen)
    (with_child : Seen → ℕ → Seen → Seen) where
  -- r borrows child i
  abbrev pub LendsChildAt : MutBor R.Denot → ℕ → Option (MutBor C.Denot) → Fml
  LendsChildAt e i r =
      LendsSo R C e r (λ n w. OnSome r (show n ≡ with_child (show e.now) i (see w))) (λ n. show n ≡ show e.now)

  -- r borrows the box of child i
  abbrev pub LendsBoxAt : MutBor R.Denot → ℕ → Option (MutBor (Box C.Denot Global)) → Fml
  LendsBoxAt e i r =
      LendsSo R (box.the_row C global.the_row ghosts) e r
      (λ n w. OnSome r (show n ≡ with_child (show e.now) i (see w.value))) (λ n. show n ≡ show e.now)

  -- n has the list w instead of the list that r borrows: if one element of it was written, n is e with that child; if
  -- none was, n is e
  abbrev pub Rewrites : R.Denot → Option (MutBor (Vec C.Denot Global)) → R.Denot → Vec C.Denot Global → Type 0
  Rewrites e (Some v) n w =
      ((i : ℕ) (c : C.Denot) → w ≡ with_item v.now i c → show n ≡ with_child (show e) i (see c))
      × (w ≡ v.now → show n ≡ show e)
  Rewrites e None n w = ⊤

  -- r borrows the list of children
  abbrev pub LendsListAt : MutBor R.Denot → Option (MutBor (Vec C.Denot Global)) → Fml
  LendsListAt e r =
      LendsSo R (vec.the_row C global.the_row ghosts) e r (λ n w. Rewrites e.now r n w) (λ n. show n ≡ show e.now)
