-- Flags that suit a tree: they meet what each leaf requires in their mode, so no flag is set before it.
use Rattle.std.proofs.Common.{◌≡◌, Bool, true, false, refl, sym, ap, ◌∙◌, subst, if◌then◌else◌}
use Rattle.fancy_lex.specs.declared.flags.Flags.{Flags}
use Rattle.fancy_grammar.specs.Label.{concat, alt, ast_group}
use Rattle.fancy_grammar.specs.Pattern.{takes_pieces, takes_branches, flags_after, flags_after_all}
use Rattle.fancy_grammar.specs.PatternNeeds.{no_needs, leaf_needs, first, joined, needs, needs_all, fixed_or}
use Rattle.fancy_grammar.specs.PatternNeeds.{with_needs, settled}
use Rattle.fancy_grammar.specs.Tree.{Tree, leaf, over, row, Trees, no_trees, more_trees}
use Rattle.fancy_grammar.specs.declared.needs.Need.{Need}
use Rattle.fancy_grammar.specs.declared.needs.Need.TheVariants.{Free, Fixed, Torn}
use Rattle.fancy_grammar.specs.declared.needs.Needs.{Needs}
use Rattle.fancy_grammar.specs.declared.precedence.Precedence.{Precedence}
use Rattle.fancy_grammar.specs.declared.precedence.Precedence.TheVariants.{Piece, Branch}

-- the flag is as required
abbrev pub IsMet : Need → Bool → Type 0
IsMet Free b = Unit {0}
IsMet (Fixed c) b = c ≡ b
IsMet Torn b = ⊥

pub record AreMet (n : Needs) (g : Flags) : Type 0 where
  pub casei : IsMet n.casei g.casei
  pub multi : IsMet n.multi g.multi
  pub dotnl : IsMet n.dotnl g.dotnl
  pub crlf : IsMet n.crlf g.crlf

abbrev mutual
  -- the flags are as each leaf requires them; the contents of a capturing group in a raw tree are left out
  pub Suits : Flags → Tree → Type 0
  Suits g (leaf l) = AreMet (leaf_needs g.oniguruma_mode l) g
  Suits g (over (ast_group name position) t) = Unit {0}
  Suits g (over w t) = Suits g t
  Suits g (row r ts) = SuitAll g ts

  pub SuitAll : Flags → Trees → Type 0
  SuitAll g no_trees = Unit {0}
  SuitAll g (more_trees t ts) = Suits g t × SuitAll g ts

pub none_met : (g : Flags) → AreMet no_needs g
none_met g = record { casei = tt; multi = tt; dotnl = tt; crlf = tt }

-- ---- what is required first

first_met : (a b : Need) (x : Bool) → IsMet a x → IsMet b x → IsMet (first a b) x
first_met Free b x h k = k
first_met (Fixed c) b x h k = h
first_met Torn b x h k = absurd h

firsts_met : (n m : Needs) (g : Flags) → AreMet n g → AreMet m g → AreMet (joined first n m) g
firsts_met n m g h k = record {
  casei = first_met n.casei m.casei g.casei h.casei k.casei;
  multi = first_met n.multi m.multi g.multi h.multi k.multi;
  dotnl = first_met n.dotnl m.dotnl g.dotnl h.dotnl k.dotnl;
  crlf = first_met n.crlf m.crlf g.crlf h.crlf k.crlf;
}

mutual
  needs_met : (g : Flags) (t : Tree) → Suits g t → AreMet (needs first g.oniguruma_mode t) g
  needs_met g (leaf l) h = h
  needs_met g (over (ast_group name position) t) h = none_met g
  needs_met g (over w t) h = needs_met g t h
  needs_met g (row r ts) h = all_met g ts h

  all_met : (g : Flags) (ts : Trees) → SuitAll g ts → AreMet (needs_all first g.oniguruma_mode ts) g
  all_met g no_trees h = none_met g
  all_met g (more_trees t ts) h =
      firsts_met (needs first g.oniguruma_mode t) (needs_all first g.oniguruma_mode ts) g (needs_met g t h.0)
      (all_met g ts h.1)

-- ---- flags that suit a tree are settled

met_stays : (n : Need) (x : Bool) → IsMet n x → fixed_or x n ≡ x
met_stays Free x h = refl
met_stays (Fixed c) x h = h
met_stays Torn x h = absurd h

pub suited_settled : (g : Flags) (t : Tree) → Suits g t → settled g t ≡ g
suited_settled g t h =
    let n = needs first g.oniguruma_mode t in
    let m = needs_met g t h in
    λ i. record g {
      casei = met_stays n.casei g.casei m.casei i;
      multi = met_stays n.multi g.multi m.multi i;
      dotnl = met_stays n.dotnl g.dotnl m.dotnl i;
      crlf = met_stays n.crlf g.crlf m.crlf i;
    }

-- ---- if some flags suit a tree, the flags that are settled before it suit it too

-- both are met if the first requirement is, and some value meets both
parts_met : (a b : Need) (x y : Bool) → IsMet a x → IsMet b x → IsMet (first a b) y → IsMet a y × IsMet b y
parts_met Free b x y h k m = (tt, m)
parts_met (Fixed c) b x y h k m = (m, subst (IsMet b) (sym h ∙ m) k)
parts_met Torn b x y h k m = absurd h

parts_all_met : (n m : Needs) (f g : Flags) → AreMet n f → AreMet m f → AreMet (joined first n m) g →
    AreMet n g × AreMet m g
parts_all_met n m f g h k j =
    let a = parts_met n.casei m.casei f.casei g.casei h.casei k.casei j.casei in
    let b = parts_met n.multi m.multi f.multi g.multi h.multi k.multi j.multi in
    let c = parts_met n.dotnl m.dotnl f.dotnl g.dotnl h.dotnl k.dotnl j.dotnl in
    let d = parts_met n.crlf m.crlf f.crlf g.crlf h.crlf k.crlf j.crlf in (
      record { casei = a.0; multi = b.0; dotnl = c.0; crlf = d.0 },
      record { casei = a.1; multi = b.1; dotnl = c.1; crlf = d.1 },
    )

-- requirements in the same mode
needs_in : (join : Need → Need → Need) (f g : Flags) (t : Tree) → f.oniguruma_mode ≡ g.oniguruma_mode → (h : Flags) →
    AreMet (needs join f.oniguruma_mode t) h → AreMet (needs join g.oniguruma_mode t) h
needs_in join f g t e h = subst (λ o. AreMet (needs join o t) h) e

all_in : (join : Need → Need → Need) (f g : Flags) (ts : Trees) → f.oniguruma_mode ≡ g.oniguruma_mode → (h : Flags) →
    AreMet (needs_all join f.oniguruma_mode ts) h → AreMet (needs_all join g.oniguruma_mode ts) h
all_in join f g ts e h = subst (λ o. AreMet (needs_all join o ts) h) e

mutual
  first_suits : (f g : Flags) (t : Tree) → f.oniguruma_mode ≡ g.oniguruma_mode → Suits f t →
      AreMet (needs first g.oniguruma_mode t) g → Suits g t
  first_suits f g (leaf l) e h k = k
  first_suits f g (over (ast_group name position) t) e h k = tt
  first_suits f g (over w t) e h k = first_suits f g t e h k
  first_suits f g (row r ts) e h k = first_suit_all f g ts e h k

  first_suit_all : (f g : Flags) (ts : Trees) → f.oniguruma_mode ≡ g.oniguruma_mode → SuitAll f ts →
      AreMet (needs_all first g.oniguruma_mode ts) g → SuitAll g ts
  first_suit_all f g no_trees e h k = tt
  first_suit_all f g (more_trees t ts) e h k =
      let o = g.oniguruma_mode in
      let both = parts_all_met (needs first o t) (needs_all first o ts) f g
      (needs_in first f g t e f (needs_met f t h.0)) (all_in first f g ts e f (all_met f ts h.1)) k in
      (first_suits f g t e h.0 both.0, first_suit_all f g ts e h.1 both.1)

settles : (n : Need) (x y : Bool) → IsMet n x → IsMet n (fixed_or y n)
settles Free x y h = tt
settles (Fixed c) x y h = refl
settles Torn x y h = h

pub settled_suits : (f g : Flags) (t : Tree) → f.oniguruma_mode ≡ g.oniguruma_mode → Suits f t →
    Suits (settled g t) t
settled_suits f g t e h =
    let n = needs first g.oniguruma_mode t in
    let m = needs_in first f g t e f (needs_met f t h) in
    first_suits f (with_needs g n) t e h (record {
      casei = settles n.casei f.casei g.casei m.casei;
      multi = settles n.multi f.multi g.multi m.multi;
      dotnl = settles n.dotnl f.dotnl g.dotnl m.dotnl;
      crlf = settles n.crlf f.crlf g.crlf m.crlf;
    })

-- ---- flags that suit a tree also hold after it

if_same : (b : Bool) (f g : Flags) → f ≡ g → (if b then f else g) ≡ g
if_same true f g e = e
if_same false f g e = refl

mutual
  pub suited_after : (t : Tree) (p : Precedence) (g : Flags) → Suits g t →
      flags_after t p g ≡ g
  suited_after (row concat ts) p g h = if_same (takes_pieces p) _ g (suited_after_all ts Piece g h)
  suited_after (row alt ts) p g h = if_same (takes_branches p) _ g (suited_after_all ts Branch g h)
  suited_after t p g h = suited_settled g t h

  pub suited_after_all : (ts : Trees) (p : Precedence) (g : Flags) → SuitAll g ts →
      flags_after_all ts p g ≡ g
  suited_after_all no_trees p g h = refl
  suited_after_all (more_trees t ts) p g h =
      ap (flags_after_all ts p) (suited_after t p g h.0) ∙ suited_after_all ts p g h.1
