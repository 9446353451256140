-- Where a tree is written, in the walk that writes its text.
use Rattle.std.proofs.Common.{◌≡◌, ◌+◌, Bool, true, false, if◌then◌else◌, arith}
use Rattle.fancy_lex.specs.declared.flags.Flags.{Flags}
use Rattle.fancy_grammar.specs.Label.{concat, alt}
use Rattle.fancy_grammar.specs.Pattern.{Context, takes_pieces, takes_branches, group_count, group_count_all}
use Rattle.fancy_grammar.specs.Pattern.{flags_after, flags_after_all, after}
use Rattle.fancy_grammar.specs.PatternWalk.{after_all}
use Rattle.fancy_grammar.specs.Tree.{Tree, leaf, over, row, Trees, no_trees, more_trees}
use Rattle.fancy_grammar.specs.declared.precedence.Precedence.{Precedence}
use Rattle.fancy_grammar.specs.declared.precedence.Precedence.TheVariants.{Piece, Branch}

-- ---- after trees, one after another

pub after_none : (p : Precedence) (h : Context) → after_all no_trees p h ≡ h
after_none p h =
    let same : h.opened + 0 ≡ h.opened = omega arith in
    λ i. record { flags = h.flags; opened = same i; depth = h.depth }

pub after_next : (t : Tree) (ts : Trees) (p : Precedence) (h : Context) →
    after_all (more_trees t ts) p h ≡ after_all ts p (after t p h)
after_next t ts p h =
    let same : h.opened + (group_count t + group_count_all ts) ≡ h.opened + group_count t + group_count_all ts
    = omega arith in
    λ i. record { flags = flags_after_all ts p (flags_after t p h.flags); opened = same i; depth = h.depth }

-- ---- the mode does not change

abbrev IsMode : Bool → Flags → Type 0
IsMode o f = f.oniguruma_mode ≡ o

either_mode : (b o : Bool) (f g : Flags) → IsMode o f → IsMode o g → IsMode o (if b then f else g)
either_mode true o f g e h = e
either_mode false o f g e h = h

mutual
  pub mode_after : (t : Tree) (p : Precedence) (o : Bool) (f : Flags) → IsMode o f → IsMode o (flags_after t p f)
  mode_after (leaf l) p o f e = e
  mode_after (over w t) p o f e = e
  mode_after (row concat ts) p o f e =
      either_mode (takes_pieces p) o (flags_after_all ts Piece f) f (mode_after_all ts Piece o f e) e
  mode_after (row alt ts) p o f e =
      either_mode (takes_branches p) o (flags_after_all ts Branch f) f (mode_after_all ts Branch o f e) e
  mode_after (row r ts) p o f e = e

  pub mode_after_all : (ts : Trees) (p : Precedence) (o : Bool) (f : Flags) → IsMode o f →
      IsMode o (flags_after_all ts p f)
  mode_after_all no_trees p o f e = e
  mode_after_all (more_trees t ts) p o f e = mode_after_all ts p o (flags_after t p f) (mode_after t p o f e)
