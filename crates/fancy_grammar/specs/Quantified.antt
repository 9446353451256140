-- A tree under the quantifiers that follow it.
use Rattle.std.specs.Prelude.{ℕ, zero, suc, ◌+◌, ◌==◌, Bool, true, false, not, ◌&&◌, nat_lt, Option, Some, None}
use Rattle.std.specs.Prelude.{if◌then◌else◌}
use Prim.Native.Char.{code}
use Rattle.fancy_lex.specs.ErrorTable.{not_repeatable, quantifier_too_deep}
use Rattle.fancy_lex.specs.Reading.{choose}
use Rattle.fancy_lex.specs.Text.{Text, bytes, strip}
use Rattle.fancy_lex.specs.declared.flags.Flags.{Flags}
use Rattle.fancy_lex.specs.Quantifier.{counts}
use Rattle.fancy_lex.specs.declared.counts.Counts.{Counts}
use Rattle.fancy_grammar.specs.Depth.{max_depth}
use Rattle.fancy_grammar.specs.Join.{is_empty}
use Rattle.fancy_grammar.specs.State.{skipped, after_skipped, State, at, Outcome, done, failed, and_then, mapped}
use Rattle.fancy_grammar.specs.Label as label
use Rattle.fancy_grammar.specs.Tree.{Tree, leaf, over, repeat, atomic_repeat}

-- whether a quantifier may follow the tree; in Oniguruma mode none follows an assertion
abbrev pub is_repeatable : Flags → Tree → Bool
is_repeatable f (leaf label.empty) = false
is_repeatable f (over (label.look_around l) t) = false
is_repeatable f (leaf label.keep_out) = false
is_repeatable f (leaf label.continue_from_previous_match_end) = false
is_repeatable f (leaf (label.verb v)) = false
is_repeatable f (leaf (label.assertion a)) = not f.oniguruma_mode
is_repeatable f _ = true

-- in Oniguruma mode an Empty ignores a quantifier if a byte was read before the quantifier's operator or closing brace;
-- left is how many bytes were left at the start, and t follows the operator or the brace, which is the one byte of `+ 1`
abbrev pub is_dropped : Flags → ℕ → Tree → Text → Bool
is_dropped f left a t = f.oniguruma_mode && (is_empty a && nat_lt (bytes t + 1) left)

-- a quantifier is greedy without the lazy operator; with greed swapped, it is greedy with it
abbrev pub is_greedy : Flags → Bool → Bool
is_greedy f lazy = if f.swap_greed then lazy else not lazy

-- in Oniguruma mode the two counts are exchanged if the greatest is below the least
abbrev pub is_swapped : Flags → Counts → Bool
is_swapped f c = f.oniguruma_mode && nat_lt c.high c.low

-- in Oniguruma mode no possessive operator follows counts in braces
abbrev pub may_be_possessive : Flags → Counts → Bool
may_be_possessive f c = not (f.oniguruma_mode && c.braces)

-- the operators after the counts of a quantifier: the lazy one, and the possessive one
pub record Suffix : Type 0 where
  pub lazy : Bool
  pub possessive : Bool

-- the tree under a quantifier with these counts and operators; if it is possessive, or its counts are exchanged, in an
-- atomic group
abbrev pub quantified : Flags → Counts → Suffix → Tree → Tree
quantified f c m a =
    if is_swapped f c then atomic_repeat a c.high c.low (is_greedy f m.lazy)
    else if m.possessive then atomic_repeat a c.low c.high (is_greedy f m.lazy)
    else repeat a c.low c.high (is_greedy f m.lazy)

-- the possessive operator; it follows the lazy one at once, or is where the lazy one could be
abbrev pub after_lazy : State → Counts → Bool → Text → Outcome Suffix
after_lazy s c lazy t =
    let plain = done (record { lazy = lazy; possessive = false }) (at s t) in
    if may_be_possessive s.flags c then
    choose (strip (code "+") t) (λ u. done (record { lazy = lazy; possessive = true }) (at s u)) plain
    else plain

-- after the counts: layout, and then the operators
abbrev pub suffix : State → Counts → Outcome Suffix
suffix s c =
    after_skipped (skipped s) (λ t. choose (strip (code "?") t) (after_lazy s c true) (after_lazy s c false t)) failed

-- the tree if there are no counts; the tree under them if it can be repeated; the tree alone if it ignores them; or else
-- an error, at the operator or the closing brace
abbrev pub with_counts : ℕ → Tree → State → Option (Counts × Text) → Outcome Tree
with_counts left a s None = done a s
with_counts left a s (Some (c, t)) =
    if is_repeatable s.flags a then mapped (λ m. quantified s.flags c m a) (suffix (at s t) c)
    else if is_dropped s.flags left a t then mapped (λ m. a) (suffix (at s t) c)
    else failed (not_repeatable t)

-- layout, and the tree under the quantifier that follows it, or the tree itself if no quantifier follows
unfoldable pub quant : ℕ → Tree → State → Outcome Tree
quant left a s =
    after_skipped (skipped s) (λ t. with_counts left a (at s t) (counts s.flags.ignore_space t)) failed

-- no byte was read between the states
abbrev pub is_unmoved : State → State → Bool
is_unmoved s t = bytes t.rest == bytes s.rest

-- whether one more adjacent quantifier is allowed at depth d, if this many still are
abbrev pub may_count : ℕ → ℕ → Bool
may_count zero d = false
may_count (suc k) d = nat_lt (d + 1) max_depth

-- adjacent quantifiers at depth d, of which k may count: a quantifier counts if a byte was read, even of layout alone, and
-- the next one is a level deeper; one that may not count, or whose next level is too deep, is an error at the text after it
unfoldable pub adjacent : ℕ → ℕ → Tree → State → Outcome Tree
adjacent zero d a s =
    and_then (quant (bytes s.rest) a s) (λ b t.
    if is_unmoved s t then done b t
    else failed (quantifier_too_deep t.rest))
adjacent (suc k) d a s =
    and_then (quant (bytes s.rest) a s) (λ b t.
    if is_unmoved s t then done b t
    else if nat_lt (d + 1) max_depth then adjacent k (d + 1) b t
    else failed (quantifier_too_deep t.rest))

-- how many adjacent quantifiers may follow the first
abbrev pub max_adjacent : ℕ
max_adjacent = 4

-- the quantifiers of an atom at depth d, before which this many bytes were left: one, and in Oniguruma mode the
-- adjacent ones after it
abbrev pub quants : ℕ → ℕ → Tree → State → Outcome Tree
quants d left a s =
    and_then (quant left a s) (λ b t. if t.flags.oniguruma_mode then adjacent max_adjacent d b t else done b t)
