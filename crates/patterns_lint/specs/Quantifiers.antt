-- Quantifiers that are surely not meant.
use Rattle.std.specs.Prelude.{ℕ, Bool, false, ◌&&◌, ◌==◌, not, nat_lt, if◌then◌else◌, Option, Some, None}
use Rattle.fancy_grammar.specs.Tree.{Tree, repeat}
use Rattle.lint_rules.specs.declared.problem.Problem.{Problem}
use Rattle.lint_rules.specs.declared.problem.Problem.TheVariants as problem
use Rattle.lint_rules.specs.declared.rule.Rule.TheVariants as rule
use Rattle.patterns_lint.specs.declared.quantifiers.Surroundings.{Surroundings}
use Rattle.patterns_lint.specs.Empty.{matches_only_empty, can_match_empty, has_group}
use Rattle.patterns_lint.specs.Neighbours.{is_optional}

-- the upper count of a quantifier without a limit
abbrev pub no_limit : ℕ
no_limit = 0xFFFF_FFFF_FFFF_FFFF

-- a quantifier on what matches nothing but the empty text; an optional group is no such case, since a condition may
-- test later whether it matched
abbrev pub is_quantified_assertion : Tree → Bool
is_quantified_assertion (repeat t lo hi greedy) = matches_only_empty t && not ((hi == 1) && has_group t)
is_quantified_assertion _ = false

-- a quantifier without a limit on what can match the empty text, and other texts; but a possessive one, as all of an
-- atomic group, tries no other way
abbrev pub is_empty_loop : Surroundings → Tree → Bool
is_empty_loop s (repeat t lo hi greedy) =
    (hi == no_limit) && can_match_empty t && not (matches_only_empty t) && not s.is_atomic
is_empty_loop _ _ = false

-- a lazy quantifier that nothing follows, so that it repeats only its minimum; where there are calls, something may
-- follow the group that is called
abbrev pub is_lazy_at_end : Surroundings → Tree → Bool
is_lazy_at_end s (repeat t lo hi greedy) = not greedy && nat_lt lo hi && s.is_at_end && not s.has_calls
is_lazy_at_end _ _ = false

-- such a quantifier that may repeat no times, so that it matches nothing
abbrev pub is_empty_at_end : Surroundings → Tree → Bool
is_empty_at_end s t = is_lazy_at_end s t && is_optional t

-- a quantifier whose minimum is above its maximum
abbrev pub is_invalid_quantifier : Tree → Bool
is_invalid_quantifier (repeat t lo hi greedy) = nat_lt hi lo
is_invalid_quantifier _ = false

-- a quantifier that repeats once; beside another count it shows the difference
abbrev pub is_useless_quantifier : Surroundings → Tree → Bool
is_useless_quantifier s (repeat t lo hi greedy) = (lo == 1) && (hi == 1) && not s.has_other_count
is_useless_quantifier _ _ = false

-- a quantifier that repeats no times; but where there are calls, a group may be defined so
abbrev pub is_zero_quantifier : Surroundings → Tree → Bool
is_zero_quantifier s (repeat t lo hi greedy) = (lo == 0) && (hi == 0) && not (s.has_calls && has_group t)
is_zero_quantifier _ _ = false

-- what is wrong with the quantifier of a node
abbrev pub quantifier_problem : Surroundings → Tree → Option Problem
quantifier_problem s t =
    if is_invalid_quantifier t then Some (problem.Plain rule.InvalidQuantifier)
    else if is_zero_quantifier s t then Some (problem.Plain rule.ZeroQuantifier)
    else if is_useless_quantifier s t then Some (problem.Plain rule.UselessQuantifier)
    else if is_quantified_assertion t then Some (problem.Plain rule.QuantifiedAssertion)
    else if is_empty_loop s t then Some (problem.Plain rule.EmptyLoop)
    else if is_empty_at_end s t then Some problem.EmptyAtEnd
    else if is_lazy_at_end s t then Some (problem.Plain rule.LazyAtEnd)
    else None
