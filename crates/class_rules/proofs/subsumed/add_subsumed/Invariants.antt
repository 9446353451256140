use Rattle.std.proofs.Common.{◌≡◌}
use Rattle.fancy_lex.specs.Flags.{flags_of}
use Rattle.fancy_syntax.specs.Spanned.{spanned_of}
use Rattle.class_rules.specs.ClassFindings.{KeepsFound}
use Rattle.class_rules.proofs.subsumed.add_subsumed.Given as goal

abbrev pub invariant-loop-position : goal.invariant-loop-position
invariant-loop-position l = record {
  flags : l.known.flags ≡ l.fn.known.flags;
  kept : KeepsFound (flags_of l.fn.known.flags) l.fn.pattern (spanned_of l.fn.node) l.fn.found.items l.found.items;
}
