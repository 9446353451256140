-- Patterns that are accepted.
use Rattle.std.specs.Prelude.{ℕ, All, chars, unwrap_or}
use Rattle.fancy_lex.specs.Flags.{flags_of}
use Rattle.fancy_syntax.specs.InfoViews.{HasTree}
use Rattle.pattern_files.specs.declared.entry.Entry.{Entry}
use Rattle.patterns_program.specs.declared.job.Job.{Job}

-- the pattern of an entry has a tree under the entry's flags, or under these if it has none
abbrev pub IsEntryAccepted : ℕ → Entry → Type 0
IsEntryAccepted flags entry = HasTree (flags_of (unwrap_or entry.flags flags)) (chars entry.pattern.now)

-- each pattern that is an argument has a tree under the flags that the arguments choose
abbrev pub AreArgumentsAccepted : Job → Type 0
AreArgumentsAccepted job =
    All (λ pattern. HasTree (flags_of job.choices.flags) (chars pattern.now)) job.patterns.now
