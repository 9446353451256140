use Rattle.std.proofs.Common.{ℕ, Vec, List}
use Rattle.std.specs.declared.alloc.Global.{Global}
use Rattle.patterns_config.specs.Globs.{IsFolders, MatchesName}
use Rattle.patterns_config.proofs.GlobLemmas.{seen_same}
use Rattle.patterns_config.proofs.glob.Glob.matches.Goals as goal

abbrev items : Vec ℕ Global → List ℕ
items name = name.items

pub returns : goal.returns
returns c =
    let same = seen_same items items IsFolders MatchesName c.args.self.now.names.items c.args.path.now.names.items in
    let whole = rw (c.as_slice.ensures.value, c.as_slice-2.ensures.value) at c.matches.ensures in
    record { exact = (λ t. same.0 (whole.0 t), λ w. whole.1 (same.1 w)) }
