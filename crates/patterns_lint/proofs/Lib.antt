mod BeginningLemmas
mod BranchLemmas
mod EmptyLemmas
mod NamedLemmas
mod NodeLemmas
mod SilencedLemmas
