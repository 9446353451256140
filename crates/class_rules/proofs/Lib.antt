mod CutLemmas
mod SetLemmas
mod ProblemLemmas
mod KnownLemmas
mod BeginningLemmas
mod NodeLemmas
mod FindingLemmas
mod BranchLemmas
