-- ---- the texts that are printed
pub mod CapacityLemmas
pub mod QuoteLemmas
pub mod SinkLemmas
-- ---- trees: equality, children, descendants, and borrowed parts
pub mod ApartLemmas
pub mod ChildrenLemmas
pub mod ShapeLemmas
pub mod SameLemmas
mod InfoLemmas
pub mod Descents
pub mod LoanLemmas
pub mod WriteLemmas
-- ---- the loop of the grammar
mod TreesLemmas
mod VerbLemmas
mod SolidLemmas
mod StepLemmas
mod PassedLemmas
mod TokenLemmas
mod PassedLaws
mod ItemsReadLemmas
mod FoundLemmas
mod DecidedLemmas
mod DecidedParts
mod MachineLemmas
mod PlainLaws
mod StackLemmas
mod ShownLemmas
mod TreeLemmas
mod RecordingLemmas
mod RecordingLaws
mod WholeLaws
-- ---- the resolver
pub mod WalkLemmas
mod RegroupedLemmas
pub mod NoItems
pub mod PartLemmas
mod ResolvedLemmas
-- ---- printing
pub mod PrintLemmas
mod EmptyLemmas
-- ---- trees with spans
pub mod SpannedLemmas
pub mod NodeLemmas
