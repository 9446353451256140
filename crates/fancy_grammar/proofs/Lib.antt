-- ---- the numbers of groups
pub mod NameLemmas
pub mod NamedLaws
mod BackslashLemmas
-- ---- when two trees are the same
pub mod SameLaws
-- ---- reading: each start has one outcome
pub mod OutcomeLemmas
pub mod AtomStartLemmas
pub mod PlainLemmas
pub mod QuantLemmas
pub mod ErrorLemmas
pub mod PremiseLaws
pub mod Unique
-- ---- items, nodes in preorder, and levels
pub mod Ordered
pub mod ItemLemmas
pub mod PreorderLaws
pub mod LevelLaws
-- ---- what is true of every raw tree
pub mod Slices
pub mod TreeLaws
pub mod AtomStartLaws
pub mod ReadLaws
pub mod BoundLaws
-- ---- the spans of nodes
pub mod SpansLemmas
pub mod SpansQuant
pub mod SpansCondition
pub mod SpansLaws
pub mod SpansUnique
-- ---- resolving
pub mod OrderLaws
pub mod NamedNumbers
pub mod FoundLaws
pub mod RecordLaws
pub mod WalkLaws
-- ---- printing, and how a printed text reads
pub mod PrintableLemmas
pub mod ReadBack
pub mod DelegateLemmas
pub mod ReadAsLaws
-- ---- the trees whose texts are proved to read back
pub mod PatternDepth
pub mod Writable
-- ---- the one result of a text, and what is true of it
pub mod Verdict
pub mod ParsedSpans
pub mod ParsedTreeLaws
-- ---- what no node has
pub mod TriviaUnique
pub mod TriviaAppend
pub mod TriviaLemmas
mod StartLaws
pub mod TriviaLaws
-- ---- what a parse promises
pub mod PromiseLaws
