-- The definitions that the public contracts use.

-- ---- trees, and the questions about them
pub use Rattle.fancy_grammar.specs.Tree
pub mod View
pub mod Children
pub mod Shape
pub mod Descendants
pub use Rattle.fancy_grammar.specs.Same
pub mod Loans
pub mod Writes
-- ---- reading: the grammar, the groups that references refer to, and the results
pub use Rattle.fancy_grammar.specs.Depth
pub use Rattle.fancy_grammar.specs.State
pub use Rattle.fancy_grammar.specs.GroupKind
pub use Rattle.fancy_grammar.specs.Verb
pub use Rattle.fancy_grammar.specs.AtomStart
pub use Rattle.fancy_grammar.specs.Join
pub use Rattle.fancy_grammar.specs.Quantified
pub use Rattle.fancy_grammar.specs.Grammar
pub use Rattle.fancy_grammar.specs.Items
pub use Rattle.fancy_grammar.specs.Resolved
pub use Rattle.fancy_grammar.specs.GroupInfo
pub mod InfoViews
pub use Rattle.fancy_grammar.specs.Preorder
pub use Rattle.fancy_grammar.specs.ParsedTree
pub use Rattle.fancy_grammar.specs.References
-- ---- the positions of the nodes
pub use Rattle.fancy_grammar.specs.Spans
pub mod SpanViews
pub use Rattle.fancy_grammar.specs.Trivia
pub mod TriviaViews
-- ---- what a parse promises
pub use Rattle.fancy_grammar.specs.Promises
-- ---- printing, and what a printed text is read as
pub use Rattle.fancy_grammar.specs.Printed
pub use Rattle.fancy_grammar.specs.HasDelegate
pub use Rattle.fancy_grammar.specs.Normal
pub use Rattle.fancy_grammar.specs.Printable
pub use Rattle.fancy_grammar.specs.Over
pub use Rattle.fancy_grammar.specs.ReadBack
-- The definitions that only the private contracts and the proofs of the code use.

-- ---- the parser's loop
pub mod Reads
pub mod Parsed
pub mod Found
pub mod Decided
pub mod Machine
pub mod StackCapacity
pub mod Log
pub mod LogViews
pub mod Recording
pub mod RecordedWhole
-- ---- the resolver's walk
pub mod Regrouped
pub mod WalkViews
pub mod Capacity
pub mod Sinks
pub mod Spanned
