-- What a pattern means: the definitions that the public contracts of the parser and the printer use.

-- ---- the numbers of groups, and what references refer to
pub mod Ranks
pub mod Meaning
pub mod Written
-- ---- trees, and when two are the same
pub mod Label
pub mod Tree
pub mod Same
-- ---- reading: the grammar and its errors
pub mod Depth
pub mod State
pub mod GroupKind
pub mod Verb
pub mod AtomStart
pub mod Join
pub mod Quantified
pub mod Grammar
pub mod Premises
pub mod Errors
-- ---- what references mean, and what is returned
pub mod Items
pub mod Resolved
pub mod GroupInfo
pub mod ParseResult
pub mod Preorder
pub mod ParsedTree
pub mod References
-- ---- the spans of nodes
pub mod Spans
pub mod Trivia
pub mod Segments
-- ---- what a parse promises
pub mod Promises
-- ---- printing, and how a printed text reads
pub mod Quote
pub mod Printed
pub mod HasDelegate
pub mod Normal
pub mod Printable
pub mod Over
pub mod ReadBack
-- ---- the text of every tree
pub mod PatternNeeds
pub mod PatternLetters
pub mod PatternSource
pub mod PatternReference
pub mod PatternQuantifier
pub mod Pattern
pub mod ReadAs
pub mod OfPattern
-- These are used by private contracts of the parser and the resolver, and by no public contract.

-- ---- reading
pub mod Plain
pub mod Slices
-- ---- resolving
pub mod Groups
pub mod Walk
-- ---- the text of every tree
pub mod PatternWalk
pub mod Positioned
