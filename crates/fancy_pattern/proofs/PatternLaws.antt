-- The text of a tree reads back; the modules are in reading order, and the theorem is last.

-- ---- what a raw tree becomes when its references are resolved
pub mod Unpositioned
pub mod Becomes
-- ---- what the rules read, under flags that change along the text
pub mod Rules
pub mod Letters
pub mod Groups
pub mod Commented
-- ---- leaves
pub mod Characters
pub mod Leaves
pub mod Names
pub mod References
pub mod Unresolved
pub mod Conditions
pub mod Source
-- ---- quantifiers
pub mod Quantifiers
-- ---- the induction
pub mod Needed
pub mod Induction
pub mod Cases
pub mod Stacked
pub mod Repeats
pub mod Separated
pub mod Rows
pub mod Absent
pub mod Conditionals
pub mod ConditionTexts
-- ---- where texts fit
pub mod Suited
pub mod Fitting
pub mod Outermost
pub mod SuitedEscapes
pub mod AtomStart
pub mod Nested
pub mod NestedQuantifiers
pub mod NestedGroups
pub mod ReadFits
pub mod Levels
-- ---- the theorem
pub mod ReferenceInfo
pub mod Theorem
