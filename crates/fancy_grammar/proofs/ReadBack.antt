-- What is printed reads back; the modules are in reading order, and the theorem is last.

-- ---- what is printed, before a text
pub mod InFront
pub mod ScalarLemmas
-- ---- what the rules read there
pub mod ClearLemmas
pub mod CountTexts
pub mod RuleLemmas
pub mod LeafLemmas
pub mod ShapeLemmas
-- ---- Delegates: classes and escapes as the reader rewrites them
pub mod ClassChunks
pub mod ChunkLemmas
pub mod CarriedLaws
pub mod RewrittenLaws
pub mod DelegateTexts
pub mod DelegateLaws
-- ---- what is printable, and normal forms
pub mod PrintableLaws
pub mod PrintedScalars
pub mod NormalLaws
-- ---- trees that nest less deep than 64 groups, and those that nest too deep
pub mod Nest
pub mod Induction
pub mod OverLemmas
pub mod TooDeep
-- ---- the theorem
pub mod Theorem
