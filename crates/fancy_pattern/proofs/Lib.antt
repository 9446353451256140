-- ---- the text of every tree
pub mod PatternRows
pub mod NeedsLemmas
pub mod SourceLemmas
pub mod ContextLemmas
pub mod PatternLaws
-- ---- what is true of parsed trees
pub mod Parsed
-- ---- what the code writes
pub mod OutputLemmas
mod LetterLemmas
pub mod SeparatorLemmas
pub mod KnownLemmas
pub mod WritesLemmas
pub mod SettledLemmas
pub mod RowLemmas
pub mod NodeLemmas
mod AmongLemmas
mod NamesLemmas
mod NeedsWalk
mod SourceWalk
