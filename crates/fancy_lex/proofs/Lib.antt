-- ---- texts, and what is read at their front
pub mod TextLemmas
pub mod LeaveLaws
pub mod TakeLaws
pub mod ReadingLemmas
-- ---- flags as bits, and as a word
mod FlagLemmas
mod FlagWordLemmas
-- ---- layout, numbers, names and references
pub mod LayoutLemmas
pub mod CommentLemmas
pub mod LayoutLaws
pub mod CommentLaws
pub mod NumberLemmas
pub mod IdLemmas
pub mod AsciiLemmas
pub mod ReferenceLaws
pub mod ReferencePositions
-- ---- escapes
mod HexLemmas
mod BoundaryLemmas
mod BoundaryLaws
pub mod BoundaryRelation
mod PropertyLemmas
mod EscapeLemmas
pub mod LoneLemmas
pub mod EscapeLaws
pub mod EscapeSound
pub mod EscapeFrame
-- ---- classes
mod ClassLemmas
pub mod ClassLaws
pub mod TokenCommentLemmas
mod ClassCommentLemmas
pub mod TokenCommentLaws
pub mod PositionLaws
-- ---- quantifiers, and the openings of groups
pub mod GroupStartLaws
pub mod CountLaws
pub mod LetterLemmas
pub mod LetterRelation
pub mod FlagLaws
