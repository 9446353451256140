-- Definitions of the readers that need no tree.

-- ---- texts and positions, flags, errors
pub mod Characters
pub mod Text
pub mod Flags
pub mod Flag
pub mod FlagWord
pub mod Located
pub mod ErrorTable
pub mod Reading
-- ---- layout, numbers, names, and what the names refer to
pub mod Layout
pub mod LayoutSteps
pub mod Comments
pub mod Number
pub mod NumberText
pub mod Id
pub mod IdReference
pub mod Delimited
pub mod Target
pub mod Referred
-- ---- escapes and classes
pub mod Escaped
pub mod Hex
pub mod Boundary
pub mod BoundarySteps
pub mod BoundaryName
pub mod EscapeReference
pub mod Property
pub mod Escape
pub mod Class
pub mod TokenComments
-- ---- quantifiers, and the openings of groups
pub mod Quantifier
pub mod FlagLetters
pub mod LetterSteps
pub mod NextLetter
pub mod GroupName
pub mod NameDelimiter
pub mod GroupReference
-- How values of the code correspond to the definitions.

pub mod Bits
pub mod Views
pub mod ErrorViews
pub mod NameViews
pub mod PropertyViews
pub mod EscapeViews
pub mod CommentViews
pub mod FlagReads
