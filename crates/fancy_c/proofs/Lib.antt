-- ---- what is read, and the texts of its nodes
mod ReadLemmas
mod TextLemmas
mod NodeLemmas
-- ---- items in a buffer
mod BufferLemmas
-- ---- a tree and its group information in the buffers
mod RowLemmas
mod NumberedLemmas
mod NameRowLemmas
mod BoundLemmas
-- ---- how long the texts of a tree and the names of its groups are
mod EscapeCosts
mod ClassCosts
mod TreeCosts
mod StartCosts
mod ReadCosts
mod ParsedCosts
-- ---- all of it in the buffers
mod NodesLemmas
-- ---- a tree that is built from rows
mod RowTreeLemmas
-- ---- what no node of a tree has
mod TriviumLemmas
-- ---- formatted patterns
mod FormatLemmas
-- ---- a text as a pattern
mod EscapeLemmas
-- ---- what a text begins with
mod TextStartLemmas
-- ---- the characters of a class or of another node
mod ClassRangeLemmas
-- ---- what is known of the matches of a pattern
mod FactLemmas
