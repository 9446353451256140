-- The source of every Delegate is read as that Delegate; the modules are in reading order, and the law is last.

-- ---- one Delegate
pub mod Alone
-- ---- the source of a text step by step, and parts of the text of a class
pub mod Characters
pub mod Steps
pub mod Parts
-- ---- properties: names, and the rows of the table
pub mod Names
pub mod Items
pub mod Rows
-- ---- the induction along a class
pub mod Escapes
pub mod Classes
-- ---- the law
pub mod Law
