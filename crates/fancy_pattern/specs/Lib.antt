-- The definitions that the contracts use.

-- ---- the text of every tree, and what is guaranteed for it
pub use Rattle.fancy_grammar.specs.Pattern
pub use Rattle.fancy_grammar.specs.ReadAs
pub use Rattle.fancy_grammar.specs.OfPattern
-- The definitions that only the private contracts and the proofs of the code use: the writing of texts.

pub mod TextOutput
pub mod ContextViews
pub mod Writers
pub mod Source
