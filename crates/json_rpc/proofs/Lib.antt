pub mod FieldLemmas
pub mod LineLemmas
pub mod PartLemmas
