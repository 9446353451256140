-- ---- the texts of workflow commands
pub mod EscapeLemmas
