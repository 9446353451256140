pub mod WildLemmas
pub mod GlobLemmas
pub mod LevelsLemmas
