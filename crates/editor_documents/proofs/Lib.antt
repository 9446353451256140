pub mod ChangeLemmas
pub mod CursorLemmas
pub mod CutLemmas
pub mod PositionLemmas
pub mod TextLemmas
