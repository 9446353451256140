pub mod LimitLemmas
pub mod BytesLemmas
pub mod AnchorLemmas
pub mod RowLemmas
pub mod ListLemmas
pub mod NodeLemmas
pub mod MatchLemmas
pub mod FirstLemmas
pub mod PrefixLemmas
mod SpaceLemmas
mod EscapeLemmas
pub mod PlainLemmas
