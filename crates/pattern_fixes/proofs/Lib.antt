mod SetLemmas
mod GroupLemmas
mod CommentLemmas
mod FixedLemmas
mod MatchesLemmas
