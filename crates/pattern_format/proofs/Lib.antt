mod CommentLemmas
mod ReadBackLemmas
mod SpelledLemmas
