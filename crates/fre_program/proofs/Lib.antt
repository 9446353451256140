-- ---- the words that the program is called with
mod WordLemmas
