mod FixLemmas
