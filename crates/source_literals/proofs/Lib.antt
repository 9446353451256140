pub mod ReplacedLemmas
