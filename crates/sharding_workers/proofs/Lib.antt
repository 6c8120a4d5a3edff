pub mod OrderLemmas
