pub mod PaddedLemmas
