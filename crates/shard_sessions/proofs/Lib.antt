pub mod ClosingLemmas
pub mod HistoryLemmas
pub mod OpeningLemmas
pub mod ReceiptLemmas
pub mod WholeLemmas
