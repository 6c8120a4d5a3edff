pub mod Meanings
pub mod MeaningLaws
pub mod steps
